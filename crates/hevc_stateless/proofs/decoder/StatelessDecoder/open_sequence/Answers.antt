use Rattle.std.proofs.Common.{◌∙◌, ap, sym, subst, Some}
use Rattle.hevc_records.specs.Sps.{PlainSps}
use Rattle.hevc_sequence_set.specs.Sps.{plain_sps}
use Rattle.hevc_walk_inputs.specs.Sequences.{format_of_set}
use Rattle.hevc_stream.specs.Kept.{Kept}
use Rattle.hevc_walk.specs.Meanings.{SequenceSet}
use Rattle.hevc_stateless.specs.Steps.{Acts}
use Rattle.hevc_stateless.specs.Views.{moment_at}
use Rattle.hevc_stateless.proofs.Setting.{some_of, named_of}
use Rattle.hevc_stateless.proofs.decoder.StatelessDecoder.open_sequence.Goals as goal

pub unwrap-set-requires : goal.unwrap-set-requires
unwrap-set-requires g c =
    some_of (λ set. plain_sps set.now) c.get_sps.result _ (c.get_sps.ensures.found
    ∙ ap (λ (k : Kept). k.sequence_sets c.args.id) c.parser.ensures) c.requires.kept

pub returns-clause-acts : goal.returns-clause-acts
returns-clause-acts g c t own set is given =
    let same = named_of
    (λ set. plain_sps set.now) c.get_sps.result c.unwrap-set.result set c.unwrap-set.ensures
    (c.get_sps.ensures.found ∙ ap (λ (k : Kept). k.sequence_sets c.args.id) c.parser.ensures ∙ is) in
    subst (λ (s : PlainSps). Acts c.open_sequence.result t
    (SequenceSet (format_of_set s)) own c.args.self.now.session.state
    (moment_at g.B.StatelessH265DecoderBackend.log g.B.StatelessH265DecoderBackend.handed
    g.B.StatelessH265DecoderBackend.frames c.args.self.now.session)
    (moment_at g.B.StatelessH265DecoderBackend.log g.B.StatelessH265DecoderBackend.handed
    g.B.StatelessH265DecoderBackend.frames c.open_sequence.new.self)) same
    (c.open_sequence.ensures.acts t own (given ∙ ap Some (sym same)))
