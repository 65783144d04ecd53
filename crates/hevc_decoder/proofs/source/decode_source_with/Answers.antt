use Rattle.hevc_stateless_laws.specs.Segments.{read_units}
use Rattle.std.proofs.Common.{ℕ, ◌≤◌, List, [], map, length, ap, IfSome}
use Rattle.hevc_walk.specs.Results.{outputs}
use Rattle.hevc_stream.specs.Stream.{meanings}
use Rattle.hevc_options.specs.Options.{options_of}
use Rattle.hevc_driver.specs.Answers.{CountsErrors, KeepsFaultless}
use Rattle.hevc_stateless.specs.Decoders.{view_of}
use Rattle.hevc_stateless.specs.Views.{View}
use Rattle.hevc_decoder.specs.Answers.{without_unit}
use Rattle.hevc_decoder.specs.Headline.{Appended, IsFront}
use Rattle.hevc_decoder.specs.Names.{output_picture}
use Rattle.hevc_decoder.specs.Promise.{Decodes, Told, told}
use Rattle.hevc_decoder.specs.Scenes.{Trail}
use Rattle.hevc_decoder.specs.Runs.{Ended}
use Rattle.hevc_decoder.proofs.Feeding.{at_end}
use Rattle.hevc_decoder.proofs.Walking.{whole_run}
use Rattle.hevc_decoder.proofs.Promises.{outputs_of, honest_of, decodes_of}
use Rattle.hevc_decoder.proofs.source.decode_source_with.Given as given
use Rattle.hevc_decoder.proofs.source.decode_source_with.Goals as goal

-- what the backend and the outputs were, and what they are
abbrev before : (g : given.Over) (c : goal.After-into_backend g) → Trail g.row.B-Handle.Denot
before g c = record {
  log = g.B.StatelessH265DecoderBackend.log c.args.backend;
  handed = g.B.StatelessH265DecoderBackend.handed c.args.backend;
  shown = c.args.shown.now.items;
  tickets = [];
}

abbrev after : (g : given.Over) (c : goal.After-into_backend g) → Trail g.row.B-Handle.Denot
after g c = record {
  log = g.B.StatelessH265DecoderBackend.log c.into_backend.result;
  handed = g.B.StatelessH265DecoderBackend.handed c.into_backend.result;
  shown = c.take_source.new.shown.items;
  tickets = (view_of c.take_source.new.decoder).tickets;
}

-- the run from the decoder that was made
run : (g : given.Over) (c : goal.After-into_backend g)
    → Ended c.in_ok-result.result
    (meanings (options_of c.args.options) c.in_ok-result.ensures.drained.stream)
    (read_units (options_of c.args.options) c.in_ok-result.ensures.drained.stream) (before g c) (after g c)
run g c = whole_run g.B.StatelessH265DecoderBackend.log g.B.StatelessH265DecoderBackend.handed
    g.B.StatelessH265DecoderBackend.frames c.new_with-decoder.result c.take_source.new.decoder
    c.args.shown.now.items c.take_source.new.shown.items c.args.backend c.into_backend.result
    (options_of c.args.options) c.in_ok-result.ensures.drained.stream c.in_ok-result.result
    c.new_with-decoder.ensures.view c.new_with-decoder.ensures.options c.into_backend.ensures
    c.in_ok-result.ensures.drained.ended

-- what follows of it of the bytes that the source had left
from_run : (g : given.Over) (c : goal.After-into_backend g) (P : List ℕ → Type 0)
    → P c.in_ok-result.ensures.drained.stream → IfSome (g.S.Source.left c.args.source.now) P
from_run g c P holds =
    let drained = c.in_ok-result.ensures.drained in
    at_end P drained.stream (g.S.Source.left c.args.source.now)
    (g.S.Source.left c.take_source.new.source) drained.gave c.in_ok-result.ensures.end holds

pub returns-clause-limit : goal.returns-clause-limit
returns-clause-limit g c = from_run g c (λ s. length s ≤ c.args.limit) c.in_ok-result.ensures.drained.short

pub returns-clause-outputs : goal.returns-clause-outputs
returns-clause-outputs g c =
    from_run g c
    (λ s. Appended c.args.shown.now.items c.take_source.new.shown.items
    (λ o. IsFront (map output_picture o) (outputs (meanings (options_of c.args.options) s))))
    (outputs_of _ _ _ _ _ (run g c))

-- the counts of the backend, and whether it fails
abbrev blamed : (g : given.Over) (c : goal.After-into_backend g)
    → CountsErrors (g.B.StatelessH265DecoderBackend.counts c.args.backend)
    (g.B.StatelessH265DecoderBackend.counts c.into_backend.result) (without_unit c.in_ok-result.result)
blamed g c = let from =
    ap (λ (v : View g.row.B.Denot g.row.B-Handle.Denot). v.backend) c.new_with-decoder.ensures.view in
    rw (from, ← c.into_backend.ensures) at c.in_ok-result.ensures.blames.cause

abbrev kept_faultless : (g : given.Over) (c : goal.After-into_backend g)
    → KeepsFaultless (g.B.StatelessH265DecoderBackend.is_faultless c.args.backend)
    (g.B.StatelessH265DecoderBackend.is_faultless c.into_backend.result) (without_unit c.in_ok-result.result)
kept_faultless g c = let from =
    ap (λ (v : View g.row.B.Denot g.row.B-Handle.Denot). v.backend) c.new_with-decoder.ensures.view in
    rw (from, ← c.into_backend.ensures) at c.in_ok-result.ensures.blames.faultless

-- what is told before it and now
abbrev told_before : (g : given.Over) (c : goal.After-into_backend g) → Told g.row.B-Handle.Denot
told_before g c =
    told g.B.StatelessH265DecoderBackend.log g.B.StatelessH265DecoderBackend.handed
    g.B.StatelessH265DecoderBackend.counts g.B.StatelessH265DecoderBackend.is_faultless c.args.backend
    c.args.shown.now.items

abbrev told_now : (g : given.Over) (c : goal.After-into_backend g) → Told g.row.B-Handle.Denot
told_now g c =
    told g.B.StatelessH265DecoderBackend.log g.B.StatelessH265DecoderBackend.handed
    g.B.StatelessH265DecoderBackend.counts g.B.StatelessH265DecoderBackend.is_faultless
    c.into_backend.result c.take_source.new.shown.items

pub returns-clause-decodes : goal.returns-clause-decodes
returns-clause-decodes g c =
    from_run g c (λ s. Decodes (options_of c.args.options) s (told_before g c) (told_now g c) c.in_ok-result.result)
    (decodes_of (told_before g c) (told_now g c) c.in_ok-result.result (blamed g c) (kept_faultless g c)
    (options_of c.args.options) c.in_ok-result.ensures.drained.stream _ (run g c) c.in_ok-result.ensures.drained.within)

pub returns-clause-honest : goal.returns-clause-honest
returns-clause-honest g c = honest_of (told_before g c) (told_now g c) c.in_ok-result.result (blamed g c)
    (kept_faultless g c) _ _ _ (run g c)
