use Rattle.std.proofs.Common.{refl, ap, ◌∙◌, Some}
use Rattle.hevc_bits.specs.FoundUnit.{bytes_of}
use Rattle.hevc_records.specs.Sps.{PlainSps}
use Rattle.hevc_stream.specs.Kept.{Kept}
use Rattle.hevc_stream.specs.Options.{Options}
use Rattle.hevc_stream.specs.Stream.{with_all_waited}
use Rattle.hevc_walk.specs.Meanings.{SequenceSet}
use Rattle.hevc_walk_inputs.specs.Sequences.{format_of_set}
use Rattle.hevc_kept_sets.specs.Kept.{kept_of}
use Rattle.hevc_check.specs.Places.{after_unit}
use Rattle.hevc_check.proofs.Meant.{on_ok, refused_taken, sequence_taken, some_of, named_of, found_by_id}
use Rattle.hevc_check.proofs.units.Walk.take_sequence_set.Goals as goal

pub returns-in_default : goal.returns-in_default
returns-in_default c = record {
  takes =
      refused_taken (bytes_of c.args.nalu.now) c.args.self.now _ c.in-Err.error c.in_default.not-NoMemory
      c.in-Err.ensures.keeps refl;
  options = c.in-Err.ensures.options;
}

pub unwrap-set-requires : goal.unwrap-set-requires
unwrap-set-requires c =
    let kept = c.in-Ok.ensures.keeps in
    let found =
    found_by_id kept.0 (kept_of c.args.self.now.sets) (kept_of c.keep_sequence_set.new.self) c.in-Ok.id kept.2
    kept.3 in
    let here = c.get_sps.ensures.found ∙ ap (λ (k : Kept). k.sequence_sets c.in-Ok.id) c.parser.ensures ∙ found in
    some_of _ c.get_sps.result (Some kept.0) here refl

pub returns-clause-takes : goal.returns-clause-takes
returns-clause-takes c =
    let old = c.args.self.now in
    let r = c.requires in
    let kept = c.in-Ok.ensures.keeps in
    let found = found_by_id kept.0 (kept_of old.sets) (kept_of c.keep_sequence_set.new.self) c.in-Ok.id kept.2 kept.3 in
    let here = c.get_sps.ensures.found ∙ ap (λ (k : Kept). k.sequence_sets c.in-Ok.id) c.parser.ensures ∙ found in
    let set = named_of _ c.get_sps.result c.unwrap-set.result kept.0 c.unwrap-set.ensures here in
    on_ok c.read_waiting.result _ _
    (λ read. sequence_taken (bytes_of c.args.nalu.now) old _ c.args.nalu.now.header kept.0
    (kept_of c.keep_sequence_set.new.self) r.parsed r.wanted kept.1
    (c.open_sequence.ensures ∙ ap (λ (s : PlainSps). after_unit (SequenceSet (format_of_set s)) old.pictures) set)
    kept.3 (read
    ∙ ap (λ (o : Options). with_all_waited o (kept_of c.keep_sequence_set.new.self))
    c.keep_sequence_set.ensures.options)) c.read_waiting.ensures.read
