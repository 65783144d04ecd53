use Rattle.std.proofs.Common.{◌∙◌, ap, sym, refl, subst, Some, Ok, Err}
use Rattle.hevc_bits.specs.FoundUnit.{bytes_of}
use Rattle.hevc_walk.specs.Meanings.{Meaning, CodedSlice, Refused}
use Rattle.hevc_sequence_set.specs.Sps.{plain_sps}
use Rattle.hevc_picture_slice.specs.Pps.{plain_pps}
use Rattle.hevc_picture_slice.specs.SliceHeader.{plain_slice_header}
use Rattle.hevc_stream.specs.Kept.{Kept}
use Rattle.hevc_stream.specs.Stream.{meaning}
use Rattle.hevc_slice_header.specs.declared.active_sets.ActiveSets.{ActiveSets}
use Rattle.hevc_parser.specs.Kept.{kept_by}
use Rattle.hevc_kept_sets.specs.Kept.{kept_of, options_in}
use Rattle.hevc_check.specs.Places.{Takes}
use Rattle.hevc_check.proofs.Meant.{of_unit, coded_of, segment_means, segment_refused, idle_takes}
use Rattle.hevc_check.proofs.units.Walk.take_slice.Goals as goal

pub returns-in_default : goal.returns-in_default
returns-in_default c =
    let o = options_in c.args.self.now.sets in
    let q : Kept = record (kept_by c.parser-parser.result.now) { waiting = (kept_of c.args.self.now.sets).waiting } in
    let w = c.args.self.now.pictures in
    let bytes = bytes_of c.args.nalu in
    let r = c.requires in
    let e = c.in-Err.error in
    let has = ap (λ (k : Kept). k.has_sequence_set) c.parser-parser.ensures ∙ r.open_ in
    let why =
    of_unit {X = ActiveSets} c.args.nalu c.new_slice-slice.result.nalu c.new_slice-slice.ensures.unit
    (kept_by c.parser-parser.result.now) (plain_slice_header c.read_slice.new.slice.header) (Err e)
    c.in-Err.ensures.reads.read r.typed in
    let refused =
    segment_refused o q bytes c.args.nalu.header r.parsed r.wanted has r.typed e c.in_default.not-NoMemory why
    c.in-Err.ensures.reads.names in
    let is = ap (λ (k : Kept). meaning o k bytes) (sym c.parser-parser.ensures) ∙ refused.1 in
    record { takes = idle_takes _ (Refused refused.0) w w is refl refl; sets = refl }

pub returns-clause-takes : goal.returns-clause-takes
returns-clause-takes c =
    let o = options_in c.args.self.now.sets in
    let q : Kept = record (kept_by c.parser-parser.result.now) { waiting = (kept_of c.args.self.now.sets).waiting } in
    let w = c.args.self.now.pictures in
    let bytes = bytes_of c.args.nalu in
    let r = c.requires in
    let h = plain_slice_header c.read_slice.new.slice.header in
    let sets = c.in-Ok.sets in
    let has = ap (λ (k : Kept). k.has_sequence_set) c.parser-parser.ensures ∙ r.open_ in
    let read =
    of_unit c.args.nalu c.new_slice-slice.result.nalu c.new_slice-slice.ensures.unit
    (kept_by c.parser-parser.result.now) h (Ok sets) c.in-Ok.ensures.reads.read r.typed in
    let means =
    segment_means o q bytes c.args.nalu.header r.parsed r.wanted has r.typed h read.0
    (Some (record { sps = plain_sps sets.sps.now; pps = plain_pps sets.pps.now })) read.1
    c.in-Ok.ensures.sets.active in
    let unit = c.in-Ok.ensures.unit ∙ c.new_slice-slice.ensures.unit in
    let coded =
    coded_of c.options-options.result o c.args.nalu c.read_slice.new.slice sets.sps.now sets.pps.now
    c.options-options.ensures unit in
    let is = ap (λ (k : Kept). meaning o k bytes) (sym c.parser-parser.ensures) ∙ means ∙ ap CodedSlice coded in
    subst (λ (m : Meaning). Takes c.take_slice.result m w c.take_slice.new.self) (sym is)
    (c.take_slice.ensures.takes sets.pps.now)
