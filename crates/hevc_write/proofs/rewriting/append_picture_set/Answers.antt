use Rattle.std.proofs.Common.{◌≡◌, ◌++◌, ℕ, List, Option, Some, ap, refl, sym, subst, ◌∙◌}
use Rattle.std.specs.Prelude.{option_map}
use Rattle.hevc_bits.specs.FoundUnit.{bytes_of, unit_of}
use Rattle.hevc_bit_writer.specs.WrittenUnits.{started}
use Rattle.hevc_records.specs.Sps.{PlainSps}
use Rattle.hevc_parser.specs.Kept.{kept_by}
use Rattle.hevc_spec.specs.Payload.{payload}
use Rattle.hevc_spec.specs.Table.{gives, refuses, read}
use Rattle.hevc_spec.specs.UnitHeader.{UnitHeader}
use Rattle.hevc_stream.specs.Contents.{picture_set}
use Rattle.hevc_stream.specs.Options.{default_options}
use Rattle.hevc_stream.specs.Slices.{temporal_id}
use Rattle.hevc_tables.specs.PpsTable.{picture_parameter_set}
use Rattle.hevc_sequence_set.specs.Sps.{plain_sps}
use Rattle.hevc_picture_slice.specs.declared.pps.Pps.{Pps}
use Rattle.hevc_picture_slice.specs.Pps.{plain_pps}
use Rattle.hevc_write_units.specs.Values.{PictureSetLines, MeansPictureSet}
use Rattle.hevc_write.specs.Steps.{ReadsOne}
use Rattle.hevc_write.proofs.PictureSteps.{at_some, lines_of_one, names, picture_lines, some_mapped}
use Rattle.hevc_write.proofs.Taking.{anew, copied, header_is, on_ok, other_sequences, picture_is}
use Rattle.hevc_write.proofs.Taking.{picture_unread, wanted}
use Rattle.hevc_write.proofs.rewriting.append_picture_set.Goals as goal

pub unwrap-sps-requires : goal.unwrap-sps-requires
unwrap-sps-requires c =
    let nalu = c.args.nalu.now in
    let sets = (kept_by c.args.parser.now).sequence_sets in
    let tid = temporal_id nalu.header in
    let bits = payload (bytes_of nalu) in
    let was = subst
    (λ (o : Option Pps). ReadsOne plain_pps o (read (picture_parameter_set tid sets) bits)) c.in-Some.is
    c.in_ok-pps.ensures.read in
    let n = names tid sets bits was.0 (plain_pps c.in-Some.pps) was.1 in
    some_mapped (λ set. plain_sps set.now) c.get_sps.result n.0 (c.get_sps.ensures.found
    ∙ ap (λ (s : ℕ → Option PlainSps). s c.in-Some.pps.seq_parameter_set_id) c.in_ok-pps.ensures.sets ∙ n.1)

pub append_anew-requires-clause-formed : goal.append_anew-requires-clause-formed
append_anew-requires-clause-formed c =
    let nalu = c.args.nalu.now in
    let header = c.header-header.result.now in
    let sets = (kept_by c.args.parser.now).sequence_sets in
    let bits = payload (bytes_of nalu) in
    let pps = plain_pps c.in-Some.pps in
    let id = c.in-Some.pps.seq_parameter_set_id in
    let sps = plain_sps c.unwrap-sps.result.now in
    let typed : header.nal_unit_type ≡ 34 =
    ap (λ (h : UnitHeader). h.nal_unit_type) c.header-header.ensures.value ∙ c.requires.typed in
    let was = subst
    (λ (o : Option Pps). ReadsOne plain_pps o
    (read (picture_parameter_set (temporal_id nalu.header) sets) bits)) c.in-Some.is c.in_ok-pps.ensures.read in
    let again = subst
    (λ (h : UnitHeader). read (picture_parameter_set (temporal_id h) sets) bits ≡ gives pps was.0)
    (sym c.header-header.ensures.value) was.1 in
    let at : sets id ≡ Some sps = ap (λ (s : ℕ → Option PlainSps). s id) (sym c.in_ok-pps.ensures.sets)
    ∙ sym c.get_sps.ensures.found ∙ ap (option_map (λ set. plain_sps set.now)) c.unwrap-sps.ensures in
    let own = at_some c.get_sps.result c.unwrap-sps.result
    (λ set. set.now.seq_parameter_set_id ≡ id) c.unwrap-sps.ensures c.get_sps.ensures.own_id in
    picture_lines header sets sps bits was.0 pps typed at own again

pub returns-in-Some-clause-takes : goal.returns-in-Some-clause-takes
returns-in-Some-clause-takes c =
    let nalu = c.args.nalu.now in
    let bytes = bytes_of nalu in
    let header = c.header-header.result.now in
    let sets = (kept_by c.args.parser.now).sequence_sets in
    let bits = payload bytes in
    let pps = plain_pps c.in-Some.pps in
    let id = c.in-Some.pps.seq_parameter_set_id in
    let sps = plain_sps c.unwrap-sps.result.now in
    let parsed = header_is bytes header c.header-header.ensures.parsed in
    let typed : header.nal_unit_type ≡ 34 =
    ap (λ (h : UnitHeader). h.nal_unit_type) c.header-header.ensures.value ∙ c.requires.typed in
    let was = subst
    (λ (o : Option Pps). ReadsOne plain_pps o
    (read (picture_parameter_set (temporal_id nalu.header) sets) bits)) c.in-Some.is c.in_ok-pps.ensures.read in
    let again = subst
    (λ (h : UnitHeader). read (picture_parameter_set (temporal_id h) sets) bits ≡ gives pps was.0)
    (sym c.header-header.ensures.value) was.1 in
    let at : sets id ≡ Some sps = ap (λ (s : ℕ → Option PlainSps). s id) (sym c.in_ok-pps.ensures.sets)
    ∙ sym c.get_sps.ensures.found ∙ ap (option_map (λ set. plain_sps set.now)) c.unwrap-sps.ensures in
    on_ok c.append_anew.result _ _ (λ added kept before.
    let here = subst
    (λ (s : ℕ → Option PlainSps). read (picture_parameter_set (temporal_id header) s) bits
    ≡ gives pps was.0) before again in
    let found : kept.sequence_sets id ≡ Some sps = ap (λ (s : ℕ → Option PlainSps). s id) (sym before) ∙ at in
    let is = picture_is kept bytes header parsed pps was.0 typed here in
    anew kept bytes header (picture_set pps) (PictureSetLines sps pps header)
    (MeansPictureSet sps pps header) c.args.out.now.items c.append_anew.new.out.items
    (kept_by c.read_picture_set.new.parser).sequence_sets
    parsed is refl added (λ lines has. (sps, found, has))
    (λ lines has. lines_of_one header pps lines has.0 sps (kept.sequence_sets id) has.1 found has.2)
    (added.meant default_options kept (wanted bytes header parsed) found) (c.in_ok-pps.ensures.sets ∙ before
    ∙ sym (other_sequences bytes kept (picture_set pps) is refl)))
    c.append_anew.ensures.added

pub returns-in-None-clause-takes : goal.returns-in-None-clause-takes
returns-in-None-clause-takes c =
    let nalu = c.args.nalu.now in
    let bytes = bytes_of nalu in
    let header = c.header-header.result.now in
    let sets = (kept_by c.args.parser.now).sequence_sets in
    let bits = payload bytes in
    let parsed = header_is bytes header c.header-header.ensures.parsed in
    let typed : header.nal_unit_type ≡ 34 =
    ap (λ (h : UnitHeader). h.nal_unit_type) c.header-header.ensures.value ∙ c.requires.typed in
    let cut = c.header-header.ensures.cut in
    let was = subst
    (λ (o : Option Pps). ReadsOne plain_pps o
    (read (picture_parameter_set (temporal_id nalu.header) sets) bits)) c.in-None.is c.in_ok-pps.ensures.read in
    let again = subst
    (λ (h : UnitHeader). read (picture_parameter_set (temporal_id h) sets) bits ≡ refuses was.0 was.1)
    (sym c.header-header.ensures.value) was.2 in
    on_ok c.append_bytes.result _ _ (λ grown kept before.
    let here = subst
    (λ (s : ℕ → Option PlainSps). read (picture_parameter_set (temporal_id header) s) bits
    ≡ refuses was.0 was.1) before again in
    copied kept bytes header cut.0 nalu.stream
    (unit_of nalu) cut.1 c.args.out.now.items c.append_bytes.new.out.items
    (kept_by c.read_picture_set.new.parser).sequence_sets
    refl cut.2 parsed (picture_unread kept bytes header parsed was.0 was.1 typed here)
    (grown ∙ ap (λ (b : List ℕ). c.args.out.now.items ++ started b) c.as_ref.ensures.value)
    (c.in_ok-pps.ensures.sets ∙ before))
    c.append_bytes.ensures.ok
