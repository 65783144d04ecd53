use Rattle.std.proofs.Common.{◌≡◌, ◌++◌, refl, sym, subst, ap, ◌∙◌, List, [], ℕ}
use Rattle.hevc_bits.specs.FoundUnit.{bytes_of, unit_of}
use Rattle.hevc_bit_writer.specs.WrittenUnits.{started}
use Rattle.hevc_spec.specs.Payload.{payload}
use Rattle.hevc_spec.specs.Table.{read}
use Rattle.hevc_spec.specs.UnitHeader.{UnitHeader}
use Rattle.hevc_parser.specs.Kept.{kept_by}
use Rattle.hevc_stream.specs.Contents.{sequence_set}
use Rattle.hevc_stream.specs.Kept.{Kept, with_set}
use Rattle.hevc_stream.specs.Options.{default_options}
use Rattle.hevc_tables.specs.SpsTable.{sequence_parameter_set}
use Rattle.hevc_sequence_set.specs.declared.sps.Sps.{Sps}
use Rattle.hevc_sequence_set.specs.Sps.{plain_sps}
use Rattle.hevc_write_units.specs.Added.{AddsUnit}
use Rattle.hevc_write_units.specs.Values.{SetLines, MeansSequenceSet}
use Rattle.hevc_write.proofs.Taking.{anew, copied, header_is, on_ok, own_sequences, refuses_set}
use Rattle.hevc_write.proofs.Taking.{sequence_is, sequence_unread, wanted}
use Rattle.hevc_write.proofs.rewriting.append_sequence_set.Goals as goal

pub returns-in_ok-keep_sequence_set-in-Ok-clause-takes : goal.returns-in_ok-keep_sequence_set-in-Ok-clause-takes
returns-in_ok-keep_sequence_set-in-Ok-clause-takes c =
    let bytes = bytes_of c.args.nalu.now in
    let header = c.header-header.result.now in
    let set = plain_sps c.in-Ok.set in
    let parsed = header_is bytes header c.header-header.ensures.parsed in
    let typed : header.nal_unit_type ≡ 33 =
    ap (λ (h : UnitHeader). h.nal_unit_type) c.header-header.ensures.value ∙ c.requires.typed in
    let was = c.in-Ok.ensures.unit.read c.requires.typed in
    let adds = λ (s : Sps). AddsUnit header (SetLines 33 sequence_parameter_set (plain_sps s) header) []
    (MeansSequenceSet (plain_sps s) header) c.args.out.now.items c.append_anew.new.out.items in
    let added = subst adds c.get.ensures c.in_ok-append_anew-in-Ok.ensures.added in
    λ kept before.
    let is = sequence_is kept bytes header parsed set was.0 typed was.1 in
    let kept_are = ap (λ (k : Kept). k.sequence_sets) c.in_ok-keep_sequence_set-in-Ok.ensures.kept
    ∙ ap (with_set set.seq_parameter_set_id set) before ∙ sym (own_sequences bytes kept set is) in
    anew kept bytes header (sequence_set set) (SetLines 33 sequence_parameter_set set header)
    (MeansSequenceSet set header) c.args.out.now.items c.append_anew.new.out.items
    (kept_by c.keep_sequence_set.new.self).sequence_sets
    parsed is refl added (λ lines has. has)
    (λ lines has. has) (added.meant default_options kept (wanted bytes header parsed)) kept_are

pub returns-in-Err-clause-takes : goal.returns-in-Err-clause-takes
returns-in-Err-clause-takes c =
    let nalu = c.args.nalu.now in
    let bytes = bytes_of nalu in
    let header = c.header-header.result.now in
    let parsed = header_is bytes header c.header-header.ensures.parsed in
    let typed : header.nal_unit_type ≡ 33 =
    ap (λ (h : UnitHeader). h.nal_unit_type) c.header-header.ensures.value ∙ c.requires.typed in
    let cut = c.header-header.ensures.cut in
    on_ok c.append_unread.result _ _ (λ p kept before.
    let was = refuses_set c.in-Err.error (read sequence_parameter_set (payload bytes)) p.0
    (c.in-Err.ensures.unit.read c.requires.typed) in
    copied kept bytes header cut.0 nalu.stream
    (unit_of nalu) cut.1 c.args.out.now.items c.append_unread.new.out.items (kept_by c.args.parser.now).sequence_sets
    refl cut.2 parsed (sequence_unread kept bytes header parsed was.0 was.1 typed was.2)
    (p.1 ∙ ap (λ (b : List ℕ). c.args.out.now.items ++ started b) c.as_ref.ensures.value) before)
    c.append_unread.ensures.ok
