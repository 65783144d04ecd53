use Rattle.std.proofs.Common.{◌≡◌, ◌++◌, refl, sym, ap, ◌∙◌, List, ℕ}
use Rattle.hevc_bits.specs.FoundUnit.{bytes_of, unit_of}
use Rattle.hevc_bit_writer.specs.WrittenUnits.{started}
use Rattle.hevc_spec.specs.Payload.{payload}
use Rattle.hevc_spec.specs.Table.{read}
use Rattle.hevc_spec.specs.UnitHeader.{UnitHeader}
use Rattle.hevc_parser.specs.Kept.{kept_by}
use Rattle.hevc_stream.specs.Contents.{video_set}
use Rattle.hevc_stream.specs.Options.{default_options}
use Rattle.hevc_tables.specs.VpsTable.{video_parameter_set}
use Rattle.hevc_video_set.specs.Vps.{plain_vps}
use Rattle.hevc_write_units.specs.Values.{SetLines, MeansVideoSet}
use Rattle.hevc_write.proofs.Taking.{anew, copied, header_is, on_ok, other_sequences, refuses_set}
use Rattle.hevc_write.proofs.Taking.{video_is, video_unread, wanted}
use Rattle.hevc_write.proofs.rewriting.append_video_set.Goals as goal

pub returns-in-Ok-clause-takes : goal.returns-in-Ok-clause-takes
returns-in-Ok-clause-takes c =
    let bytes = bytes_of c.args.nalu.now in
    let header = c.header-header.result.now in
    let set = plain_vps c.in-Ok.set in
    let parsed = header_is bytes header c.header-header.ensures.parsed in
    let typed : header.nal_unit_type ≡ 32 =
    ap (λ (h : UnitHeader). h.nal_unit_type) c.header-header.ensures.value ∙ c.requires.typed in
    let was = c.in-Ok.ensures.unit.read c.requires.typed in
    on_ok c.append_anew.result _ _ (λ added kept before.
    let is = video_is kept bytes header parsed set was.0 typed was.1 in
    anew kept bytes header (video_set set) (SetLines 32 video_parameter_set set header)
    (MeansVideoSet set header) c.args.out.now.items c.append_anew.new.out.items
    (kept_by c.args.parser.now).sequence_sets
    parsed is refl added (λ lines has. has)
    (λ lines has. has) (added.meant default_options kept (wanted bytes header parsed))
    (before ∙ sym (other_sequences bytes kept (video_set set) is refl)))
    c.append_anew.ensures.added

pub returns-in-Err-clause-takes : goal.returns-in-Err-clause-takes
returns-in-Err-clause-takes c =
    let nalu = c.args.nalu.now in
    let bytes = bytes_of nalu in
    let header = c.header-header.result.now in
    let parsed = header_is bytes header c.header-header.ensures.parsed in
    let typed : header.nal_unit_type ≡ 32 =
    ap (λ (h : UnitHeader). h.nal_unit_type) c.header-header.ensures.value ∙ c.requires.typed in
    let cut = c.header-header.ensures.cut in
    on_ok c.append_unread.result _ _ (λ p kept before.
    let was = refuses_set c.in-Err.error (read video_parameter_set (payload bytes)) p.0
    (c.in-Err.ensures.unit.read c.requires.typed) in
    copied kept bytes header cut.0 nalu.stream
    (unit_of nalu) cut.1 c.args.out.now.items c.append_unread.new.out.items (kept_by c.args.parser.now).sequence_sets
    refl cut.2 parsed (video_unread kept bytes header parsed was.0 was.1 typed was.2)
    (p.1 ∙ ap (λ (b : List ℕ). c.args.out.now.items ++ started b) c.as_ref.ensures.value) before)
    c.append_unread.ensures.ok
