use Rattle.std.proofs.Common.{◌++◌, ◌∙◌, ℕ, List, false, ap, refl}
use Rattle.hevc_bits.specs.FoundUnit.{bytes_of, unit_of}
use Rattle.hevc_bit_writer.specs.WrittenUnits.{started}
use Rattle.hevc_parser.specs.Kept.{kept_by}
use Rattle.hevc_write.proofs.ReadBack.{not_true}
use Rattle.hevc_write.proofs.Taking.{copied, header_is, on_ok, other_type}
use Rattle.hevc_write.proofs.rewriting.append_unit.Goals as goal

pub returns-else-is_of_type-3-clause-takes : goal.returns-else-is_of_type-3-clause-takes
returns-else-is_of_type-3-clause-takes c =
    let nalu = c.args.nalu.now in
    let bytes = bytes_of nalu in
    let header = c.header-header.result.now in
    let parsed = header_is bytes header c.header-header.ensures.parsed in
    let cut = c.header-header.ensures.cut in
    on_ok c.append_bytes.result _ _ (λ grown kept before.
    let other = other_type kept bytes header parsed (λ e. not_true false refl (c.if-is_of_type.ensures.1 e))
    (λ e. not_true false refl (c.if-is_of_type-2.ensures.1 e))
    (λ e. not_true false refl (c.if-is_of_type-3.ensures.1 e)) in
    copied kept bytes header cut.0 nalu.stream
    (unit_of nalu) cut.1 c.args.out.now.items c.append_bytes.new.out.items (kept_by c.args.parser.now).sequence_sets
    refl cut.2 parsed other
    (grown ∙ ap (λ (b : List ℕ). c.args.out.now.items ++ started b) c.as_ref.ensures.value) before)
    c.append_bytes.ensures.ok
