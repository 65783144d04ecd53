use Rattle.std.proofs.Common.{◌≢◌, ◌∙◌, ap, sym, refl}
use Rattle.hevc_bits.specs.FoundUnit.{bytes_of}
use Rattle.hevc_bits.specs.NaluType.{nalu_type_of}
use Rattle.hevc_bits.specs.TypeNumbers.{nalu_type_of-nalu_type_number}
use Rattle.hevc_kept_sets.specs.Kept.{kept_of}
use Rattle.hevc_syntax_text.proofs.Kept.{other_keeps}
use Rattle.hevc_syntax_text.proofs.keeping.keep.Goals as goal

pub returns-in_default : goal.returns-in_default
returns-in_default c =
    let h = c.header.result.now in
    let own = nalu_type_of-nalu_type_number c.nalu_type.result in
    let number = c.nalu_type.ensures in
    let video : h.nal_unit_type ≢ 32 = λ e. c.in_default.not-VpsNut (sym own ∙ ap nalu_type_of (number ∙ e)) in
    let sequence : h.nal_unit_type ≢ 33 = λ e. c.in_default.not-SpsNut (sym own ∙ ap nalu_type_of (number ∙ e)) in
    let picture : h.nal_unit_type ≢ 34 = λ e. c.in_default.not-PpsNut (sym own ∙ ap nalu_type_of (number ∙ e)) in
    record {
      kept = sym (other_keeps (kept_of c.args.sets.now) (bytes_of c.args.nalu.now) h c.header.ensures.parsed video sequence
          picture);
      options = refl;
    }
