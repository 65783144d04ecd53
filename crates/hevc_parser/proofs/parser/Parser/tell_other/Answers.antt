use Rattle.std.proofs.Common.{rules, ◌≡◌, false, sym}
use Rattle.hevc_spec.specs.UnitTypes.{is_slice}
use Rattle.hevc_bits.specs.NaluType.{nalu_type_number}
use Rattle.hevc_elements.specs.Kept.{telling_in}
use Rattle.hevc_elements.proofs.ScanLaws.{and_told-nothing}
use Rattle.hevc_parser.proofs.parser.Parser.tell_other.Goals as goal

-- of another unit nothing is told
pub returns-then-not-is_slice : goal.returns-then-not-is_slice
returns-then-not-is_slice c =
    let other : is_slice (nalu_type_number c.args.nalu_type) ≡ false = search rules in
    rw other (sym (and_told-nothing (telling_in c.args.list)))
