-- The header of a unit, its first two bytes (7.3.1.2).
use Rattle.std.specs.Prelude.{ℕ, ◌+◌, ◌*◌, ◌/◌, ◌%◌, List, [], ◌∷◌, Result, Ok, Err, ◌==◌, nat_le}
use Rattle.std.specs.Prelude.{if◌then◌else◌}

pub record UnitHeader : Type 0 where
  pub nal_unit_type : ℕ
  pub nuh_layer_id : ℕ
  pub nuh_temporal_id_plus1 : ℕ

-- One bit that is not looked at, six of the type, six of the layer, three of the temporal id.
abbrev pub header_fields : ℕ → ℕ → UnitHeader
header_fields first second = record {
  nal_unit_type = first / 2 % 64;
  nuh_layer_id = first % 2 * 32 + second / 8 % 32;
  nuh_temporal_id_plus1 = second % 8;
}

-- the type that bytes begin with, and 0 for no bytes
abbrev pub nal_unit_type : List ℕ → ℕ
nal_unit_type [] = 0
nal_unit_type (first ∷ _) = first / 2 % 64

-- Why bytes are no unit: fewer than two, a type of 48 to 63, which the standard leaves unspecified,
-- or a temporal id plus 1 of 0, which 7.4.2.2 forbids.
pub data HeaderFault : Type 0 where
  truncated : HeaderFault
  unspecified_type : ℕ → HeaderFault
  temporal_id_zero : HeaderFault

abbrev pub checked_header : UnitHeader → Result UnitHeader HeaderFault
checked_header h =
    if nat_le 48 h.nal_unit_type then Err (unspecified_type h.nal_unit_type)
    else if h.nuh_temporal_id_plus1 == 0 then Err temporal_id_zero
    else Ok h

-- the header of a unit's bytes, or the first fault
abbrev pub unit_header : List ℕ → Result UnitHeader HeaderFault
unit_header [] = Err truncated
unit_header (_ ∷ []) = Err truncated
unit_header (first ∷ second ∷ _) = checked_header (header_fields first second)
