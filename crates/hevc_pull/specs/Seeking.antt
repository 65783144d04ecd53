-- Decoding that goes on at the next picture at which it can begin.
use Rattle.std.specs.Prelude.{◌≡◌, ℕ, ◌==◌, ◌&&◌, Bool, true, false, not, nat_le, List, if◌then◌else◌}
use Rattle.std.specs.Prelude.{Result, Ok, Err, IsOk}
use Rattle.hevc_spec.specs.UnitHeader.{UnitHeader, HeaderFault}
use Rattle.hevc_stream.specs.Options.{Options}
use Rattle.hevc_stream.specs.Contents.{header_cause}
use Rattle.hevc_driver.specs.declared.decode_error.DecodeError.{DecodeError}
use Rattle.hevc_driver.specs.Errors.{cause_error}
use Rattle.hevc_stateless.specs.Steps.{Seen, StepsIn}
use Rattle.hevc_stateless.specs.Views.{begun_again}

-- a slice segment of an IRAP picture of the base layer: BLA, IDR or CRA (Table 7-1), whose TemporalId
-- is 0 (7.4.2.2)
abbrev pub is_irap_slice : UnitHeader → Bool
is_irap_slice h =
    nat_le 16 h.nal_unit_type && nat_le h.nal_unit_type 21
    && h.nuh_layer_id == 0 && h.nuh_temporal_id_plus1 == 1

-- another slice segment (VCL units, Table 7-1)
abbrev pub is_other_slice : UnitHeader → Bool
is_other_slice h = nat_le h.nal_unit_type 31 && not (is_irap_slice h)

-- Where an IRAP picture is sought, it is found here: decoding goes on.
abbrev pub is_found : (seeking : Bool) → UnitHeader → Bool
is_found seeking h = seeking && is_irap_slice h

-- And other slice segments are passed over.
abbrev pub is_passed : (seeking : Bool) → UnitHeader → Bool
is_passed seeking h = seeking && is_other_slice h

-- as what is found begins a coded video sequence: its RASL pictures are skipped (8.1.3)
abbrev pub found : {B H : Type 0} → Bool → Seen B H → Seen B H
found is s = if is then record s { view = begun_again s.view } else s

-- A unit of this header and these bytes was given: it was passed over, or taken.
pub record Sought {B H T : Type 0} (result : Result T DecodeError) (timestamp : ℕ)
    (options : Options) (seeking : Bool) (header : UnitHeader) (bytes : List ℕ) (old new : Seen B H)
    : Type 0 where
  pub passed : is_passed seeking header ≡ true → IsOk result × (new ≡ old)
  pub taken : is_passed seeking header ≡ false
      → StepsIn result timestamp options header bytes (found (is_found seeking header) old) new

-- a header that is refused comes before all else (7.3.1.2)
abbrev pub SoughtBehind : {B H T : Type 0} → Result UnitHeader HeaderFault → Result T DecodeError
    → ℕ → Options → Bool → List ℕ → Seen B H → Seen B H → Type 0
SoughtBehind (Err fault) result timestamp options seeking bytes old new =
    (result ≡ Err (cause_error (header_cause fault))) × (new ≡ old)
SoughtBehind (Ok header) result timestamp options seeking bytes old new =
    Sought result timestamp options seeking header bytes old new

-- whether an IRAP picture is sought after a unit of this header
abbrev pub seeks_behind : Result UnitHeader HeaderFault → Bool → Bool
seeks_behind (Err fault) seeking = seeking
seeks_behind (Ok header) seeking = seeking && not (is_found seeking header)

-- and after a seek that was done
abbrev pub seeks_after : {T E : Type 0} → Result T E → Bool → Bool
seeks_after (Ok value) seeking = true
seeks_after (Err error) seeking = seeking
