-- Headers of units, and what is written for no unit and for one.
use Rattle.std.proofs.Common.{◌≡◌, ℕ, List, [], ◌∷◌, refl, Result, Ok, Err}
use Rattle.hevc_spec.specs.UnitHeader.{UnitHeader, HeaderFault}
use Rattle.hevc_spec.specs.Units.{NalUnit}
use Rattle.hevc_bit_writer.specs.WrittenUnits.{stream_of}
use Rattle.hevc_stream.specs.Kept.{none_kept}
use Rattle.hevc_write.specs.Rewriting.{AreRewritten}

-- the type in a header that is read
abbrev pub type_in : Result UnitHeader HeaderFault → ℕ
type_in (Ok h) = h.nal_unit_type
type_in (Err fault) = 0

-- no unit is written as no piece
pub no_pieces : (pieces : List (List ℕ)) → AreRewritten none_kept [] pieces → pieces ≡ []
no_pieces [] are = refl
no_pieces (piece ∷ pieces) are = absurd are

-- a unit isn't written as nothing
pub not_dropped : (u : NalUnit) (pieces : List (List ℕ))
    → AreRewritten none_kept (u ∷ []) pieces → [] ≡ stream_of pieces → ⊥
not_dropped u [] are parts = are
not_dropped u (piece ∷ pieces) are parts = absurd (cc parts)
