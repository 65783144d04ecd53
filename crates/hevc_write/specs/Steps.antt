-- One unit of a stream that is rewritten.
use Rattle.std.specs.Prelude.{◌≡◌, ◌⊎◌, ◌<◌, ◌≤◌, ℕ, Bool, List, [], ◌∷◌, ◌++◌, length, Option}
use Rattle.std.specs.Prelude.{Some, None}
use Rattle.hevc_spec.specs.Table.{Reading, Fault, gives, refuses}
use Rattle.hevc_spec.specs.Units.{NalUnit, kept_bytes, units_from}
use Rattle.hevc_records.specs.Sps.{PlainSps}
use Rattle.hevc_bit_writer.specs.WrittenUnits.{started}
use Rattle.hevc_stream_pieces.specs.Pieces.{IsPiece}
use Rattle.hevc_rewrite_laws.specs.Replaced.{MeansTheSame}
use Rattle.hevc_stream.specs.Kept.{Kept}
use Rattle.hevc_stream.specs.Options.{default_options}
use Rattle.hevc_stream.specs.Stream.{kept_behind}
use Rattle.hevc_write.specs.Rewriting.{IsRewritten}

-- what is written for a unit; it is found again, and stands for the unit
pub record IsStep (kept : Kept) (bytes piece : List ℕ) : Type 0 where
  pub is : IsRewritten kept bytes piece
  pub found : IsPiece piece
  pub stands : (kept_bytes piece ≡ bytes)
      ⊎ MeansTheSame default_options kept bytes (kept_bytes piece)

-- a unit was added, after these sets; then these sequence sets are kept
pub record TakesOne (kept : Kept) (bytes old new : List ℕ) (sets : ℕ → Option PlainSps) : Type 0
  where
    pub piece : List ℕ
    pub grown : new ≡ old ++ started piece
    pub step : IsStep kept bytes piece
    pub sets_are : sets ≡ (kept_behind default_options kept bytes).sequence_sets

-- so it is whatever was kept, if these sequence sets were
abbrev pub Takes : List ℕ → List ℕ → List ℕ → (ℕ → Option PlainSps) → (ℕ → Option PlainSps)
    → Type 0
Takes bytes old new before after =
    (kept : Kept) → before ≡ kept.sequence_sets → TakesOne kept bytes old new after

-- the next unit of a stream was added, and the others are from this place on
pub record TakesNext (stream : List ℕ) (position next : ℕ) (old new : List ℕ)
    (before after : ℕ → Option PlainSps) : Type 0 where
  pub unit : NalUnit
  pub first : units_from kept_bytes position stream ≡ unit ∷ units_from kept_bytes next stream
  pub ahead : position < next
  pub within : next ≤ length stream
  pub takes : Takes unit.bytes old new before after

abbrev pub TakesNextIfAny : List ℕ → ℕ → Option ℕ → List ℕ → List ℕ → (ℕ → Option PlainSps)
    → (ℕ → Option PlainSps) → Type 0
TakesNextIfAny stream position None old new before after =
    (units_from kept_bytes position stream ≡ []) × (new ≡ old)
TakesNextIfAny stream position (Some next) old new before after =
    TakesNext stream position next old new before after

-- what was read, if anything was
abbrev pub ReadsOne : {X A : Type 0} → (X → A) → Option X → Reading A → Type 0
ReadsOne view (Some x) reading = (rest : List Bool) × (reading ≡ gives (view x) rest)
ReadsOne view None reading = (fault : Fault) × (rest : List Bool) × (reading ≡ refuses fault rest)

-- the next unit of a stream, whose header is refused, was added
pub record RefusedNext (stream : List ℕ) (position next : ℕ) (old new : List ℕ) : Type 0 where
  pub taken : (sets : ℕ → Option PlainSps) → TakesNext stream position next old new sets sets
