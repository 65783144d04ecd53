-- The bytes of units are pieces.
use Rattle.std.proofs.Common.{◌≡◌, ℕ, ◌+◌, Bool, true, false, cond, List, [], ◌∷◌, drop, refl, sym, ap, ◌∙◌}
use Rattle.std.proofs.Common.{Ok, Err}
use Rattle.std.specs.Prelude.{map, ◌≢◌, ◌↔◌, IfErr, IsErrOf, Result}
use Rattle.hevc_bits.specs.declared.header.UnitError.{UnitError}
use Rattle.hevc_bits.specs.declared.header.UnitError.TheVariants.{NoNal}
use Rattle.hevc_spec.specs.Units.{NalUnit, begins_with_start_code, before_start_code, kept_bytes}
use Rattle.hevc_spec.specs.Units.{without_trailing_zeros, units_at, units_from}

-- all bytes are a unit's own
abbrev pub raw : List ℕ → List ℕ
raw bytes = bytes

-- a unit with the bytes that are its own
abbrev pub own : NalUnit → NalUnit
own u = record { offset = u.offset; bytes = kept_bytes u.bytes }

-- units with bytes of their own are at the same places
owned_at : (place : ℕ) (xs : List ℕ) → units_at kept_bytes place xs ≡ map own (units_at raw place xs)
owned_at place [] = refl
owned_at place (x ∷ xs) = by_test (begins_with_start_code (x ∷ xs)) (owned_at (place + 1) xs)
  where
    cut : List ℕ
    cut = without_trailing_zeros (before_start_code (drop 2 xs))

    by_test : (t : Bool) → units_at kept_bytes (place + 1) xs ≡ map own (units_at raw (place + 1) xs)
        → cond t (record {
          offset = place + 3;
          bytes = kept_bytes cut;
        } ∷ units_at kept_bytes (place + 1) xs) (units_at kept_bytes (place + 1) xs)
        ≡ map own (cond t (record { offset = place + 3; bytes = cut } ∷ units_at raw (place + 1) xs)
        (units_at raw (place + 1) xs))
    by_test true more = ap (λ (us : List NalUnit). record { offset = place + 3; bytes = kept_bytes cut } ∷ us) more
    by_test false more = more

-- so are all of a stream
pub owned : (place : ℕ) (stream : List ℕ) → units_from kept_bytes place stream ≡ map own (units_from raw place stream)
unfolding units_from
owned place stream = owned_at place (drop place stream)

-- where no unit is found whatever its header, there is none
pub none_owned : (place : ℕ) (stream : List ℕ) → units_from raw place stream ≡ []
    → units_from kept_bytes place stream ≡ []
none_owned place stream none = owned place stream ∙ ap (map own) none

-- and the first one is the first one
pub first_owned : (place next : ℕ) (stream : List ℕ) (piece : NalUnit)
    → units_from raw place stream ≡ piece ∷ units_from raw next stream
    → units_from kept_bytes place stream ≡ own piece ∷ units_from kept_bytes next stream
first_owned place next stream piece first =
    owned place stream ∙ ap (map own) first
    ∙ ap (λ (us : List NalUnit). own piece ∷ us) (sym (owned next stream))

-- what has a header whatever it is, is refused only where no unit is left
pub only_none : {T H : Type 0} (h : H) (r : Result T UnitError) (e : UnitError) (us : List NalUnit)
    → r ≡ Err e → (IsErrOf r NoNal ↔ (us ≡ []))
    → IfErr r (λ e. e ≢ NoNal → (u : NalUnit) × (others : List NalUnit) × (us ≡ u ∷ others)
    × (◌≡◌ {A = Result H UnitError} (Ok h) (Err e))) → us ≡ []
only_none h (Ok x) e us is none refused = absurd (cc is)
only_none h (Err NoNal) e us is none refused = none.0 refl
only_none h (Err other) e us is none refused = absurd (cc (refused (λ f. cc f)).3)
