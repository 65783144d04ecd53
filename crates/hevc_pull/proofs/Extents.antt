-- Units whose headers aren't looked at, and the units of a stream.
use Rattle.std.proofs.Common.{◌≡◌, ◌≢◌, ℕ, ◌+◌, Bool, true, false, cond, List, [], ◌∷◌, drop, length}
use Rattle.std.proofs.Common.{refl, ap, ◌∙◌, Ok, Err, take, ◌≤◌, arith}
use Rattle.std.proofs.Math.ListN.{length-take, length-drop}
use Rattle.std.specs.Prelude.{◌↔◌, IfErr, IsErrOf, map, Result}
use Rattle.hevc_bits.specs.declared.header.UnitError.{UnitError}
use Rattle.hevc_bits.specs.declared.header.UnitError.TheVariants.{NoNal, TruncatedNalu}
use Rattle.hevc_bits.specs.declared.header.UnitError.TheVariants.{InvalidNaluType, TemporalIdZero}
use Rattle.hevc_spec.specs.Units.{NalUnit, begins_with_start_code, before_start_code}
use Rattle.hevc_spec.specs.Units.{without_trailing_zeros, units_at, units_from, kept_bytes}
use Rattle.hevc_pull.specs.Extents.{extent_of, first_extent, no_extent}

abbrev pub raw : List ℕ → List ℕ
raw bytes = bytes

-- of the bytes up to the next start code, those that are the unit's own
abbrev pub own : NalUnit → NalUnit
own u = record { offset = u.offset; bytes = kept_bytes u.bytes }

-- units with bytes of their own are at the same places
owned_at : (place : ℕ) (xs : List ℕ) → units_at kept_bytes place xs ≡ map own (units_at raw place xs)
owned_at place [] = refl
owned_at place (x ∷ xs) = by_test (begins_with_start_code (x ∷ xs)) (owned_at (place + 1) xs)
  where
    cut : List ℕ
    cut = without_trailing_zeros (before_start_code (drop 2 xs))

    by_test : (t : Bool) → units_at kept_bytes (place + 1) xs ≡ map own (units_at raw (place + 1) xs)
        → cond t (record {
          offset = place + 3;
          bytes = kept_bytes cut;
        } ∷ units_at kept_bytes (place + 1) xs) (units_at kept_bytes (place + 1) xs)
        ≡ map own (cond t (record { offset = place + 3; bytes = cut } ∷ units_at raw (place + 1) xs)
        (units_at raw (place + 1) xs))
    by_test true more = ap (λ (us : List NalUnit). record { offset = place + 3; bytes = kept_bytes cut } ∷ us) more
    by_test false more = more

-- so are all of a stream
pub owned : (place : ℕ) (stream : List ℕ) → units_from kept_bytes place stream ≡ map own (units_from raw place stream)
unfolding units_from
owned place stream = owned_at place (drop place stream)

-- the first unit lies where what is cut out does, with the bytes that are its own
pub found_extent : (from : ℕ) (stream : List ℕ) (piece : NalUnit) (others : List NalUnit)
    → units_from raw from stream ≡ piece ∷ others
    → first_extent (units_from kept_bytes from stream) ≡ extent_of (own piece)
found_extent from stream piece others e = ap first_extent (owned from stream ∙ ap (map own) e)

-- there is none where nothing is cut out
pub found_none : (from : ℕ) (stream : List ℕ) → units_from raw from stream ≡ []
    → first_extent (units_from kept_bytes from stream) ≡ no_extent
found_none from stream e = ap first_extent (owned from stream ∙ ap (map own) e)

-- within a stream a unit has as many bytes as it takes there
pub long : (offset size : ℕ) (stream : List ℕ) → offset + size ≤ length stream
    → length (take size (drop offset stream)) ≡ size
long offset size stream le =
    let dropped = length-drop offset stream in
    grind (arith, length-take, dropped, le)

-- where the only refusal is that nothing is cut out, there are no units
pub no_cut : {T H : Type 0} (h : H) (r : Result T UnitError) (e : UnitError) (us : List NalUnit) → r ≡ Err e
    → (IsErrOf r NoNal ↔ (us ≡ []))
    → IfErr r (λ e. e ≢ NoNal → (u : NalUnit) × (others : List NalUnit) × (us ≡ u ∷ others)
    × (◌≡◌ {A = Result H UnitError} (Ok h) (Err e))) → us ≡ []
no_cut h (Ok x) e us is none refused = absurd (cc is)
no_cut h (Err NoNal) e us is none refused = none.0 refl
no_cut h (Err TruncatedNalu) e us is none refused = absurd (cc (refused (λ f. cc f)).3)
no_cut h (Err (InvalidNaluType n)) e us is none refused = absurd (cc (refused (λ f. cc f)).3)
no_cut h (Err TemporalIdZero) e us is none refused = absurd (cc (refused (λ f. cc f)).3)
