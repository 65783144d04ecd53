-- What is cut out of a stream as a unit is a piece.
use Rattle.std.proofs.Common.{◌≡◌, ℕ, suc, ◌+◌, ◌/◌, ◌%◌, Bool, true, false, cond, eqb, List, []}
use Rattle.std.proofs.Common.{◌∷◌, drop, take, length, refl, ap, Ok, Err}
use Rattle.std.specs.Prelude.{All, nat_le, ◌&&◌}
use Rattle.std.proofs.lemmas.Bool.{eqb-true}
use Rattle.std.proofs.lemmas.List.Elements.{All-cons, All-nil}
use Rattle.hevc_spec.specs.UnitHeader.{UnitHeader, HeaderFault, temporal_id_zero, unspecified_type}
use Rattle.hevc_spec.specs.UnitHeader.{nal_unit_type, unit_header}
use Rattle.hevc_spec.specs.UnitTypes.{is_end}
use Rattle.hevc_spec.specs.Units.{NalUnit, begins_with_start_code, before_start_code, is_empty}
use Rattle.hevc_spec.specs.Units.{without_trailing_zeros, units_at, units_from, units, kept_bytes}
use Rattle.hevc_stream_pieces.specs.Pieces.{IsPiece, IsWholePiece}
use Rattle.hevc_stream_pieces.proofs.Whole.{before_whole, front_whole}

-- ---- bytes without the zeros at their end

trimmed_is_front : (xs : List ℕ) → (n : ℕ) × (without_trailing_zeros xs ≡ take n xs)
trimmed_is_front [] = (0, refl)
trimmed_is_front (x ∷ xs) = by_test (eqb x 0 && is_empty (without_trailing_zeros xs)) (trimmed_is_front xs)
  where
    by_test : (t : Bool) → (n : ℕ) × (without_trailing_zeros xs ≡ take n xs)
        → (n : ℕ) × (cond t [] (x ∷ without_trailing_zeros xs) ≡ take n (x ∷ xs))
    by_test true p = (0, refl)
    by_test false p = (suc p.0, ap (λ (bytes : List ℕ). x ∷ bytes) p.1)

trimmed_whole : (xs : List ℕ) → before_start_code xs ≡ xs
    → before_start_code (without_trailing_zeros xs) ≡ without_trailing_zeros xs
trimmed_whole xs h =
    let p = trimmed_is_front xs in
    rw p.1 (front_whole p.0 xs h)

trimmed_twice : (xs : List ℕ) → without_trailing_zeros (without_trailing_zeros xs) ≡ without_trailing_zeros xs
trimmed_twice [] = refl
trimmed_twice (x ∷ xs) = by_test (eqb x 0 && is_empty (without_trailing_zeros xs)) refl (trimmed_twice xs)
  where
    by_test : (t : Bool) → (eqb x 0 && is_empty (without_trailing_zeros xs)) ≡ t
        → without_trailing_zeros (without_trailing_zeros xs) ≡ without_trailing_zeros xs
        → without_trailing_zeros (cond t [] (x ∷ without_trailing_zeros xs)) ≡ cond t [] (x ∷ without_trailing_zeros xs)
    by_test true e twice = refl
    by_test false e twice = rw (twice, e) refl

-- ---- the bytes of a unit

-- all of these bytes, or the first two of at least two
kept_by_test : (P : List ℕ → Type 0) (xs : List ℕ) → P xs
    → ((a b : ℕ) (rest : List ℕ) → xs ≡ a ∷ b ∷ rest → P (a ∷ b ∷ [])) → P (kept_bytes xs)
kept_by_test P [] all front = all
kept_by_test P (a ∷ []) all front = all
kept_by_test P (a ∷ b ∷ rest) all front =
    by_test (nat_le 2 (length (a ∷ b ∷ rest)) && is_end (nal_unit_type (a ∷ b ∷ rest)))
  where
    by_test : (t : Bool) → P (cond t (a ∷ b ∷ []) (a ∷ b ∷ rest))
    by_test true = front a b rest refl
    by_test false = all

kept_twice : (xs : List ℕ) → kept_bytes (kept_bytes xs) ≡ kept_bytes xs
kept_twice [] = refl
kept_twice (a ∷ []) = refl
kept_twice (a ∷ b ∷ rest) = by_test (nat_le 2 (length (a ∷ b ∷ rest)) && is_end (nal_unit_type (a ∷ b ∷ rest))) refl
  where
    either_way : (t : Bool) → cond t (a ∷ b ∷ []) (a ∷ b ∷ []) ≡ a ∷ b ∷ []
    either_way true = refl
    either_way false = refl

    by_test : (t : Bool) → (nat_le 2 (length (a ∷ b ∷ rest)) && is_end (nal_unit_type (a ∷ b ∷ rest))) ≡ t
        → kept_bytes (cond t (a ∷ b ∷ []) (a ∷ b ∷ rest)) ≡ cond t (a ∷ b ∷ []) (a ∷ b ∷ rest)
    by_test true e = either_way (nat_le 2 (length (a ∷ b ∷ [])) && is_end (nal_unit_type (a ∷ b ∷ [])))
    by_test false e = rw e refl

kept_whole : (xs : List ℕ) → before_start_code xs ≡ xs → before_start_code (kept_bytes xs) ≡ kept_bytes xs
kept_whole xs h = kept_by_test (λ bytes. before_start_code bytes ≡ bytes) xs h (λ a b rest e. refl)

-- a header whose second byte is 0 is refused
second_is_set : (a b : ℕ) (rest : List ℕ) (h : UnitHeader) → unit_header (a ∷ b ∷ rest) ≡ Ok h → eqb b 0 ≡ false
second_is_set a b rest h e = by_test (eqb b 0) refl
  where
    no_header : (t : Bool) (fault : HeaderFault) → cond t (Err fault) (Err temporal_id_zero) ≡ Ok h → ⊥
    no_header true fault e = cc
    no_header false fault e = cc

    by_test : (t : Bool) → eqb b 0 ≡ t → t ≡ false
    by_test false f = refl
    by_test true f =
        absurd (no_header (nat_le 48 (a / 2 % 64)) (unspecified_type (a / 2 % 64)) (rw (eqb-true b 0 f) at e))

two_trimmed : (a b : ℕ) → eqb b 0 ≡ false → without_trailing_zeros (a ∷ b ∷ []) ≡ a ∷ b ∷ []
two_trimmed a b e = rw e (by_test (eqb a 0))
  where
    by_test : (t : Bool) → cond (t && false) [] (a ∷ b ∷ []) ≡ a ∷ b ∷ []
    by_test true = refl
    by_test false = refl

headed_trimmed : (xs : List ℕ) → without_trailing_zeros xs ≡ xs → (h : UnitHeader)
    → unit_header (kept_bytes xs) ≡ Ok h → without_trailing_zeros (kept_bytes xs) ≡ kept_bytes xs
headed_trimmed xs trimmed h =
    kept_by_test (λ bytes. unit_header bytes ≡ Ok h → without_trailing_zeros bytes ≡ bytes) xs (λ e. trimmed)
    (λ a b rest _ e. two_trimmed a b (second_is_set a b [] h e))

-- ---- all units

-- what holds of the bytes that are kept of any piece holds of all units
of_all_units : (P : List ℕ → Type 0) → ((bytes : List ℕ) → IsPiece bytes → P (kept_bytes bytes))
    → (place : ℕ) (stream : List ℕ) → All (λ u. P u.bytes) (units_at kept_bytes place stream)
of_all_units P of place [] = All-nil (λ u. P u.bytes)
of_all_units P of place (x ∷ xs) = by_test (begins_with_start_code (x ∷ xs)) (of_all_units P of (place + 1) xs)
  where
    cut : List ℕ
    cut = before_start_code (drop 2 xs)

    piece : IsPiece (without_trailing_zeros cut)
    piece = record { whole = trimmed_whole cut (before_whole (drop 2 xs)); trimmed = trimmed_twice cut }

    unit : NalUnit
    unit = record { offset = place + 3; bytes = kept_bytes (without_trailing_zeros cut) }

    by_test : (t : Bool) → All (λ u. P u.bytes) (units_at kept_bytes (place + 1) xs)
        → All (λ u. P u.bytes) (cond t (unit ∷ units_at kept_bytes (place + 1) xs) (units_at kept_bytes (place + 1) xs))
    by_test true more =
        All-cons (λ u. P u.bytes) unit (units_at kept_bytes (place + 1) xs) (of (without_trailing_zeros cut) piece) more
    by_test false more = more

is_whole : (bytes : List ℕ) → IsPiece bytes → without_trailing_zeros (kept_bytes bytes) ≡ kept_bytes bytes
    → IsWholePiece (kept_bytes bytes)
is_whole bytes is trimmed = record {
  piece = record { whole = kept_whole bytes is.whole; trimmed = trimmed };
  kept = kept_twice bytes;
}

pub trimmed_units : (stream : List ℕ)
    → All (λ u. without_trailing_zeros u.bytes ≡ u.bytes → IsWholePiece u.bytes) (units stream)
unfolding units_from
trimmed_units stream = of_all_units (λ bytes. without_trailing_zeros bytes ≡ bytes
    → IsWholePiece bytes) is_whole 0 stream

pub headed_units : (stream : List ℕ)
    → All (λ u. (h : UnitHeader) → unit_header u.bytes ≡ Ok h → IsWholePiece u.bytes) (units stream)
unfolding units_from
headed_units stream =
    of_all_units (λ bytes. (h : UnitHeader) → unit_header bytes ≡ Ok h → IsWholePiece bytes)
    (λ bytes is h e. is_whole bytes is (headed_trimmed bytes is.trimmed h e)) 0 stream
