-- The bytes of units are pieces.
use Rattle.std.proofs.Common.{◌≡◌, ◌≢◌, ℕ, suc, ◌+◌, ◌/◌, ◌%◌, Bool, true, false, cond, eqb, List}
use Rattle.std.proofs.Common.{[], ◌∷◌, drop, take, length, refl, sym, ap, ◌∙◌, subst, Ok, Err}
use Rattle.std.proofs.Common.{arith}
use Rattle.std.specs.Prelude.{All, nat_le, ◌&&◌, ◌↔◌, map, IfErr, IfOk, IsErrOf, IsOk, Result}
use Rattle.hevc_bits.specs.declared.header.UnitError.{UnitError}
use Rattle.hevc_bits.specs.declared.header.UnitError.TheVariants.{NoNal, TruncatedNalu, InvalidNaluType, TemporalIdZero}
use Rattle.std.proofs.lemmas.Bool.{eqb-true}
use Rattle.std.proofs.lemmas.Bool.Decides.{nat_tests}
use Rattle.std.proofs.lemmas.List.Elements.{All-cons, All-nil, All-head, All-tail}
use Rattle.hevc_spec.specs.UnitHeader.{UnitHeader, HeaderFault, temporal_id_zero, unspecified_type}
use Rattle.hevc_spec.specs.UnitHeader.{nal_unit_type, unit_header}
use Rattle.hevc_spec.specs.UnitTypes.{is_end}
use Rattle.hevc_spec.specs.Units.{NalUnit, begins_with_start_code, before_start_code, is_empty}
use Rattle.hevc_spec.specs.Units.{without_trailing_zeros, units_at, units_from, kept_bytes}
use Rattle.hevc_stream_pieces.specs.Pieces.{IsPiece, IsWholePiece}
use Rattle.hevc_stream_pieces.proofs.Cut.{headed_units}
use Rattle.hevc_write.proofs.Whole.{before_whole, front_whole}
use Rattle.hevc_write.specs.Rewriting.{completed}
use Rattle.hevc_write_units.proofs.Trimmed.{trimmed_cons}

-- ---- what is cut out before a header is looked at

-- without zeros at its end a list is its own beginning
trimmed_is_front : (xs : List ℕ) → (n : ℕ) × (without_trailing_zeros xs ≡ take n xs)
trimmed_is_front [] = (0, refl)
trimmed_is_front (x ∷ xs) = by_test (eqb x 0 && is_empty (without_trailing_zeros xs)) (trimmed_is_front xs)
  where
    by_test : (t : Bool) → (n : ℕ) × (without_trailing_zeros xs ≡ take n xs)
        → (n : ℕ) × (cond t [] (x ∷ without_trailing_zeros xs) ≡ take n (x ∷ xs))
    by_test true p = (0, refl)
    by_test false p = (suc p.0, ap (λ (bytes : List ℕ). x ∷ bytes) p.1)

-- no zeros are left
trimmed_twice : (xs : List ℕ) → without_trailing_zeros (without_trailing_zeros xs) ≡ without_trailing_zeros xs
trimmed_twice [] = refl
trimmed_twice (x ∷ xs) = by_test (eqb x 0 && is_empty (without_trailing_zeros xs)) refl (trimmed_twice xs)
  where
    by_test : (t : Bool) → (eqb x 0 && is_empty (without_trailing_zeros xs)) ≡ t
        → without_trailing_zeros (without_trailing_zeros xs) ≡ without_trailing_zeros xs
        → without_trailing_zeros (cond t [] (x ∷ without_trailing_zeros xs)) ≡ cond t [] (x ∷ without_trailing_zeros xs)
    by_test true e twice = refl
    by_test false e twice = rw (twice, e) refl

-- what is before a start code is a piece, without zeros at its end
cut_is_piece : (xs : List ℕ) → IsPiece (without_trailing_zeros (before_start_code xs))
cut_is_piece xs =
    let cut = before_start_code xs in
    let front = trimmed_is_front cut in
    record { whole = rw front.1 (front_whole front.0 cut (before_whole xs)); trimmed = trimmed_twice cut }

abbrev pub raw : List ℕ → List ℕ
raw bytes = bytes

-- the bytes before the next start code are a piece, and a unit has those of them that are its own
pub raw_pieces : (place : ℕ) (xs : List ℕ) → All (λ u. IsPiece u.bytes) (units_at raw place xs)
raw_pieces place [] = All-nil (λ u. IsPiece u.bytes)
raw_pieces place (x ∷ xs) = by_test (begins_with_start_code (x ∷ xs)) (raw_pieces (place + 1) xs)
  where
    by_test : (t : Bool) → All (λ u. IsPiece u.bytes) (units_at raw (place + 1) xs)
        → All (λ u. IsPiece u.bytes)
        (cond t (record {
          offset = place + 3;
          bytes = without_trailing_zeros (before_start_code (drop 2 xs));
        } ∷ units_at raw (place + 1) xs) (units_at raw (place + 1) xs))
    by_test true more =
        All-cons (λ u. IsPiece u.bytes) (record {
          offset = place + 3;
          bytes = without_trailing_zeros (before_start_code (drop 2 xs));
        }) (units_at raw (place + 1) xs) (cut_is_piece (drop 2 xs)) more
    by_test false more = more

abbrev pub own : NalUnit → NalUnit
own u = record { offset = u.offset; bytes = kept_bytes u.bytes }

-- units with bytes of their own are at the same places
owned_at : (place : ℕ) (xs : List ℕ) → units_at kept_bytes place xs ≡ map own (units_at raw place xs)
owned_at place [] = refl
owned_at place (x ∷ xs) = by_test (begins_with_start_code (x ∷ xs)) (owned_at (place + 1) xs)
  where
    cut : List ℕ
    cut = without_trailing_zeros (before_start_code (drop 2 xs))

    by_test : (t : Bool) → units_at kept_bytes (place + 1) xs ≡ map own (units_at raw (place + 1) xs)
        → cond t (record {
          offset = place + 3;
          bytes = kept_bytes cut;
        } ∷ units_at kept_bytes (place + 1) xs) (units_at kept_bytes (place + 1) xs)
        ≡ map own (cond t (record { offset = place + 3; bytes = cut } ∷ units_at raw (place + 1) xs)
        (units_at raw (place + 1) xs))
    by_test true more = ap (λ (us : List NalUnit). record { offset = place + 3; bytes = kept_bytes cut } ∷ us) more
    by_test false more = more

-- so are all of a stream
pub owned : (place : ℕ) (stream : List ℕ) → units_from kept_bytes place stream ≡ map own (units_from raw place stream)
unfolding units_from
owned place stream = owned_at place (drop place stream)

-- the first unit is a piece
pub first_piece : (place : ℕ) (stream : List ℕ) (u : NalUnit) (us : List NalUnit)
    → units_from raw place stream ≡ u ∷ us → IsPiece u.bytes
unfolding units_from
first_piece place stream u us e =
    All-head (λ u. IsPiece u.bytes) u us
    (subst (λ (vs : List NalUnit). All (λ u. IsPiece u.bytes) vs) e (raw_pieces place (drop place stream)))

-- ---- units with a header

abbrev Headed : NalUnit → Type 0
Headed u = (h : UnitHeader) → unit_header u.bytes ≡ Ok h → IsWholePiece u.bytes

-- what units have of headers goes by no place
shifted : (place other : ℕ) (xs : List ℕ) → All Headed (units_at kept_bytes place xs)
    → All Headed (units_at kept_bytes other xs)
shifted place other [] all = All-nil Headed
shifted place other (x ∷ xs) all = by_test (begins_with_start_code (x ∷ xs)) (shifted (place + 1) (other + 1) xs) all
  where
    by_test : (t : Bool)
        → (All Headed (units_at kept_bytes (place + 1) xs) → All Headed (units_at kept_bytes (other + 1) xs))
        → All Headed
        (cond t (record {
          offset = place + 3;
          bytes = kept_bytes (without_trailing_zeros (before_start_code (drop 2 xs)));
        } ∷ units_at kept_bytes (place + 1) xs) (units_at kept_bytes (place + 1) xs))
        → All Headed
        (cond t (record {
          offset = other + 3;
          bytes = kept_bytes (without_trailing_zeros (before_start_code (drop 2 xs)));
        } ∷ units_at kept_bytes (other + 1) xs) (units_at kept_bytes (other + 1) xs))
    by_test true more all =
        let here : NalUnit = record {
          offset = place + 3;
          bytes = kept_bytes (without_trailing_zeros (before_start_code (drop 2 xs)));
        } in
        let there : NalUnit = record {
          offset = other + 3;
          bytes = kept_bytes (without_trailing_zeros (before_start_code (drop 2 xs)));
        } in
        All-cons Headed there (units_at kept_bytes (other + 1) xs)
        (All-head Headed here (units_at kept_bytes (place + 1) xs) all)
        (more (All-tail Headed here (units_at kept_bytes (place + 1) xs) all))
    by_test false more all = more all

-- a unit with a header is a whole piece
pub headed_piece : (place : ℕ) (stream : List ℕ) (u : NalUnit) (us : List NalUnit) (h : UnitHeader)
    → units_from kept_bytes place stream ≡ u ∷ us → unit_header u.bytes ≡ Ok h → IsWholePiece u.bytes
unfolding units_from
headed_piece place stream u us h e parsed =
    let all = shifted 0 place (drop place stream) (headed_units (drop place stream)) in
    All-head Headed u us (subst (λ (vs : List NalUnit). All Headed vs) e all) h parsed

-- a header whose second byte is 0 is refused
second_is_set : (a b : ℕ) (rest : List ℕ) (h : UnitHeader) → unit_header (a ∷ b ∷ rest) ≡ Ok h → eqb b 0 ≡ false
second_is_set a b rest h e = by_test (eqb b 0) refl
  where
    no_header : (t : Bool) (fault : HeaderFault) → cond t (Err fault) (Err temporal_id_zero) ≡ Ok h → ⊥
    no_header true fault e = cc
    no_header false fault e = cc

    by_test : (t : Bool) → eqb b 0 ≡ t → t ≡ false
    by_test false f = refl
    by_test true f =
        absurd (no_header (nat_le 48 (a / 2 % 64)) (unspecified_type (a / 2 % 64)) (rw (eqb-true b 0 f) at e))

-- what is not so is not so with more
and_false : (t : Bool) → (t && false) ≡ false
and_false true = refl
and_false false = refl

-- so nothing completes such a unit
pub headed_complete : (bytes : List ℕ) (h : UnitHeader) → unit_header bytes ≡ Ok h → completed bytes ≡ bytes
headed_complete [] h e = refl
headed_complete (a ∷ []) h e = refl
headed_complete (a ∷ b ∷ []) h e = rw (second_is_set a b [] h e, and_false (is_end (nal_unit_type (a ∷ [])))) refl
headed_complete (a ∷ b ∷ c ∷ bytes) h e = refl

-- ---- any unit, completed

-- three such bytes are no start code
begins_not : (a b : ℕ) → begins_with_start_code (a ∷ b ∷ 128 ∷ []) ≡ false
begins_not a b = and_false (eqb a 0 && eqb b 0)

-- two bytes and 80 are a piece
ended : (a b : ℕ) → IsPiece (a ∷ b ∷ 128 ∷ [])
ended a b = record {
  whole = rw (begins_not a b) refl;
  trimmed = trimmed_cons a (b ∷ 128 ∷ []) (trimmed_cons b (128 ∷ []) refl (λ none. absurd (cc none)))
      (λ none. absurd (cc none));
}

-- two bytes of which the last is not 0 are a piece
two_piece : (a b : ℕ) → eqb b 0 ≡ false → IsPiece (a ∷ b ∷ [])
two_piece a b e = record {
  whole = refl;
  trimmed = trimmed_cons a (b ∷ []) (trimmed_cons b [] refl (λ none. e)) (λ none. absurd (cc none));
}

-- what is written for a unit is found again, and is the unit
pub record IsCompleted (bytes piece : List ℕ) : Type 0 where
  pub found : IsPiece piece
  pub same : kept_bytes piece ≡ bytes

-- two bytes are completed by 80 where they end in 0
two_completed : (a b : ℕ) (t z : Bool) → is_end (nal_unit_type (a ∷ [])) ≡ t → eqb b 0 ≡ z
    → (t ≡ false → IsPiece (a ∷ b ∷ [])) → IsCompleted (a ∷ b ∷ []) (cond (t && z) (a ∷ b ∷ 128 ∷ []) (a ∷ b ∷ []))
two_completed a b true true e f piece = record { found = ended a b; same = rw e refl }
two_completed a b true false e f piece = record { found = two_piece a b f; same = rw e refl }
two_completed a b false z e f piece = record { found = piece refl; same = rw e refl }

-- two bytes are the same whatever the test says
either_way : (t : Bool) (a b : ℕ) → cond t (a ∷ b ∷ []) (a ∷ b ∷ []) ≡ a ∷ b ∷ []
either_way true a b = refl
either_way false a b = refl

-- what is kept of a piece is completed
as_kept : (xs ys : List ℕ) → kept_bytes xs ≡ ys → IsCompleted ys (completed ys)
    → IsCompleted (kept_bytes xs) (completed (kept_bytes xs))
as_kept xs ys e is = subst (λ (bytes : List ℕ). IsCompleted bytes (completed bytes)) (sym e) is

-- a piece is completed
pub completed_piece : (bytes : List ℕ) → IsPiece bytes → IsCompleted (kept_bytes bytes) (completed (kept_bytes bytes))
completed_piece [] is = record { found = is; same = refl }
completed_piece (a ∷ []) is = record { found = is; same = refl }
completed_piece (a ∷ b ∷ []) is =
    as_kept (a ∷ b ∷ []) (a ∷ b ∷ [])
    (either_way (nat_le 2 (length (a ∷ b ∷ [])) && is_end (nal_unit_type (a ∷ b ∷ []))) a b)
    (two_completed a b (is_end (nal_unit_type (a ∷ []))) (eqb b 0) refl refl (λ _. is))
completed_piece (a ∷ b ∷ c ∷ bytes) is = by_end (is_end (nal_unit_type (a ∷ []))) refl
  where
    long : nat_le 2 (length (a ∷ b ∷ c ∷ bytes)) ≡ true
    long = grind (arith, nat_tests)

    by_end : (t : Bool) → is_end (nal_unit_type (a ∷ [])) ≡ t
        → IsCompleted (kept_bytes (a ∷ b ∷ c ∷ bytes)) (completed (kept_bytes (a ∷ b ∷ c ∷ bytes)))
    by_end true e =
        let front : kept_bytes (a ∷ b ∷ c ∷ bytes) ≡ a ∷ b ∷ [] = rw (e, long) refl in
        as_kept (a ∷ b ∷ c ∷ bytes) (a ∷ b ∷ []) front
        (two_completed a b (is_end (nal_unit_type (a ∷ []))) (eqb b 0) refl refl (λ f. absurd (cc (sym e ∙ f))))
    by_end false e =
        let all : kept_bytes (a ∷ b ∷ c ∷ bytes) ≡ a ∷ b ∷ c ∷ bytes =
        rw (e, and_false (nat_le 2 (length (a ∷ b ∷ c ∷ bytes)))) refl in
        as_kept (a ∷ b ∷ c ∷ bytes) (a ∷ b ∷ c ∷ bytes) all (record { found = is; same = all })

-- ---- a unit whose header is refused is found without its header

-- a unit that is found has a place
pub piece_found : {T H : Type 0} (h : H) (r : Result T UnitError) (us : List NalUnit) → us ≢ []
    → (IsErrOf r NoNal ↔ (us ≡ []))
    → IfErr r (λ e. e ≢ NoNal → (u : NalUnit) × (others : List NalUnit) × (us ≡ u ∷ others)
    × (◌≡◌ {A = Result H UnitError} (Ok h) (Err e))) → IsOk r
piece_found h (Ok x) us some none refused = refl
piece_found h (Err NoNal) us some none refused = absurd (some (none.0 refl))
piece_found h (Err TruncatedNalu) us some none refused = absurd (cc (refused (λ e. cc e)).3)
piece_found h (Err (InvalidNaluType n)) us some none refused = absurd (cc (refused (λ e. cc e)).3)
piece_found h (Err TemporalIdZero) us some none refused = absurd (cc (refused (λ e. cc e)).3)

-- where a unit is found there are bytes
pub some_raw : (place : ℕ) (stream : List ℕ) (u : NalUnit) (others : List NalUnit)
    → units_from kept_bytes place stream ≡ u ∷ others → units_from raw place stream ≢ []
some_raw place stream u others e none = cc (sym e ∙ owned place stream ∙ ap (map own) none)

-- what holds of what is there on Ok
pub at_ok : {T E : Type 0} (r : Result T E) (x : T) (P : T → Type 0) → r ≡ Ok x → IfOk r P → P x
at_ok (Ok y) x P e p = subst P (cc e) p
at_ok (Err f) x P e p = absurd (cc e)

-- equal lists have equal first units
heads : (u v : NalUnit) (us vs : List NalUnit) → u ∷ us ≡ v ∷ vs → u ≡ v
heads u v us vs e = cc

-- the unit, by what is found without its header
pub record IsOwn (place next : ℕ) (stream : List ℕ) (piece u : NalUnit) : Type 0 where
  pub first : units_from kept_bytes place stream ≡ own piece ∷ units_from kept_bytes next stream
  pub same : u ≡ own piece
  pub is : IsPiece piece.bytes

-- the unit that is found is that of the bytes
pub own_found : (place next : ℕ) (stream : List ℕ) (piece u : NalUnit) (others : List NalUnit)
    → units_from raw place stream ≡ piece ∷ units_from raw next stream
    → units_from kept_bytes place stream ≡ u ∷ others → IsOwn place next stream piece u
own_found place next stream piece u others e f =
    let first : units_from kept_bytes place stream ≡ own piece ∷ units_from kept_bytes next stream =
    owned place stream ∙ ap (map own) e ∙ ap (λ (us : List NalUnit). own piece ∷ us) (sym (owned next stream)) in
    record {
      first = first;
      same = heads u (own piece) others (units_from kept_bytes next stream) (sym f ∙ first);
      is = first_piece place stream piece (units_from raw next stream) e;
    }
