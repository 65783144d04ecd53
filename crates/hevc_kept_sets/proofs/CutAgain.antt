-- A unit that was cut out of a stream is cut out again after a start code of its own.
use Rattle.std.proofs.Common.{◌≡◌, ℕ, ◌+◌, ◌/◌, ◌%◌, ◌≤◌, ◌<◌, ◌^◌, Bool, true, false, List, []}
use Rattle.std.proofs.Common.{◌∷◌, ◌++◌, Result, Ok, Err, refl, ap, sym, subst, ◌∙◌, arith}
use Rattle.std.proofs.Common.{if◌then◌else◌, ◌==◌, drop, length, length-take, length-drop}
use Rattle.std.proofs.lemmas.Bool.Decides.{nat_tests}
use Rattle.std.specs.Prelude.{◌&&◌, nat_le}
use Rattle.hevc_spec.specs.UnitTypes.{is_end}
use Rattle.hevc_spec.specs.UnitHeader.{UnitHeader, HeaderFault, header_fields, checked_header, unit_header}
use Rattle.hevc_spec.specs.Units.{NalUnit, begins_with_start_code, before_start_code, is_empty}
use Rattle.hevc_spec.specs.Units.{without_trailing_zeros, units_at, units_from, kept_bytes, units}
use Rattle.hevc_bits.specs.ParsedHeader.{parsed_header, answer_of}
use Rattle.hevc_bits.specs.FoundUnit.{FoundUnit, IsCutOut, bytes_of, unit_of}
use Rattle.hevc_kept_sets.specs.CutUnits.{IsPictureSetStream}

-- ---- bytes that have no start code

begins_in_front : (x : ℕ) (front rest : List ℕ) → begins_with_start_code (x ∷ front ++ rest) ≡ false
    → begins_with_start_code (x ∷ front) ≡ false
begins_in_front x [] rest e = refl
begins_in_front x (a ∷ []) rest e = refl
begins_in_front x (a ∷ b ∷ front) rest e = e

-- what is before a start code is a front, and so are bytes without the zeros at their end
abbrev IsFront : List ℕ → List ℕ → Type 0
IsFront front bytes = (rest : List ℕ) × (bytes ≡ front ++ rest)

before_by_test : (x : ℕ) (xs : List ℕ) (t : Bool) → begins_with_start_code (x ∷ xs) ≡ t
    → IsFront (before_start_code xs) xs → IsFront (before_start_code (x ∷ xs)) (x ∷ xs)
before_by_test x xs true e front = (x ∷ xs, rw e refl)
before_by_test x xs false e front = (front.0, rw e (ap (λ (ys : List ℕ). x ∷ ys) front.1))

before_is_front : (xs : List ℕ) → IsFront (before_start_code xs) xs
before_is_front [] = ([], refl)
before_is_front (x ∷ xs) = before_by_test x xs (begins_with_start_code (x ∷ xs)) refl (before_is_front xs)

trimmed_by_test : (x : ℕ) (xs : List ℕ) (t : Bool) → (x == 0 && is_empty (without_trailing_zeros xs)) ≡ t
    → IsFront (without_trailing_zeros xs) xs → IsFront (without_trailing_zeros (x ∷ xs)) (x ∷ xs)
trimmed_by_test x xs true e front = (x ∷ xs, rw e refl)
trimmed_by_test x xs false e front = (front.0, rw e (ap (λ (ys : List ℕ). x ∷ ys) front.1))

trimmed_is_front : (xs : List ℕ) → IsFront (without_trailing_zeros xs) xs
trimmed_is_front [] = ([], refl)
trimmed_is_front (x ∷ xs) = trimmed_by_test x xs (x == 0 && is_empty (without_trailing_zeros xs)) refl
    (trimmed_is_front xs)

abbrev HasNone : List ℕ → Type 0
HasNone xs = before_start_code xs ≡ xs

none_by_test : (x : ℕ) (xs : List ℕ) (t : Bool) → begins_with_start_code (x ∷ xs) ≡ t → HasNone (x ∷ xs)
    → (begins_with_start_code (x ∷ xs) ≡ false) × HasNone xs
none_by_test x xs true e none = let nothing : [] ≡ x ∷ xs = rw e at none in absurd (cc nothing)
none_by_test x xs false e none = let is : x ∷ before_start_code xs ≡ x ∷ xs = rw e at none in (e, cc is)

none_first : (x : ℕ) (xs : List ℕ) → HasNone (x ∷ xs) → (begins_with_start_code (x ∷ xs) ≡ false) × HasNone xs
none_first x xs none = none_by_test x xs (begins_with_start_code (x ∷ xs)) refl none

none_more : (x : ℕ) (xs : List ℕ) → begins_with_start_code (x ∷ xs) ≡ false → HasNone xs → HasNone (x ∷ xs)
none_more x xs e none = rw e (ap (λ (ys : List ℕ). x ∷ ys) none)

none_in_front : (front rest : List ℕ) → HasNone (front ++ rest) → HasNone front
none_in_front [] rest none = refl
none_in_front (x ∷ front) rest none =
    let is = none_first x (front ++ rest) none in
    none_more x front (begins_in_front x front rest is.0) (none_in_front front rest is.1)

before_has_none_by_test : (x : ℕ) (xs : List ℕ) (t : Bool) → begins_with_start_code (x ∷ xs) ≡ t
    → HasNone (before_start_code xs) → HasNone (before_start_code (x ∷ xs))
before_has_none_by_test x xs true e none = rw e refl
before_has_none_by_test x xs false e none =
    let front = before_is_front xs in
    let first : begins_with_start_code (x ∷ before_start_code xs) ≡ false =
    begins_in_front x (before_start_code xs) front.0
    (ap (λ (ys : List ℕ). begins_with_start_code (x ∷ ys)) (sym front.1) ∙ e) in
    rw e (none_more x (before_start_code xs) first none)

before_has_none : (xs : List ℕ) → HasNone (before_start_code xs)
before_has_none [] = refl
before_has_none (x ∷ xs) = before_has_none_by_test x xs (begins_with_start_code (x ∷ xs)) refl (before_has_none xs)

trimmed_has_none : (xs : List ℕ) → HasNone xs → HasNone (without_trailing_zeros xs)
trimmed_has_none xs none =
    let front = trimmed_is_front xs in
    none_in_front (without_trailing_zeros xs) front.0 (subst HasNone front.1 none)

-- ---- bytes without zeros at their end

trimmed_twice_by_test : (x : ℕ) (xs : List ℕ) (t : Bool)
    → (x == 0 && is_empty (without_trailing_zeros xs)) ≡ t
    → without_trailing_zeros (without_trailing_zeros xs) ≡ without_trailing_zeros xs
    → without_trailing_zeros (without_trailing_zeros (x ∷ xs)) ≡ without_trailing_zeros (x ∷ xs)
trimmed_twice_by_test x xs true e same = rw e refl
trimmed_twice_by_test x xs false e same = rw (e, same, e) refl

trimmed_twice : (xs : List ℕ) → without_trailing_zeros (without_trailing_zeros xs) ≡ without_trailing_zeros xs
trimmed_twice [] = refl
trimmed_twice (x ∷ xs) = trimmed_twice_by_test x xs (x == 0 && is_empty (without_trailing_zeros xs)) refl
    (trimmed_twice xs)

-- ---- the bytes of a unit

first_by_test : (place : ℕ) (x : ℕ) (xs : List ℕ) (u : NalUnit) (us : List NalUnit) (t : Bool)
    → begins_with_start_code (x ∷ xs) ≡ t → units_at kept_bytes place (x ∷ xs) ≡ u ∷ us
    → (units_at kept_bytes (place + 1) xs ≡ u ∷ us
    → (ys : List ℕ) × (u.bytes ≡ kept_bytes (without_trailing_zeros (before_start_code ys))))
    → (ys : List ℕ) × (u.bytes ≡ kept_bytes (without_trailing_zeros (before_start_code ys)))
first_by_test place x xs u us true e cut later =
    let found : (record {
      offset = place + 3;
      bytes = kept_bytes (without_trailing_zeros (before_start_code (drop 2 xs)));
    } ∷ units_at kept_bytes (place + 1) xs) ≡ u ∷ us = rw e at cut in
    (drop 2 xs, cc found)
first_by_test place x xs u us false e cut later = later (rw e at cut)

first_bytes : (place : ℕ) (xs : List ℕ) (u : NalUnit) (us : List NalUnit)
    → units_at kept_bytes place xs ≡ u ∷ us
    → (ys : List ℕ) × (u.bytes ≡ kept_bytes (without_trailing_zeros (before_start_code ys)))
first_bytes place [] u us cut = absurd (cc cut)
first_bytes place (x ∷ xs) u us cut =
    first_by_test place x xs u us (begins_with_start_code (x ∷ xs)) refl cut (first_bytes (place + 1) xs u us)

offset_by_test : (place : ℕ) (x : ℕ) (xs : List ℕ) (u : NalUnit) (us : List NalUnit) (t : Bool)
    → begins_with_start_code (x ∷ xs) ≡ t → units_at kept_bytes place (x ∷ xs) ≡ u ∷ us
    → (units_at kept_bytes (place + 1) xs ≡ u ∷ us → place + 1 + 3 ≤ u.offset) → place + 3 ≤ u.offset
offset_by_test place x xs u us true e cut later =
    let found : (record {
      offset = place + 3;
      bytes = kept_bytes (without_trailing_zeros (before_start_code (drop 2 xs)));
    } ∷ units_at kept_bytes (place + 1) xs) ≡ u ∷ us = rw e at cut in
    let same : place + 3 ≡ u.offset = cc found in
    omega (arith, same)
offset_by_test place x xs u us false e cut later = let more = later (rw e at cut) in omega (arith, more)

first_offset : (place : ℕ) (xs : List ℕ) (u : NalUnit) (us : List NalUnit)
    → units_at kept_bytes place xs ≡ u ∷ us → place + 3 ≤ u.offset
first_offset place [] u us cut = absurd (cc cut)
first_offset place (x ∷ xs) u us cut =
    offset_by_test place x xs u us (begins_with_start_code (x ∷ xs)) refl cut (first_offset (place + 1) xs u us)

checked_by_tests : (h checked : UnitHeader) (a b : Bool)
    → (if a then Err (Rattle.hevc_spec.specs.UnitHeader.unspecified_type h.nal_unit_type) else if b then Err
    Rattle.hevc_spec.specs.UnitHeader.temporal_id_zero else Ok h) ≡ Ok checked → h ≡ checked
checked_by_tests h checked true b e = absurd (cc e)
checked_by_tests h checked false true e = absurd (cc e)
checked_by_tests h checked false false e = cc e

picture_set_type : (first second : ℕ) (rest : List ℕ) (h : UnitHeader)
    → unit_header (first ∷ second ∷ rest) ≡ Ok h → h.nal_unit_type ≡ 34 → first / 2 % 64 ≡ 34
picture_set_type first second rest h e t =
    let fields = header_fields first second in
    let same : fields ≡ h =
    checked_by_tests fields h (nat_le 48 fields.nal_unit_type) (fields.nuh_temporal_id_plus1 == 0) e in
    ap (λ (k : UnitHeader). k.nal_unit_type) same ∙ t

two_or_more : (first second : ℕ) (rest : List ℕ) → nat_le 2 (length (first ∷ second ∷ rest)) ≡ true
two_or_more first second rest = grind (arith, nat_tests)

-- a picture set keeps all of its bytes
whole_by_test : (first second : ℕ) (rest : List ℕ) (h : UnitHeader) (t : Bool) → is_end (first / 2 % 64) ≡ t
    → unit_header (kept_bytes (first ∷ second ∷ rest)) ≡ Ok h → h.nal_unit_type ≡ 34
    → kept_bytes (first ∷ second ∷ rest) ≡ first ∷ second ∷ rest
whole_by_test first second rest h true e parsed typed =
    let long = two_or_more first second rest in
    let two : unit_header (first ∷ second ∷ []) ≡ Ok h = rw (long, e) at parsed in
    let t = picture_set_type first second [] h two typed in
    let no : is_end 34 ≡ true = rw t at e in absurd (cc no)
whole_by_test first second rest h false e parsed typed = let long = two_or_more first second rest in rw (long, e) refl

whole : (bytes : List ℕ) (h : UnitHeader) → unit_header (kept_bytes bytes) ≡ Ok h → h.nal_unit_type ≡ 34
    → kept_bytes bytes ≡ bytes
whole [] h parsed typed = refl
whole (first ∷ []) h parsed typed = refl
whole (first ∷ second ∷ rest) h parsed typed =
    whole_by_test first second rest h (is_end (first / 2 % 64)) refl parsed typed

-- ---- cut out again

none_found : (place : ℕ) (xs : List ℕ) → HasNone xs → units_at kept_bytes place xs ≡ []
none_found place [] none = refl
none_found place (x ∷ xs) none = let is = none_first x xs none in rw (is.0) (none_found (place + 1) xs is.1)

no_code_at_zero_one : (xs : List ℕ) → begins_with_start_code (0 ∷ 1 ∷ xs) ≡ false
no_code_at_zero_one [] = refl
no_code_at_zero_one (x ∷ xs) = refl

no_code_at_one : (xs : List ℕ) → begins_with_start_code (1 ∷ xs) ≡ false
no_code_at_one [] = refl
no_code_at_one (x ∷ []) = refl
no_code_at_one (x ∷ y ∷ xs) = refl

one_unit : (bytes : List ℕ) → HasNone bytes → without_trailing_zeros bytes ≡ bytes
    → kept_bytes bytes ≡ bytes → units (0 ∷ 0 ∷ 1 ∷ bytes) ≡ record { offset = 3; bytes = bytes } ∷ []
unfolding units_from
one_unit bytes none trimmed kept =
    let rest : units_at kept_bytes 1 (0 ∷ 1 ∷ bytes) ≡ [] =
    rw (no_code_at_zero_one bytes, no_code_at_one bytes) (none_found 3 bytes none) in
    let own : kept_bytes (without_trailing_zeros (before_start_code bytes)) ≡ bytes = rw (none, trimmed) kept in
    ap (λ (us : List NalUnit). record {
      offset = 3;
      bytes = kept_bytes (without_trailing_zeros (before_start_code bytes));
    } ∷ us) rest
    ∙ ap (λ (bs : List ℕ). record { offset = 3; bytes = bs } ∷ []) own

parsed_by_answer : (r : Result UnitHeader HeaderFault) (h : UnitHeader) → answer_of r ≡ Ok h → r ≡ Ok h
parsed_by_answer (Ok header) h e = cc e
parsed_by_answer (Err fault) h e = absurd (cc e)

-- a unit's bytes have its header
pub has_header : (bytes : List ℕ) (h read : UnitHeader) → parsed_header bytes ≡ Ok read → read ≡ h
    → unit_header bytes ≡ Ok h
has_header bytes h read e same = parsed_by_answer (unit_header bytes) h (e ∙ ap Ok same)

pub cut_again : (place : ℕ) (stream : List ℕ) (u : NalUnit) (us : List NalUnit) (h : UnitHeader)
    → units_from kept_bytes place stream ≡ u ∷ us → unit_header u.bytes ≡ Ok h → h.nal_unit_type ≡ 34
    → units (0 ∷ 0 ∷ 1 ∷ u.bytes) ≡ record { offset = 3; bytes = u.bytes } ∷ []
unfolding units_from
cut_again place stream u us h cut parsed typed =
    let found = first_bytes place (drop place stream) u us cut in
    let cutted = without_trailing_zeros (before_start_code found.0) in
    let all : kept_bytes cutted ≡ cutted = whole cutted h (ap unit_header (sym found.1) ∙ parsed) typed in
    let same : u.bytes ≡ cutted = found.1 ∙ all in
    rw same (one_unit cutted (trimmed_has_none (before_start_code found.0) (before_has_none found.0))
    (trimmed_twice (before_start_code found.0)) all)

-- the bytes of a picture set after a start code are its stream
pub picture_set_stream : (unit : FoundUnit UnitHeader) (items : List ℕ) → items ≡ 0 ∷ 0 ∷ 1 ∷ bytes_of unit
    → IsCutOut kept_bytes unit → unit_header (bytes_of unit) ≡ Ok unit.header
    → unit.header.nal_unit_type ≡ 34 → length unit.stream < 2 ^ 60
    → IsPictureSetStream items
unfolding units_from
picture_set_stream unit items same cut header typed short =
    let one : units (0 ∷ 0 ∷ 1 ∷ bytes_of unit) ≡ record { offset = 3; bytes = bytes_of unit } ∷ [] =
    cut_again cut.0 unit.stream (unit_of unit) cut.1 unit.header cut.2 header typed in
    let behind = first_offset cut.0 (drop cut.0 unit.stream) (unit_of unit) cut.1 cut.2 in
    let long = length-take unit.size (drop unit.offset unit.stream) in
    let left = length-drop unit.offset unit.stream in
    rw same (record {
      one = one;
      header = unit.header;
      parsed = header;
      typed = typed;
      short = omega (arith, behind, long, left, short);
    })
