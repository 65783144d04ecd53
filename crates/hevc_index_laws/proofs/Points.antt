-- The points are in order, and each begins at a unit of the stream.
use Rattle.std.proofs.Common.{◌≡◌, ◌⊎◌, inl, inr, ℕ, zero, suc, ◌+◌, ◌<◌, Bool, true, false, cond}
use Rattle.std.proofs.Common.{◌||◌, List, [], ◌∷◌, ◌++◌, length, filter, reverse, refl, sym, ap}
use Rattle.std.proofs.Common.{subst, ◌∙◌, arith, AllPairs, Option, Some, None, add-zero, zero-add}
use Rattle.std.specs.Prelude.{All, Contains, find, slice_index_or, IfSome, ◌==◌}
use Rattle.std.proofs.lemmas.Bool.{and_parts, eqb-true}
use Rattle.std.proofs.lemmas.Bool.Decides.{nat_tests}
use Rattle.std.proofs.lemmas.Grind.{reverse_onto}
use Rattle.std.proofs.lemmas.List.Elements.{All-contains_itself, All-cons, All-filter, All-head}
use Rattle.std.proofs.lemmas.List.Elements.{All-nil, All-tail, All-weaker, filter_passes}
use Rattle.std.proofs.lemmas.List.Kept.{AllPairs-filter}
use Rattle.std.proofs.lemmas.List.Quantifiers.{all_pairs_push}
use Rattle.std.proofs.lemmas.List.Sorted.{All-permutation, Contains-permutation, IsPermutation-reverse}
use Rattle.hevc_spec.specs.UnitTypes.{is_idr, is_bla}
use Rattle.hevc_walk.specs.DependentSlices.{whole_slice}
use Rattle.hevc_walk.specs.Meanings.{Slice, Meaning, SequenceSet, CodedSlice, EndOfSequence}
use Rattle.hevc_walk.specs.Meanings.{EndOfBitstream, Other, Refused}
use Rattle.hevc_walk.specs.Pictures.{Picture, Stream, new_picture, nothing_yet, pictures}
use Rattle.hevc_walk.specs.Pictures.{stream_from, with_bitstream_end, with_sequence_end, with_slice}
use Rattle.hevc_walk.specs.Pictures.{with_unit, with_whole}
use Rattle.hevc_walk_fates.proofs.Numbers.{Numbered, numbered-length, stream-numbered}
use Rattle.hevc_walk_splice.specs.Splicing.{IsPoint}
use Rattle.hevc_index_laws.specs.Points.{is_point, point_numbered, points}

-- ---- places

-- each picture begins before the later ones, and all before unit k
abbrev Placed : ℕ → List Picture → Type 0
Placed k [] = Unit {0}
Placed k (p ∷ before) = (p.unit < k) × Placed p.unit before

placed_more : (k : ℕ) (ps : List Picture) → Placed k ps → Placed (k + 1) ps
placed_more k [] h = tt
placed_more k (p ∷ before) h = let lt = h.0 in (omega arith, h.1)

placed_slice : (k : ℕ) (s : Slice) (ps : List Picture) → Placed k ps → Placed (k + 1) (with_slice k s ps)
placed_slice k s [] h = (omega arith, tt)
placed_slice k s (p ∷ before) h = by_test s.first_slice_segment_in_pic_flag
  where
    by_test : (b : Bool)
        → Placed (k + 1)
        (cond b (new_picture k s (p ∷ before) ∷ p ∷ before)
        (record p { slices = p.slices ++ (k, s) ∷ [] } ∷ before))
    by_test true = (omega arith, h)
    by_test false = let lt = h.0 in (omega arith, h.1)

placed_whole : (k : ℕ) (s : Option Slice) (ps : List Picture) → Placed k ps → Placed (k + 1) (with_whole k s ps)
placed_whole k None ps h = placed_more k ps h
placed_whole k (Some s) ps h = placed_slice k s ps h

placed_sequence_end : (k : ℕ) (ps : List Picture) → Placed k ps → Placed k (with_sequence_end ps)
placed_sequence_end k [] h = h
placed_sequence_end k (p ∷ before) h = h

placed_bitstream_end : (k : ℕ) (ps : List Picture) → Placed k ps → Placed k (with_bitstream_end ps)
placed_bitstream_end k [] h = h
placed_bitstream_end k (p ∷ before) h = h

placed_unit : (k : ℕ) (u : Meaning) (v : Stream) → Placed k v.pictures → Placed (k + 1) (with_unit k u v).pictures
placed_unit k (SequenceSet format) v h = placed_more k v.pictures h
placed_unit k (CodedSlice s) v h = placed_whole k (whole_slice v.kept s) v.pictures h
placed_unit k EndOfSequence v h = placed_more k (with_sequence_end v.pictures) (placed_sequence_end k v.pictures h)
placed_unit k EndOfBitstream v h = placed_more k (with_bitstream_end v.pictures) (placed_bitstream_end k v.pictures h)
placed_unit k Other v h = placed_more k v.pictures h
placed_unit k (Refused cause) v h = placed_more k v.pictures h

placed_from : (k : ℕ) (v : Stream) (us : List Meaning) → Placed k v.pictures
    → Placed (k + length us) (stream_from k v us).pictures
placed_from k v [] h = subst (λ (n : ℕ). Placed n v.pictures) (sym (add-zero k)) h
placed_from k v (u ∷ us) h =
    let far : k + 1 + length us ≡ k + suc (length us) = omega arith in
    subst (λ (n : ℕ). Placed n (stream_from (k + 1) (with_unit k u v) us).pictures) far
    (placed_from (k + 1) (with_unit k u v) us (placed_unit k u v h))

-- ---- order

abbrev IsBefore : Picture → Picture → Type 0
IsBefore p q = (p.number < q.number) × (p.unit < q.unit)

abbrev IsBelow : ℕ → ℕ → Picture → Type 0
IsBelow n k p = (p.number < n) × (p.unit < k)

all_below : (k : ℕ) (ps : List Picture) → Numbered ps → Placed k ps → All (IsBelow (length ps) k) ps
all_below k [] h r = All-nil (IsBelow 0 k)
all_below k (p ∷ before) h r =
    let number : p.number ≡ length before = h.0 ∙ numbered-length before h.1 in
    let lt = r.0 in
    All-cons (IsBelow (suc (length before)) k) p before (omega (arith, number), lt)
    (All-weaker (IsBelow (length before) p.unit) (IsBelow (suc (length before)) k) (weaker lt) before
    (all_below p.unit before h.1 r.1))
  where
    weaker : p.unit < k → (q : Picture) → IsBelow (length before) p.unit q → IsBelow (suc (length before)) k q
    weaker lt q b = let m = b.0 in let v = b.1 in (omega arith, omega arith)

all_reversed : (P : Picture → Type 0) (ps : List Picture) → All P ps → All P (reverse ps)
all_reversed P ps all = All-permutation P ps (reverse ps) (IsPermutation-reverse ps) all

in_order : (k : ℕ) (ps : List Picture) → Numbered ps → Placed k ps → AllPairs IsBefore (reverse ps)
in_order k [] h r = λ i j d lt within. absurd (omega arith)
in_order k (p ∷ before) h r =
    let number : length before ≡ p.number = sym (h.0 ∙ numbered-length before h.1) in
    let below : All (IsBelow p.number p.unit) before =
    subst (λ (n : ℕ). All (IsBelow n p.unit) before) number (all_below p.unit before h.1 r.1) in
    subst (AllPairs IsBefore) (sym (reverse_onto before p []))
    (all_pairs_push IsBefore (reverse before) p (in_order p.unit before h.1 r.1)
    (all_reversed (IsBelow p.number p.unit) before below))

numbered : (us : List Meaning) → Numbered (pictures us)
numbered us = stream-numbered 0 nothing_yet us tt

placed : (us : List Meaning) → Placed (length us) (pictures us)
placed us = subst (λ (n : ℕ). Placed n (pictures us)) (zero-add (length us)) (placed_from 0 nothing_yet us tt)

points_rise : (us : List Meaning) → AllPairs IsBefore (points us)
points_rise us =
    AllPairs-filter IsBefore is_point (reverse (pictures us))
    (in_order (length us) (pictures us) (numbered us) (placed us))

pub numbers_rise : (us : List Meaning) → AllPairs (λ p q. p.number < q.number) (points us)
numbers_rise us i j d lt within = (points_rise us i j d lt within).0

pub units_rise : (us : List Meaning) → AllPairs (λ p q. p.unit < q.unit) (points us)
units_rise us i j d lt within = (points_rise us i j d lt within).1

pub units_within : (us : List Meaning) → All (λ p. p.unit < length us) (points us)
units_within us k d within =
    (All-filter is_point (IsBelow (length (pictures us)) (length us)) (reverse (pictures us))
    (all_reversed (IsBelow (length (pictures us)) (length us)) (pictures us)
    (all_below (length us) (pictures us) (numbered us) (placed us))) k d within).1

-- ---- the points and no others

parts : (p : Picture) → is_point p ≡ true
    → (is_idr p.nal_unit_type || is_bla p.nal_unit_type ≡ true) × (p.first.temporal_id ≡ 0)
parts p e = let both = and_parts _ _ e in (both.0, eqb-true p.first.temporal_id 0 both.1)

passes : (us : List Meaning) (p : Picture) → IsPoint us p → is_point p ≡ true
passes us p is = rw (is.nal_unit_type, is.temporal_id) refl

pub are_points : (us : List Meaning) → All (IsPoint us) (points us)
are_points us k d within =
    let among =
    All-filter is_point (Contains (pictures us)) (reverse (pictures us))
    (all_reversed (Contains (pictures us)) (pictures us) (All-contains_itself (pictures us))) k d within in
    let test = parts (slice_index_or (points us) k d) (filter_passes is_point (reverse (pictures us)) k d within) in
    record { among = among; nal_unit_type = test.0; temporal_id = test.1 }

cases : {X : Type 0} (y x : X) (xs : List X) → Contains (y ∷ xs) x → (y ≡ x) ⊎ Contains xs x
cases y x xs (zero, lt, e) = inl e
cases y x xs (suc k, lt, e) = inr (k, omega arith, e)

more : {X : Type 0} (y x : X) (xs : List X) → Contains xs x → Contains (y ∷ xs) x
more y x xs (k, lt, e) = (suc k, omega arith, e)

kept_filter : (test : Picture → Bool) (xs : List Picture) (x : Picture) → test x ≡ true → Contains xs x
    → Contains (filter test xs) x
kept_filter test [] x e c = c
kept_filter test (y ∷ xs) x e c = by_test (test y) refl (cases y x xs c) (kept_filter test xs x e)
  where
    by_test : (b : Bool) → test y ≡ b → (y ≡ x) ⊎ Contains xs x → (Contains xs x → Contains (filter test xs) x)
        → Contains (cond b (y ∷ filter test xs) (filter test xs)) x
    by_test true f (inl same) later = (zero, omega arith, same)
    by_test true f (inr c) later = more y x (filter test xs) (later c)
    by_test false f (inl same) later = absurd (cc (e, f, same))
    by_test false f (inr c) later = later c

pub contain_points : (us : List Meaning) (p : Picture) → IsPoint us p → Contains (points us) p
contain_points us p is =
    kept_filter is_point (reverse (pictures us)) p (passes us p is)
    (Contains-permutation (pictures us) (reverse (pictures us)) p (IsPermutation-reverse (pictures us)) is.among)

-- ---- the point of a number

find_by : (n : ℕ) (P : Picture → Type 0) (xs : List Picture) → All P xs
    → IfSome (find (λ p. p.number == n) xs) (λ p. P p × (p.number ≡ n))
find_by n P [] all = tt
find_by n P (x ∷ xs) all = by_test (x.number == n) refl (find_by n P xs (All-tail P x xs all))
  where
    by_test : (b : Bool) → (x.number == n) ≡ b → IfSome (find (λ p. p.number == n) xs) (λ p. P p × (p.number ≡ n))
        → IfSome (cond b (Some x) (find (λ p. p.number == n) xs)) (λ p. P p × (p.number ≡ n))
    by_test true e later = (All-head P x xs all, eqb-true x.number n e)
    by_test false e later = later

pub numbered_is_point : (us : List Meaning) (n : ℕ) → IfSome (point_numbered n us) (λ p. IsPoint us p × (p.number ≡ n))
numbered_is_point us n = find_by n (IsPoint us) (points us) (are_points us)

finds : (xs : List Picture) (p : Picture) → AllPairs (λ p q. p.number < q.number) xs → Contains xs p
    → find (λ q. q.number == p.number) xs ≡ Some p
finds [] p rise c = let lt = c.1 in absurd (omega arith)
finds (x ∷ xs) p rise c =
    by_case (cases x p xs c) (finds xs p (λ i j d lt within. rise (suc i) (suc j) d (omega arith) (omega arith)))
  where
    before : Contains xs p → x.number < p.number
    before (k, lt, e) = subst (λ (q : Picture). x.number < q.number) e (rise 0 (suc k) p (omega arith) (omega arith))

    by_case : (x ≡ p) ⊎ Contains xs p → (Contains xs p → find (λ q. q.number == p.number) xs ≡ Some p)
        → cond (x.number == p.number) (Some x) (find (λ q. q.number == p.number) xs) ≡ Some p
    by_case (inl same) later =
        let is : (x.number == p.number) ≡ true = grind (arith, nat_tests, ap (λ (q : Picture). q.number) same) in
        rw is (ap (λ (q : Picture). Some q) same)
    by_case (inr c) later =
        let lt = before c in
        let other : (x.number == p.number) ≡ false = grind (arith, nat_tests, lt) in
        rw other (later c)

pub point_is_found : (us : List Meaning) (p : Picture) → IsPoint us p → point_numbered p.number us ≡ Some p
point_is_found us p is = finds (points us) p (numbers_rise us) (contain_points us p is)
