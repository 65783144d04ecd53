-- How late a picture comes.
use Rattle.std.proofs.Common.{◌≡◌, ℕ, ℤ, zero, suc, ◌+◌, ◌-◌, ◌<◌, ◌≤◌, Bool, true, false, not}
use Rattle.std.proofs.Common.{cond, ◌&&◌, ◌||◌, List, [], ◌∷◌, ◌++◌, length, refl, sym, ap, ◌∙◌}
use Rattle.std.proofs.Common.{subst, arith, Option, None, if◌then◌else◌}
use Rattle.std.specs.Prelude.{nat_lt, nat_le, int_lt, drop, filter}
use Rattle.std.specs.List.{list_any}
use Rattle.std.proofs.lemmas.Bool.Decides.{nat_tests}
use Rattle.std.proofs.lemmas.List.Sums.{sum_by-cons}
use Rattle.std.proofs.Math.Seq.{get_or-append_seam}
use Rattle.std.proofs.lemmas.List.{get_or_append_left}
use Rattle.hevc_walk.specs.Pictures.{Picture}
use Rattle.hevc_walk_order.specs.Sequences.{is_for_output}
use Rattle.hevc_walk_order.specs.DisplayOrder.{decoded_between}
use Rattle.hevc_check.specs.Late.{Fall, back, decoded_of, is_above, late_by}
use Rattle.hevc_check.specs.Filled.{is_below}
use Rattle.std.specs.Prelude.{slice_index_or}

-- by this picture, of which the one that n pictures are after is looked for, or by an earlier one
abbrev pub late_at : ℤ → ℕ → Picture → Bool → Bool
late_at c zero p later = is_above c p || later
late_at c (suc n) p later = later

-- a skipped picture is passed over, and a decoded one is one of the n
pub late-cons : (c : ℤ) (n : ℕ) (p : Picture) (es : List Picture)
    → late_by c n (p ∷ es) ≡ (if p.skipped then late_by c n es else late_at c n p (late_by c (n - 1) es))
late-cons c n p es = by p.skipped n
  where
    by : (s : Bool) (m : ℕ)
        → list_any (is_above c) (drop m (cond (not s) (p ∷ decoded_of es) (decoded_of es)))
        ≡ (if s then late_by c m es else late_at c m p (late_by c (m - 1) es))
    by true m = refl
    by false zero =
        let none : 0 - 1 ≡ 0 = omega arith in
        ap (λ (k : ℕ). is_above c p || late_by c k es) (sym none)
    by false (suc k) =
        let less : k ≡ suc k - 1 = omega arith in
        ap (λ (j : ℕ). late_by c j es) less

-- none is late after no picture
pub late-none : (c : ℤ) (n : ℕ) → late_by c n [] ≡ false
late-none c zero = refl
late-none c (suc n) = refl

-- of no pictures no count is kept
pub none_kept : (c : ℤ) (n : ℕ) → is_below c (back n []) ≡ late_by c n []
none_kept c n =
    let none : nat_lt n 0 ≡ false = grind (arith, nat_tests) in
    ap (λ (t : Bool). is_below c (if t then slice_index_or [] (0 - 1 - n) None else None)) none
    ∙ sym (late-none c n)

is_between : ℕ → ℕ → Picture → Bool
is_between m n p = not p.skipped && nat_lt m p.number && nat_lt p.number n

abbrev one_of : Bool → ℕ
one_of b = cond b 1 0

between-cons : (m n : ℕ) (p : Picture) (es : List Picture)
    → decoded_between m n (p ∷ es) ≡ one_of (is_between m n p) + decoded_between m n es
unfolding is_between
between-cons m n p es =
    sum_by-cons (λ (q : Picture). cond (not q.skipped && nat_lt m q.number && nat_lt q.number n) 1 0) p es

test-false : (a b c : Bool) → b ≡ false → a && b && c ≡ false
test-false true b c h = ap (λ (x : Bool). x && c) h
test-false false b c h = refl

below-false : (m n k : ℕ) → k ≤ m → nat_lt m k ≡ false
below-false m n k h = grind (arith, nat_tests)

-- those before a picture aren't decoded after it
none-after : (m n k : ℕ) (es : List Picture) → k ≤ m + 1 → Fall k es → decoded_between m n es ≡ 0
unfolding is_between
none-after m n k [] h f = refl
none-after m n k (p ∷ es) h f =
    let low : p.number ≤ m = omega (arith, h, f.0) in
    let here : one_of (is_between m n p) ≡ 0 =
    ap one_of (test-false (not p.skipped) (nat_lt m p.number) (nat_lt p.number n) (below-false m n p.number low)) in
    let more = none-after m n p.number es (omega (arith, low)) f.1 in
    let sum = between-cons m n p es in
    omega (arith, here, more, sum)

above-true : (m n : ℕ) → m < n → nat_lt m n ≡ true
above-true m n h = grind (arith, nat_tests)

-- the pictures before another bound are below it too
same-bound : (m n k : ℕ) (es : List Picture) → k ≤ n → Fall k es → decoded_between m n es ≡ decoded_between m k es
unfolding is_between
same-bound m n k [] h f = refl
same-bound m n k (p ∷ es) h f =
    let a : nat_lt p.number n ≡ true = above-true p.number n (omega (arith, h, f.0)) in
    let b : nat_lt p.number k ≡ true = above-true p.number k f.0 in
    let here : is_between m n p ≡ is_between m k p =
    ap (λ (x : Bool). not p.skipped && nat_lt m p.number && x) (a ∙ sym b) in
    let more : decoded_between m n es ≡ decoded_between m p.number es =
    same-bound m n p.number es (omega (arith, h, f.0)) f.1 in
    let other : decoded_between m k es ≡ decoded_between m p.number es =
    same-bound m k p.number es (omega (arith, f.0)) f.1 in
    between-cons m n p es ∙ ap (λ (x : Bool). one_of x + decoded_between m n es) here
    ∙ ap (λ (x : ℕ). one_of (is_between m k p) + x) (more ∙ sym other) ∙ sym (between-cons m k p es)

-- how many are decoded after each of some pictures, where d are after the first of them
abbrev After : ℕ → List Picture → ℕ → List Picture → Type 0
After n all d [] = Unit {0}
After n all d (p ∷ es) = (decoded_between p.number n all ≡ d) × After n all (if p.skipped then d else d + 1) es

with-one : (d : ℕ) (s : Bool) (o : ℕ) → (if s then d + o else d + o + 1) ≡ (if s then d else d + 1) + o
with-one d true o = refl
with-one d false o = omega arith

between-first : (m n : ℕ) (p : Picture) → m < p.number → p.number < n → is_between m n p ≡ not p.skipped
unfolding is_between
between-first m n p low high = rw (above-true m p.number low, above-true p.number n high) (and-true (not p.skipped))
  where
    and-true : (b : Bool) → b && true && true ≡ b
    and-true true = refl
    and-true false = refl

after-more : (n d : ℕ) (q : Picture) (all es : List Picture) (k : ℕ) → q.number < n → Fall q.number all → k ≤ q.number
    → Fall k es → After q.number all d es → After n (q ∷ all) (d + one_of (not q.skipped)) es
after-more n d q all [] k high f low g h = tt
after-more n d q all (p ∷ es) k high f low g h = (
  between-cons p.number n q all
      ∙ ap (λ (b : Bool). one_of b + decoded_between p.number n all)
      (between-first p.number n q (omega (arith, low, g.0)) high)
      ∙ ap (λ (x : ℕ). one_of (not q.skipped) + x) (same-bound p.number n q.number all (omega (arith, high)) f ∙ h.0)
      ∙ omega arith,
  subst (λ (x : ℕ). After n (q ∷ all) x es) (sym (with-one d p.skipped (one_of (not q.skipped))))
      (after-more n (if p.skipped then d else d + 1) q all es p.number high f (omega (arith, low, g.0)) g.1 h.1),
)

first-after : (s : Bool) → 0 + one_of (not s) ≡ (if s then 0 else 0 + 1)
first-after true = refl
first-after false = refl

after-all : (n : ℕ) (es : List Picture) → Fall n es → After n es 0 es
unfolding is_between
after-all n [] f = tt
after-all n (p ∷ es) f =
    let own : one_of (is_between p.number n p) ≡ 0 =
    ap one_of
    (test-false (not p.skipped) (nat_lt p.number p.number) (nat_lt p.number n)
    (below-false p.number n p.number (omega arith))) in
    let none = none-after p.number n p.number es (omega arith) f.1 in
    let sum = between-cons p.number n p es in
    let zeros : decoded_between p.number n (p ∷ es) ≡ 0 = omega (arith, own, none, sum) in (
      zeros,
      subst (λ (x : ℕ). After n (p ∷ es) x es) (first-after p.skipped)
          (after-more n 0 p es es p.number f.0 f.1 (omega arith) f.1 (after-all p.number es f.1)),
    )

module _ (c : ℤ) (l n : ℕ) (all : List Picture) where
  abbrev comes : Picture → Bool
  comes b = int_lt c b.order_count && nat_le l (decoded_between b.number n all)

  any-cons : (b : Bool) (p : Picture) (xs : List Picture)
      → list_any comes (cond b (p ∷ xs) xs) ≡ (b && comes p) || list_any comes xs
  any-cons true p xs = refl
  any-cons false p xs = refl

  le-false : (d : ℕ) → d < l → nat_le l d ≡ false
  le-false d h = grind (arith, nat_tests)

  le-true : (d : ℕ) → l ≤ d → nat_le l d ≡ true
  le-true d h = grind (arith, nat_tests)

  pub late-from : (d : ℕ) (es : List Picture) → After n all d es
      → list_any comes (filter is_for_output es) ≡ late_by c (l - d) es
  late-from d [] h = sym (late-none c (l - d))
  late-from d (p ∷ es) h =
      any-cons (is_for_output p) p (filter is_for_output es)
      ∙ by_skipped p.skipped refl (late-from (if p.skipped then d else d + 1) es h.1)
      ∙ sym (late-cons c (l - d) p es)
    where
      and-none : (a b : Bool) → b ≡ false → a && b ≡ false
      and-none true b e = e
      and-none false b e = refl

      nothing : (a b x : Bool) → b ≡ false → (a && b) || x ≡ x
      nothing a b x e = ap (λ (y : Bool). y || x) (and-none a b e)

      by_skipped : (s : Bool) → p.skipped ≡ s
          → list_any comes (filter is_for_output es) ≡ late_by c (l - (if s then d else d + 1)) es
          → (is_for_output p && comes p)
          || list_any comes (filter is_for_output es)
          ≡ cond s (late_by c (l - d) es) (late_at c (l - d) p (late_by c (l - d - 1) es))
      by_skipped true e more =
          let hidden : is_for_output p ≡ false = and-none p.pic_output_flag (not p.skipped) (ap not e) in
          ap (λ (y : Bool). (y && comes p) || list_any comes (filter is_for_output es)) hidden ∙ more
      by_skipped false e more = by_left (l - d) refl
        where
          less : (m : ℕ) → l - d ≡ m → l - (d + 1) ≡ m - 1
          less m h = omega (arith, h)

          by_left : (m : ℕ) → l - d ≡ m
              → (is_for_output p && comes p)
              || list_any comes (filter is_for_output es) ≡ late_at c m p (late_by c (m - 1) es)
          by_left zero left =
              let soon : comes p ≡ int_lt c p.order_count =
              ap (λ (x : ℕ). int_lt c p.order_count && nat_le l x) h.0
              ∙ ap (λ (x : Bool). int_lt c p.order_count && x) (le-true d (omega (arith, left)))
              ∙ and-true (int_lt c p.order_count) in
              ap (λ (x : Bool). (is_for_output p && x) || list_any comes (filter is_for_output es)) soon
              ∙ ap (λ (x : Bool). (is_for_output p && int_lt c p.order_count) || x)
              (more ∙ ap (λ (x : ℕ). late_by c x es) (less zero left))
            where
              and-true : (b : Bool) → b && true ≡ b
              and-true true = refl
              and-true false = refl
          by_left (suc m) left =
              let late : comes p ≡ false =
              ap (λ (x : ℕ). int_lt c p.order_count && nat_le l x) h.0
              ∙ and-none (int_lt c p.order_count) (nat_le l d) (le-false d (omega (arith, left))) in
              nothing (is_for_output p) (comes p) (list_any comes (filter is_for_output es)) late ∙ more
              ∙ ap (λ (x : ℕ). late_by c x es) (less (suc m) left)

-- a picture comes late after one of those before it
pub late-is : (c : ℤ) (l n : ℕ) (es : List Picture) → Fall n es
    → list_any (λ b. int_lt c b.order_count && nat_le l (decoded_between b.number n es)) (filter is_for_output es)
    ≡ late_by c l es
late-is c l n es f =
    let all : l - 0 ≡ l = omega arith in
    late-from c l n es 0 es (after-all n es f) ∙ ap (λ (x : ℕ). late_by c x es) all

-- ---- the highest counts so far

lt-true : (m n : ℕ) → m < n → nat_lt m n ≡ true
lt-true m n h = grind (arith, nat_tests)

lt-false : (m n : ℕ) → n ≤ m → nat_lt m n ≡ false
lt-false m n h = grind (arith, nat_tests)

length-push : {X : Type 0} (xs : List X) (x : X) → length (xs ++ x ∷ []) ≡ length xs + 1
length-push [] x = refl
length-push (y ∷ xs) x = let more = length-push xs x in omega (arith, more)

back-last : (t : Option ℤ) (xs : List (Option ℤ)) → back 0 (xs ++ t ∷ []) ≡ t
back-last t xs =
    let n = length-push xs t in
    let some : nat_lt 0 (length (xs ++ t ∷ [])) ≡ true = lt-true 0 (length (xs ++ t ∷ [])) (omega (arith, n)) in
    let place : length (xs ++ t ∷ []) - 1 - 0 ≡ length xs = omega (arith, n) in
    ap (λ (b : Bool). if b then slice_index_or (xs ++ t ∷ []) (length (xs ++ t ∷ []) - 1 - 0) None else None) some
    ∙ ap (λ (i : ℕ). slice_index_or (xs ++ t ∷ []) i None) place ∙ get_or-append_seam xs t [] None

back-more : (n : ℕ) (t : Option ℤ) (xs : List (Option ℤ)) → back (n + 1) (xs ++ t ∷ []) ≡ back n xs
back-more n t xs = by (nat_lt n (length xs)) refl
  where
    len : length (xs ++ t ∷ []) ≡ length xs + 1
    len = length-push xs t

    by : (b : Bool) → nat_lt n (length xs) ≡ b
        → back (n + 1) (xs ++ t ∷ []) ≡ (if b then slice_index_or xs (length xs - 1 - n) None else None)
    by true e =
        let less : n < length xs = grind (arith, nat_tests, e) in
        let some : nat_lt (n + 1) (length (xs ++ t ∷ [])) ≡ true =
        lt-true (n + 1) (length (xs ++ t ∷ [])) (omega (arith, len, less)) in
        let place : length (xs ++ t ∷ []) - 1 - (n + 1) ≡ length xs - 1 - n = omega (arith, len, less) in
        let within : length xs - 1 - n < length xs = omega (arith, less) in
        ap (λ (b : Bool). if b then slice_index_or (xs ++ t ∷ []) (length (xs ++ t ∷ []) - 1 - (n + 1)) None else None)
        some ∙ ap (λ (i : ℕ). slice_index_or (xs ++ t ∷ []) i None) place
        ∙ get_or_append_left xs (t ∷ []) None (length xs - 1 - n) within
    by false e =
        let many : length xs ≤ n = grind (arith, nat_tests, e) in
        let none : nat_lt (n + 1) (length (xs ++ t ∷ [])) ≡ false =
        lt-false (n + 1) (length (xs ++ t ∷ [])) (omega (arith, len, many)) in
        ap (λ (b : Bool). if b then slice_index_or (xs ++ t ∷ []) (length (xs ++ t ∷ []) - 1 - (n + 1)) None else None)
        none

-- one more decoded picture
pub pushed-late : (p : Picture) (es : List Picture) (count t : Option ℤ) (xs ys : List (Option ℤ)) → p.skipped ≡ false
    → ((c : ℤ) → is_below c count ≡ (is_for_output p && int_lt c p.order_count))
    → ((c : ℤ) → is_below c t ≡ (is_below c count || is_below c (back 0 xs))) → ys ≡ xs ++ t ∷ []
    → ((c : ℤ) (n : ℕ) → is_below c (back n xs) ≡ late_by c n es) → (c : ℤ) (n : ℕ)
    → is_below c (back n ys) ≡ late_by c n (p ∷ es)
pushed-late p es count t xs ys decoded own higher is so_far c n =
    ap (λ (l : List (Option ℤ)). is_below c (back n l)) is ∙ by n
    ∙ ap (λ (b : Bool). if b then late_by c n es else late_at c n p (late_by c (n - 1) es)) (sym decoded)
    ∙ sym (late-cons c n p es)
  where
    by : (n : ℕ) → is_below c (back n (xs ++ t ∷ [])) ≡ late_at c n p (late_by c (n - 1) es)
    by zero =
        let none : 0 - 1 ≡ 0 = omega arith in
        ap (is_below c) (back-last t xs) ∙ higher c ∙ ap (λ (b : Bool). b || is_below c (back 0 xs)) (own c)
        ∙ ap (λ (b : Bool). (is_for_output p && int_lt c p.order_count) || b) (so_far c 0)
        ∙ ap (λ (k : ℕ). (is_for_output p && int_lt c p.order_count) || late_by c k es) (sym none)
    by (suc k) =
        let next : suc k ≡ k + 1 = omega arith in
        let less : k ≡ suc k - 1 = omega arith in
        ap (λ (j : ℕ). is_below c (back j (xs ++ t ∷ []))) next ∙ ap (is_below c) (back-more k t xs) ∙ so_far c k
        ∙ ap (λ (j : ℕ). late_by c j es) less
