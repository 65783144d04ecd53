-- What it says that a test fails.
use Rattle.std.proofs.Common.{◌≡◌, ◌≢◌, ℕ, ℤ, ◌<◌, ◌≤◌, ◌<ℤ◌, Bool, true, false, not, ◌&&◌, ◌||◌}
use Rattle.std.proofs.Common.{eqb, int_eq, List, [], ◌∷◌, refl, ◌∙◌, ap, subst, arith}
use Rattle.std.specs.Prelude.{Decides, nat_lt, nat_le, int_lt}
use Rattle.std.specs.List.{list_any, AllByRecursion as Each}
use Rattle.std.proofs.lemmas.Int.{ints}
use Rattle.std.proofs.lemmas.Bool.Decides.{nat_tests, Decides-and, Decides-not, Decides-like}
use Rattle.std.proofs.lemmas.Bool.Decides.{Decides-eqb, Decides-int_eq}
use Rattle.hevc_walk.specs.Meanings.{Format, Limits, same_format}
use Rattle.hevc_walk_fates.proofs.Accepted.{same_format-equal}
use Rattle.hevc_walk_order.specs.Tests.{same_limits}
use Rattle.hevc_walk_order.proofs.Parts.{same_format-own}

-- a test that fails exactly where a fact holds
abbrev pub Fails : Bool → Type 0 → Type 0
Fails t P = Decides (not t) P

un_not : (t : Bool) → not t ≡ true → t ≡ false
un_not true h = absurd (cc h)
un_not false h = refl

pub fact-of : {P : Type 0} (t : Bool) → Fails t P → t ≡ false → P
fact-of t d h = d.0 (ap not h)

pub fails-of : {P : Type 0} (t : Bool) → Fails t P → P → t ≡ false
fails-of t d p = un_not t (d.1 p)

pub fails-and : {P : Type 0} (a t : Bool) → Fails t P → Fails (a && t) (a ≡ true → P)
fails-and true t d = (λ h is. d.0 h, λ h. d.1 (h refl))
fails-and false t d = (λ h is. absurd (cc is), λ h. refl)

pub fails-unless : {P : Type 0} (a t : Bool) → Fails t P → Fails (not a && t) (a ≡ false → P)
fails-unless true t d = (λ h is. absurd (cc is), λ h. refl)
fails-unless false t d = (λ h is. d.0 h, λ h. d.1 (h refl))

pub fails-where : {P Q : Type 0} (a t : Bool) → Decides a P → Fails t Q → Fails (a && t) (P → Q)
fails-where a t d k = Decides-like (not (a && t)) (λ h p. h (d.1 p)) (λ h is. h (d.0 is)) (fails-and a t k)

pub fails-not : {P : Type 0} (t : Bool) → Decides t P → Fails (not t) P
fails-not true d = d
fails-not false d = d

pub fails-any : {X : Type 0} (test : X → Bool) (P : X → Type 0) → ((x : X) → Fails (test x) (P x)) → (xs : List X)
    → Fails (list_any test xs) (Each P xs)
fails-any test P each [] = (λ h. tt, λ h. refl)
fails-any test P each (x ∷ xs) = by_test (test x) (list_any test xs) (each x) (fails-any test P each xs)
  where
    by_test : (a t : Bool) → Fails a (P x) → Fails t (Each P xs) → Fails (a || t) (Each P (x ∷ xs))
    by_test true t d k = (λ h. absurd (cc h), λ h. absurd (clash (d.1 h.0)))
      where
        clash : false ≡ true → ⊥
        clash h = absurd (cc h)
    by_test false t d k = (λ h. (d.0 refl, k.0 h), λ h. k.1 h.1)

pub fails-le : (m n : ℕ) → Fails (nat_le m n) (n < m)
fails-le m n = (passes m n, holds m n)
  where
    passes : (m n : ℕ) → not (nat_le m n) ≡ true → n < m
    passes m n h = grind (arith, nat_tests)

    holds : (m n : ℕ) → n < m → not (nat_le m n) ≡ true
    holds m n h = grind (arith, nat_tests)

pub fails-lt : (m n : ℕ) → Fails (nat_lt m n) (n ≤ m)
fails-lt m n = (passes m n, holds m n)
  where
    passes : (m n : ℕ) → not (nat_lt m n) ≡ true → n ≤ m
    passes m n h = grind (arith, nat_tests)

    holds : (m n : ℕ) → n ≤ m → not (nat_lt m n) ≡ true
    holds m n h = grind (arith, nat_tests)

pub lt-tells : (m n : ℕ) → Decides (nat_lt m n) (m < n)
lt-tells m n = (passes m n, holds m n)
  where
    passes : (m n : ℕ) → nat_lt m n ≡ true → m < n
    passes m n h = grind (arith, nat_tests)

    holds : (m n : ℕ) → m < n → nat_lt m n ≡ true
    holds m n h = grind (arith, nat_tests)

pub below-tells : (a b : ℤ) → Decides (int_lt a b) (a <ℤ b)
below-tells a b = (passes a b, holds a b)
  where
    passes : (a b : ℤ) → int_lt a b ≡ true → a <ℤ b
    passes a b h = grind (arith, ints)

    holds : (a b : ℤ) → a <ℤ b → int_lt a b ≡ true
    holds a b h = grind (arith, ints)

pub fails-equal : (a b : ℤ) → Fails (int_eq a b) (a ≢ b)
fails-equal a b = Decides-not (int_eq a b) (Decides-int_eq a b)

limits_of : ℕ → ℕ → ℕ → Limits
limits_of m n k = record { max_num_reorder_pics = m; max_latency_increase_plus1 = n; max_dec_pic_buffering_minus1 = k }

limits-tell : (a b : Limits) → Decides (same_limits a b) (a ≡ b)
unfolding limits_of
limits-tell a b = Decides-like (same_limits a b)
    (λ h. ap (λ m. limits_of m a.max_latency_increase_plus1 a.max_dec_pic_buffering_minus1) h.0.0
    ∙ ap (λ n. limits_of b.max_num_reorder_pics n a.max_dec_pic_buffering_minus1) h.0.1
    ∙ ap (λ k. limits_of b.max_num_reorder_pics b.max_latency_increase_plus1 k) h.1)
    (λ h. (
      (ap (λ (l : Limits). l.max_num_reorder_pics) h, ap (λ (l : Limits). l.max_latency_increase_plus1) h),
      ap (λ (l : Limits). l.max_dec_pic_buffering_minus1) h,
    ))
    (Decides-and
    (eqb a.max_num_reorder_pics b.max_num_reorder_pics
    && eqb a.max_latency_increase_plus1 b.max_latency_increase_plus1)
    (eqb a.max_dec_pic_buffering_minus1 b.max_dec_pic_buffering_minus1)
    (Decides-and (eqb a.max_num_reorder_pics b.max_num_reorder_pics)
    (eqb a.max_latency_increase_plus1 b.max_latency_increase_plus1)
    (Decides-eqb a.max_num_reorder_pics b.max_num_reorder_pics)
    (Decides-eqb a.max_latency_increase_plus1 b.max_latency_increase_plus1))
    (Decides-eqb a.max_dec_pic_buffering_minus1 b.max_dec_pic_buffering_minus1))

format-tells : (a b : Format) → Decides (same_format a b) (a ≡ b)
format-tells a b = (same_format-equal a b, λ h. subst (λ (f : Format). same_format a f ≡ true) h (same_format-own a))

pub same-tells : (l m : Limits) (f g : Format) → Fails (not (same_limits l m && same_format f g)) ((l ≡ m) × (f ≡ g))
same-tells l m f g =
    fails-not (same_limits l m && same_format f g)
    (Decides-and (same_limits l m) (same_format f g) (limits-tell l m) (format-tells f g))
