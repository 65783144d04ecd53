-- How often numbers are in lists.
use Rattle.std.proofs.Common.{◌≡◌, ℕ, suc, ◌+◌, ◌≤◌, Bool, true, false, cond, ◌||◌, eqb, List, []}
use Rattle.std.proofs.Common.{◌∷◌, ◌++◌, length, refl, sym, ap, subst, arith}
use Rattle.std.proofs.lemmas.Bool.Decides.{nat_tests}
use Rattle.hevc_walk.specs.Fates.{one, times, among}

pub one-le : (b : Bool) → one b ≤ 1
one-le true = omega arith
one-le false = omega arith

pub times-append : (n : ℕ) (xs ys : List ℕ) → times n (xs ++ ys) ≡ times n xs + times n ys
times-append n [] ys = omega arith
times-append n (x ∷ xs) ys = let h = times-append n xs ys in omega (arith, h)

-- what is among them is there at least once
pub among-times : (n : ℕ) (ms : List ℕ) → cond (among n ms) (1 ≤ times n ms) (times n ms ≡ 0)
among-times n [] = refl
among-times n (m ∷ ms) = by_test (eqb m n) (among n ms) (among-times n ms)
  where
    by_test : (b h : Bool) → cond h (1 ≤ times n ms) (times n ms ≡ 0)
        → cond (b || h) (1 ≤ one b + times n ms) (one b + times n ms ≡ 0)
    by_test true h k = omega arith
    by_test false true k = omega (arith, k)
    by_test false false k = omega (arith, k)

pub none_among : (n : ℕ) (ms : List ℕ) → times n ms ≡ 0 → among n ms ≡ false
none_among n ms none = by_test (among n ms) (among-times n ms)
  where
    by_test : (b : Bool) → cond b (1 ≤ times n ms) (times n ms ≡ 0) → b ≡ false
    by_test true h = absurd (omega (arith, none, h))
    by_test false h = refl

pub no_times : (n : ℕ) (ms : List ℕ) → among n ms ≡ false → times n ms ≡ 0
no_times n ms none = by_test (among n ms) none (among-times n ms)
  where
    by_test : (b : Bool) → b ≡ false → cond b (1 ≤ times n ms) (times n ms ≡ 0) → times n ms ≡ 0
    by_test true is h = absurd (cc is)
    by_test false is h = h

pub some_times : (n : ℕ) (ms : List ℕ) → among n ms ≡ true → 1 ≤ times n ms
some_times n ms some = by_test (among n ms) some (among-times n ms)
  where
    by_test : (b : Bool) → b ≡ true → cond b (1 ≤ times n ms) (times n ms ≡ 0) → 1 ≤ times n ms
    by_test true is h = h
    by_test false is h = absurd (cc is)

-- ---- a list that has no number more often than another isn't longer

equal : (m n : ℕ) → eqb m n ≡ true → m ≡ n
equal m n h = grind (arith, nat_tests)

same : (n : ℕ) → eqb n n ≡ true
same n = grind (arith, nat_tests)

-- the first of these numbers taken out
without : ℕ → List ℕ → List ℕ
without n [] = []
without n (m ∷ ms) = cond (eqb m n) ms (m ∷ without n ms)

length-without : (n : ℕ) (ms : List ℕ) → 1 ≤ times n ms → length ms ≡ 1 + length (without n ms)
unfolding without
length-without n [] h = absurd (omega (arith, h))
length-without n (m ∷ ms) h = by_test (eqb m n) h (length-without n ms)
  where
    by_test : (b : Bool) → 1 ≤ one b + times n ms
        → (1 ≤ times n ms → length ms ≡ 1 + length (without n ms))
        → suc (length ms) ≡ 1 + length (cond b ms (m ∷ without n ms))
    by_test true h further = omega arith
    by_test false h further = let k = further (omega (arith, h)) in omega (arith, k)

times-without : (k n : ℕ) (ms : List ℕ) → 1 ≤ times n ms
    → times k ms ≡ one (eqb n k) + times k (without n ms)
unfolding without
times-without k n [] h = absurd (omega (arith, h))
times-without k n (m ∷ ms) h = by_test (eqb m n) refl h (times-without k n ms)
  where
    by_test : (b : Bool) → eqb m n ≡ b → 1 ≤ one b + times n ms
        → (1 ≤ times n ms → times k ms ≡ one (eqb n k) + times k (without n ms))
        → one (eqb m k) + times k ms ≡ one (eqb n k) + times k (cond b ms (m ∷ without n ms))
    by_test true is h further = ap (λ (x : ℕ). one (eqb x k) + times k ms) (equal m n is)
    by_test false is h further = let l = further (omega (arith, h)) in omega (arith, l)

pub no_longer : (ns ms : List ℕ) → ((k : ℕ) → times k ns ≤ times k ms) → length ns ≤ length ms
no_longer [] ms h = omega arith
no_longer (n ∷ ns) ms h =
    let here : 1 ≤ times n ms =
    le_trans (subst (λ (b : Bool). 1 ≤ one b + times n ns) (sym (same n)) (omega arith)) (h n) in
    let rest = no_longer ns (without n ms)
    (λ k. let a = h k in let b = times-without k n ms here in omega (arith, a, b)) in
    let l = length-without n ms here in
    omega (arith, rest, l)
  where
    le_trans : {a b c : ℕ} → a ≤ b → b ≤ c → a ≤ c
    le_trans p q = omega arith
