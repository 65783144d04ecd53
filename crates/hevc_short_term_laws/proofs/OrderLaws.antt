-- Lists of differences in order, through appending, reversing and taking.
use Rattle.std.proofs.Common.{◌≡◌, ℕ, zero, suc, ◌<◌, ◌≤◌, ℤ, pos, ◌+ℤ◌, ◌-ℤ◌, ◌<ℤ◌, ◌≤ℤ◌, List, []}
use Rattle.std.proofs.Common.{◌∷◌, ◌++◌, length, take, reverse, get_or, map, refl, arith}
use Rattle.std.proofs.Math.Numerals.{add-one}
use Rattle.std.proofs.lemmas.List.{map-append}
use Rattle.std.proofs.lemmas.Grind.{reverse_onto}
use Rattle.hevc_records.specs.ShortTermRefPicSet.{Fall, Rise}
use Rattle.hevc_short_term_laws.specs.Orders.{AllAbove, AllBelow, Rises, Falls}

pub reverse-cons : {A : Type 0} (x : A) (xs : List A) → reverse (x ∷ xs) ≡ reverse xs ++ x ∷ []
reverse-cons x xs = reverse_onto xs x []

pub map-reverse : {A B : Type 0} (f : A → B) (xs : List A) → map f (reverse xs) ≡ reverse (map f xs)
map-reverse f [] = refl
map-reverse f (x ∷ xs) =
    rw (reverse-cons x xs, reverse-cons (f x) (map f xs), map-append f (reverse xs) (x ∷ []), map-reverse f xs) refl

pub AllAbove-weaken : (b c : ℤ) (ds : List ℤ) → c ≤ℤ b → AllAbove b ds → AllAbove c ds
AllAbove-weaken b c [] le h = tt
AllAbove-weaken b c (d ∷ ds) le h = (grind (arith, le, h.0), AllAbove-weaken b c ds le h.1)

pub AllBelow-weaken : (b c : ℤ) (ds : List ℤ) → b ≤ℤ c → AllBelow b ds → AllBelow c ds
AllBelow-weaken b c [] le h = tt
AllBelow-weaken b c (d ∷ ds) le h = (grind (arith, le, h.0), AllBelow-weaken b c ds le h.1)

pub AllAbove-append : (b : ℤ) (xs ys : List ℤ) → AllAbove b xs → AllAbove b ys → AllAbove b (xs ++ ys)
AllAbove-append b [] ys h k = k
AllAbove-append b (x ∷ xs) ys h k = (h.0, AllAbove-append b xs ys h.1 k)

pub AllBelow-append : (b : ℤ) (xs ys : List ℤ) → AllBelow b xs → AllBelow b ys → AllBelow b (xs ++ ys)
AllBelow-append b [] ys h k = k
AllBelow-append b (x ∷ xs) ys h k = (h.0, AllBelow-append b xs ys h.1 k)

pub AllAbove-reverse : (b : ℤ) (xs : List ℤ) → AllAbove b xs → AllAbove b (reverse xs)
AllAbove-reverse b [] h = tt
AllAbove-reverse b (x ∷ xs) h =
    rw (reverse-cons x xs) (AllAbove-append b (reverse xs) (x ∷ []) (AllAbove-reverse b xs h.1) (h.0, tt))

pub AllBelow-reverse : (b : ℤ) (xs : List ℤ) → AllBelow b xs → AllBelow b (reverse xs)
AllBelow-reverse b [] h = tt
AllBelow-reverse b (x ∷ xs) h =
    rw (reverse-cons x xs) (AllBelow-append b (reverse xs) (x ∷ []) (AllBelow-reverse b xs h.1) (h.0, tt))

-- what lies below a bound, and then what doesn't
pub Rises-append : (b : ℤ) (xs ys : List ℤ) → Rises xs → AllBelow b xs → Rises ys → AllAbove (b -ℤ pos 1) ys
    → Rises (xs ++ ys)
Rises-append b [] ys rx below ry above = ry
Rises-append b (x ∷ xs) ys rx below ry above = (
  AllAbove-append x xs ys rx.0 (AllAbove-weaken (b -ℤ pos 1) x ys (grind (arith, below.0)) above),
  Rises-append b xs ys rx.1 below.1 ry above,
)

-- what lies above a bound, and then what doesn't
pub Falls-append : (b : ℤ) (xs ys : List ℤ) → Falls xs → AllAbove b xs → Falls ys → AllBelow (b +ℤ pos 1) ys
    → Falls (xs ++ ys)
Falls-append b [] ys fx above fy below = fy
Falls-append b (x ∷ xs) ys fx above fy below = (
  AllBelow-append x xs ys fx.0 (AllBelow-weaken (b +ℤ pos 1) x ys (grind (arith, above.0)) below),
  Falls-append b xs ys fx.1 above.1 fy below,
)

pub Rises-reverse : (ds : List ℤ) → Falls ds → Rises (reverse ds)
Rises-reverse [] h = tt
Rises-reverse (d ∷ ds) h =
    rw (reverse-cons d ds)
    (Rises-append d (reverse ds) (d ∷ []) (Rises-reverse ds h.1) (AllBelow-reverse d ds h.0) (tt, tt) (grind arith, tt))

pub Falls-reverse : (ds : List ℤ) → Rises ds → Falls (reverse ds)
Falls-reverse [] h = tt
Falls-reverse (d ∷ ds) h =
    rw (reverse-cons d ds)
    (Falls-append d (reverse ds) (d ∷ []) (Falls-reverse ds h.1) (AllAbove-reverse d ds h.0) (tt, tt) (grind arith, tt))

-- ---- from an array and to one

fall_chain : (b : ℤ) (n : ℕ) (xs : List ℤ) → n ≤ length xs → (0 < n → get_or xs 0 (pos 0) <ℤ b)
    → ((k : ℕ) → suc k < n → get_or xs (suc k) (pos 0) <ℤ get_or xs k (pos 0))
    → AllBelow b (take n xs) × Falls (take n xs)
fall_chain b zero xs le first next = (tt, tt)
fall_chain b (suc n) [] le first next = (tt, tt)
fall_chain b (suc n) (x ∷ xs) le first next =
    let rest = fall_chain x n xs (omega arith) (λ h. next 0 (omega arith)) (λ k h. next (suc k) (omega arith)) in
    let below : x <ℤ b = first (omega arith) in
    ((below, AllBelow-weaken x b (take n xs) (grind (arith, below)) rest.0), rest)

rise_chain : (b : ℤ) (n : ℕ) (xs : List ℤ) → n ≤ length xs → (0 < n → b <ℤ get_or xs 0 (pos 0))
    → ((k : ℕ) → suc k < n → get_or xs k (pos 0) <ℤ get_or xs (suc k) (pos 0))
    → AllAbove b (take n xs) × Rises (take n xs)
rise_chain b zero xs le first next = (tt, tt)
rise_chain b (suc n) [] le first next = (tt, tt)
rise_chain b (suc n) (x ∷ xs) le first next =
    let rest = rise_chain x n xs (omega arith) (λ h. next 0 (omega arith)) (λ k h. next (suc k) (omega arith)) in
    let above : b <ℤ x = first (omega arith) in
    ((above, AllAbove-weaken x b (take n xs) (grind (arith, above)) rest.0), rest)

pub falls_from : (n : ℕ) (xs : List ℤ) → n ≤ length xs → Fall n xs → AllBelow (pos 0) (take n xs) × Falls (take n xs)
falls_from n xs le h = fall_chain (pos 0) n xs le (λ some. h.below_zero 0 some)
    (λ k below. rw add-one at (h.falling k (omega arith)))

pub rises_from : (n : ℕ) (xs : List ℤ) → n ≤ length xs → Rise n xs → AllAbove (pos 0) (take n xs) × Rises (take n xs)
rises_from n xs le h = rise_chain (pos 0) n xs le (λ some. h.above_zero 0 some)
    (λ k below. rw add-one at (h.rising k (omega arith)))

below_at : (b : ℤ) (xs ys : List ℤ) (k : ℕ) → AllBelow b xs → k < length xs → get_or (xs ++ ys) k (pos 0) <ℤ b
below_at b [] ys k h below = absurd (omega arith)
below_at b (x ∷ xs) ys zero h below = h.0
below_at b (x ∷ xs) ys (suc k) h below = below_at b xs ys k h.1 (omega arith)

above_at : (b : ℤ) (xs ys : List ℤ) (k : ℕ) → AllAbove b xs → k < length xs → b <ℤ get_or (xs ++ ys) k (pos 0)
above_at b [] ys k h below = absurd (omega arith)
above_at b (x ∷ xs) ys zero h below = h.0
above_at b (x ∷ xs) ys (suc k) h below = above_at b xs ys k h.1 (omega arith)

falling_at : (xs ys : List ℤ) (k : ℕ) → Falls xs → suc k < length xs
    → get_or (xs ++ ys) (suc k) (pos 0) <ℤ get_or (xs ++ ys) k (pos 0)
falling_at [] ys k h below = absurd (omega arith)
falling_at (x ∷ xs) ys zero h below = below_at x xs ys 0 h.0 (omega arith)
falling_at (x ∷ xs) ys (suc k) h below = falling_at xs ys k h.1 (omega arith)

rising_at : (xs ys : List ℤ) (k : ℕ) → Rises xs → suc k < length xs
    → get_or (xs ++ ys) k (pos 0) <ℤ get_or (xs ++ ys) (suc k) (pos 0)
rising_at [] ys k h below = absurd (omega arith)
rising_at (x ∷ xs) ys zero h below = above_at x xs ys 0 h.0 (omega arith)
rising_at (x ∷ xs) ys (suc k) h below = rising_at xs ys k h.1 (omega arith)

pub fall_of : (n : ℕ) (xs ys : List ℤ) → n ≡ length xs → AllBelow (pos 0) xs → Falls xs → Fall n (xs ++ ys)
fall_of n xs ys same below falls = record {
  below_zero = λ k h. below_at (pos 0) xs ys k below (omega arith);
  falling = λ k h. rw add-one (falling_at xs ys k falls (omega arith));
}

pub rise_of : (n : ℕ) (xs ys : List ℤ) → n ≡ length xs → AllAbove (pos 0) xs → Rises xs → Rise n (xs ++ ys)
rise_of n xs ys same above rises = record {
  above_zero = λ k h. above_at (pos 0) xs ys k above (omega arith);
  rising = λ k h. rw add-one (rising_at xs ys k rises (omega arith));
}
