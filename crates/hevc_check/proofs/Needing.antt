-- Up to which order count entries fill the buffer.
use Rattle.std.proofs.Common.{◌≡◌, ℕ, ℤ, ◌+◌, ◌≤◌, ◌≤ℤ◌, ◌⊎◌, inl, inr, Bool, true, false, cond}
use Rattle.std.proofs.Common.{◌&&◌, ◌||◌, List, [], ◌∷◌, length, refl, sym, ap, ◌∙◌, subst, arith}
use Rattle.std.specs.Prelude.{nat_lt, nat_le, int_le, count_by}
use Rattle.std.specs.List.{list_any}
use Rattle.std.proofs.lemmas.Bool.Decides.{nat_tests}
use Rattle.std.proofs.lemmas.Int.{ints}
use Rattle.hevc_walk.specs.Buffer.{Buffer, Entry, is_reference}
use Rattle.hevc_walk_order.specs.DisplayOrder.{needed_behind}
use Rattle.hevc_dpb.specs.declared.entry.DpbEntry.{DpbEntry}
use Rattle.hevc_dpb.specs.Plain.{plain_entry, plain_entries}
use Rattle.std.proofs.lemmas.List.Sums.{sum_by-cons}
use Rattle.hevc_check.specs.Filled.{stays_up_to}

abbrev pub num : ℤ → Buffer → ℕ
num c es = length (needed_behind c es)

abbrev one_of : Bool → ℕ
one_of b = cond b 1 0

num-cons : (c : ℤ) (e : Entry) (es : Buffer) → num c (e ∷ es) ≡ one_of (stays_up_to c e) + num c es
num-cons c e es = by (is_reference e.mark || (e.needed_for_output && int_le c e.order_count))
  where
    by : (b : Bool)
        → length (cond b (e ∷ needed_behind c es) (needed_behind c es)) ≡ one_of b + length (needed_behind c es)
    by true = omega arith
    by false = omega arith

low-le : (c k v : ℤ) → c ≤ℤ k → int_le k v ≡ true → int_le c v ≡ true
low-le c k v h e = grind (arith, nat_tests, ints, h, e)

needs-low : (c k : ℤ) (e : Entry) → c ≤ℤ k → one_of (stays_up_to k e) ≤ one_of (stays_up_to c e)
needs-low c k e h =
    by (is_reference e.mark) e.needed_for_output (int_le k e.order_count) (int_le c e.order_count)
    (low-le c k e.order_count h)
  where
    by : (r w x y : Bool) → (x ≡ true → y ≡ true) → one_of (r || (w && x)) ≤ one_of (r || (w && y))
    by true w x y g = omega arith
    by false true true y g = subst (λ (z : Bool). 1 ≤ one_of z) (sym (g refl)) (omega arith)
    by false true false y g = omega arith
    by false false x y g = omega arith

-- of a higher order count fewer are needed
pub fewer : (c k : ℤ) (es : Buffer) → c ≤ℤ k → num k es ≤ num c es
fewer c k [] h = omega arith
fewer c k (e ∷ es) h =
    let one = needs-low c k e h in
    let more = fewer c k es h in
    let a = num-cons c e es in
    let b = num-cons k e es in
    omega (arith, one, more, a, b)

-- the order count of one of these
abbrev IsCount : ℤ → Buffer → Type 0
IsCount k [] = ⊥
IsCount k (e ∷ es) = (k ≡ e.order_count) ⊎ IsCount k es

-- a count at which no fewer are needed
record Reach (c m : ℤ) (es : Buffer) : Type 0 where
  count : ℤ
  least : c ≤ℤ count
  most : count ≤ℤ m
  many : num c es ≤ num count es
  is : (count ≡ m) ⊎ IsCount count es

high-le : (c v : ℤ) → int_le c v ≡ true → c ≤ℤ v
high-le c v e = grind (arith, nat_tests, ints, e)

not-le : (k v : ℤ) → int_le k v ≡ false → v ≤ℤ k
not-le k v e = grind (arith, nat_tests, ints, e)

le-self : (v : ℤ) → int_le v v ≡ true
le-self v = grind (arith, nat_tests, ints)

int-refl : (m : ℤ) → m ≤ℤ m
int-refl m = omega (arith, ints)

le-trans : (c k m : ℤ) → c ≤ℤ k → k ≤ℤ m → c ≤ℤ m
le-trans c k m h g = omega (arith, ints, h, g)

self-needs : (e : Entry) (c k : ℤ) → stays_up_to c e ≡ true → stays_up_to k e ≡ false
    → (int_le c e.order_count ≡ true) × (int_le k e.order_count ≡ false) × (stays_up_to e.order_count e ≡ true)
self-needs e c k h g =
    by (is_reference e.mark) e.needed_for_output (int_le c e.order_count) (int_le k e.order_count) h g
  where
    by : (r w x y : Bool) → r || (w && x) ≡ true → r || (w && y) ≡ false
        → (x ≡ true) × (y ≡ false) × (r || (w && int_le e.order_count e.order_count) ≡ true)
    by true w x y h g = absurd (cc g)
    by false true true false h g = (refl, refl, le-self e.order_count)
    by false true true true h g = absurd (cc g)
    by false true false y h g = absurd (cc h)
    by false false x y h g = absurd (cc h)

later-is : (k m : ℤ) (e : Entry) (es : Buffer) → (k ≡ m) ⊎ IsCount k es → (k ≡ m) ⊎ IsCount k (e ∷ es)
later-is k m e es (inl is) = inl is
later-is k m e es (inr is) = inr (inr is)

most-one : (b : Bool) → one_of b ≤ 1
most-one true = omega arith
most-one false = omega arith

reach-more : (c m : ℤ) (e : Entry) (es : Buffer) (r : Reach c m es)
    → one_of (stays_up_to c e) ≤ one_of (stays_up_to r.count e) → Reach c m (e ∷ es)
reach-more c m e es r le =
    let a = num-cons c e es in
    let b = num-cons r.count e es in
    let many = r.many in
    record {
      count = r.count;
      least = r.least;
      most = r.most;
      many = omega (arith, le, a, b, many);
      is = later-is r.count m e es r.is;
    }

reach-own : (c m : ℤ) (e : Entry) (es : Buffer) (r : Reach c m es) → stays_up_to c e ≡ true
    → stays_up_to r.count e ≡ false → Reach c m (e ∷ es)
reach-own c m e es r hx hy =
    let own = self-needs e c r.count hx hy in
    let low = high-le c e.order_count own.0 in
    let high = not-le r.count e.order_count own.1 in
    let a = num-cons c e es in
    let b = num-cons e.order_count e es in
    let one : one_of (stays_up_to e.order_count e) ≡ 1 = ap one_of own.2 in
    let other : one_of (stays_up_to c e) ≡ 1 = ap one_of hx in
    let many = r.many in
    let less = fewer e.order_count r.count es high in
    record {
      count = e.order_count;
      least = low;
      most = le-trans e.order_count r.count m high r.most;
      many = omega (arith, one, other, a, b, many, less);
      is = inr (inl refl);
    }

reach-next : (c m : ℤ) (e : Entry) (es : Buffer) (r : Reach c m es) (x y : Bool) → stays_up_to c e ≡ x
    → stays_up_to r.count e ≡ y → Reach c m (e ∷ es)
reach-next c m e es r x true hx hy =
    reach-more c m e es r
    (subst (λ (z : Bool). one_of (stays_up_to c e) ≤ one_of z) (sym hy) (most-one (stays_up_to c e)))
reach-next c m e es r false false hx hy =
    reach-more c m e es r (subst (λ (z : Bool). one_of z ≤ one_of (stays_up_to r.count e)) (sym hx) (omega arith))
reach-next c m e es r true false hx hy = reach-own c m e es r hx hy

reach : (c m : ℤ) (es : Buffer) → c ≤ℤ m → Reach c m es
reach c m [] h = record { count = m; least = h; most = int-refl m; many = omega arith; is = inl refl }
reach c m (e ∷ es) h =
    let r = reach c m es h in reach-next c m e es r (stays_up_to c e) (stays_up_to r.count e) refl refl

-- ---- the counts of entries are all that need to be tried

-- entries fill a buffer at one's own count, which is no lower than this
abbrev pub fills_at : ℕ → ℤ → Buffer → Entry → Bool
fills_at n c all e = int_le c e.order_count && nat_le n (num e.order_count all)

le-more : (n a b : ℕ) → nat_le n a ≡ true → a ≤ b → nat_le n b ≡ true
le-more n a b e h = grind (arith, nat_tests, e, h)

pub le-up : (c k : ℤ) → c ≤ℤ k → int_le c k ≡ true
le-up c k h = grind (arith, nat_tests, ints, h)

and-both : (a b : Bool) → a ≡ true → b ≡ true → a && b ≡ true
and-both a b h g = rw (h, g) refl

or-true : (a b : Bool) → b ≡ true → a || b ≡ true
or-true true b h = refl
or-true false b h = h

any-at : (n : ℕ) (c k : ℤ) (all es : Buffer) → c ≤ℤ k → nat_le n (num k all) ≡ true → IsCount k es
    → list_any (fills_at n c all) es ≡ true
any-at n c k all [] low many is = absurd is
any-at n c k all (e ∷ es) low many (inl is) =
    ap (λ (b : Bool). b || list_any (fills_at n c all) es)
    (and-both (int_le c e.order_count) (nat_le n (num e.order_count all)) (ap (int_le c) (sym is) ∙ le-up c k low)
    (ap (λ (z : ℤ). nat_le n (num z all)) (sym is) ∙ many))
any-at n c k all (e ∷ es) low many (inr is) =
    or-true (fills_at n c all e) (list_any (fills_at n c all) es) (any-at n c k all es low many is)

at-many : (n : ℕ) (c : ℤ) (all : Buffer) (e : Entry) (x : Bool) → int_le c e.order_count ≡ x
    → x && nat_le n (num e.order_count all) ≡ true → nat_le n (num c all) ≡ true
at-many n c all e false low is = absurd (cc is)
at-many n c all e true low is =
    le-more n (num e.order_count all) (num c all) is (fewer c e.order_count all (high-le c e.order_count low))

any-many : (n : ℕ) (c : ℤ) (all es : Buffer) → list_any (fills_at n c all) es ≡ true → nat_le n (num c all) ≡ true
any-many n c all [] h = absurd (cc h)
any-many n c all (e ∷ es) h = any-next n c all e es (fills_at n c all e) refl (any-many n c all es) h
  where
    any-next : (n : ℕ) (c : ℤ) (all : Buffer) (e : Entry) (es : Buffer) (b : Bool) → fills_at n c all e ≡ b
        → (list_any (fills_at n c all) es ≡ true → nat_le n (num c all) ≡ true)
        → b || list_any (fills_at n c all) es ≡ true → nat_le n (num c all) ≡ true
    any-next n c all e es false is more h = more h
    any-next n c all e es true is more h = at-many n c all e (int_le c e.order_count) refl is

same-tests : (a b : Bool) → (a ≡ true → b ≡ true) → (b ≡ true → a ≡ true) → a ≡ b
same-tests true true f g = refl
same-tests true false f g = sym (f refl)
same-tests false true f g = g refl
same-tests false false f g = refl

-- unless they fill it even at the highest count of all
pub fills-any : (n : ℕ) (c m : ℤ) (all : Buffer) → c ≤ℤ m → nat_le n (num m all) ≡ false
    → list_any (fills_at n c all) all ≡ nat_le n (num c all)
fills-any n c m all h none =
    same-tests (list_any (fills_at n c all) all) (nat_le n (num c all)) (any-many n c all all) back
  where
    by : (r : Reach c m all) → nat_le n (num r.count all) ≡ true → (r.count ≡ m) ⊎ IsCount r.count all
        → list_any (fills_at n c all) all ≡ true
    by r many (inl is) = absurd (clash (sym many ∙ ap (λ (k : ℤ). nat_le n (num k all)) is ∙ none))
      where
        clash : true ≡ false → ⊥
        clash e = absurd (cc e)
    by r many (inr is) = any-at n c r.count all all r.least many is

    back : nat_le n (num c all) ≡ true → list_any (fills_at n c all) all ≡ true
    back many = let r = reach c m all h in by r (le-more n (num c all) (num r.count all) many r.many) r.is

-- they do so at every count then
pub fills-all : (n : ℕ) (c m : ℤ) (all : Buffer) → c ≤ℤ m → nat_le n (num m all) ≡ true → true ≡ nat_le n (num c all)
fills-all n c m all h many = sym (le-more n (num m all) (num c all) many (fewer c m all h))

-- ---- the code's entries

pub count-needed : {T : Type 0} (c : ℤ) (es : List (DpbEntry T))
    → count_by (λ e. stays_up_to c (plain_entry e)) es ≡ num c (plain_entries es)
count-needed c [] = refl
count-needed c (e ∷ es) =
    sum_by-cons (λ x. cond (stays_up_to c (plain_entry x)) 1 0) e es
    ∙ ap (λ (n : ℕ). one_of (stays_up_to c (plain_entry e)) + n) (count-needed c es)
    ∙ sym (num-cons c (plain_entry e) (plain_entries es))

pub lt-is_le : (m n : ℕ) → nat_lt m n ≡ nat_le (m + 1) n
lt-is_le m n = grind (arith, nat_tests)

pub any-plain : {T : Type 0} (f : Entry → Bool) (es : List (DpbEntry T))
    → list_any (λ e. f (plain_entry e)) es ≡ list_any f (plain_entries es)
any-plain f [] = refl
any-plain f (e ∷ es) = ap (λ (b : Bool). f (plain_entry e) || b) (any-plain f es)
