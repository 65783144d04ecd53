-- How many bits tables take.
use Rattle.std.proofs.Common.{◌≡◌, ℕ, zero, suc, ◌+◌, ◌*◌, ◌≤◌, Bool, true, false, List, length, refl, subst, arith}
use Rattle.std.specs.Prelude.{if◌then◌else◌, ℤ, ◌-◌, ◌==◌}
use Rattle.std.proofs.lemmas.List.{length-append, length-replicate}
use Rattle.hevc_spec.specs.declared.Row.{Row}
use Rattle.hevc_spec.specs.Bits.{Form, u, ue, se, skip, check, IsExpGolomb, Found, found}
use Rattle.hevc_spec.specs.Bits.{out_of_bounds, ended, form_at, within, in_range, in_signed_range}
use Rattle.hevc_spec.specs.Bits.{signed}
use Rattle.hevc_spec.specs.Rows.{flag_row, zero_row, bits_row, ue_row, se_row, skip_row, check_row}
use Rattle.hevc_spec.specs.Rows.{when, either, repeat}
use Rattle.hevc_spec.specs.Table.{Table, done, element, sized, part, Reading, gives, refuses, read}
use Rattle.hevc_spec.specs.Table.{reading_then, line_found}
use Rattle.hevc_reading_laws.proofs.FormLaws.{form_front}

-- A table takes at most so many bits, and what it gives is so.
pub record Takes {A : Type 0} (n : ℕ) (P : A → Type 0) (t : Table A) : Type 0 where
  pub taken : (bits : List Bool) (x : A) (rest : List Bool) → read t bits ≡ gives x rest
      → (length bits ≤ n + length rest) × P x

-- anything
abbrev pub Any : {A : Type 0} → A → Type 0
Any x = Unit {0}

-- the most bits of a form
abbrev pub most_bits : Form → ℕ
most_bits (u n) = n
most_bits ue = 63
most_bits se = 63
most_bits (skip n) = n
most_bits check = 0

golomb_size : (value : ℕ) (front : List Bool) → IsExpGolomb value front → length front ≤ 63
golomb_size value front s = rw (s.parts, length-append) (grind (arith, s.short, length-replicate (length s.rest) false))

form_takes : (form : Form) (bits : List Bool) (v : ℕ) (rest : List Bool) → form_at form bits ≡ found v rest
    → length bits ≤ most_bits form + length rest
form_takes (u n) bits v rest h = let f = form_front (u n) bits v rest h in
    rw (f.parts, length-append) (grind (arith, f.spelled.0))
form_takes ue bits v rest h = let f = form_front ue bits v rest h in
    rw (f.parts, length-append) (grind (arith, golomb_size v f.front f.spelled))
form_takes se bits v rest h = let f = form_front se bits v rest h in
    rw (f.parts, length-append) (grind (arith, golomb_size v f.front f.spelled))
form_takes (skip n) bits v rest h = let f = form_front (skip n) bits v rest h in
    rw (f.parts, length-append) (grind (arith, f.spelled.0))
form_takes check bits v rest h = let same : bits ≡ rest = cc in rw same (grind arith)

gives_then : {A B : Type 0} (m : Reading A) (k : A → List Bool → Reading B) (r : B) (rest : List Bool)
    → reading_then m k ≡ gives r rest
    → (x : A) × (mid : List Bool) × (m ≡ gives x mid) × (k x mid ≡ gives r rest)
gives_then (gives x mid) k r rest e = (x, mid, refl, e)
gives_then (refuses f mid) k r rest e = absurd cc

done_taken : {A : Type 0} (P : A → Type 0) (x : A) → P x → (bits : List Bool) (y : A) (rest : List Bool)
    → read (done x) bits ≡ gives y rest → (length bits ≤ 0 + length rest) × P y
done_taken P x p bits y rest e =
    let same : x ≡ y = cc in
    let at : bits ≡ rest = cc in
    (rw at (grind arith), rw (← same) p)

pub takes_done : {A : Type 0} {P : A → Type 0} {x : A} → P x → Takes 0 P (done x)
takes_done {P = P} {x = x} p = record { taken = done_taken P x p }

module _ {A : Type 0} (P : A → Type 0) (row : Row) (form : Form) (allowed : ℕ → Bool) (value : ℕ
    → A) (holds : (v : ℕ) → allowed v ≡ true → P (value v)) where
  line_takes : (bits : List Bool) (x : A) (rest : List Bool) (f : Found) → form_at form bits ≡ f
      → line_found row value bits (within allowed f) ≡ gives x rest → (length bits ≤ most_bits form + length rest) × P x
  line_takes bits x rest out_of_bounds e h = absurd cc
  line_takes bits x rest ended e h = absurd cc
  line_takes bits x rest (found v mid) e h = by_test (allowed v) refl h
    where
      by_test : (b : Bool) → allowed v ≡ b
          → line_found row value bits (if b then found v mid else out_of_bounds) ≡ gives x rest
          → (length bits ≤ most_bits form + length rest) × P x
      by_test false t g = absurd cc
      by_test true t g =
          let same : value v ≡ x = cc in
          let at : mid ≡ rest = cc in
          (rw (← at) (form_takes form bits v mid e), rw (← same) (holds v t))

  pub takes_element : Takes (most_bits form) P (element row form allowed value)
  takes_element = record { taken = λ bits x rest e. line_takes bits x rest (form_at form bits) refl e }

part_taken : {A B : Type 0} (a b : ℕ) (P : A → Type 0) (Q : B → Type 0) (t : Table A) (k : A → Table B)
    → Takes a P t → ((x : A) → P x → Takes b Q (k x)) → (bits : List Bool) (y : B) (rest : List Bool)
    → read (part t k) bits ≡ gives y rest → (length bits ≤ (a + b) + length rest) × Q y
part_taken a b P Q t k first behind bits y rest e =
    let m = gives_then (read t bits) (λ x mid. read (k x) mid) y rest e in
    let one = first.taken bits m.0 m.1 m.2 in
    let two = (behind m.0 one.1).taken m.1 y rest m.3 in
    (grind (arith, one.0, two.0), two.1)

pub takes_part : {A B : Type 0} (a b : ℕ) {P : A → Type 0} {Q : B → Type 0} {t : Table A} {k : A → Table B}
    → Takes a P t → ((x : A) → P x → Takes b Q (k x)) → Takes (a + b) Q (part t k)
takes_part a b {P = P} {Q = Q} {t = t} {k = k} first behind = record { taken = part_taken a b P Q t k first behind }

sized_taken : {A B : Type 0} (n : ℕ) (P : A → Type 0) (Q : B → Type 0) (t : Table A) (f : A → ℕ → B)
    → Takes n P t → ((x : A) (size : ℕ) → P x → Q (f x size))
    → (bits : List Bool) (y : B) (rest : List Bool) → read (sized t f) bits ≡ gives y rest
    → (length bits ≤ n + length rest) × Q y
sized_taken n P Q t f first behind bits y rest e =
    let m = gives_then (read t bits) (λ x mid. gives (f x (length bits - length mid)) mid) y rest e in
    let one = first.taken bits m.0 m.1 m.2 in
    let given = m.3 in
    let same : f m.0 (length bits - length m.1) ≡ y = cc in
    let at : m.1 ≡ rest = cc in
    (rw (← at) one.0, rw (← same) (behind m.0 (length bits - length m.1) one.1))

pub takes_sized : {A B : Type 0} {n : ℕ} {P : A → Type 0} {Q : B → Type 0} {t : Table A} {f : A → ℕ → B}
    → Takes n P t → ((x : A) (size : ℕ) → P x → Q (f x size)) → Takes n Q (sized t f)
takes_sized {n = n} {P = P} {Q = Q} {t = t} {f = f} first behind = record { taken = sized_taken n P Q t f first behind }

-- a greater bound, and what follows of what it gives
pub takes_more : {A : Type 0} {a : ℕ} (b : ℕ) {P Q : A → Type 0} {t : Table A} → a ≤ b
    → ((x : A) → P x → Q x) → Takes a P t → Takes b Q t
takes_more b le so h = record {
  taken = λ bits x rest e. let one = h.taken bits x rest e in (grind (arith, one.0, le), so x one.1);
}

pub takes_any : {A : Type 0} {a : ℕ} (b : ℕ) {P : A → Type 0} {t : Table A} → a ≤ b → Takes a P t → Takes b Any t
takes_any b le h = takes_more b le (λ x p. tt) h

pub takes_when : {A : Type 0} {n : ℕ} {P : A → Type 0} (b : Bool) (absent : A) {t : Table A} → P absent
    → Takes n P t → Takes n P (when b absent t)
unfolding when
takes_when true absent p h = h
takes_when {n = n} false absent p h = takes_more n (grind arith) (λ x q. q) (takes_done p)

pub takes_either : {A : Type 0} {n : ℕ} {P : A → Type 0} (b : Bool) {t s : Table A} → Takes n P t
    → Takes n P s → Takes n P (either b t s)
unfolding either
takes_either true h g = h
takes_either false h g = g

pub takes_repeat : {S : Type 0} (a : ℕ) {P : S → Type 0} {body : ℕ → S → Table S} (each : (i : ℕ) (s : S)
    → P s → Takes a P (body i s)) (i n : ℕ) (s : S) → P s → Takes (n * a) P (repeat body i n s)
unfolding repeat
takes_repeat a each i zero s p = takes_more (0 * a) (grind arith) (λ x q. q) (takes_done p)
takes_repeat a each i (suc n) s p = takes_more (suc n * a) (grind arith)
    (λ x q. q) (takes_part a (n * a) (each i s p) (λ x q. takes_repeat a each (i + 1) n x q))

-- the same where what is given depends on how many times
pub takes_repeat_to : {S : Type 0} (a : ℕ) {P : ℕ → S → Type 0} {body : ℕ → S
    → Table S} (each : (i : ℕ) (s : S) → P i s → Takes a (P (i + 1)) (body i s)) (i n : ℕ) (s : S) → P i s
    → Takes (n * a) (P (i + n)) (repeat body i n s)
unfolding repeat
takes_repeat_to a {P = P} each i zero s p = let none : i ≡ i + 0 =
    grind arith in takes_more (0 * a) (grind arith) (λ x q. subst (λ (k : ℕ). P k x) none q) (takes_done p)
takes_repeat_to a {P = P} each i (suc n) s p =
    let more : (i + 1) + n ≡ i + suc n = grind arith in
    takes_more (suc n * a) (grind arith) (λ x q. subst (λ (k : ℕ). P k x) more q)
    (takes_part a (n * a) (each i s p) (λ x q. takes_repeat_to a each (i + 1) n x q))

-- ---- the rows

pub takes_flag : (r : Row) → Takes 1 Any (flag_row r)
unfolding flag_row
takes_flag r = takes_element Any r (u 1) (λ _. true) (λ v. v == 1) (λ v h. tt)

pub takes_zero : (r : Row) → Takes 1 Any (zero_row r)
unfolding zero_row
takes_zero r = takes_element Any r (u 1) (λ v. v == 0) (λ v. v == 1) (λ v h. tt)

-- a number in its bounds
abbrev pub UpTo : ℕ → ℕ → Type 0
UpTo most n = n ≤ most

pub takes_bits : (r : Row) (n min max : ℕ) → Takes n (UpTo max) (bits_row r n min max)
unfolding bits_row
takes_bits r n min max = takes_element (UpTo max) r (u n) (in_range min max) (λ v. v) (λ v h. grind (arith, h))

pub takes_ue : (r : Row) (min max : ℕ) → Takes 63 (UpTo max) (ue_row r min max)
unfolding ue_row
takes_ue r min max = takes_element (UpTo max) r ue (in_range min max) (λ v. v) (λ v h. grind (arith, h))

pub takes_se : (r : Row) (min max : ℤ) → Takes 63 Any (se_row r min max)
unfolding se_row
takes_se r min max = takes_element Any r se (in_signed_range min max) signed (λ v h. tt)

pub takes_skip : (r : Row) (n : ℕ) → Takes n Any (skip_row r n)
unfolding skip_row
takes_skip r n = takes_element Any r (skip n) (λ _. true) (λ _. 0) (λ v h. tt)

pub takes_check : (r : Row) (holds : Bool) → Takes 0 Any (check_row r holds)
unfolding check_row
takes_check r holds = takes_element Any r check (λ _. holds) (λ v. v) (λ v h. tt)
