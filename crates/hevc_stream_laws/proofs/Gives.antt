-- What holds of whatever reading by a table gives.
use Rattle.std.proofs.Common.{◌≡◌, ℕ, zero, suc, ◌+◌, ◌-◌, ◌≤◌, ◌<◌, Bool, true, false, List}
use Rattle.std.proofs.Common.{length, refl, subst, arith}
use Rattle.std.specs.Prelude.{if◌then◌else◌}
use Rattle.std.proofs.lemmas.Bool.Decides.{nat_tests}
use Rattle.hevc_spec.specs.declared.Row.{Row}
use Rattle.hevc_spec.specs.Bits.{Form, u, ue, check, Found, found, out_of_bounds, ended, form_at, within, in_range}
use Rattle.hevc_spec.specs.Table.{Table, done, missing, element, sized, part, Reading, gives}
use Rattle.hevc_spec.specs.Table.{refuses, reading_then, line_found, read}
use Rattle.hevc_spec.specs.Rows.{bits_row, ue_row, check_row, when, either, repeat}

-- P holds of each record that reading by the table gives
pub record Gives {A : Type 0} (t : Table A) (P : A → Type 0) : Type 0 where
  pub each : (bits : List Bool) (x : A) (rest : List Bool) → read t bits ≡ gives x rest → P x

gives_then : {A B : Type 0} (m : Reading A) (k : A → List Bool → Reading B) (r : B) (rest : List Bool)
    → reading_then m k ≡ gives r rest
    → (x : A) × (mid : List Bool) × (m ≡ gives x mid) × (k x mid ≡ gives r rest)
gives_then (gives x mid) k r rest e = (x, mid, refl, e)
gives_then (refuses f mid) k r rest e = absurd cc

pub any : {A : Type 0} (t : Table A) → Gives t (λ x. Unit {0})
any t = record { each = λ bits x rest e. tt }

pub weaker : {A : Type 0} {t : Table A} {P : A → Type 0} (Q : A → Type 0) → ((x : A) → P x → Q x)
    → Gives t P → Gives t Q
weaker Q f g = record { each = λ bits x rest e. f x (g.each bits x rest e) }

pub of_done : {A : Type 0} (P : A → Type 0) (x : A) → P x → Gives (done x) P
of_done {A} P x h = record { each = λ bits y rest e. let same : x ≡ y = cc in rw (← same) h }

pub of_missing : {A : Type 0} (P : A → Type 0) (r : Row) (id : ℕ) → Gives (missing r id) P
of_missing P r id = record { each = λ bits x rest e. absurd cc }

pub of_part : {A B : Type 0} {t : Table A} {P : A → Type 0} (k : A → Table B) (Q : B → Type 0) → Gives t P
    → ((x : A) → P x → Gives (k x) Q) → Gives (part t k) Q
of_part {t = t} k Q g h = record {
  each = λ bits y rest e.
      let m = gives_then (read t bits) (λ x r. read (k x) r) y rest e in
      (h m.0 (g.each bits m.0 m.1 m.2)).each m.1 y rest m.3;
}

pub of_sized : {A B : Type 0} {t : Table A} {P : A → Type 0} (f : A → ℕ → B) (Q : B → Type 0) → Gives t P
    → ((x : A) (n : ℕ) → P x → Q (f x n)) → Gives (sized t f) Q
of_sized {t = t} f Q g h = record {
  each = λ bits y rest e.
      let m = gives_then (read t bits) (λ x r. gives (f x (length bits - length r)) r) y rest e in
      let same : f m.0 (length bits - length m.1) ≡ y = cc (m.3) in
      rw (← same) (h m.0 (length bits - length m.1) (g.each bits m.0 m.1 m.2));
}

-- the lines of one row
line_by : {A : Type 0} (r : Row) (allowed : ℕ → Bool) (value : ℕ → A) (P : A → Type 0)
    → ((v : ℕ) → allowed v ≡ true → P (value v))
    → (bits : List Bool) (f : Found) (x : A) (rest : List Bool)
    → line_found r value bits (within allowed f) ≡ gives x rest → P x
line_by {A} r allowed value P h bits out_of_bounds x rest e = absurd cc
line_by {A} r allowed value P h bits ended x rest e = absurd cc
line_by {A} r allowed value P h bits (found v mid) x rest e = by_test (allowed v) refl e
  where
    by_test : (b : Bool) → allowed v ≡ b
        → line_found r value bits (if b then found v mid else out_of_bounds) ≡ gives x rest → P x
    by_test false t g = absurd cc
    by_test true t g = let same : value v ≡ x = cc in rw (← same) (h v t)

pub of_element : {A : Type 0} (r : Row) (form : Form) (allowed : ℕ → Bool) (value : ℕ → A) (P : A → Type 0)
    → ((v : ℕ) → allowed v ≡ true → P (value v)) → Gives (element r form allowed value) P
of_element r form allowed value P h = record {
  each = λ bits x rest e. line_by r allowed value P h bits (form_at form bits) x rest e;
}

range_means : (low high v : ℕ) → in_range low high v ≡ true → (low ≤ v) × (v ≤ high)
range_means low high v e = (grind (arith, nat_tests), grind (arith, nat_tests))

pub of_ue : (r : Row) (low high : ℕ) → Gives (ue_row r low high) (λ v. (low ≤ v) × (v ≤ high))
unfolding ue_row
of_ue r low high = of_element r ue (in_range low high) (λ v. v) (λ v. (low ≤ v) × (v ≤ high)) (range_means low high)

pub of_bits : (r : Row) (n low high : ℕ) → Gives (bits_row r n low high) (λ v. (low ≤ v) × (v ≤ high))
unfolding bits_row
of_bits r n low high = of_element r (u n) (in_range low high) (λ v. v)
    (λ v. (low ≤ v) × (v ≤ high)) (range_means low high)

pub of_check : (r : Row) (holds : Bool) → Gives (check_row r holds) (λ v. holds ≡ true)
unfolding check_row
of_check r holds = of_element r check (λ v. holds) (λ v. v) (λ v. holds ≡ true) (λ v h. h)

pub of_when : {A : Type 0} (P : A → Type 0) (b : Bool) (absent : A) (t : Table A) → (b ≡ true → Gives t P)
    → (b ≡ false → P absent) → Gives (when b absent t) P
unfolding when
of_when P true absent t g h = g refl
of_when P false absent t g h = of_done P absent (h refl)

pub of_either : {A : Type 0} (P : A → Type 0) (b : Bool) (t s : Table A) → (b ≡ true → Gives t P)
    → (b ≡ false → Gives s P) → Gives (either b t s) P
unfolding either
of_either P true t s g h = g refl
of_either P false t s g h = h refl

-- rows that are repeated keep what holds before and after each time
repeated_from : {S : Type 0} (P : ℕ → S → Type 0) (body : ℕ → S → Table S) (i n : ℕ) (s : S) → P i s
    → ((k : ℕ) (x : S) → i ≤ k → k < i + n → P k x → Gives (body k x) (P (k + 1)))
    → Gives (repeat body i n s) (P (i + n))
unfolding repeat
repeated_from P body i zero s h step = let same : i + 0 ≡ i = omega arith in rw same (of_done (P i) s h)
repeated_from P body i (suc n) s h step =
    let same : i + suc n ≡ (i + 1) + n = omega arith in
    rw same (of_part (λ next. repeat body (i + 1) n next) (P ((i + 1) + n))
    (step i s (omega arith) (omega arith) h)
    (λ x p. repeated_from P body (i + 1) n x p (λ k y low high q. step k y (omega arith) (omega arith) q)))

pub of_repeat : {S : Type 0} (P : ℕ → S → Type 0) (body : ℕ → S → Table S) (n : ℕ) (s : S) → P 0 s
    → ((k : ℕ) (x : S) → k < n → P k x → Gives (body k x) (P (k + 1))) → Gives (repeat body 0 n s) (P n)
of_repeat P body n s h step =
    let same : 0 + n ≡ n = omega arith in
    subst (λ (m : ℕ). Gives (repeat body 0 n s) (P m)) same
    (repeated_from P body 0 n s h (λ k x low high p. step k x (omega arith) p))

-- after lines of which nothing is asked
pub free : {A B : Type 0} {t : Table A} {k : A → Table B} (Q : B → Type 0) → ((x : A) → Gives (k x) Q)
    → Gives (part t k) Q
free {t = t} {k = k} Q h = of_part k Q (any t) (λ x _. h x)
