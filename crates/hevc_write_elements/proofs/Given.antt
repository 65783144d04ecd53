-- What is known of whatever a table gives.
use Rattle.std.proofs.Common.{◌≡◌, ℕ, zero, suc, ◌+◌, ◌≤◌, ◌<◌, Bool, true, false, List, [], ◌∷◌}
use Rattle.std.proofs.Common.{◌++◌, refl, subst, arith}
use Rattle.std.specs.Prelude.{ℤ}
use Rattle.hevc_spec.specs.declared.Row.{Row}
use Rattle.hevc_spec.specs.Bits.{Form, se, signed, in_signed_range}
use Rattle.hevc_spec.specs.Table.{Table, done, element, part}
use Rattle.hevc_spec.specs.Rows.{flag_row, ue_row, se_row, when, either, repeat}
use Rattle.hevc_spec.specs.Lines.{Line, HasLines, AreGood}
use Rattle.hevc_reading_laws.proofs.TableLaws.{AreGood-front, AreGood-rest}

pub record EachGiven {A : Type 0} (t : Table A) (P : A → Type 0) : Type 0 where
  pub all : (x : A) (lines : List Line) → HasLines t x lines → AreGood lines → P x

-- by a table without rows
pub done_given : {A : Type 0} {x : A} {P : A → Type 0} → P x → EachGiven (done x) P
done_given {P = P} p = record { all = λ y lines has good. subst P has.0 p }

-- by two parts
pub then_given : {A B : Type 0} {t : Table A} {k : A → Table B} {P : B → Type 0}
    → EachGiven t (λ x. EachGiven (k x) P) → EachGiven (part t k) P
then_given {t = t} {k = k} {P = P} h = record {
  all = λ y lines has good.
      let all : AreGood (has.1 ++ has.2) = subst AreGood has.5 good in
      (h.all has.0 has.1 has.3 (AreGood-front has.1 has.2 all)).all y has.2 has.4 (AreGood-rest has.1 has.2 all);
}

-- by a row
pub element_given : {A : Type 0} (r : Row) (form : Form) (allowed : ℕ → Bool) (value : ℕ → A) {P : A
    → Type 0} → ((v : ℕ) → allowed v ≡ true → P (value v)) → EachGiven (element r form allowed value) P
element_given r form allowed value {P = P} f = record {
  all = λ y lines has good.
      let l : Line = record {
        head = record { row = r; form = form; allowed = allowed };
        value = has.0;
        bits = has.1;
      } in
      let here : AreGood (l ∷ []) = subst AreGood has.3 good in
      subst P has.2 (f has.0 here.0.0);
}

-- by a flag
pub flag_given : (r : Row) {P : Bool → Type 0} → ((b : Bool) → P b) → EachGiven (flag_row r) P
unfolding flag_row
flag_given r f = element_given r _ _ _ (λ v allowed. f _)

-- by an Exp-Golomb number
pub ue_given : (r : Row) (min max : ℕ) {P : ℕ → Type 0} → ((n : ℕ) → P n) → EachGiven (ue_row r min max) P
unfolding ue_row
ue_given r min max f = element_given r _ _ _ (λ v allowed. f v)

-- by a signed one
pub se_given : (r : Row) (min max : ℤ) {P : ℤ → Type 0}
    → ((v : ℕ) → in_signed_range min max v ≡ true → P (signed v)) → EachGiven (se_row r min max) P
unfolding se_row
se_given r min max f = element_given r se (in_signed_range min max) signed f

-- by a part under a condition
pub when_given : {A : Type 0} {t : Table A} {c : Bool} {absent : A} {P : A → Type 0}
    → (c ≡ true → EachGiven t P) → (c ≡ false → P absent) → EachGiven (when c absent t) P
unfolding when
when_given {c = true} there absent = there refl
when_given {c = false} there absent = done_given (absent refl)

-- by one of two parts
pub either_given : {A : Type 0} {t s : Table A} (c : Bool) {P : A → Type 0} → EachGiven t P → EachGiven s P
    → EachGiven (either c t s) P
unfolding either
either_given true first second = first
either_given false first second = second

-- what each turn keeps
pub turns_given : {S : Type 0} (body : ℕ → S → Table S) (P : S → Type 0) (n : ℕ)
    → ((i : ℕ) (s : S) → i < n → P s → EachGiven (body i s) P) → (s : S) → P s → EachGiven (repeat body 0 n s) P
unfolding repeat
turns_given {S = S} body P n each s p = from 0 n s (omega arith) p
  where
    from : (i more : ℕ) (s : S) → i + more ≤ n → P s → EachGiven (repeat body i more s) P
    from i zero s le p = done_given p
    from i (suc more) s le p =
        then_given (record {
          all = λ x lines has good. from (i + 1) more x (omega arith) ((each i s (omega arith) p).all x lines has good);
        })
