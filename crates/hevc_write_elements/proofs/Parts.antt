-- Parts of a table, and tables within tables.
use Rattle.std.proofs.Common.{◌≡◌, ℕ, ◌^◌, ◌<◌, Bool, true, false, eqb, List, [], inl, inr, refl}
use Rattle.std.proofs.Common.{sym, ap, ap₂, subst, ◌∙◌}
use Rattle.std.specs.Prelude.{ℤ, pos, not, ◌∷◌, ◌⊎◌, Result, OnOk}
use Rattle.std.specs.Ordering.{int_eq}
use Rattle.std.proofs.lemmas.Bool.Decides.{Decides-int_eq}
use Rattle.std.proofs.lemmas.Result.{on_ok_weaker}
use Rattle.std.proofs.lemmas.Bool.{eqb-true, eqb-false, true≢false}
use Rattle.hevc_spec.specs.declared.Row.{Row}
use Rattle.hevc_spec.specs.Table.{Table, done}
use Rattle.hevc_spec.specs.Rows.{flag_row, zero_row, bits_row, ue_row, se_row, skip_row, check_row, when, either}
use Rattle.hevc_write_elements.specs.Choices.{skipped}
use Rattle.hevc_write_elements.specs.Filling.{EachFilling, Keeps, Writes, WritesTable, WritesIf}
use Rattle.hevc_write_elements.specs.Filling.{WritesEither, WritesFlag, WritesBits, WritesUe}
use Rattle.hevc_write_elements.specs.Filling.{WritesSe, WritesZeros}
use Rattle.hevc_write_elements.proofs.Fillings.{weakened, beside, done_filled, then_filled}
use Rattle.hevc_write_elements.proofs.RowRules.{IsKept, flag_written, zero_written, bits_written}
use Rattle.hevc_write_elements.proofs.RowRules.{ue_written, se_written, zeros_written, skip_written}
use Rattle.hevc_write_elements.proofs.RowRules.{check_held, when_filled, either_filled}

-- a field of equal records
pub by : {A X : Type 0} {z x : A} → z ≡ x → (f : A → X) → f z ≡ f x
by e f = ap f e

-- ---- rows as tables

-- some lines with the chosen values can always be written
pub record IsFillable {A : Type 0} (t : Table A) : Type 0 where
  pub fill : (w : List Bool) → EachFilling t w (λ _ _. Unit {0})

-- lines that can always be written, whatever the record
pub filled : {A : Type 0} {t : Table A} {w : List Bool} {Q : A → List Bool → Type 0} → IsFillable t
    → ((x : A) (all : List Bool) → Q x all) → EachFilling t w Q
filled {w = w} h f = weakened (h.fill w) (λ x all _. f x all)

module _ (r : Row) (kept : IsKept r) where
  -- a flag
  pub flag_fillable : IsFillable (flag_row r)
  flag_fillable = record { fill = λ w. flag_written r {old = []} kept {value = false} refl (λ v all h. tt) }

  -- a flag that must be 0
  pub zero_fillable : IsFillable (zero_row r)
  zero_fillable = record { fill = λ w. zero_written r {old = []} kept refl (λ all h. tt) }

  -- a number of n bits
  pub bits_fillable : (n min max : ℕ) → IsFillable (bits_row r n min max)
  bits_fillable n min max = record {
    fill = λ w. bits_written r {old = []} kept n min max {value = 0} refl (λ v is all h. tt);
  }

  -- an Exp-Golomb number
  pub ue_fillable : (min max : ℕ) → IsFillable (ue_row r min max)
  ue_fillable min max = record {
    fill = λ w. ue_written r {old = []} kept min max {value = 0} (λ _. refl) (λ v is all h. tt);
  }

  -- a signed one
  pub se_fillable : (min max : ℤ) → IsFillable (se_row r min max)
  se_fillable min max = record {
    fill = λ w. se_written r {old = []} kept min max {value = pos 0} (λ _. refl) (λ v all h. tt);
  }

  module _ {old new : List Bool} where
    pub flag_table : {value : Bool} → WritesFlag value old new → WritesTable (flag_row r) value old new
    flag_table writes = record { written = λ w. flag_written r kept writes (λ v all h. h) }

    pub bits_table : (n min max : ℕ) {value : ℕ} → WritesBits n value old new
        → WritesTable (bits_row r n min max) value old new
    bits_table n min max writes = record { written = λ w. bits_written r kept n min max writes (λ v is all h. h) }

    pub ue_table : (min max : ℕ) {value : ℕ} → WritesUe value old new → WritesTable (ue_row r min max) value old new
    ue_table min max writes = record { written = λ w. ue_written r kept min max writes (λ v is all h. h) }

    pub se_table : (min max : ℤ) {value : ℤ} → WritesSe value old new → WritesTable (se_row r min max) value old new
    se_table min max writes = record { written = λ w. se_written r kept min max writes (λ v all h. h) }

module _ (r : Row) (n : ℕ) (none : skipped r n ≡ 0) where
  -- zeros that are not kept
  pub zeros_fillable : IsFillable (skip_row r n)
  zeros_fillable = record { fill = λ w. zeros_written r {old = []} n none refl (λ all h. tt) }

-- a condition
pub check_fillable : (r : Row) (holds : Bool) → IsFillable (check_row r holds)
check_fillable r holds = record { fill = λ w. check_held r holds (λ _. tt) }

-- a number that is not kept
pub skip_fillable : (r : Row) (n : ℕ) → skipped r n < 2 ^ n → IsFillable (skip_row r n)
skip_fillable r n fits = record { fill = λ w. skip_written r {old = []} n fits refl (λ all h. tt) }

-- zeros of a number that is told before
pub some_zeros_written : (r : Row) (n m : ℕ) → ((k : ℕ) → skipped r k ≡ 0)
    → {w old new : List Bool} {Q : ℕ → List Bool → Type 0} → WritesZeros m old new
    → ((all : List Bool) → (n ≡ m → w ≡ old → all ≡ new) → Q 0 all) → EachFilling (skip_row r n) w Q
some_zeros_written r n m none {w = w} {old = old} {new = new} {Q = Q} writes f = by_test (eqb n m) refl
  where
    by_test : (t : Bool) → eqb n m ≡ t → EachFilling (skip_row r n) w Q
    by_test true e =
        zeros_written r n (none n) (subst (λ (k : ℕ). WritesZeros k old new) (sym (eqb-true n m e)) writes)
        (λ all g. f all (λ _. g))
    by_test false e = zeros_written r {old = []} n (none n) refl (λ all g. f all (λ is. absurd (eqb-false n m e is)))

module _ {A : Type 0} {t : Table A} {w : List Bool} {Q : A → List Bool → Type 0} where
  -- a table within a table
  pub table_written : {x : A} {old new : List Bool} → WritesTable t x old new
      → ((z : A) (all : List Bool) → (z ≡ x → w ≡ old → all ≡ new) → Q z all) → EachFilling t w Q
  table_written writes f = weakened (writes.written w) f

-- a part under a condition
pub when_fillable : {A : Type 0} {t : Table A} (c : Bool) (absent : A) → IsFillable t → IsFillable (when c absent t)
when_fillable c absent h = record { fill = λ w. when_filled (λ _. h.fill w) (λ _. tt) }

-- one of two parts
pub either_fillable : {A : Type 0} {t s : Table A} (c : Bool) → IsFillable t → IsFillable s → IsFillable (either c t s)
either_fillable c h g = record { fill = λ w. either_filled (λ _. h.fill w) (λ _. g.fill w) }

-- what is added under a condition is another thing as well
pub where_present : {present : Bool} {P Q : List Bool → List Bool → Type 0} {old new : List Bool}
    → (P old new → Q old new) → WritesIf present P old new → WritesIf present Q old new
where_present f h = record { there = λ e. f (h.there e); absent = h.absent }

-- a table that is present only under a condition
module _ {A : Type 0} (t : Table A) (c : Bool) (absent : A) {w : List Bool} {Q : A → List Bool → Type 0} where
  -- what was written for it is its lines where both conditions agree
  pub when_written : {present : Bool} {x : A} {old new : List Bool} → IsFillable t
      → WritesIf present (WritesTable t x) old new
      → ((z : A) (all : List Bool) → (c ≡ present → z ≡ x → w ≡ old → all ≡ new) → Q z all)
      → EachFilling (when c absent t) w Q
  when_written {present = present} {x = x} {old = old} {new = new} fillable writes f = by_present present writes f
    where
      by_present : (present : Bool) → WritesIf present (WritesTable t x) old new
          → ((z : A) (all : List Bool) → (c ≡ present → z ≡ x → w ≡ old → all ≡ new) → Q z all)
          → EachFilling (when c absent t) w Q
      by_present true h f =
          when_filled (λ is. weakened ((h.there refl).written w) (λ z all g. f z all (λ _. g)))
          (λ is. f absent w (λ e. absurd (true≢false (sym e ∙ is))))
      by_present false h f =
          when_filled (λ is. filled fillable (λ z all. f z all (λ e. absurd (true≢false (sym is ∙ e)))))
          (λ is. f absent w (λ _ _ at. at ∙ sym (h.absent refl)))

-- zeros that are present only under a condition
module _ (r : Row) (n : ℕ) (none : skipped r n ≡ 0) (c : Bool) {w old new : List Bool} {Q : ℕ → List Bool
    → Type 0} where
  -- zeros where both conditions agree
  pub zeros_if_written : {present : Bool} → WritesIf present (WritesZeros n) old new
      → ((all : List Bool) → (c ≡ present → w ≡ old → all ≡ new) → Q 0 all) → EachFilling (when c 0 (skip_row r n)) w Q
  zeros_if_written {present = present} writes f = by_present present writes f
    where
      by_present : (present : Bool) → WritesIf present (WritesZeros n) old new
          → ((all : List Bool) → (c ≡ present → w ≡ old → all ≡ new) → Q 0 all)
          → EachFilling (when c 0 (skip_row r n)) w Q
      by_present true h f =
          when_filled (λ is. zeros_written r n none (h.there refl) (λ all g. f all (λ _. g)))
          (λ is. f w (λ e. absurd (true≢false (sym e ∙ is))))
      by_present false h f =
          when_filled (λ is. zeros_written r {old = []} n none refl
          (λ all g. f all (λ e. absurd (true≢false (sym is ∙ e))))) (λ is. f w (λ _ at. at ∙ sym (h.absent refl)))

-- zeros of one number or another
module _ (r s : Row) (n m : ℕ) (none_r : skipped r n ≡ 0) (none_s : skipped s m ≡ 0)
    (c : Bool) {w old new : List Bool} {Q : ℕ → List Bool → Type 0} where
  -- zeros where both choices agree
  pub either_zeros_written : {which : Bool} → WritesEither which (WritesZeros n) (WritesZeros m) old new
      → ((all : List Bool) → (c ≡ which → w ≡ old → all ≡ new) → Q 0 all)
      → EachFilling (either c (skip_row r n) (skip_row s m)) w Q
  either_zeros_written {which = which} writes f = by_which which writes f
    where
      by_which : (which : Bool) → WritesEither which (WritesZeros n) (WritesZeros m) old new
          → ((all : List Bool) → (c ≡ which → w ≡ old → all ≡ new) → Q 0 all)
          → EachFilling (either c (skip_row r n) (skip_row s m)) w Q
      by_which true h f =
          either_filled (λ is. zeros_written r n none_r (h.first refl) (λ all g. f all (λ _. g)))
          (λ is. zeros_written s {old = []} m none_s refl (λ all g. f all (λ e. absurd (true≢false (sym e ∙ is)))))
      by_which false h f =
          either_filled
          (λ is. zeros_written r {old = []} n none_r refl
          (λ all g. f all (λ e. absurd (true≢false (sym is ∙ e)))))
          (λ is. zeros_written s m none_s (h.second refl) (λ all g. f all (λ _. g)))

-- what one of two calls wrote
module _ {T E : Type 0} (result : Result T E) (which : Bool) (First Second : List Bool → List Bool
    → Type 0) (old new : List Bool) where
  -- the first one wrote its own
  pub first_of_two : which ≡ true → OnOk result (First old new) → OnOk result (WritesEither which First Second old new)
  first_of_two is =
      on_ok_weaker result
      (λ (h : First old new). record { first = λ _. h; second = λ other. absurd (true≢false (sym is ∙ other)) })

  -- so did the second one
  pub second_of_two : which ≡ false → OnOk result (Second old new)
      → OnOk result (WritesEither which First Second old new)
  second_of_two is =
      on_ok_weaker result
      (λ (h : Second old new). record { first = λ other. absurd (true≢false (sym other ∙ is)); second = λ _. h })

-- ---- parts

-- What is known once a part was written: where its elements are those of x, as far as `seen` goes, the bits go on to be these. An
-- equation of any record that says so will do.
abbrev pub Follows : {A : Type 0} → (A → A → A) → A → A → List Bool → List Bool → List Bool → List Bool → Type 0
Follows {A = A} seen z x w old all new = (u : A) → u ≡ x → seen u x ≡ seen z x → w ≡ old → all ≡ new

-- what was written for a part follows it
follows : {A : Type 0} (seen : A → A → A) {z x : A} {w old all new : List Bool} → seen x x ≡ x
    → (seen z x ≡ x → w ≡ old → all ≡ new) → Follows seen z x w old all new
follows seen {x = x} whole h u e same at = h (sym same ∙ ap (λ r. seen r x) e ∙ whole) at

module _ {A : Type 0} (p : A → Table A) (own : A → A → A) (keeps : Keeps p own)
    (y : A) {w : List Bool} {Q : A → List Bool → Type 0} where
  -- what a part leaves, for what comes after it
  pub part_kept : ((z : A) (all : List Bool) → Q (own z y) all) → EachFilling (p y) w Q
  part_kept f = weakened (keeps.kept y w) (λ z all e. subst (λ u. Q u all) e (f z all))

  -- the same under a condition
  pub when_kept : (c : Bool) → ((z : A) (all : List Bool) → Q (own z y) all) → EachFilling (when c y (p y)) w Q
  when_kept c f = when_filled (λ _. part_kept f) (λ _. subst (λ u. Q u w) (keeps.same y) (f y w))

  module _ {seen : A → A → A} {x : A} {old new : List Bool} where
    -- and what was written for it
    pub part_written : Writes p seen x old new → seen x x ≡ x
        → ((z : A) (all : List Bool) → Follows seen (own z y) x w old all new → Q (own z y) all) → EachFilling (p y) w Q
    part_written writes whole f =
        weakened (beside (keeps.kept y w) (writes.written y w))
        (λ z all h. subst
        (λ u. Q u all) h.0 (f z all (follows seen whole (λ e. h.1 (ap (λ u. seen u x) (sym h.0) ∙ e)))))

    -- a part that is present only under a condition
    pub when_part_written : {c present : Bool} → WritesIf present (Writes p seen x) old new → seen x x ≡ x
        → ((z : A) (all : List Bool) → (c ≡ present → Follows seen (own z y) x w old all new)
        → Q (own z y) all) → EachFilling (when c y (p y)) w Q
    when_part_written {c = c} {present = present} writes whole f = by_present present writes f
      where
        by_present : (present : Bool) → WritesIf present (Writes p seen x) old new
            → ((z : A) (all : List Bool) → (c ≡ present → Follows seen (own z y) x w old all new)
            → Q (own z y) all) → EachFilling (when c y (p y)) w Q
        by_present true h f =
            when_filled (λ is. part_written (h.there refl) whole (λ z all g. f z all (λ _. g)))
            (λ is. subst (λ u. Q u w) (keeps.same y) (f y w (λ e. absurd (true≢false (sym e ∙ is)))))
        by_present false h f =
            when_filled (λ is. part_kept (λ z all. f z all (λ e. absurd (true≢false (sym is ∙ e)))))
            (λ is. subst (λ u. Q u w) (keeps.same y) (f y w (λ _ _ _ _ at. at ∙ sym (h.absent refl))))

-- a part, or a record that no rows give
module _ {A : Type 0} (p : A → Table A) (own : A → A → A) (keeps : Keeps p own) (y : A) (c : Bool) (a : A)
    (same : own a y ≡ a) {w : List Bool} {Q : A → List Bool → Type 0} where
  -- the first of two has no rows
  pub either_done_kept : ((z : A) (all : List Bool) → Q (own z y) all) → EachFilling (either c (done a) (p y)) w Q
  either_done_kept f = either_filled (λ _. done_filled (subst (λ u. Q u w) same (f a w)))
      (λ _. part_kept p own keeps y f)

  -- the second of two has no rows
  pub done_either_kept : ((z : A) (all : List Bool) → Q (own z y) all) → EachFilling (either c (p y) (done a)) w Q
  done_either_kept f = either_filled (λ _. part_kept p own keeps y f)
      (λ _. done_filled (subst (λ u. Q u w) same (f a w)))

  module _ {seen : A → A → A} {x : A} {old new : List Bool} where
    pub either_done_written : {present : Bool} → WritesIf present (Writes p seen x) old new → seen x x ≡ x
        → ((z : A) (all : List Bool) → (not c ≡ present → Follows seen (own z y) x w old all new)
        → Q (own z y) all) → EachFilling (either c (done a) (p y)) w Q
    either_done_written {present = present} writes whole f = by_present present writes f
      where
        by_present : (present : Bool) → WritesIf present (Writes p seen x) old new
            → ((z : A) (all : List Bool) → (not c ≡ present → Follows seen (own z y) x w old all new)
            → Q (own z y) all) → EachFilling (either c (done a) (p y)) w Q
        by_present true h f =
            either_filled
            (λ is. done_filled
            (subst (λ u. Q u w) same (f a w (λ e. absurd (true≢false (sym e ∙ ap not is))))))
            (λ is. part_written p own keeps y (h.there refl) whole (λ z all g. f z all (λ _. g)))
        by_present false h f =
            either_filled
            (λ is. done_filled (subst (λ u. Q u w) same (f a w (λ _ u e s at. at ∙ sym (h.absent refl)))))
            (λ is. part_kept p own keeps y (λ z all. f z all (λ e. absurd (true≢false (sym (ap not is) ∙ e)))))

    pub done_either_written : {present : Bool} → WritesIf present (Writes p seen x) old new → seen x x ≡ x
        → ((z : A) (all : List Bool) → (c ≡ present → Follows seen (own z y) x w old all new)
        → Q (own z y) all) → EachFilling (either c (p y) (done a)) w Q
    done_either_written {present = present} writes whole f = by_present present writes f
      where
        by_present : (present : Bool) → WritesIf present (Writes p seen x) old new
            → ((z : A) (all : List Bool) → (c ≡ present → Follows seen (own z y) x w old all new)
            → Q (own z y) all) → EachFilling (either c (p y) (done a)) w Q
        by_present true h f =
            either_filled
            (λ is. part_written p own keeps y (h.there refl) whole (λ z all g. f z all (λ _. g)))
            (λ is. done_filled (subst (λ u. Q u w) same (f a w (λ e. absurd (true≢false (sym e ∙ is))))))
        by_present false h f =
            either_filled
            (λ is. part_kept p own keeps y (λ z all. f z all (λ e. absurd (true≢false (sym is ∙ e)))))
            (λ is. done_filled (subst (λ u. Q u w) same (f a w (λ _ u e s at. at ∙ sym (h.absent refl)))))

-- one of two parts
module _ {A : Type 0} (p q : A → Table A) (own : A → A → A) (keeps_p : Keeps p own) (keeps_q : Keeps q own)
    (y : A) (c : Bool) {w : List Bool} {Q : A → List Bool → Type 0} where
  -- both set no elements but their own
  pub either_kept : ((z : A) (all : List Bool) → Q (own z y) all) → EachFilling (either c (p y) (q y)) w Q
  either_kept f = either_filled (λ _. part_kept p own keeps_p y f) (λ _. part_kept q own keeps_q y f)

  module _ {seen : A → A → A} {x : A} {old new : List Bool} where
    pub either_part_written : {which : Bool}
        → WritesEither which (Writes p seen x) (Writes q seen x) old new → seen x x ≡ x
        → ((z : A) (all : List Bool) → (c ≡ which → Follows seen (own z y) x w old all new)
        → Q (own z y) all) → EachFilling (either c (p y) (q y)) w Q
    either_part_written {which = which} writes whole f = by_which which writes f
      where
        by_which : (which : Bool) → WritesEither which (Writes p seen x) (Writes q seen x) old new
            → ((z : A) (all : List Bool) → (c ≡ which → Follows seen (own z y) x w old all new)
            → Q (own z y) all) → EachFilling (either c (p y) (q y)) w Q
        by_which true h f =
            either_filled
            (λ is. part_written p own keeps_p y (h.first refl) whole (λ z all g. f z all (λ _. g)))
            (λ is. part_kept q own keeps_q y (λ z all. f z all (λ e. absurd (true≢false (sym e ∙ is)))))
        by_which false h f =
            either_filled
            (λ is. part_kept p own keeps_p y (λ z all. f z all (λ e. absurd (true≢false (sym is ∙ e)))))
            (λ is. part_written q own keeps_q y (h.second refl) whole (λ z all g. f z all (λ _. g)))

-- ---- one of a family of parts, or of tables, by elements of the record

-- the same, or not
abbrev pub IsDecided : {I : Type 0} → I → I → Type 0
IsDecided i j = (i ≡ j) ⊎ (i ≡ j → ⊥)

-- two numbers are the same or not
pub numbers : (n m : ℕ) → IsDecided n m
numbers n m = by_test (eqb n m) refl
  where
    by_test : (t : Bool) → eqb n m ≡ t → IsDecided n m
    by_test true e = inl (eqb-true n m e)
    by_test false e = inr (eqb-false n m e)

-- so are two flags
pub flags : (a b : Bool) → IsDecided a b
flags true true = inl refl
flags true false = inr true≢false
flags false true = inr (λ e. true≢false (sym e))
flags false false = inl refl

-- so are two integers
pub integers : (a b : ℤ) → IsDecided a b
integers a b = by_test (int_eq a b) refl
  where
    by_test : (t : Bool) → int_eq a b ≡ t → IsDecided a b
    by_test true e = inl ((Decides-int_eq a b).0 e)
    by_test false e = inr (λ same. true≢false (sym ((Decides-int_eq a b).1 same) ∙ e))

-- by two things that are told by it
pub both_decided : {A B C : Type 0} {x y : C} (f : C → A) (g : C → B) → (f x ≡ f y → g x ≡ g y → x ≡ y)
    → IsDecided (f x) (f y) → IsDecided (g x) (g y) → IsDecided x y
both_decided f g make (inl p) (inl q) = inl (make p q)
both_decided f g make (inl p) (inr q) = inr (λ e. q (ap g e))
both_decided f g make (inr p) q = inr (λ e. p (ap f e))

-- by what it is made of
pub decided_by : {X K : Type 0} (key : X → K) (made : K → X) → ((x : X) → made (key x) ≡ x) → {x y : X}
    → IsDecided (key x) (key y) → IsDecided x y
decided_by key made back {x = x} {y = y} (inl e) = inl (sym (back x) ∙ ap made e ∙ back y)
decided_by key made back (inr d) = inr (λ e. d (ap key e))

-- so are two lists of such items
pub lists_decided : {X : Type 0} → ((a b : X) → IsDecided a b) → (xs ys : List X) → IsDecided xs ys
lists_decided each [] [] = inl refl
lists_decided each [] (y ∷ ys) = inr (λ e. absurd cc)
lists_decided each (x ∷ xs) [] = inr (λ e. absurd cc)
lists_decided each (x ∷ xs) (y ∷ ys) = by_both (each x y) (lists_decided each xs ys)
  where
    by_both : IsDecided x y → IsDecided xs ys → IsDecided (x ∷ xs) (y ∷ ys)
    by_both (inl p) (inl q) = inl (ap₂ (λ a b. a ∷ b) p q)
    by_both (inl p) (inr q) = inr (λ e. q cc)
    by_both (inr p) q = inr (λ e. p cc)

-- so are two pairs of such
pub pairs : {A B : Type 0} {a c : A} {b d : B} → IsDecided a c → IsDecided b d → IsDecided {I = A × B} (a, b) (c, d)
pairs (inl p) (inl q) = inl (ap₂ (λ x y. (x, y)) p q)
pairs {A = A} {B = B} (inl p) (inr q) = inr (λ e. q (ap (λ (k : A × B). k.1) e))
pairs {A = A} {B = B} (inr p) q = inr (λ e. p (ap (λ (k : A × B). k.0) e))

module _ {A I : Type 0} (parts : I → A → Table A) (own : A → A → A) (keeps : (i : I)
    → Keeps (parts i) own) (i : I) (y : A) {w : List Bool} {Q : A → List Bool → Type 0} where
  -- the part of one index, where what was written is that of another
  pub one_part_written : {j : I} {seen : A → A → A} {x : A} {old new : List Bool} → IsDecided i j
      → Writes (parts j) seen x old new → seen x x ≡ x
      → ((z : A) (all : List Bool) → (i ≡ j → Follows seen (own z y) x w old all new) → Q (own z y) all)
      → EachFilling (parts i y) w Q
  one_part_written {seen = seen} {x = x} {old = old} {new = new} (inl same) writes whole f =
      part_written (parts i) own (keeps i) y
      (subst (λ k. Writes (parts k) seen x old new) (sym same) writes) whole (λ z all g. f z all (λ _. g))
  one_part_written (inr other) writes whole f = part_kept (parts i) own (keeps i) y
      (λ z all. f z all (λ is. absurd (other is)))

module _ {A : Type 0} (parts : ℕ → A → Table A) (own : A → A → A) (keeps : (n : ℕ)
    → Keeps (parts n) own) (n : ℕ) (y : A) {w : List Bool} {Q : A → List Bool → Type 0} where
  -- the part of so many turns
  pub counted_part_written : {count : ℕ} {seen : A → A → A} {x : A} {old new : List Bool}
      → Writes (parts count) seen x old new → seen x x ≡ x
      → ((z : A) (all : List Bool) → (n ≡ count → Follows seen (own z y) x w old all new) → Q (own z y) all)
      → EachFilling (parts n y) w Q
  counted_part_written {count = count} = one_part_written parts own keeps n y (numbers n count)

module _ {A I : Type 0} (tables : I → Table A) (fillable : (i : I) → IsFillable (tables i))
    (i j : I) {w : List Bool} {Q : A → List Bool → Type 0} {x : A} {old new : List Bool} where
  -- the table of one index, where what was written is that of another
  pub one_table_written : IsDecided i j → WritesTable (tables j) x old new
      → ((z : A) (all : List Bool) → (i ≡ j → z ≡ x → w ≡ old → all ≡ new) → Q z all) → EachFilling (tables i) w Q
  one_table_written (inl same) writes f =
      table_written (subst (λ k. WritesTable (tables k) x old new) (sym same) writes) (λ z all g. f z all (λ _. g))
  one_table_written (inr other) writes f = filled (fillable i) (λ z all. f z all (λ is. absurd (other is)))

  -- where it is present
  pub one_table_if_written : (c : Bool) (absent : A) {present : Bool} → IsDecided i j
      → WritesIf present (WritesTable (tables j) x) old new
      → ((z : A) (all : List Bool) → (c ≡ present → i ≡ j → z ≡ x → w ≡ old → all ≡ new) → Q z all)
      → EachFilling (when c absent (tables i)) w Q
  one_table_if_written c absent (inl same) writes f =
      when_written (tables i) c absent (fillable i)
      (where_present (λ h. subst (λ k. WritesTable (tables k) x old new) (sym same) h) writes)
      (λ z all g. f z all (λ e _. g e))
  one_table_if_written c absent (inr other) writes f =
      when_filled (λ _. filled (fillable i) (λ z all. f z all (λ _ is. absurd (other is))))
      (λ _. f absent w (λ _ is. absurd (other is)))

-- what a part keeps, by its rows
pub ruleset kept_rows = (
  then_filled,
  done_filled,
  filled,
  flag_fillable,
  zero_fillable,
  bits_fillable,
  ue_fillable,
  se_fillable,
  zeros_fillable,
  when_fillable,
  either_fillable,
)
