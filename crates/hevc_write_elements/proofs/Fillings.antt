-- Each way to fill in a table, by its parts.
use Rattle.std.proofs.Common.{◌≡◌, ℕ, suc, ◌+◌, ◌^◌, ◌<◌, ◌≤◌, Bool, true, List, [], ◌∷◌, ◌++◌}
use Rattle.std.proofs.Common.{length, refl, sym, ap, ap₂, subst, ◌∙◌, append_assoc, arith}
use Rattle.std.proofs.lemmas.List.{append-nil}
use Rattle.std.proofs.Math.Pow.{pow_mono}
use Rattle.hevc_spec.specs.declared.Row.{Row}
use Rattle.hevc_spec.specs.Bits.{Form, u, ue, se, skip, check, IsSpelled, IsExpGolomb, IsAtFront, number}
use Rattle.hevc_spec.specs.Table.{Table, done, element, part}
use Rattle.hevc_spec.specs.Lines.{Line, AreGood, HasLines}
use Rattle.hevc_spec.proofs.BitSteps.{spelled-bound}
use Rattle.hevc_reading_laws.proofs.TableLaws.{joined-append, AreGood-append, AreGood-front, AreGood-rest}
use Rattle.hevc_bit_writer.specs.Writing.{CanSpell, spelled}
use Rattle.hevc_bit_writer.proofs.Spellings.{is_spelled}
use Rattle.hevc_write_elements.specs.Choices.{is_chosen, AreChosen, IsFilled, flags_of_row}
use Rattle.hevc_write_elements.proofs.Counting.{fewer_joined, none_first, one_fewer}
use Rattle.hevc_write_elements.specs.Filling.{EachFilling}

-- chosen lines that follow one another are chosen
pub AreChosen-append : (a b : List Line) → AreChosen a → AreChosen b → AreChosen (a ++ b)
AreChosen-append [] b p q = q
AreChosen-append (l ∷ a) b p q = (p.0, AreChosen-append a b p.1 q)

-- ---- a value that is spelled can be

-- n bits spell a number below 2 ^ n
bounded : (n v : ℕ) (bits : List Bool) → length bits ≡ n → number bits ≡ v → v < 2 ^ n
bounded n v bits long is =
    let here : IsAtFront (u n) v bits [] = record {
      front = bits;
      spelled = (long, is);
      parts = sym (append-nil bits);
    } in
    spelled-bound n v bits [] here

-- a number with an Exp-Golomb spelling is below 2 ^ 32 - 1
golomb_bounded : (v : ℕ) (bits : List Bool) → IsExpGolomb v bits → v + 1 < 2 ^ 32
golomb_bounded v bits s =
    let below = bounded (suc (length s.rest)) (number (true ∷ s.rest)) (true ∷ s.rest) refl refl in
    let few : suc (length s.rest) ≤ 32 = omega (arith, s.short) in
    omega (arith, s.value_is, below, pow_mono few)

-- what bits spell can be spelled
can_spell : (form : Form) (v : ℕ) (bits : List Bool) → IsSpelled form v bits → CanSpell form v
can_spell (u n) v bits s = bounded n v bits s.0 s.1
can_spell ue v bits s = golomb_bounded v bits s
can_spell se v bits s = golomb_bounded v bits s
can_spell (skip n) v bits s = bounded n v bits s.0 s.1
can_spell check v bits s = s.1

-- ---- lines

-- the lines of two parts
both_filled : {A B : Type 0} {t : Table A} {k : A → Table B} {first second : List Bool} (x : A) (y : B)
    (a b lines : List Line) → lines ≡ a ++ b → IsFilled t x a first → IsFilled (k x) y b second
    → IsFilled (part t k) y lines (first ++ second)
both_filled x y a b lines e p q =
    let f = p.formed in
    let g = q.formed in
    record {
      formed = record {
        lines = f.lines ++ g.lines;
        has = (x, f.lines, g.lines, f.has, g.has, refl);
        good = AreGood-append f.lines g.lines f.good g.good;
        chosen = AreChosen-append f.lines g.lines f.chosen g.chosen;
        parts = ap₂ (λ (p q : List Bool). p ++ q) f.parts g.parts ∙ sym (joined-append f.lines g.lines);
      };
      fewer = fewer_joined f.lines g.lines a b lines e p.fewer q.fewer;
    }

-- the same lines, of another table
same_lines : {A B : Type 0} {t : Table A} {s : Table B} {x : A} {y : B} {bits : List Bool}
    (others : List Line) (p : IsFilled t x others bits) → HasLines s y p.formed.lines → IsFilled s y others bits
same_lines others p has =
    let f = p.formed in
    record {
      formed = record {
        lines = f.lines;
        has = has;
        good = f.good;
        chosen = f.chosen;
        parts = f.parts;
      };
      fewer = p.fewer;
    }

-- ---- tables

module _ {A : Type 0} {t : Table A} {w : List Bool} where
  -- what is filled so that P holds is so that what follows from P holds
  pub weakened : {P Q : A → List Bool → Type 0} → EachFilling t w P
      → ((x : A) (all : List Bool) → P x all → Q x all) → EachFilling t w Q
  weakened h f = record { all = λ x lines has good. let r = h.all x lines has good in (r.0, r.1, f x (w ++ r.0) r.2) }

  -- what holds of the record alone holds beside
  pub beside : {K : A → Type 0} {Q : A → List Bool → Type 0} → EachFilling t w (λ x _. K x)
      → EachFilling t w Q → EachFilling t w (λ x all. K x × Q x all)
  beside h g = record {
    all = λ x lines has good. let r = g.all x lines has good in (r.0, r.1, ((h.all x lines has good).2, r.2));
  }

-- a table without rows
pub done_filled : {A : Type 0} {x : A} {w : List Bool} {Q : A → List Bool → Type 0} → Q x w → EachFilling (done x) w Q
done_filled {x = x} {w = w} {Q = Q} q = record {
  all = λ y lines has good. (
    [],
    record {
      formed = record { lines = []; has = (has.0, refl); good = tt; chosen = tt; parts = refl };
      fewer = none_first lines;
    },
    subst (λ z. Q z (w ++ [])) has.0 (rw append-nil q),
  );
}

-- one part after another
pub then_filled : {A B : Type 0} {t : Table A} {k : A → Table B} {w : List Bool} {Q : B → List Bool
    → Type 0} → EachFilling t w (λ x all. EachFilling (k x) all Q) → EachFilling (part t k) w Q
then_filled {t = t} {k = k} {w = w} {Q = Q} h = record {
  all = λ y lines has good.
      let all : AreGood (has.1 ++ has.2) = subst AreGood has.5 good in
      let a = h.all has.0 has.1 has.3 (AreGood-front has.1 has.2 all) in
      let b = a.2.all y has.2 has.4 (AreGood-rest has.1 has.2 all) in (
        a.0 ++ b.0,
        both_filled {k = k} has.0 y has.1 has.2 lines has.5 a.1 b.1,
        subst (Q y) (append_assoc w a.0 b.0) b.2,
      );
}

-- an element: some other value that gives the same record is written, or the same value
pub element_filled : {A : Type 0} (r : Row) (form : Form) (allowed : ℕ → Bool) (value : ℕ
    → A) (w : List Bool) (Q : A → List Bool → Type 0)
    → ((v : ℕ) → allowed v ≡ true → CanSpell form v → (n : ℕ) × (value n ≡ value v) × (allowed n ≡ true)
    × CanSpell form n × (is_chosen r form n ≡ true) × Q (value v) (w ++ spelled form n)
    × (flags_of_row r n ≤ flags_of_row r v))
    → EachFilling (element r form allowed value) w Q
element_filled r form allowed value w Q f = record {
  all = λ y lines has good.
      let l : Line = record {
        head = record { row = r; form = form; allowed = allowed };
        value = has.0;
        bits = has.1;
      } in
      let here : AreGood (l ∷ []) = subst AreGood has.3 good in
      let n = f has.0 here.0.0 (can_spell form has.0 has.1 here.0.1) in
      let m : Line = record {
        head = record { row = r; form = form; allowed = allowed };
        value = n.0;
        bits = spelled form n.0;
      } in (
        spelled form n.0,
        record {
          formed = record {
            lines = m ∷ [];
            has = (n.0, spelled form n.0, n.1 ∙ has.2, refl);
            good = ((n.2, is_spelled form n.0 n.3), tt);
            chosen = (n.4, tt);
            parts = sym (append-nil (spelled form n.0));
          };
          fewer = one_fewer m l lines has.3 n.6;
        },
        subst (λ z. Q z (w ++ spelled form n.0)) has.2 n.5,
      );
}

-- a table that has the same lines
pub same_filled : {A : Type 0} (t s : Table A) (w : List Bool) (Q : A → List Bool → Type 0)
    → ((x : A) (lines : List Line) → HasLines t x lines → HasLines s x lines)
    → ((x : A) (lines : List Line) → HasLines s x lines → HasLines t x lines)
    → EachFilling s w Q → EachFilling t w Q
same_filled t s w Q there back h = record {
  all = λ x lines has good.
      let r = h.all x lines (there x lines has) good in
      (r.0, same_lines lines r.1 (back x r.1.formed.lines r.1.formed.has), r.2);
}

-- other lines are written for the first of two parts: those of something from which the second gives the same
pub instead_filled : {A B : Type 0} (t : Table A) (k : A → Table B) (w : List Bool) (Q : B → List Bool → Type 0)
    → ((x : A) (lines : List Line) → HasLines t x lines → AreGood lines
    → (other : A) × (bits : List Bool) × IsFilled t other lines bits × ((z : B) (rest : List Line)
    → HasLines (k x) z rest → HasLines (k other) z rest) × EachFilling (k x) (w ++ bits) Q)
    → EachFilling (part t k) w Q
instead_filled t k w Q h = record {
  all = λ y lines has good.
      let all : AreGood (has.1 ++ has.2) = subst AreGood has.5 good in
      let a = h has.0 has.1 has.3 (AreGood-front has.1 has.2 all) in
      let b = a.4.all y has.2 has.4 (AreGood-rest has.1 has.2 all) in (
        a.1 ++ b.0,
        both_filled {k = k} a.0 y has.1 has.2 lines has.5 a.2
            (same_lines has.2 b.1 (a.3 y b.1.formed.lines b.1.formed.has)),
        subst (Q y) (append_assoc w a.1 b.0) b.2,
      );
}

-- a part that is cut in two is filled as one
pub joined_filled : {A B C : Type 0} {t : Table A} {k : A → Table B} {m : B
    → Table C} {w : List Bool} {Q : C → List Bool → Type 0} → EachFilling (part (part t k) m) w Q
    → EachFilling (part t (λ x. part (k x) m)) w Q
joined_filled {t = t} {k = k} {m = m} {w = w} {Q = Q} h =
    same_filled (part t (λ x. part (k x) m)) (part (part t k) m) w Q
    (λ z lines has. let r = has.4 in (
      r.0,
      has.1 ++ r.1,
      r.2,
      (has.0, has.1, r.1, has.3, r.3, refl),
      r.4,
      has.5
          ∙ ap (λ (o : List Line). has.1 ++ o) r.5 ∙ sym (append_assoc has.1 r.1 r.2),
    ))
    (λ z lines has. let f = has.3 in (
      f.0,
      f.1,
      f.2 ++ has.2,
      f.3,
      (has.0, f.2, has.2, f.4, has.4, refl),
      has.5
          ∙ ap (λ (o : List Line). o ++ has.2) f.5 ∙ append_assoc f.1 f.2 has.2,
    ))
    h
