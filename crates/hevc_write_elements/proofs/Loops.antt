-- Loops over repeated rows.
use Rattle.std.proofs.Common.{◌≡◌, ℕ, zero, suc, ◌+◌, ◌<◌, Bool, true, false, List, [], ◌++◌}
use Rattle.std.proofs.Common.{length, get_or, set, refl, sym, ap, subst, ◌∙◌, append_assoc, arith}
use Rattle.std.proofs.lemmas.List.{append-nil, get_or-set_same, get_or-set_other, length-set}
use Rattle.hevc_spec.specs.Table.{Table, part}
use Rattle.hevc_spec.specs.Lines.{Line, HasLines}
use Rattle.hevc_spec.specs.Rows.{repeat, when}
use Rattle.hevc_write_elements.specs.Filling.{SameBelow, EachFilling, Keeps, Writes, WritesTable}
use Rattle.hevc_write_elements.specs.Filling.{WritesIf, WritesTurn, WritesTurns}
use Rattle.hevc_write_elements.proofs.Fillings.{weakened, beside, then_filled, done_filled, same_filled}
use Rattle.hevc_write_elements.proofs.RowRules.{when_filled}
use Rattle.hevc_write_elements.proofs.Parts.{IsFillable, part_kept}
use Rattle.std.proofs.lemmas.Bool.{true≢false}

-- ---- the last turn comes after the others

-- lines of all turns are those of all but the last and those of the last
last_turn : {S : Type 0} (body : ℕ → S → Table S) (i n : ℕ) (s z : S) (lines : List Line)
    → HasLines (repeat body i (suc n) s) z lines → HasLines (part (repeat body i n s) (body (i + n))) z lines
unfolding repeat
last_turn body i zero s z lines h =
    let here : i ≡ i + zero = omega arith in
    let end = h.4 in
    let first : HasLines (body i s) z h.1 = subst (λ x. HasLines (body i s) x h.1) end.0 h.3 in
    let all : lines ≡ h.1 = h.5 ∙ ap (λ (o : List Line). h.1 ++ o) end.1 ∙ append-nil h.1 in
    (s, [], h.1, (refl, refl), subst (λ (k : ℕ). HasLines (body k s) z h.1) here first, all)
last_turn body i (suc n) s z lines h =
    let here : i + 1 + n ≡ i + suc n = omega arith in
    let r = last_turn body (i + 1) n h.0 z h.2 h.4 in (
      r.0,
      h.1 ++ r.1,
      r.2,
      (h.0, h.1, r.1, h.3, r.3, refl),
      subst (λ (k : ℕ). HasLines (body k r.0) z r.2) here r.4,
      h.5 ∙ ap (λ (o : List Line). h.1 ++ o) r.5 ∙ sym (append_assoc h.1 r.1 r.2),
    )

-- and the other way round
turns_then : {S : Type 0} (body : ℕ → S → Table S) (i n : ℕ) (s z : S) (lines : List Line)
    → HasLines (part (repeat body i n s) (body (i + n))) z lines → HasLines (repeat body i (suc n) s) z lines
unfolding repeat
turns_then body i zero s z lines h =
    let here : i + zero ≡ i = omega arith in
    let end = h.3 in
    let at : HasLines (body i s) z h.2 =
    subst (λ x. HasLines (body i x) z h.2) (sym end.0) (subst (λ (k : ℕ). HasLines (body k h.0) z h.2) here h.4) in
    let all : lines ≡ h.2 ++ [] = h.5 ∙ ap (λ (f : List Line). f ++ h.2) end.1 ∙ sym (append-nil h.2) in
    (z, h.2, [], at, (refl, refl), all)
turns_then body i (suc n) s z lines h =
    let here : i + suc n ≡ i + 1 + n = omega arith in
    let f = h.3 in
    let rest = turns_then body (i + 1) n f.0 z (f.2 ++ h.2)
    (h.0, f.2, h.2, f.4, subst (λ (k : ℕ). HasLines (body k h.0) z h.2) here h.4, refl) in
    (f.0, f.1, f.2 ++ h.2, f.3, rest, h.5 ∙ ap (λ (o : List Line). o ++ h.2) f.5 ∙ append_assoc f.1 f.2 h.2)

-- one turn more is filled
one_more_filled : {S : Type 0} (body : ℕ → S → Table S) (n : ℕ) (s : S) {w : List Bool} {Q : S → List Bool
    → Type 0} → EachFilling (repeat body 0 n s) w (λ z all. EachFilling (body n z) all Q)
    → EachFilling (repeat body 0 (n + 1) s) w Q
one_more_filled body n s {w = w} {Q = Q} h =
    let k : 0 + n ≡ n = omega arith in
    let more : n + 1 ≡ suc n = omega arith in
    let both : EachFilling (part (repeat body 0 n s) (body (0 + n))) w Q =
    then_filled (weakened h (λ z all p. rw k p)) in
    rw more (same_filled (repeat body 0 (suc n) s) (part (repeat body 0 n s) (body (0 + n))) w Q
    (last_turn body 0 n s) (turns_then body 0 n s) both)

-- ---- the turns of a loop

module _ {S : Type 0} (body : ℕ → S → Table S) where
  -- repeated rows keep what each turn keeps
  pub turns_keep : (own : S → S → S) → ((i : ℕ) → Keeps (body i) own) → (n : ℕ) → Keeps (repeat body 0 n) own
  unfolding repeat
  turns_keep own each n = record { same = (each 0).same; last = (each 0).last; kept = λ y w. from 0 n y w }
    where
      from : (i n : ℕ) (y : S) (w : List Bool) → EachFilling (repeat body i n y) w (λ z _. own z y ≡ z)
      from i zero y w = done_filled ((each 0).same y)
      from i (suc n) y w =
          then_filled (weakened ((each i).kept y w)
          (λ z all p. weakened (from (i + 1) n z all) (λ u more q. sym ((each 0).last y z u) ∙ ap (own u) p ∙ q)))

  -- there are always lines of all turns to write
  pub turns_fillable : ((i : ℕ) (s : S) → IsFillable (body i s)) → (n : ℕ) (s : S) → IsFillable (repeat body 0 n s)
  unfolding repeat
  turns_fillable each n s = record { fill = λ w. from 0 n s w }
    where
      from : (i n : ℕ) (y : S) (w : List Bool) → EachFilling (repeat body i n y) w (λ _ _. Unit {0})
      from i zero y w = done_filled tt
      from i (suc n) y w = then_filled (weakened ((each i y).fill w) (λ z all _. from (i + 1) n z all))

  module _ (agrees : ℕ → S → Type 0) where
    pub no_turns : (old : List Bool) → WritesTurns body agrees 0 old old
    unfolding repeat
    no_turns old = record { written = λ y w. done_filled (λ a e. e) }

    pub one_more_turn : {n : ℕ} {old now next : List Bool} → WritesTurns body agrees n old now
        → WritesTurn body agrees n now next → WritesTurns body agrees (n + 1) old next
    one_more_turn {n} h f = record {
      written = λ y w. one_more_filled body n y
          (weakened (h.written y w)
          (λ z all p. weakened (f.written z all) (λ u more q a e. let b = q a in b.1 (p b.0 e))));
    }

    -- all turns, where the elements agree as a whole
    pub all_turns : {seen : S → S → S} {x : S} {n : ℕ} {old new : List Bool}
        → ((z : S) → seen z x ≡ x → agrees n z) → WritesTurns body agrees n old new
        → Writes (repeat body 0 n) seen x old new
    all_turns agree h = record { written = λ y w. weakened (h.written y w) (λ z all p e. p (agree z e)) }

    pub turns_table : {x : S} {n : ℕ} {old new : List Bool} → agrees n x → WritesTurns body agrees n old new
        → (y : S) → WritesTable (repeat body 0 n y) x old new
    turns_table {n = n} agree h y = record {
      written = λ w. weakened (h.written y w) (λ z all p e. p (subst (agrees n) (sym e) agree));
    }

-- a part of a turn that is present only under a condition
module _ {S : Type 0} (body : ℕ → S → Table S) (agrees : ℕ → S → Type 0) (own : S → S
    → S) (i : ℕ) (keeps : Keeps (body i) own) (y : S) (less : agrees (i + 1) y
    → agrees i y) {w old new : List Bool} {Q : S → List Bool → Type 0} where
  -- what is there of it agrees with what was before
  pub when_turn_written : {c present : Bool} → WritesIf present (WritesTurn body agrees i) old new
      → ((z : S) (all : List Bool)
      → (c ≡ present → agrees (i + 1) (own z y) → agrees i y × (w ≡ old → all ≡ new)) → Q (own z y) all)
      → EachFilling (when c y (body i y)) w Q
  when_turn_written {c = c} {present = present} writes f = by_present present writes f
    where
      by_present : (present : Bool) → WritesIf present (WritesTurn body agrees i) old new
          → ((z : S) (all : List Bool)
          → (c ≡ present → agrees (i + 1) (own z y) → agrees i y × (w ≡ old → all ≡ new)) → Q (own z y) all)
          → EachFilling (when c y (body i y)) w Q
      by_present true h f =
          when_filled (λ is. weakened (beside (keeps.kept y w) ((h.there refl).written y w))
          (λ z all g. subst (λ u. Q u all) g.0 (f z all (λ _ a. g.1 (subst (agrees (i + 1)) g.0 a)))))
          (λ is. subst (λ u. Q u w) (keeps.same y) (f y w (λ e. absurd (true≢false (sym e ∙ is)))))
      by_present false h f =
          when_filled (λ is. part_kept (body i) own keeps y (λ z all. f z all (λ e. absurd (true≢false (sym is ∙ e)))))
          (λ is. subst
          (λ u. Q u w) (keeps.same y)
          (f y w (λ _ a. (less (subst (agrees (i + 1)) (keeps.same y) a), λ at. at ∙ sym (h.absent refl)))))

-- ---- lists that are set element by element

module _ {X : Type 0} where
  -- one element fewer
  pub fewer_same : (n : ℕ) (xs ys : List X) → SameBelow (n + 1) xs ys → SameBelow n xs ys
  fewer_same n xs ys h = record { long = h.long; same = λ k d lt. h.same k d (omega arith) }

  -- equal lists are the same as far as any number
  pub all_same : (n : ℕ) (xs ys : List X) → xs ≡ ys → SameBelow n xs ys
  all_same n xs ys e = record { long = ap length e; same = λ k d lt. ap (λ (zs : List X). get_or zs k d) e }

  -- one element more
  pub one_less : (i : ℕ) (xs ys : List X) (v d : X) → i < length ys → SameBelow (i + 1) (set xs i v) ys
      → SameBelow i xs ys × (v ≡ get_or ys i d)
  one_less i xs ys v d lt h =
      let long : length xs ≡ length ys = sym (length-set xs i v) ∙ h.long in
      let within : i < length xs = omega arith in (
        record {
          long = long;
          same = λ k e below. sym (get_or-set_other xs i k v e (omega arith))
              ∙ h.same k e (omega arith);
        },
        sym (get_or-set_same xs i v d within) ∙ h.same i d (omega arith),
      )

-- what a loop over repeated rows needs
pub ruleset turns = (no_turns, one_more_turn)
