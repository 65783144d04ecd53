-- Loops that add an element to a list at each turn.
use Rattle.std.proofs.Common.{◌≡◌, ℕ, zero, suc, ◌+◌, ◌<◌, Bool, List, [], ◌∷◌, ◌++◌, length, take}
use Rattle.std.proofs.Common.{get_or, refl, sym, ap, subst, ◌∙◌, arith, inl, inr, length-append}
use Rattle.std.specs.Prelude.{◌⊎◌}
use Rattle.std.proofs.lemmas.List.{length-take, take_all}
use Rattle.hevc_spec.specs.Table.{Table, part, done}
use Rattle.hevc_spec.specs.Rows.{repeat}
use Rattle.hevc_write_elements.specs.Filling.{EachFilling, WritesTable, WritesTurn, WritesTurns, are_first}
use Rattle.hevc_write_elements.proofs.Fillings.{weakened, then_filled, done_filled}
use Rattle.hevc_write_elements.proofs.Parts.{IsFillable, filled, IsDecided, one_table_written, numbers}
use Rattle.hevc_write_elements.proofs.Loops.{turns_fillable}

-- one element more
pub last_item : {X : Type 0} (i : ℕ) (ys xs : List X) (v d : X) → i < length xs
    → ys ++ v ∷ [] ≡ take (i + 1) xs → (ys ≡ take i xs) × (v ≡ get_or xs i d)
last_item {X = X} i ys xs v d lt e =
    let more : i + 1 ≡ suc i = omega arith in
    from i ys xs lt (e ∙ ap (λ (k : ℕ). take k xs) more)
  where
    from : (i : ℕ) (ys xs : List X) → i < length xs → ys ++ v ∷ [] ≡ take (suc i) xs
        → (ys ≡ take i xs) × (v ≡ get_or xs i d)
    from i ys [] lt e = absurd (omega arith)
    from zero [] (x ∷ xs) lt e = (refl, cc)
    from zero (y ∷ ys) (x ∷ xs) lt e = absurd (omega (arith, ap length e, length-append ys (v ∷ [])))
    from (suc i) [] (x ∷ xs) lt e = absurd (omega (arith, ap length e, length-take (suc i) xs))
    from (suc i) (y ∷ ys) (x ∷ xs) lt e =
        let r = from i ys xs (omega arith) cc in
        (cc (r.0), r.1)

module _ {X : Type 0} (item : ℕ → List X → Table X) (fillable : (i : ℕ) (ys : List X) → IsFillable (item i ys)) where
  -- an element after those before it
  abbrev pub grown : ℕ → List X → Table (List X)
  grown i ys = part (item i ys) (λ v. done (ys ++ v ∷ []))

  -- there are always lines of one more item to write
  grown_fillable : (i : ℕ) (ys : List X) → IsFillable (grown i ys)
  grown_fillable i ys = record { fill = λ w. then_filled (filled (fillable i ys) (λ v all. done_filled tt)) }

  -- and of all items
  pub items_fillable : (count : ℕ) → IsFillable (repeat grown 0 count [])
  items_fillable count = turns_fillable grown grown_fillable count []

  -- each turn makes the list longer by one
  pub grows : (i k : ℕ) (y : List X) (w : List Bool)
      → EachFilling (repeat grown i k y) w (λ z _. length z ≡ length y + k)
  unfolding repeat
  grows i zero y w = done_filled (omega arith)
  grows i (suc k) y w = then_filled (then_filled (filled (fillable i y) (λ v all. done_filled (
      weakened (grows (i + 1) k (y ++ v ∷ []) all) (λ u more q. omega (arith, q, length-append y (v ∷ [])))))))

  -- an element more, where it is known whether those before it are those of the list
  pub item_written : (xs : List X) (i : ℕ) (d : X) → ((ys zs : List X) → IsDecided ys zs)
      → {old new : List Bool} → i < length xs → WritesTable (item i (take i xs)) (get_or xs i d) old new
      → WritesTurn grown (are_first xs) i old new
  item_written xs i d decide lt writes = record {
    written = λ y w. then_filled
        (one_table_written (item i) (fillable i) y (take i xs) (decide y (take i xs)) writes
        (λ v all h. done_filled (λ a.
        let p = last_item i y xs v d lt a in
        (p.0, λ at. h p.0 p.1 at))));
  }

  -- all elements: as many as the list has
  pub items_written : (xs : List X) (m count : ℕ) {old new : List Bool}
      → WritesTurns grown (are_first xs) m old new → m ≡ length xs → WritesTable (repeat grown 0 count []) xs old new
  items_written xs m count {old = old} {new = new} turns e = by_decision (numbers count m)
    where
      by_decision : (count ≡ m) ⊎ (count ≡ m → ⊥) → WritesTable (repeat grown 0 count []) xs old new
      by_decision (inl same) = record {
        written = λ w.
            subst (λ (k : ℕ). EachFilling (repeat grown 0 k []) w (λ z all. z ≡ xs → w ≡ old → all ≡ new)) (sym same)
            (weakened (turns.written [] w)
            (λ z all p is. p (is ∙ sym (ap (λ (k : ℕ). take k xs) e ∙ take_all (length xs) xs (omega arith)))));
      }
      by_decision (inr other) = record {
        written = λ w. weakened (grows 0 count [] w)
            (λ z all long is. absurd (other (omega (arith, long, ap length is))));
      }
