-- What the parts of table 16 leave, and their loops.
use Rattle.std.proofs.Common.{◌≡◌, ℕ, ℤ, zero, suc, ◌+◌, ◌<◌, pos, Bool, List, [], ◌∷◌, length}
use Rattle.std.proofs.Common.{get_or, set, refl, sym, ap, subst, ◌∙◌, arith}
use Rattle.std.proofs.lemmas.List.{get_or-set_same, get_or-set_other, length-set}
use Rattle.hevc_spec.specs.Rows.{repeat}
use Rattle.hevc_records.specs.Sps.{PlainSps}
use Rattle.hevc_tables.specs.WeightedPredictionTable.{ListWeights, luma_flag, chroma_flag}
use Rattle.hevc_tables.specs.WeightedPredictionTable.{luma_flags, chroma_flags, flags, luma_weight}
use Rattle.hevc_tables.specs.WeightedPredictionTable.{component_set, chroma_component}
use Rattle.hevc_tables.specs.WeightedPredictionTable.{chroma_weight, place_weights, weights}
use Rattle.hevc_tables.specs.WeightedPredictionTable.{list_weights, denominators, pred_weight_table}
use Rattle.hevc_write_elements.specs.Filling.{Keeps, Writes, WritesTable, WritesTurns, SameBelow}
use Rattle.hevc_write_elements.proofs.Steps.{kept_rows, IsFillable, then_filled, done_filled}
use Rattle.hevc_write_elements.proofs.Steps.{filled, when_fillable, part_kept, when_kept, by}
use Rattle.hevc_write_elements.proofs.Loops.{turns_keep, all_turns, all_same, one_less, fewer_same}
use Rattle.hevc_write_slice_parts.specs.WeightParts as own

module _ (list : ℕ) where
  -- sets no elements but those of row 3
  luma_flag_keeps : (i : ℕ) → Keeps (luma_flag list i) own.luma_flags_of
  unfolding luma_flag
  luma_flag_keeps i = record {
    same = λ y. refl;
    last = λ x y z. refl;
    kept = λ y w. search kept_rows depth 40 fits 4000;
  }

  -- sets no elements but those of row 3
  pub luma_flags_keep : (count : ℕ) → Keeps (luma_flags list count) own.luma_flags_of
  unfolding luma_flags
  luma_flags_keep count = turns_keep (luma_flag list) own.luma_flags_of luma_flag_keeps count

  -- the whole of it is written once all its turns are
  pub luma_flags_written : (x : ListWeights) (n count : ℕ) {old new : List Bool}
      → WritesTurns (luma_flag list) (own.same_luma_flags x) n old new → n ≡ count
      → Writes (luma_flags list count) own.luma_flags_of x old new
  unfolding luma_flags
  luma_flags_written x n count {old = old} {new = new} h e =
      subst (λ (k : ℕ). Writes (repeat (luma_flag list) 0 k) own.luma_flags_of x old new) e
      (all_turns (luma_flag list) (own.same_luma_flags x) (λ z is. all_same _ _ _ (by is (λ r. r.luma_weight_flag))) h)

  -- sets no elements but those of row 4
  chroma_flag_keeps : (i : ℕ) → Keeps (chroma_flag list i) own.chroma_flags_of
  unfolding chroma_flag
  chroma_flag_keeps i = record {
    same = λ y. refl;
    last = λ x y z. refl;
    kept = λ y w. search kept_rows depth 40 fits 4000;
  }

  -- sets no elements but those of row 4
  pub chroma_flags_keep : (count : ℕ) → Keeps (chroma_flags list count) own.chroma_flags_of
  unfolding chroma_flags
  chroma_flags_keep count = turns_keep (chroma_flag list) own.chroma_flags_of chroma_flag_keeps count

  -- the whole of it is written once all its turns are
  pub chroma_flags_written : (x : ListWeights) (n count : ℕ) {old new : List Bool}
      → WritesTurns (chroma_flag list) (own.same_chroma_flags x) n old new → n ≡ count
      → Writes (chroma_flags list count) own.chroma_flags_of x old new
  unfolding chroma_flags
  chroma_flags_written x n count {old = old} {new = new} h e =
      subst (λ (k : ℕ). Writes (repeat (chroma_flag list) 0 k) own.chroma_flags_of x old new) e
      (all_turns (chroma_flag list) (own.same_chroma_flags x)
      (λ z is. all_same _ _ _ (by is (λ r. r.chroma_weight_flag))) h)

module _ (sps : PlainSps) (list : ℕ) where
  -- sets no elements but those of rows 5 and 6
  pub luma_weight_keeps : (i : ℕ) → Keeps (luma_weight sps list i) own.luma_weights_of
  unfolding luma_weight
  luma_weight_keeps i = record {
    same = λ y. refl;
    last = λ x y z. refl;
    kept = λ y w. search kept_rows depth 40 fits 4000;
  }

  -- sets no elements but those of rows 7 and 8
  pub chroma_weight_keeps : (i : ℕ) → Keeps (chroma_weight sps list i) own.chroma_weights_of
  unfolding chroma_weight chroma_component
  chroma_weight_keeps i = record {
    same = λ y. refl;
    last = λ x y z. refl;
    kept = λ y w. search kept_rows depth 40 fits 4000;
  }

  -- sets no elements but those of rows 5 to 8
  place_keeps : (i : ℕ) → Keeps (place_weights sps list i) own.weights_of
  unfolding place_weights
  place_keeps i = record {
    same = λ y. refl;
    last = λ x y z. refl;
    kept = λ y w. then_filled
        (when_kept (luma_weight sps list i) own.luma_weights_of (luma_weight_keeps i) y _
        (λ z b. when_kept (chroma_weight sps list i) own.chroma_weights_of (chroma_weight_keeps i) _ _ (λ u d. refl)));
  }

  -- sets no elements but those of rows 5 to 8
  pub weights_keep : (count : ℕ) → Keeps (weights sps list count) own.weights_of
  unfolding weights
  weights_keep count = turns_keep (place_weights sps list) own.weights_of place_keeps count

  -- the whole of it is written once all its turns are
  pub weights_written : (x : ListWeights) (n count : ℕ) {old new : List Bool}
      → WritesTurns (place_weights sps list) (own.SameWeights x) n old new → n ≡ count
      → Writes (weights sps list count) own.weights_with_inputs_of x old new
  unfolding weights
  weights_written x n count {old = old} {new = new} h e =
      subst (λ (k : ℕ). Writes (repeat (place_weights sps list) 0 k) own.weights_with_inputs_of x old new) e
      (all_turns (place_weights sps list) (own.SameWeights x) (λ z is. record {
        luma_flags = by is (λ r. r.luma_weight_flag);
        chroma_flags = by is (λ r. r.chroma_weight_flag);
        luma = (all_same _ _ _ (by is (λ r. r.delta_luma_weight)), all_same _ _ _ (by is (λ r. r.luma_offset)));
        chroma = (
          all_same _ _ _ (by is (λ r. r.delta_chroma_weight)),
          all_same _ _ _ (by is (λ r. r.delta_chroma_offset)),
        );
      }) h)

  -- there are always lines of list weights to write
  pub list_weights_fillable : (count : ℕ) → IsFillable (list_weights sps list count)
  unfolding list_weights flags
  list_weights_fillable count = record {
    fill = λ w. then_filled
        (then_filled (part_kept (luma_flags list count) own.luma_flags_of (luma_flags_keep list count) _ (λ z b.
        when_kept (chroma_flags list count) own.chroma_flags_of (chroma_flags_keep list count) _ _
        (λ u d. part_kept (weights sps list count) own.weights_of (weights_keep count) _ (λ v f. tt)))));
  }

-- the same number of places
pub of_places : (sps : PlainSps) (list : ℕ) {m n : ℕ} {x : ListWeights} {old new : List Bool} → m ≡ n
    → WritesTable (list_weights sps list (m + 1)) x old new → WritesTable (list_weights sps list (n + 1)) x old new
of_places sps list {x = x} {old = old} {new = new} e =
    subst (λ (k : ℕ). WritesTable (list_weights sps list (k + 1)) x old new) e

-- fewer places
pub fewer_luma : (x : ListWeights) (n : ℕ) (z : ListWeights) → own.same_luma x (n + 1) z → own.same_luma x n z
fewer_luma x n z a = (fewer_same n _ _ a.0, fewer_same n _ _ a.1)

-- weights of one place fewer
pub fewer_chroma : (x : ListWeights) (n : ℕ) (z : ListWeights) → own.same_chroma x (n + 1) z → own.same_chroma x n z
fewer_chroma x n z a = (fewer_same n _ _ a.0, fewer_same n _ _ a.1)

-- sets no elements but those of rows 1 and 2
pub denominators_keep : (sps : PlainSps) → Keeps (denominators sps) own.denominators_of
unfolding denominators
denominators_keep sps = record {
  same = λ y. refl;
  last = λ x y z. refl;
  kept = λ y w. search kept_rows depth 40 fits 4000;
}

-- ---- a number for Cb and one for Cr

-- the later of two items in a place stays
set_set : {X : Type 0} (l : List X) (c : ℕ) (a b : X) → set (set l c a) c b ≡ set l c b
set_set [] c a b = refl
set_set (x ∷ l) zero a b = refl
set_set (x ∷ l) (suc c) a b = ap (λ (m : List _). x ∷ m) (set_set l c a b)

-- both components of a place are those of the record
pub both_components : (l xs : List (List ℤ)) (i : ℕ) (a b : ℤ) → i < length xs → length (get_or xs i []) ≡ 2
    → SameBelow (i + 1) (component_set (component_set l i 0 a) i 1 b) xs
    → SameBelow i l xs × (a ≡ get_or (get_or xs i []) 0 (pos 0)) × (b ≡ get_or (get_or xs i []) 1 (pos 0))
both_components l xs i a b lt two h =
    let first = set (get_or l i []) 0 a in
    let inside : i < length l =
    omega (arith, h.long, length-set (set l i first) i (set (get_or (set l i first) i []) 1 b), length-set l i first) in
    let here : get_or (set l i first) i [] ≡ first = get_or-set_same l i first [] inside in
    let pair = set first 1 b in
    let all : set (set l i first) i (set (get_or (set l i first) i []) 1 b) ≡ set l i pair =
    ap (λ (r : List ℤ). set (set l i first) i (set r 1 b)) here ∙ set_set l i first pair in
    let p = one_less i l xs pair [] lt (subst (λ (m : List (List ℤ)). SameBelow (i + 1) m xs) all h) in
    let long : length (get_or l i []) ≡ 2 = sym (length-set (get_or l i []) 0 a)
    ∙ sym (length-set first 1 b) ∙ ap length p.1 ∙ two in
    let long_first : length first ≡ 2 = length-set (get_or l i []) 0 a ∙ long in
    let cb : get_or pair 0 (pos 0) ≡ a = get_or-set_other first 1 0 b (pos 0) (omega arith)
    ∙ get_or-set_same (get_or l i []) 0 a (pos 0) (omega (arith, long)) in
    let cr : get_or pair 1 (pos 0) ≡ b = get_or-set_same first 1 b (pos 0) (omega (arith, long_first)) in
    (p.0, sym cb ∙ ap (λ (r : List ℤ). get_or r 0 (pos 0)) p.1, sym cr ∙ ap (λ (r : List ℤ). get_or r 1 (pos 0)) p.1)

-- ---- all of table 16

-- there are always lines of pred weight table to write
pub pred_weight_table_fillable : (sps : PlainSps) (is_b : Bool) (active_l0 active_l1 : ℕ)
    → IsFillable (pred_weight_table sps is_b active_l0 active_l1)
unfolding pred_weight_table
pred_weight_table_fillable sps is_b active_l0 active_l1 = record {
  fill = λ w. then_filled (part_kept (denominators sps) own.denominators_of (denominators_keep sps) _ (λ z1 b1.
      then_filled (filled (list_weights_fillable sps 0 (active_l0 + 1)) (λ v2 b2.
      then_filled (filled (when_fillable _ _ (list_weights_fillable sps 1 (active_l1 + 1))) (λ v3 b3.
      done_filled tt))))));
}
