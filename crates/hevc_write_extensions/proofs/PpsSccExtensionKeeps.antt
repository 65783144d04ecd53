-- What the parts of table 13 leave, and the predictors of its palettes.
use Rattle.std.proofs.Common.{◌≡◌, ℕ, ◌+◌, ◌<◌, ◌≤◌, ◌^◌, ◌-◌, Bool, true, false, List, length}
use Rattle.std.proofs.Common.{get_or, refl, sym, ap₂, subst, arith}
use Rattle.std.specs.Prelude.{◌&&◌, ◌==◌, not, nat_le}
use Rattle.std.proofs.lemmas.Bool.Decides.{nat_tests}
use Rattle.hevc_spec.specs.Bits.{in_range}
use Rattle.hevc_spec.specs.Rows.{row, repeat}
use Rattle.hevc_records.specs.PpsSccExtension.{PlainPpsSccExtension}
use Rattle.hevc_tables.specs.PpsSccExtensionTable.{colour_transform, predictor}
use Rattle.hevc_tables.specs.PpsSccExtensionTable.{component_predictors, predictors, initializers}
use Rattle.hevc_tables.specs.PpsSccExtensionTable.{palettes, num_components, predictors_of}
use Rattle.hevc_tables.specs.SpsSccExtensionTable.{SampleFormat, bit_depth}
use Rattle.hevc_write_elements.specs.Filling.{Keeps, Writes, WritesBits, WritesTurn, WritesTurns}
use Rattle.hevc_write_elements.proofs.Steps.{kept_rows, part_kept, when_kept, one_part_written, numbers, pairs, by}
use Rattle.hevc_write_elements.proofs.Loops.{turns_keep, one_more_turn, all_turns, all_same}
use Rattle.hevc_write_extensions.specs.PpsSccExtensionParts as own
use Rattle.hevc_write_extensions.proofs.Palettes as lists

-- sets no elements but those of rows 2 to 5
pub colour_transform_keeps : Keeps colour_transform own.colour_transform_of
unfolding colour_transform
colour_transform_keeps = record {
  same = λ y. refl;
  last = λ x y z. refl;
  kept = λ y w. search kept_rows depth 40 fits 4000;
}

abbrev get : PlainPpsSccExtension → List (List ℕ)
get x = x.palette_predictor_initializer

abbrev put : List (List ℕ) → PlainPpsSccExtension → PlainPpsSccExtension
put l x = record x { palette_predictor_initializer = l }

-- a number of predictors that the table allows
pub some_palettes : (v n most : ℕ) → in_range 0 most v ≡ true → most ≤ 128 → v ≡ n
    → not (v == 0) ≡ (not (n == 0) && nat_le n 128)
some_palettes v n most within few is =
    let small : nat_le n 128 ≡ true = grind (arith, nat_tests) in
    rw (small, is) (sym (and_true (not (n == 0))))
  where
    and_true : (b : Bool) → (b && true) ≡ b
    and_true true = refl
    and_true false = refl

module _ (f : SampleFormat) where
  -- sets no elements but those of row 11 of a component
  component_keeps : (count component : ℕ)
      → Keeps (component_predictors f count component) (own.component_predictors_of component)
  unfolding component_predictors predictor
  component_keeps count component = lists.list_keeps get put (λ l a. refl) (λ l m a. refl)
      (λ a. refl) (row 13 11) refl (bit_depth f component) 0 (2 ^ bit_depth f component - 1) component count

  -- sets no elements but those of row 11
  repeated_keep : (n : ℕ × ℕ) → Keeps (repeat (component_predictors f n.0) 0 n.1) own.all_predictors_of
  repeated_keep n = turns_keep (component_predictors f n.0) own.all_predictors_of
      (λ component. lists.lists_kept get put (λ l a. refl) (λ l m a. refl)
      (λ a. refl) (row 13 11) refl 0 0 0 component (component_predictors f n.0 component)
      (component_keeps n.0 component)) n.1

  -- sets no elements but those of row 11
  pub predictors_keep : Keeps (predictors f) own.all_predictors_of
  unfolding predictors
  predictors_keep = record {
    same = λ y. refl;
    last = λ x y z. refl;
    kept = λ y w. (repeated_keep (y.num_palette_predictor_initializers, num_components y)).kept y w;
  }

  -- sets no elements but those of rows 8 to 11
  pub initializers_keep : Keeps (initializers f) own.initializers_of
  unfolding initializers
  initializers_keep = record {
    same = λ y. refl;
    last = λ x y z. refl;
    kept = λ y w. search (kept_rows, part_kept (predictors f) own.all_predictors_of predictors_keep) depth 40 fits 4000;
  }

  -- sets no elements but those of rows 7 to 11
  pub palettes_keep : (most : ℕ) → Keeps (palettes f most) own.palettes_of
  unfolding palettes
  palettes_keep most = record {
    same = λ y. refl;
    last = λ x y z. refl;
    kept = λ y w. search (kept_rows, when_kept (initializers f) own.initializers_of initializers_keep) depth
        40 fits 4000;
  }

  -- one predictor of a component is written
  pub predictor_written : (x : PlainPpsSccExtension) (component i : ℕ) {old new : List Bool}
      → i < length (predictors_of x component)
      → WritesBits (bit_depth f component) (get_or (predictors_of x component) i 0) old new
      → WritesTurn (predictor f component) (own.same_predictors x component) i old new
  unfolding predictor
  predictor_written x component i lt writes = lists.predictor_written get put (λ l a. refl) (λ l m a. refl)
      (λ a. refl) (row 13 11) refl (bit_depth f component) 0 (2 ^ bit_depth f component - 1) component x i lt writes

  -- the whole of it is written once all its turns are
  pub component_written : (x : PlainPpsSccExtension) (n count component : ℕ) (old new : List Bool)
      → component < length x.palette_predictor_initializer
      → WritesTurns (predictor f component) (own.same_predictors x component) n old new → n ≡ count
      → Writes (component_predictors f count component) (own.component_predictors_of component) x old new
  unfolding component_predictors predictor
  component_written x n count component old new lt h e =
      subst (λ (k : ℕ). Writes (component_predictors f k component)
      (own.component_predictors_of component) x old new) e (lists.list_written get put (λ l a. refl)
      (λ l m a. refl) (λ a. refl) (row 13 11) refl (bit_depth f component) 0
      (2 ^ bit_depth f component - 1) component x n lt h)

  -- a component is a turn over all
  pub one_more_component : (x : PlainPpsSccExtension) (count component : ℕ) (old now next : List Bool)
      → component < length x.palette_predictor_initializer
      → WritesTurns (component_predictors f count) (own.same_components x) component old now
      → Writes (component_predictors f count component) (own.component_predictors_of component) x now next
      → WritesTurns (component_predictors f count) (own.same_components x) (component + 1) old next
  one_more_component x count component old now next lt h writes =
      one_more_turn (component_predictors f count) (own.same_components x) h (record {
        written = lists.lists_turn_written get put (λ l a. refl) (λ l m a. refl)
            (λ a. refl) (row 13 11) refl 0 0 0 component (component_predictors f count component)
            (component_keeps count component) x lt writes;
      })

  -- the whole of it is written once all its turns are
  pub predictors_written : (x : PlainPpsSccExtension) (count n : ℕ) (old new : List Bool)
      → WritesTurns (component_predictors f count) (own.same_components x) n old new
      → count ≡ x.num_palette_predictor_initializers → n ≡ num_components x
      → Writes (predictors f) own.all_predictors_with_inputs_of x old new
  unfolding predictors
  predictors_written x count n old new turns is_count e =
      let h = subst
      (λ (k : ℕ). WritesTurns (component_predictors f k) (own.same_components x) n old new) is_count turns in
      let j : ℕ × ℕ = (x.num_palette_predictor_initializers, num_components x) in
      let all : Writes (repeat (component_predictors f j.0) 0 j.1) own.all_predictors_of x old new =
      subst (λ (k : ℕ). Writes (repeat (component_predictors f x.num_palette_predictor_initializers) 0 k)
      own.all_predictors_of x old new) e
      (all_turns (component_predictors f x.num_palette_predictor_initializers) (own.same_components x)
      (λ z is. all_same _ _ _ (by is (λ r. r.palette_predictor_initializer))) h) in
      record {
        written = λ y w.
            let i : ℕ × ℕ = (y.num_palette_predictor_initializers, num_components y) in
            one_part_written
            (λ (k : ℕ × ℕ). repeat (component_predictors f k.0) 0 k.1) own.all_predictors_of repeated_keep i
            y (pairs (numbers i.0 j.0) (numbers i.1 j.1)) all refl
            (λ z b g is at. g (ap₂ (λ (k m : ℕ). (k, m)) (by is (λ r. r.num_palette_predictor_initializers))
            (by is (λ r. num_components r))) _ is refl at);
      }
