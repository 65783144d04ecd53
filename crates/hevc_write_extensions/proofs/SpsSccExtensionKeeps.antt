-- What the parts of table 10 leave, and the predictors of its palettes.
use Rattle.std.proofs.Common.{◌≡◌, ℕ, ◌+◌, ◌<◌, ◌^◌, ◌-◌, Bool, List, length, get_or, refl, subst}
use Rattle.hevc_spec.specs.Rows.{row, repeat}
use Rattle.hevc_records.specs.SpsSccExtension.{PlainSpsSccExtension}
use Rattle.hevc_tables.specs.SpsSccExtensionTable.{SampleFormat, bit_depth, predictor}
use Rattle.hevc_tables.specs.SpsSccExtensionTable.{component_predictors, predictors, initializers}
use Rattle.hevc_tables.specs.SpsSccExtensionTable.{palettes, num_components, predictors_of}
use Rattle.hevc_write_elements.specs.Filling.{Keeps, Writes, WritesBits, WritesTurn, WritesTurns}
use Rattle.hevc_write_elements.proofs.Steps.{kept_rows, part_kept, when_kept, by}
use Rattle.hevc_write_elements.proofs.Loops.{turns_keep, one_more_turn, all_turns, all_same}
use Rattle.hevc_write_extensions.specs.SpsSccExtensionParts as own
use Rattle.hevc_write_extensions.proofs.Palettes as lists

abbrev get : PlainSpsSccExtension → List (List ℕ)
get x = x.palette_predictor_initializer

abbrev put : List (List ℕ) → PlainSpsSccExtension → PlainSpsSccExtension
put l x = record x { palette_predictor_initializer = l }

module _ (f : SampleFormat) where
  -- sets no elements but those of row 6 of a component
  component_keeps : (count component : ℕ)
      → Keeps (component_predictors f count component) (own.component_predictors_of component)
  unfolding component_predictors predictor
  component_keeps count component = lists.list_keeps get put (λ l a. refl) (λ l m a. refl)
      (λ a. refl) (row 10 6) refl (bit_depth f component) 0 (2 ^ bit_depth f component - 1) component count

  -- sets no elements but those of row 6
  pub predictors_keep : (count : ℕ) → Keeps (predictors f count) own.all_predictors_of
  unfolding predictors
  predictors_keep count = turns_keep (component_predictors f count) own.all_predictors_of
      (λ component. lists.lists_kept get put (λ l a. refl) (λ l m a. refl)
      (λ a. refl) (row 10 6) refl 0 0 0 component (component_predictors f count component)
      (component_keeps count component)) (num_components f)

  -- sets no elements but those of rows 5 and 6
  pub initializers_keep : Keeps (initializers f) own.initializers_of
  unfolding initializers
  initializers_keep = record {
    same = λ y. refl;
    last = λ x y z. refl;
    kept = λ y w. search
        (kept_rows, λ (n : ℕ). part_kept (predictors f n) own.all_predictors_of (predictors_keep n)) depth 40 fits 4000;
  }

  -- sets no elements but those of rows 2 to 6
  pub palettes_keep : Keeps (palettes f) own.palettes_of
  unfolding palettes
  palettes_keep = record {
    same = λ y. refl;
    last = λ x y z. refl;
    kept = λ y w. search (kept_rows, when_kept (initializers f) own.initializers_of initializers_keep) depth
        40 fits 4000;
  }

  -- one predictor of a component is written
  pub predictor_written : (x : PlainSpsSccExtension) (component i : ℕ) {old new : List Bool}
      → i < length (predictors_of x component)
      → WritesBits (bit_depth f component) (get_or (predictors_of x component) i 0) old new
      → WritesTurn (predictor f component) (own.same_predictors x component) i old new
  unfolding predictor
  predictor_written x component i lt writes = lists.predictor_written get put (λ l a. refl) (λ l m a. refl)
      (λ a. refl) (row 10 6) refl (bit_depth f component) 0 (2 ^ bit_depth f component - 1) component x i lt writes

  -- the whole of it is written once all its turns are
  pub component_written : (x : PlainSpsSccExtension) (n count component : ℕ) (old new : List Bool)
      → component < length x.palette_predictor_initializer
      → WritesTurns (predictor f component) (own.same_predictors x component) n old new → n ≡ count
      → Writes (component_predictors f count component) (own.component_predictors_of component) x old new
  unfolding component_predictors predictor
  component_written x n count component old new lt h e =
      subst (λ (k : ℕ). Writes (component_predictors f k component)
      (own.component_predictors_of component) x old new) e (lists.list_written get put (λ l a. refl)
      (λ l m a. refl) (λ a. refl) (row 10 6) refl (bit_depth f component) 0
      (2 ^ bit_depth f component - 1) component x n lt h)

  -- a component is a turn over all
  pub one_more_component : (x : PlainSpsSccExtension) (count component : ℕ) (old now next : List Bool)
      → component < length x.palette_predictor_initializer
      → WritesTurns (component_predictors f count) (own.same_components x) component old now
      → Writes (component_predictors f count component) (own.component_predictors_of component) x now next
      → WritesTurns (component_predictors f count) (own.same_components x) (component + 1) old next
  one_more_component x count component old now next lt h writes =
      one_more_turn (component_predictors f count) (own.same_components x) h (record {
        written = lists.lists_turn_written get put (λ l a. refl) (λ l m a. refl)
            (λ a. refl) (row 10 6) refl 0 0 0 component (component_predictors f count component)
            (component_keeps count component) x lt writes;
      })

  -- the whole of it is written once all its turns are
  pub predictors_written : (x : PlainSpsSccExtension) (count n : ℕ) (old new : List Bool)
      → WritesTurns (component_predictors f count) (own.same_components x) n old new → n ≡ num_components f
      → Writes (predictors f count) own.all_predictors_of x old new
  unfolding predictors
  predictors_written x count n old new h e =
      subst (λ (k : ℕ). Writes (repeat (component_predictors f count) 0 k) own.all_predictors_of x old new)
      e (all_turns (component_predictors f count) (own.same_components x)
      (λ z is. all_same _ _ _ (by is (λ r. r.palette_predictor_initializer))) h)
