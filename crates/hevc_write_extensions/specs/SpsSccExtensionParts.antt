-- The elements that each part of table 10 sets: those of one record, put into another.
use Rattle.std.specs.Prelude.{ℕ, slice_set}
use Rattle.hevc_records.specs.SpsSccExtension.{PlainSpsSccExtension}
use Rattle.hevc_tables.specs.SpsSccExtensionTable.{predictors_of}
use Rattle.hevc_write_elements.specs.Filling.{SameBelow}

-- row 6 of a component
abbrev pub component_predictors_of : ℕ → PlainSpsSccExtension → PlainSpsSccExtension
    → PlainSpsSccExtension
component_predictors_of component from x = record x {
  palette_predictor_initializer =
      slice_set x.palette_predictor_initializer component (predictors_of from component);
}

-- row 6
abbrev pub all_predictors_of : PlainSpsSccExtension → PlainSpsSccExtension → PlainSpsSccExtension
all_predictors_of from x = record x {
  palette_predictor_initializer = from.palette_predictor_initializer;
}

-- rows 5 and 6
abbrev pub initializers_of : PlainSpsSccExtension → PlainSpsSccExtension → PlainSpsSccExtension
initializers_of from x = record (all_predictors_of from x) {
  num_palette_predictor_initializer_minus1 = from.num_palette_predictor_initializer_minus1;
}

-- rows 2 to 6
abbrev pub palettes_of : PlainSpsSccExtension → PlainSpsSccExtension → PlainSpsSccExtension
palettes_of from x = record (initializers_of from x) {
  palette_max_size = from.palette_max_size;
  delta_palette_max_predictor_size = from.delta_palette_max_predictor_size;
  palette_predictor_initializers_present_flag = from.palette_predictor_initializers_present_flag;
}

-- the first predictors of a component are those of x, so many
abbrev pub same_predictors : PlainSpsSccExtension → ℕ → ℕ → PlainSpsSccExtension → Type 0
same_predictors x component n z =
    SameBelow n (predictors_of z component) (predictors_of x component)

-- the predictors of the first components are those of x, of so many
abbrev pub same_components : PlainSpsSccExtension → ℕ → PlainSpsSccExtension → Type 0
same_components x n z = SameBelow n z.palette_predictor_initializer x.palette_predictor_initializer
