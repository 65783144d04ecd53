-- The elements that each part of table 13 sets: those of one record, put into another.
use Rattle.std.specs.Prelude.{ℕ, slice_set}
use Rattle.hevc_records.specs.PpsSccExtension.{PlainPpsSccExtension}
use Rattle.hevc_tables.specs.PpsSccExtensionTable.{predictors_of}
use Rattle.hevc_write_elements.specs.Filling.{SameBelow}

-- rows 2 to 5
abbrev pub colour_transform_of : PlainPpsSccExtension → PlainPpsSccExtension → PlainPpsSccExtension
colour_transform_of from x = record x {
  slice_act_qp_offsets_present_flag = from.slice_act_qp_offsets_present_flag;
  act_y_qp_offset_plus5 = from.act_y_qp_offset_plus5;
  act_cb_qp_offset_plus5 = from.act_cb_qp_offset_plus5;
  act_cr_qp_offset_plus3 = from.act_cr_qp_offset_plus3;
}

-- row 11 of a component
abbrev pub component_predictors_of : ℕ → PlainPpsSccExtension → PlainPpsSccExtension
    → PlainPpsSccExtension
component_predictors_of component from x = record x {
  palette_predictor_initializer =
      slice_set x.palette_predictor_initializer component (predictors_of from component);
}

-- row 11
abbrev pub all_predictors_of : PlainPpsSccExtension → PlainPpsSccExtension → PlainPpsSccExtension
all_predictors_of from x = record x {
  palette_predictor_initializer = from.palette_predictor_initializer;
}

-- row 11, and how many predictors there are, of which components
abbrev pub all_predictors_with_inputs_of : PlainPpsSccExtension → PlainPpsSccExtension
    → PlainPpsSccExtension
all_predictors_with_inputs_of from x = record (all_predictors_of from x) {
  num_palette_predictor_initializers = from.num_palette_predictor_initializers;
  monochrome_palette_flag = from.monochrome_palette_flag;
}

-- rows 8 to 11
abbrev pub initializers_of : PlainPpsSccExtension → PlainPpsSccExtension → PlainPpsSccExtension
initializers_of from x = record (all_predictors_of from x) {
  monochrome_palette_flag = from.monochrome_palette_flag;
  luma_bit_depth_entry_minus8 = from.luma_bit_depth_entry_minus8;
  chroma_bit_depth_entry_minus8 = from.chroma_bit_depth_entry_minus8;
}

-- rows 7 to 11
abbrev pub palettes_of : PlainPpsSccExtension → PlainPpsSccExtension → PlainPpsSccExtension
palettes_of from x = record (initializers_of from x) {
  num_palette_predictor_initializers = from.num_palette_predictor_initializers;
}

-- the first predictors of a component are those of x, so many
abbrev pub same_predictors : PlainPpsSccExtension → ℕ → ℕ → PlainPpsSccExtension → Type 0
same_predictors x component n z =
    SameBelow n (predictors_of z component) (predictors_of x component)

-- the predictors of the first components are those of x, of so many
abbrev pub same_components : PlainPpsSccExtension → ℕ → PlainPpsSccExtension → Type 0
same_components x n z = SameBelow n z.palette_predictor_initializer x.palette_predictor_initializer
