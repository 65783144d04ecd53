-- The screen content coding extension of picture parameter sets (7.3.2.3.3, table 13).
use Rattle.std.specs.Prelude.{ℕ, pos, neg_ℤ, ◌-◌, ◌^◌, ◌==◌, not, if◌then◌else◌, List, []}
use Rattle.std.specs.Prelude.{slice_set, slice_get, unwrap_or}
use Rattle.hevc_spec.specs.Table.{Table, done, ◌>>=◌}
use Rattle.hevc_spec.specs.Rows.{row, flag_row, bits_row, ue_row, se_row, when, repeat}
use Rattle.hevc_records.specs.PpsSccExtension.{PlainPpsSccExtension, default_pps_scc_extension}
use Rattle.hevc_tables.specs.SpsSccExtensionTable.{SampleFormat, bit_depth}

-- rows 2 to 5: the quantiser offsets of the adaptive colour transform
unfoldable pub colour_transform : PlainPpsSccExtension → Table PlainPpsSccExtension
colour_transform x = do
  let x = record x { slice_act_qp_offsets_present_flag = (← flag_row (row 13 2)) }
  let x = record x { act_y_qp_offset_plus5 = (← se_row (row 13 3) (neg_ℤ (pos 7)) (pos 17)) }
  let x = record x { act_cb_qp_offset_plus5 = (← se_row (row 13 4) (neg_ℤ (pos 7)) (pos 17)) }
  let x = record x { act_cr_qp_offset_plus3 = (← se_row (row 13 5) (neg_ℤ (pos 9)) (pos 15)) }
  done x

-- the components that have predictors: luma alone in a monochrome palette, else three
abbrev pub num_components : PlainPpsSccExtension → ℕ
num_components x = if x.monochrome_palette_flag then 1 else 3

-- the first predictors of a component
abbrev pub predictors_of : PlainPpsSccExtension → ℕ → List ℕ
predictors_of x component = unwrap_or (slice_get x.palette_predictor_initializer component) []

-- row 11 of predictor i of a component
unfoldable pub predictor : SampleFormat → ℕ → ℕ → PlainPpsSccExtension → Table PlainPpsSccExtension
predictor f component i x = do
  n ← bits_row (row 13 11) (bit_depth f component) 0 (2 ^ bit_depth f component - 1)
  done (record x {
    palette_predictor_initializer =
        slice_set x.palette_predictor_initializer component
        (slice_set (predictors_of x component) i n);
  })

-- row 11 of a component, of so many predictors
unfoldable pub component_predictors : SampleFormat → ℕ → ℕ → PlainPpsSccExtension
    → Table PlainPpsSccExtension
component_predictors f count component x = repeat (predictor f component) 0 count x

-- row 11
unfoldable pub predictors : SampleFormat → PlainPpsSccExtension → Table PlainPpsSccExtension
predictors f x =
    repeat (component_predictors f x.num_palette_predictor_initializers) 0 (num_components x) x

-- rows 8 to 11: the first palette predictors. Their depths are those of the sequence set.
unfoldable pub initializers : SampleFormat → PlainPpsSccExtension → Table PlainPpsSccExtension
initializers f x = do
  let x = record x { monochrome_palette_flag = (← flag_row (row 13 8)) }
  let x = record x {
    luma_bit_depth_entry_minus8 =
        (← ue_row (row 13 9) f.bit_depth_luma_minus8 f.bit_depth_luma_minus8);
  }
  let x = record x {
    chroma_bit_depth_entry_minus8 =
        (← when (not x.monochrome_palette_flag) 0
        (ue_row (row 13 10) f.bit_depth_chroma_minus8 f.bit_depth_chroma_minus8));
  }
  predictors f x

-- rows 7 to 11: at most as many predictors as the sequence set allows
unfoldable pub palettes : SampleFormat → ℕ → PlainPpsSccExtension → Table PlainPpsSccExtension
palettes f most x = do
  let x = record x { num_palette_predictor_initializers = (← ue_row (row 13 7) 0 most) }
  when (not (x.num_palette_predictor_initializers == 0)) x (initializers f x)

-- table 13 (7.3.2.3.3), with the format of samples and the greatest
-- number of palette predictors of the sequence set
unfoldable pub pps_scc_extension : SampleFormat → ℕ → Table PlainPpsSccExtension
pps_scc_extension f most = do
  let x : PlainPpsSccExtension = default_pps_scc_extension
  let x = record x { curr_pic_ref_enabled_flag = (← flag_row (row 13 1)) }
  let x = record x { residual_adaptive_colour_transform_enabled_flag = (← flag_row (row 13 1)) }
  x ← when x.residual_adaptive_colour_transform_enabled_flag x (colour_transform x)
  let x = record x { palette_predictor_initializers_present_flag = (← flag_row (row 13 6)) }
  when x.palette_predictor_initializers_present_flag x (palettes f most x)
