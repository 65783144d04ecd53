-- The screen content coding extension of sequence parameter sets (7.3.2.2.3, table 10).
use Rattle.std.specs.Prelude.{ℕ, ◌+◌, ◌-◌, ◌^◌, ◌==◌, if◌then◌else◌, List, [], slice_set, slice_get}
use Rattle.std.specs.Prelude.{unwrap_or}
use Rattle.hevc_spec.specs.Table.{Table, done, ◌>>=◌}
use Rattle.hevc_spec.specs.Rows.{row, flag_row, bits_row, ue_row, when, repeat}
use Rattle.hevc_records.specs.SpsSccExtension.{PlainSpsSccExtension, default_sps_scc_extension}

-- what a sequence set says that its palettes are read by
pub record SampleFormat : Type 0 where
  pub chroma_format_idc : ℕ
  pub bit_depth_luma_minus8 : ℕ
  pub bit_depth_chroma_minus8 : ℕ

-- the components of a sample: luma alone without chroma, else three
abbrev pub num_components : SampleFormat → ℕ
num_components f = if f.chroma_format_idc == 0 then 1 else 3

-- BitDepthY of component 0, and BitDepthC of the others (7-4, 7-6)
abbrev pub bit_depth : SampleFormat → ℕ → ℕ
bit_depth f component =
    if component == 0 then f.bit_depth_luma_minus8 + 8 else f.bit_depth_chroma_minus8 + 8

-- the first predictors of a component
abbrev pub predictors_of : PlainSpsSccExtension → ℕ → List ℕ
predictors_of x component = unwrap_or (slice_get x.palette_predictor_initializer component) []

-- row 6 of predictor i of a component
unfoldable pub predictor : SampleFormat → ℕ → ℕ → PlainSpsSccExtension → Table PlainSpsSccExtension
predictor f component i x = do
  n ← bits_row (row 10 6) (bit_depth f component) 0 (2 ^ bit_depth f component - 1)
  done (record x {
    palette_predictor_initializer =
        slice_set x.palette_predictor_initializer component
        (slice_set (predictors_of x component) i n);
  })

-- row 6 of a component, of so many predictors
unfoldable pub component_predictors : SampleFormat → ℕ → ℕ → PlainSpsSccExtension
    → Table PlainSpsSccExtension
component_predictors f count component x = repeat (predictor f component) 0 count x

-- row 6
unfoldable pub predictors : SampleFormat → ℕ → PlainSpsSccExtension → Table PlainSpsSccExtension
predictors f count x = repeat (component_predictors f count) 0 (num_components f) x

-- rows 5 and 6: the first palette predictors, at most as many as there are; where there are none,
-- no number is allowed
unfoldable pub initializers : SampleFormat → PlainSpsSccExtension → Table PlainSpsSccExtension
initializers f x = do
  let most = x.palette_max_size + x.delta_palette_max_predictor_size
  let x = record x {
    num_palette_predictor_initializer_minus1 =
        (← ue_row (row 10 5) (if most == 0 then 1 else 0) (most - 1));
  }
  predictors f (x.num_palette_predictor_initializer_minus1 + 1) x

-- rows 2 to 6: palettes
unfoldable pub palettes : SampleFormat → PlainSpsSccExtension → Table PlainSpsSccExtension
palettes f x = do
  size ← ue_row (row 10 2) 0 64
  delta ← ue_row (row 10 3) 0 (128 - size)
  let x = record x { palette_max_size = size; delta_palette_max_predictor_size = delta }
  let x = record x { palette_predictor_initializers_present_flag = (← flag_row (row 10 4)) }
  when x.palette_predictor_initializers_present_flag x (initializers f x)

-- table 10 (7.3.2.2.3) of a sequence set with this format of samples
unfoldable pub sps_scc_extension : SampleFormat → Table PlainSpsSccExtension
sps_scc_extension f = do
  let x : PlainSpsSccExtension = default_sps_scc_extension
  let x = record x { curr_pic_ref_enabled_flag = (← flag_row (row 10 1)) }
  let x = record x { palette_mode_enabled_flag = (← flag_row (row 10 1)) }
  x ← when x.palette_mode_enabled_flag x (palettes f x)
  let x = record x { motion_vector_resolution_control_idc = (← bits_row (row 10 7) 2 0 3) }
  let x = record x { intra_boundary_filtering_disabled_flag = (← flag_row (row 10 8)) }
  done x
