-- The screen content coding extensions of a sequence and a picture parameter set as VA-API takes them.
use Rattle.std.specs.Prelude.{ℕ, ◌+◌, ◌*◌, not, nat_lt, List, [], ◌∷◌, replicate}
use Rattle.std.specs.Prelude.{if◌then◌else◌, Option, Some, None}
use Rattle.std.specs.List.{list_all}
use Rattle.std.specs.Option.{option_or}
use Rattle.hevc_records.specs.PpsSccExtension.{PlainPpsSccExtension}
use Rattle.hevc_records.specs.SpsSccExtension.{PlainSpsSccExtension}
use Rattle.hevc_events.specs.Flags.{flags_of}
use Rattle.hevc_va.specs.declared.error.VaError.{VaError}
use Rattle.hevc_va.specs.declared.error.VaError.TheVariants.{MotionVectorResolution, PaletteEntry}
use Rattle.hevc_va.specs.declared.error.VaError.TheVariants.{PaletteSize}
use Rattle.hevc_va.specs.declared.screen_content.VaPictureParameterBufferHevcScc.{VaPictureParameterBufferHevcScc}
use Rattle.hevc_va.specs.Arrays.{is_16_bits}

-- PredictorPaletteSize where a slice begins (9.3.2.3): that of the picture set's first palette
-- predictors, where it has any of its own, else that of the sequence set's, else 0
abbrev pub palette_size : PlainSpsSccExtension → PlainPpsSccExtension → ℕ
palette_size s p =
    if p.palette_predictor_initializers_present_flag then p.num_palette_predictor_initializers
    else if s.palette_predictor_initializers_present_flag
    then s.num_palette_predictor_initializer_minus1 + 1
    else 0

-- PredictorPaletteEntries, of the same set
abbrev pub palette_entries : PlainSpsSccExtension → PlainPpsSccExtension → List (List ℕ)
palette_entries s p =
    if p.palette_predictor_initializers_present_flag then p.palette_predictor_initializer
    else if s.palette_predictor_initializers_present_flag then s.palette_predictor_initializer
    else replicate 3 (replicate 128 0)

-- there are 128 places for each component
abbrev pub size_error : ℕ → Option VaError
size_error size = if nat_lt 128 size then Some PaletteSize else None

-- of 16 bits
abbrev pub entries_error : List (List ℕ) → Option VaError
entries_error components =
    if not (list_all (list_all is_16_bits) components) then Some PaletteEntry else None

-- the first thing of the palette that the struct can't hold; entries of picture sets have 16 bits
abbrev pub palette_error : PlainSpsSccExtension → PlainPpsSccExtension → Option VaError
palette_error s p =
    if p.palette_predictor_initializers_present_flag
    then size_error p.num_palette_predictor_initializers
    else if s.palette_predictor_initializers_present_flag
    then option_or (size_error (s.num_palette_predictor_initializer_minus1 + 1))
    (entries_error s.palette_predictor_initializer)
    else None

-- the first thing that the struct can't hold
abbrev pub screen_content_error : PlainSpsSccExtension → PlainPpsSccExtension → Option VaError
screen_content_error s p =
    if nat_lt 3 s.motion_vector_resolution_control_idc then Some MotionVectorResolution
    else palette_error s p

-- the bits of screen_content_pic_fields, with motion_vector_resolution_control_idc in two of them
abbrev pub screen_content_fields : PlainSpsSccExtension → PlainPpsSccExtension → ℕ
screen_content_fields s p =
    flags_of (p.curr_pic_ref_enabled_flag ∷ s.palette_mode_enabled_flag ∷ [])
    + 4 * s.motion_vector_resolution_control_idc
    + 16 *
    flags_of
    (s.intra_boundary_filtering_disabled_flag ∷
    p.residual_adaptive_colour_transform_enabled_flag ∷
    p.slice_act_qp_offsets_present_flag ∷ [])

-- Each field has the element of its name, and the palette is this.
abbrev pub filled_screen_content : PlainSpsSccExtension → PlainPpsSccExtension → (size : ℕ)
    → (entries : List (List ℕ)) → VaPictureParameterBufferHevcScc
filled_screen_content s p size entries = record {
  screen_content_pic_fields = screen_content_fields s p;
  palette_max_size = s.palette_max_size;
  delta_palette_max_predictor_size = s.delta_palette_max_predictor_size;
  predictor_palette_size = size;
  predictor_palette_entries = entries;
  pps_act_y_qp_offset_plus5 = p.act_y_qp_offset_plus5;
  pps_act_cb_qp_offset_plus5 = p.act_cb_qp_offset_plus5;
  pps_act_cr_qp_offset_plus3 = p.act_cr_qp_offset_plus3;
}

abbrev pub buffer_of_screen_content : PlainSpsSccExtension → PlainPpsSccExtension
    → VaPictureParameterBufferHevcScc
buffer_of_screen_content s p = filled_screen_content s p (palette_size s p) (palette_entries s p)
