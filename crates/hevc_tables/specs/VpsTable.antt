-- Video parameter sets (7.3.2.1, table 1). Each part fills in its elements of a set;
-- those that are absent stay.
use Rattle.std.specs.Prelude.{ℕ, ◌+◌, ◌-◌, ◌*◌, ◌==◌, not, nat_le, Bool, true, if◌then◌else◌, List}
use Rattle.std.specs.Prelude.{[], ◌∷◌, ◌++◌, length, replicate, slice_set, slice_get}
use Rattle.std.specs.Prelude.{slice_index_or, unwrap_or}
use Rattle.hevc_spec.specs.Table.{Table, done, ◌>>=◌}
use Rattle.hevc_spec.specs.Rows.{row, flag_row, bits_row, ue_row, check_row, skip_row, when, either}
use Rattle.hevc_spec.specs.Rows.{repeat}
use Rattle.hevc_records.specs.HrdParams.{PlainHrdParams, default_hrd_params}
use Rattle.hevc_records.specs.Vps.{PlainVps, default_vps}
use Rattle.hevc_tables.specs.ProfileTierLevelTable.{profile_tier_level}
use Rattle.hevc_tables.specs.HrdTable.{hrd_parameters}

-- rows 1 to 7: the id, layers and sub-layers, and the profile
unfoldable pub identity : PlainVps → Table PlainVps
identity vps = do
  let vps = record vps { video_parameter_set_id = (← bits_row (row 1 1) 4 0 15) }
  let vps = record vps { base_layer_internal_flag = (← flag_row (row 1 2)) }
  let vps = record vps { base_layer_available_flag = (← flag_row (row 1 2)) }
  let vps = record vps { max_layers_minus1 = (← bits_row (row 1 3) 6 0 63) }
  let vps = record vps { max_sub_layers_minus1 = (← bits_row (row 1 4) 3 0 6) }
  let vps = record vps { temporal_id_nesting_flag = (← flag_row (row 1 5)) }
  _ ← skip_row (row 1 6) 16
  let vps = record vps { profile_tier_level = (← profile_tier_level vps.max_sub_layers_minus1) }
  done vps

-- ---- rows 8 to 13: the numbers of buffering, reordering and latency

-- so many sub-layers and the highest have this number, and those above it 0
abbrev pub up_to_highest : ℕ → ℕ → List ℕ
up_to_highest max_sub_layers_minus1 n =
    replicate (max_sub_layers_minus1 + 1) n ++ replicate (6 - max_sub_layers_minus1) 0

-- a number is not below that of the sub-layer below (7.4.3.1)
abbrev pub is_risen : List ℕ → ℕ → ℕ → Bool
is_risen numbers i n = nat_le (slice_index_or numbers (i - 1) 0) n

-- rows 9 to 13 of sub-layer i, where each sub-layer has its own
unfoldable pub own_ordering : ℕ → PlainVps → Table PlainVps
own_ordering i vps = do
  buffering ← ue_row (row 1 9) 0 15
  reordering ← ue_row (row 1 10) 0 buffering
  latency ← ue_row (row 1 11) 0 2147483647
  _ ← when (not (i == 0)) 0
      (check_row (row 1 12) (is_risen vps.max_dec_pic_buffering_minus1 i buffering))
  _ ← when (not (i == 0)) 0 (check_row (row 1 13) (is_risen vps.max_num_reorder_pics i reordering))
  done (record vps {
    max_dec_pic_buffering_minus1 = slice_set vps.max_dec_pic_buffering_minus1 i buffering;
    max_num_reorder_pics = slice_set vps.max_num_reorder_pics i reordering;
    max_latency_increase_plus1 = slice_set vps.max_latency_increase_plus1 i latency;
  })

-- rows 9 to 11 of the highest sub-layer, which hold for all lower ones (7.4.3.1)
unfoldable pub common_ordering : PlainVps → Table PlainVps
common_ordering vps = do
  buffering ← ue_row (row 1 9) 0 15
  reordering ← ue_row (row 1 10) 0 buffering
  latency ← ue_row (row 1 11) 0 2147483647
  done (record vps {
    max_dec_pic_buffering_minus1 = up_to_highest vps.max_sub_layers_minus1 buffering;
    max_num_reorder_pics = up_to_highest vps.max_sub_layers_minus1 reordering;
    max_latency_increase_plus1 = up_to_highest vps.max_sub_layers_minus1 latency;
  })

-- rows 9 to 13 of each sub-layer
unfoldable pub own_orderings : PlainVps → Table PlainVps
own_orderings vps = repeat own_ordering 0 (vps.max_sub_layers_minus1 + 1) vps

-- rows 8 to 13
unfoldable pub orderings : PlainVps → Table PlainVps
orderings vps = do
  let vps = record vps { sub_layer_ordering_info_present_flag = (← flag_row (row 1 8)) }
  either vps.sub_layer_ordering_info_present_flag (own_orderings vps) (common_ordering vps)

-- ---- rows 14 to 25

-- rows 14 to 16: the layer sets, of which each but the first has a flag for each layer
unfoldable pub layer_sets : PlainVps → Table PlainVps
layer_sets vps = do
  let vps = record vps { max_layer_id = (← bits_row (row 1 14) 6 0 62) }
  let vps = record vps { num_layer_sets_minus1 = (← ue_row (row 1 15) 0 1023) }
  _ ← skip_row (row 1 16) ((vps.max_layer_id + 1) * vps.num_layer_sets_minus1)
  done vps

-- the last structure so far; before the first one there is one of no elements
abbrev pub last_structure : List PlainHrdParams → PlainHrdParams
last_structure structures =
    unwrap_or (slice_get structures (length structures - 1)) default_hrd_params

-- Rows 22 to 24 of structure i. The first one has its common elements,
-- for which no flag is read (7.4.3.1).
unfoldable pub structure : ℕ → PlainVps → Table PlainVps
structure i vps = do
  layer_set ← ue_row (row 1 22) 0 65535
  common ← when (not (i == 0)) true (flag_row (row 1 23))
  hrd ← hrd_parameters common vps.max_sub_layers_minus1 (last_structure vps.hrd_parameters)
  done (record vps {
    hrd_layer_set_idx = vps.hrd_layer_set_idx ++ layer_set ∷ [];
    cprms_present_flag =
        if i == 0 then vps.cprms_present_flag else vps.cprms_present_flag ++ common ∷ [];
    hrd_parameters = vps.hrd_parameters ++ hrd ∷ [];
  })

-- rows 22 to 24 of each structure
unfoldable pub structures : PlainVps → Table PlainVps
structures vps = repeat structure 0 vps.num_hrd_parameters vps

-- rows 18 to 24: the clock, and the structures
unfoldable pub timing : PlainVps → Table PlainVps
timing vps = do
  let vps = record vps { num_units_in_tick = (← bits_row (row 1 18) 32 0 4294967295) }
  let vps = record vps { time_scale = (← bits_row (row 1 18) 32 0 4294967295) }
  let vps = record vps { poc_proportional_to_timing_flag = (← flag_row (row 1 19)) }
  let vps = record vps {
    num_ticks_poc_diff_one_minus1 =
        (← when vps.poc_proportional_to_timing_flag 0 (ue_row (row 1 20) 0 2147483647));
  }
  let vps = record vps { num_hrd_parameters = (← ue_row (row 1 21) 0 1024) }
  structures vps

-- rows 17 to 24
unfoldable pub timing_info : PlainVps → Table PlainVps
timing_info vps = do
  let vps = record vps { timing_info_present_flag = (← flag_row (row 1 17)) }
  when vps.timing_info_present_flag vps (timing vps)

-- row 25
unfoldable pub extension : PlainVps → Table PlainVps
extension vps = do
  let vps = record vps { extension_flag = (← flag_row (row 1 25)) }
  done vps

-- table 1 (7.3.2.1)
unfoldable pub video_parameter_set : Table PlainVps
video_parameter_set = do
  vps ← identity default_vps
  vps ← orderings vps
  vps ← layer_sets vps
  vps ← timing_info vps
  extension vps
