-- The elements that each part of table 1 sets: those of one record, put into another.
use Rattle.std.specs.Prelude.{◌≡◌, ℕ, ◌==◌, Bool, true, List, [], ◌∷◌, length, take, if◌then◌else◌}
use Rattle.hevc_spec.specs.Table.{Table}
use Rattle.hevc_records.specs.Vps.{PlainVps}
use Rattle.hevc_tables.specs.VpsTable as table
use Rattle.hevc_write_elements.specs.Filling.{SameBelow}

-- a set without structures; the flag of the first one is there, and is set (7.4.3.1)
abbrev pub without_structures : PlainVps → PlainVps
without_structures vps = record vps {
  hrd_layer_set_idx = [];
  cprms_present_flag = true ∷ [];
  hrd_parameters = [];
}

-- rows 22 to 24, 18 to 24, and 17 to 24, of a set that has no structures before them
abbrev pub structures_rows : PlainVps → Table PlainVps
structures_rows vps = table.structures (without_structures vps)

abbrev pub timing_rows : PlainVps → Table PlainVps
timing_rows vps = table.timing (without_structures vps)

abbrev pub timing_info_rows : PlainVps → Table PlainVps
timing_info_rows vps = table.timing_info (without_structures vps)

-- rows 1 to 7
abbrev pub identity_of : PlainVps → PlainVps → PlainVps
identity_of from x = record x {
  video_parameter_set_id = from.video_parameter_set_id;
  base_layer_internal_flag = from.base_layer_internal_flag;
  base_layer_available_flag = from.base_layer_available_flag;
  max_layers_minus1 = from.max_layers_minus1;
  max_sub_layers_minus1 = from.max_sub_layers_minus1;
  temporal_id_nesting_flag = from.temporal_id_nesting_flag;
  profile_tier_level = from.profile_tier_level;
}

-- rows 9 to 13
abbrev pub own_orderings_of : PlainVps → PlainVps → PlainVps
own_orderings_of from x = record x {
  max_dec_pic_buffering_minus1 = from.max_dec_pic_buffering_minus1;
  max_num_reorder_pics = from.max_num_reorder_pics;
  max_latency_increase_plus1 = from.max_latency_increase_plus1;
}

-- rows 9 to 13, with row 4, how many sub-layers there are
abbrev pub own_orderings_with_inputs_of : PlainVps → PlainVps → PlainVps
own_orderings_with_inputs_of from x = record (own_orderings_of from x) {
  max_sub_layers_minus1 = from.max_sub_layers_minus1;
}

-- rows 8 to 13
abbrev pub orderings_of : PlainVps → PlainVps → PlainVps
orderings_of from x = record (own_orderings_of from x) {
  sub_layer_ordering_info_present_flag = from.sub_layer_ordering_info_present_flag;
}

-- rows 8 to 13, with row 4
abbrev pub orderings_with_inputs_of : PlainVps → PlainVps → PlainVps
orderings_with_inputs_of from x = record (orderings_of from x) {
  max_sub_layers_minus1 = from.max_sub_layers_minus1;
}

-- rows 14 to 16
abbrev pub layer_sets_of : PlainVps → PlainVps → PlainVps
layer_sets_of from x = record x {
  max_layer_id = from.max_layer_id;
  num_layer_sets_minus1 = from.num_layer_sets_minus1;
}

-- rows 22 to 24
abbrev pub structures_of : PlainVps → PlainVps → PlainVps
structures_of from x = record x {
  hrd_layer_set_idx = from.hrd_layer_set_idx;
  cprms_present_flag = from.cprms_present_flag;
  hrd_parameters = from.hrd_parameters;
}

-- rows 22 to 24, with row 21, their number, and row 4
abbrev pub structures_with_inputs_of : PlainVps → PlainVps → PlainVps
structures_with_inputs_of from x = record (structures_of from x) {
  num_hrd_parameters = from.num_hrd_parameters;
  max_sub_layers_minus1 = from.max_sub_layers_minus1;
}

-- rows 18 to 24
abbrev pub timing_of : PlainVps → PlainVps → PlainVps
timing_of from x = record (structures_of from x) {
  num_units_in_tick = from.num_units_in_tick;
  time_scale = from.time_scale;
  poc_proportional_to_timing_flag = from.poc_proportional_to_timing_flag;
  num_ticks_poc_diff_one_minus1 = from.num_ticks_poc_diff_one_minus1;
  num_hrd_parameters = from.num_hrd_parameters;
}

-- rows 18 to 24, with row 4
abbrev pub timing_with_inputs_of : PlainVps → PlainVps → PlainVps
timing_with_inputs_of from x = record (timing_of from x) {
  max_sub_layers_minus1 = from.max_sub_layers_minus1;
}

-- rows 17 to 24
abbrev pub timing_info_of : PlainVps → PlainVps → PlainVps
timing_info_of from x = record (timing_of from x) {
  timing_info_present_flag = from.timing_info_present_flag;
}

-- rows 17 to 24, with row 4
abbrev pub timing_info_with_inputs_of : PlainVps → PlainVps → PlainVps
timing_info_with_inputs_of from x = record (timing_info_of from x) {
  max_sub_layers_minus1 = from.max_sub_layers_minus1;
}

-- row 25
abbrev pub extension_of : PlainVps → PlainVps → PlainVps
extension_of from x = record x { extension_flag = from.extension_flag }

-- rows 9 to 11 of the first sub-layers are those of x, of so many
abbrev pub same_orderings : PlainVps → ℕ → PlainVps → Type 0
same_orderings x n z =
    SameBelow n z.max_dec_pic_buffering_minus1 x.max_dec_pic_buffering_minus1
    × SameBelow n z.max_num_reorder_pics x.max_num_reorder_pics
    × SameBelow n z.max_latency_increase_plus1 x.max_latency_increase_plus1

-- how many flags so many structures have: that of the first one is there before it
abbrev pub num_flags : ℕ → ℕ
num_flags n = if n == 0 then 1 else n

-- so many structures are there, the first ones of x
pub record SameStructures (x : PlainVps) (n : ℕ) (z : PlainVps) : Type 0 where
  pub sub_layers : z.max_sub_layers_minus1 ≡ x.max_sub_layers_minus1
  pub layer_sets : z.hrd_layer_set_idx ≡ take n x.hrd_layer_set_idx
  pub num_layer_sets : length z.hrd_layer_set_idx ≡ n
  pub flags : z.cprms_present_flag ≡ take (num_flags n) x.cprms_present_flag
  pub num_flags : length z.cprms_present_flag ≡ num_flags n
  pub structures : z.hrd_parameters ≡ take n x.hrd_parameters
