-- Profile, tier and level (7.3.3, table 2).
use Rattle.std.specs.Prelude.{ℕ, ◌-◌, ◌*◌, Bool, false, List, replicate, slice_set, slice_get}
use Rattle.std.specs.Prelude.{unwrap_or, ◌||◌, not, nat_lt}
use Rattle.hevc_spec.specs.declared.Row.{Row}
use Rattle.hevc_spec.specs.Bits.{u}
use Rattle.hevc_spec.specs.Table.{Table, done, element, ◌>>=◌}
use Rattle.hevc_spec.specs.Rows.{row, flag_row, bits_row, skip_row, when, either, repeat}
use Rattle.hevc_records.specs.ProfileConformance.{conforms_to, has_range_extensions_flags}
use Rattle.hevc_records.specs.ProfileConformance.{has_inbld_flag, is_level}
use Rattle.hevc_records.specs.ProfileTierLevel.{PlainProfileTierLevel, default_profile_tier_level}

-- whose profile rows 1 to 15 tell: the whole stream's (general_), or a sub-layer's (sub_layer_)
pub data Scope : Type 0 where
  general : Scope
  sub_layer : Scope

-- The row of an element of a profile. Those of a sub-layer are all of row 30.
abbrev pub row_of : Scope → ℕ → Row
row_of general number = row 2 number
row_of sub_layer number = row 2 30

-- What rows 1 to 15 tell of a layer (7.4.4): the elements of these names after general_ for the
-- whole stream, and after sub_layer_ for a sub-layer.
pub record LayerProfile : Type 0 where
  pub profile_space : ℕ
  pub tier_flag : Bool
  pub profile_idc : ℕ
  pub profile_compatibility_flag : List Bool
  pub progressive_source_flag : Bool
  pub interlaced_source_flag : Bool
  pub non_packed_constraint_flag : Bool
  pub frame_only_constraint_flag : Bool
  pub max_12bit_constraint_flag : Bool
  pub max_10bit_constraint_flag : Bool
  pub max_8bit_constraint_flag : Bool
  pub max_422chroma_constraint_flag : Bool
  pub max_420chroma_constraint_flag : Bool
  pub max_monochrome_constraint_flag : Bool
  pub intra_constraint_flag : Bool
  pub one_picture_only_constraint_flag : Bool
  pub lower_bit_rate_constraint_flag : Bool
  pub max_14bit_constraint_flag : Bool
  pub inbld_flag : Bool

-- a layer of which nothing is told
abbrev pub default_layer_profile : LayerProfile
default_layer_profile = record {
  profile_space = 0;
  tier_flag = false;
  profile_idc = 0;
  profile_compatibility_flag = replicate 32 false;
  progressive_source_flag = false;
  interlaced_source_flag = false;
  non_packed_constraint_flag = false;
  frame_only_constraint_flag = false;
  max_12bit_constraint_flag = false;
  max_10bit_constraint_flag = false;
  max_8bit_constraint_flag = false;
  max_422chroma_constraint_flag = false;
  max_420chroma_constraint_flag = false;
  max_monochrome_constraint_flag = false;
  intra_constraint_flag = false;
  one_picture_only_constraint_flag = false;
  lower_bit_rate_constraint_flag = false;
  max_14bit_constraint_flag = false;
  inbld_flag = false;
}

-- the layer conforms to the profile of this number
abbrev pub layer_conforms_to : LayerProfile → ℕ → Bool
layer_conforms_to l number = conforms_to l.profile_idc l.profile_compatibility_flag number

-- row 4 (7.3.3): the flag of profile i
unfoldable pub compatibility_flag : Scope → ℕ → LayerProfile → Table LayerProfile
compatibility_flag scope i l = do
  let l = record l {
    profile_compatibility_flag =
        slice_set l.profile_compatibility_flag i (← flag_row (row_of scope 4));
  }
  done l

-- row 4 (7.3.3): the 32 compatibility flags
unfoldable pub compatibility_flags : Scope → LayerProfile → Table LayerProfile
compatibility_flags scope l = repeat (compatibility_flag scope) 0 32 l

-- rows 1 to 4 (7.3.3): the profiles and the tier
unfoldable pub profiles : Scope → LayerProfile → Table LayerProfile
profiles scope l = do
  let l = record l { profile_space = (← bits_row (row_of scope 1) 2 0 3) }
  let l = record l { tier_flag = (← flag_row (row_of scope 2)) }
  let l = record l { profile_idc = (← bits_row (row_of scope 3) 5 0 31) }
  compatibility_flags scope l

-- row 5 (7.3.3): the source of the pictures
unfoldable pub source : Scope → LayerProfile → Table LayerProfile
source scope l = do
  let l = record l { progressive_source_flag = (← flag_row (row_of scope 5)) }
  let l = record l { interlaced_source_flag = (← flag_row (row_of scope 5)) }
  let l = record l { non_packed_constraint_flag = (← flag_row (row_of scope 5)) }
  let l = record l { frame_only_constraint_flag = (← flag_row (row_of scope 5)) }
  done l

-- row 6 (7.3.3): the formats of samples, and what else the range extensions' profiles constrain
unfoldable pub formats : Scope → LayerProfile → Table LayerProfile
formats scope l = do
  let l = record l { max_12bit_constraint_flag = (← flag_row (row_of scope 6)) }
  let l = record l { max_10bit_constraint_flag = (← flag_row (row_of scope 6)) }
  let l = record l { max_8bit_constraint_flag = (← flag_row (row_of scope 6)) }
  let l = record l { max_422chroma_constraint_flag = (← flag_row (row_of scope 6)) }
  let l = record l { max_420chroma_constraint_flag = (← flag_row (row_of scope 6)) }
  let l = record l { max_monochrome_constraint_flag = (← flag_row (row_of scope 6)) }
  let l = record l { intra_constraint_flag = (← flag_row (row_of scope 6)) }
  let l = record l { one_picture_only_constraint_flag = (← flag_row (row_of scope 6)) }
  let l = record l { lower_bit_rate_constraint_flag = (← flag_row (row_of scope 6)) }
  done l

-- general_max_14bit_constraint_flag is among those of row 6 (7.3.3): the layer conforms to one
-- of the profiles 5, 9, 10 and 11.
abbrev pub has_14bit_flag : LayerProfile → Bool
has_14bit_flag l =
    layer_conforms_to l 5
    || layer_conforms_to l 9
    || layer_conforms_to l 10
    || layer_conforms_to l 11

-- rows 7 to 9 (7.3.3): the flag and 33 reserved bits, or 34 reserved bits
unfoldable pub bit_depth_flag : Scope → LayerProfile → Table LayerProfile
bit_depth_flag scope l = do
  let l = record l {
    max_14bit_constraint_flag = (← when (has_14bit_flag l) false (flag_row (row_of scope 7)));
  }
  _ ← either (has_14bit_flag l) (skip_row (row_of scope 8) 33) (skip_row (row_of scope 9) 34)
  done l

-- rows 6 to 9 (7.3.3)
unfoldable pub range_extensions_flags : Scope → LayerProfile → Table LayerProfile
range_extensions_flags scope l = do
  l ← formats scope l
  bit_depth_flag scope l

-- rows 10 to 12 (7.3.3)
unfoldable pub main_10_flags : Scope → LayerProfile → Table LayerProfile
main_10_flags scope l = do
  _ ← skip_row (row_of scope 10) 7
  let l = record l { one_picture_only_constraint_flag = (← flag_row (row_of scope 11)) }
  _ ← skip_row (row_of scope 12) 35
  done l

-- row 13 (7.3.3)
unfoldable pub reserved_bits : Scope → LayerProfile → Table LayerProfile
reserved_bits scope l = do
  _ ← skip_row (row_of scope 13) 43
  done l

-- rows 6 to 13 (7.3.3), which take 43 bits each way
unfoldable pub constraints : Scope → LayerProfile → Table LayerProfile
constraints scope l =
    either (has_range_extensions_flags l.profile_idc l.profile_compatibility_flag)
    (range_extensions_flags scope l)
    (either (layer_conforms_to l 2) (main_10_flags scope l) (reserved_bits scope l))

-- rows 14 and 15 (7.3.3): the flag, or a reserved bit
unfoldable pub inbld : Scope → LayerProfile → Table LayerProfile
inbld scope l = do
  let present = has_inbld_flag l.profile_idc l.profile_compatibility_flag
  let l = record l { inbld_flag = (← when present false (flag_row (row_of scope 14))) }
  _ ← when (not present) 0 (skip_row (row_of scope 15) 1)
  done l

-- rows 1 to 15 (7.3.3)
unfoldable pub layer_profile : Scope → Table LayerProfile
layer_profile scope = do
  l ← profiles scope default_layer_profile
  l ← source scope l
  l ← constraints scope l
  inbld scope l

-- rows 27 and 31 (7.3.3): the number of a level (A.4.1)
unfoldable pub level : Row → Table ℕ
level r = element r (u 8) is_level (λ n. n)

-- ---- the whole stream

-- the whole stream has this profile
unfoldable pub with_general_profile : PlainProfileTierLevel → LayerProfile → PlainProfileTierLevel
with_general_profile t l = record t {
  general_profile_space = l.profile_space;
  general_tier_flag = l.tier_flag;
  general_profile_idc = l.profile_idc;
  general_profile_compatibility_flag = l.profile_compatibility_flag;
  general_progressive_source_flag = l.progressive_source_flag;
  general_interlaced_source_flag = l.interlaced_source_flag;
  general_non_packed_constraint_flag = l.non_packed_constraint_flag;
  general_frame_only_constraint_flag = l.frame_only_constraint_flag;
  general_max_12bit_constraint_flag = l.max_12bit_constraint_flag;
  general_max_10bit_constraint_flag = l.max_10bit_constraint_flag;
  general_max_8bit_constraint_flag = l.max_8bit_constraint_flag;
  general_max_422chroma_constraint_flag = l.max_422chroma_constraint_flag;
  general_max_420chroma_constraint_flag = l.max_420chroma_constraint_flag;
  general_max_monochrome_constraint_flag = l.max_monochrome_constraint_flag;
  general_intra_constraint_flag = l.intra_constraint_flag;
  general_one_picture_only_constraint_flag = l.one_picture_only_constraint_flag;
  general_lower_bit_rate_constraint_flag = l.lower_bit_rate_constraint_flag;
  general_max_14bit_constraint_flag = l.max_14bit_constraint_flag;
  general_inbld_flag = l.inbld_flag;
}

-- rows 1 to 27 (7.3.3)
unfoldable pub general_rows : PlainProfileTierLevel → Table PlainProfileTierLevel
general_rows t = do
  l ← layer_profile general
  let t = record (with_general_profile t l) { general_level_idc = (← level (row 2 27)) }
  done t

-- ---- the sub-layers below the highest

-- row 28 (7.3.3) of sub-layer i
unfoldable pub next_presence : ℕ → PlainProfileTierLevel → Table PlainProfileTierLevel
next_presence i t = do
  let t = record t {
    sub_layer_profile_present_flag =
        slice_set t.sub_layer_profile_present_flag i (← flag_row (row 2 28));
  }
  let t = record t {
    sub_layer_level_present_flag =
        slice_set t.sub_layer_level_present_flag i (← flag_row (row 2 28));
  }
  done t

-- row 28 (7.3.3) for each sub-layer below the highest
unfoldable pub presence : ℕ → PlainProfileTierLevel → Table PlainProfileTierLevel
presence max_sub_layers_minus1 t = repeat next_presence 0 max_sub_layers_minus1 t

-- row 29 (7.3.3): two reserved bits for each sub-layer up to 8 that isn't there
unfoldable pub absent_layers : ℕ → Table ℕ
absent_layers max_sub_layers_minus1 =
    when (nat_lt 0 max_sub_layers_minus1) 0 (skip_row (row 2 29) (2 * (8 - max_sub_layers_minus1)))

-- sub-layer i has this profile
unfoldable pub with_sub_layer_profile : PlainProfileTierLevel → ℕ → LayerProfile
    → PlainProfileTierLevel
with_sub_layer_profile t i l = record t {
  sub_layer_profile_space = slice_set t.sub_layer_profile_space i l.profile_space;
  sub_layer_tier_flag = slice_set t.sub_layer_tier_flag i l.tier_flag;
  sub_layer_profile_idc = slice_set t.sub_layer_profile_idc i l.profile_idc;
  sub_layer_profile_compatibility_flag =
      slice_set t.sub_layer_profile_compatibility_flag i l.profile_compatibility_flag;
  sub_layer_progressive_source_flag =
      slice_set t.sub_layer_progressive_source_flag i l.progressive_source_flag;
  sub_layer_interlaced_source_flag =
      slice_set t.sub_layer_interlaced_source_flag i l.interlaced_source_flag;
  sub_layer_non_packed_constraint_flag =
      slice_set t.sub_layer_non_packed_constraint_flag i l.non_packed_constraint_flag;
  sub_layer_frame_only_constraint_flag =
      slice_set t.sub_layer_frame_only_constraint_flag i l.frame_only_constraint_flag;
  sub_layer_max_12bit_constraint_flag =
      slice_set t.sub_layer_max_12bit_constraint_flag i l.max_12bit_constraint_flag;
  sub_layer_max_10bit_constraint_flag =
      slice_set t.sub_layer_max_10bit_constraint_flag i l.max_10bit_constraint_flag;
  sub_layer_max_8bit_constraint_flag =
      slice_set t.sub_layer_max_8bit_constraint_flag i l.max_8bit_constraint_flag;
  sub_layer_max_422chroma_constraint_flag =
      slice_set t.sub_layer_max_422chroma_constraint_flag i l.max_422chroma_constraint_flag;
  sub_layer_max_420chroma_constraint_flag =
      slice_set t.sub_layer_max_420chroma_constraint_flag i l.max_420chroma_constraint_flag;
  sub_layer_max_monochrome_constraint_flag =
      slice_set t.sub_layer_max_monochrome_constraint_flag i l.max_monochrome_constraint_flag;
  sub_layer_intra_constraint_flag =
      slice_set t.sub_layer_intra_constraint_flag i l.intra_constraint_flag;
  sub_layer_one_picture_only_constraint_flag =
      slice_set t.sub_layer_one_picture_only_constraint_flag i l.one_picture_only_constraint_flag;
  sub_layer_lower_bit_rate_constraint_flag =
      slice_set t.sub_layer_lower_bit_rate_constraint_flag i l.lower_bit_rate_constraint_flag;
  sub_layer_max_14bit_constraint_flag =
      slice_set t.sub_layer_max_14bit_constraint_flag i l.max_14bit_constraint_flag;
  sub_layer_inbld_flag = slice_set t.sub_layer_inbld_flag i l.inbld_flag;
}

-- row 30 (7.3.3) of sub-layer i
unfoldable pub sub_layer_profile : ℕ → PlainProfileTierLevel → Table PlainProfileTierLevel
sub_layer_profile i t = do
  l ← layer_profile sub_layer
  done (with_sub_layer_profile t i l)

-- row 31 (7.3.3) of sub-layer i
unfoldable pub sub_layer_level : ℕ → PlainProfileTierLevel → Table PlainProfileTierLevel
sub_layer_level i t = do
  let t = record t { sub_layer_level_idc = slice_set t.sub_layer_level_idc i (← level (row 2 31)) }
  done t

-- the flag of sub-layer i
abbrev pub flag_of : List Bool → ℕ → Bool
flag_of flags i = unwrap_or (slice_get flags i) false

-- rows 30 and 31 (7.3.3) of sub-layer i, each where its flag of row 28 is set
unfoldable pub next_sub_layer : ℕ → PlainProfileTierLevel → Table PlainProfileTierLevel
next_sub_layer i t = do
  t ← when (flag_of t.sub_layer_profile_present_flag i) t (sub_layer_profile i t)
  when (flag_of t.sub_layer_level_present_flag i) t (sub_layer_level i t)

-- rows 30 and 31 (7.3.3) for each sub-layer below the highest
unfoldable pub sub_layers : ℕ → PlainProfileTierLevel → Table PlainProfileTierLevel
sub_layers max_sub_layers_minus1 t = repeat next_sub_layer 0 max_sub_layers_minus1 t

-- table 2 (7.3.3), with profilePresentFlag 1, which it is in each set of the base layer
unfoldable pub profile_tier_level : ℕ → Table PlainProfileTierLevel
profile_tier_level max_sub_layers_minus1 = do
  t ← general_rows default_profile_tier_level
  t ← presence max_sub_layers_minus1 t
  _ ← absent_layers max_sub_layers_minus1
  sub_layers max_sub_layers_minus1 t
