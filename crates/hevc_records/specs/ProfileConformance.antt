-- Which profiles a set conforms to, and which elements it has by them (7.3.3, table 2).
use Rattle.std.specs.Prelude.{ℕ, Bool, false, List, slice_get, unwrap_or, nat_eq, ◌==◌, ◌||◌}
use Rattle.std.specs.List.{list_any}
use Rattle.hevc_records.specs.Level.{level_numbers}

-- A layer with this profile_idc and these 32 profile_compatibility_flag[j] conforms to the profile
-- of a number (7.3.3): it is the profile_idc, or its compatibility flag is set.
abbrev pub conforms_to : ℕ → List Bool → ℕ → Bool
conforms_to profile_idc flags number =
    profile_idc == number || unwrap_or (slice_get flags number) false

-- Constraint flags of the range extensions' profiles are in the set (7.3.3): the layer conforms
-- to one of the profiles 4 to 11.
abbrev pub has_range_extensions_flags : ℕ → List Bool → Bool
has_range_extensions_flags profile_idc flags =
    conforms_to profile_idc flags 4
    || conforms_to profile_idc flags 5
    || conforms_to profile_idc flags 6
    || conforms_to profile_idc flags 7
    || conforms_to profile_idc flags 8
    || conforms_to profile_idc flags 9
    || conforms_to profile_idc flags 10
    || conforms_to profile_idc flags 11

-- inbld_flag is in the set (7.3.3): the layer conforms to one of the profiles 1 to 5, 9 and 11.
abbrev pub has_inbld_flag : ℕ → List Bool → Bool
has_inbld_flag profile_idc flags =
    conforms_to profile_idc flags 1
    || conforms_to profile_idc flags 2
    || conforms_to profile_idc flags 3
    || conforms_to profile_idc flags 4
    || conforms_to profile_idc flags 5
    || conforms_to profile_idc flags 9
    || conforms_to profile_idc flags 11

-- the number is that of a level (A.4.1)
abbrev pub is_level : ℕ → Bool
is_level n = list_any (nat_eq n) level_numbers
