-- The default scaling lists (7.4.5).
use Rattle.std.specs.Prelude.{ℕ, pos, List, [], ◌∷◌, replicate}
use Rattle.hevc_records.specs.ScalingLists.{PlainScalingLists}

-- the list of each 4x4 matrix (Table 7-5)
abbrev pub flat_list : List ℕ
flat_list = replicate 16 16

-- the list of each larger matrix of intra prediction (Table 7-6)
abbrev pub intra_list : List ℕ
intra_list =
    16 ∷ 16 ∷ 16 ∷ 16 ∷ 16 ∷ 16 ∷ 16 ∷ 16 ∷ 16 ∷ 16 ∷ 17 ∷ 16 ∷ 17 ∷ 16 ∷ 17 ∷ 18 ∷
    17 ∷ 18 ∷ 18 ∷ 17 ∷ 18 ∷ 21 ∷ 19 ∷ 20 ∷ 21 ∷ 20 ∷ 19 ∷ 21 ∷ 24 ∷ 22 ∷ 22 ∷ 24 ∷
    24 ∷ 22 ∷ 22 ∷ 24 ∷ 25 ∷ 25 ∷ 27 ∷ 30 ∷ 27 ∷ 25 ∷ 25 ∷ 29 ∷ 31 ∷ 35 ∷ 35 ∷ 31 ∷
    29 ∷ 36 ∷ 41 ∷ 44 ∷ 41 ∷ 36 ∷ 47 ∷ 54 ∷ 54 ∷ 47 ∷ 65 ∷ 70 ∷ 65 ∷ 88 ∷ 88 ∷ 115 ∷ []

-- the list of each larger matrix of inter prediction (Table 7-6)
abbrev pub inter_list : List ℕ
inter_list =
    16 ∷ 16 ∷ 16 ∷ 16 ∷ 16 ∷ 16 ∷ 16 ∷ 16 ∷ 16 ∷ 16 ∷ 17 ∷ 17 ∷ 17 ∷ 17 ∷ 17 ∷ 18 ∷
    18 ∷ 18 ∷ 18 ∷ 18 ∷ 18 ∷ 20 ∷ 20 ∷ 20 ∷ 20 ∷ 20 ∷ 20 ∷ 20 ∷ 24 ∷ 24 ∷ 24 ∷ 24 ∷
    24 ∷ 24 ∷ 24 ∷ 24 ∷ 25 ∷ 25 ∷ 25 ∷ 25 ∷ 25 ∷ 25 ∷ 25 ∷ 28 ∷ 28 ∷ 28 ∷ 28 ∷ 28 ∷
    28 ∷ 33 ∷ 33 ∷ 33 ∷ 33 ∷ 33 ∷ 41 ∷ 41 ∷ 41 ∷ 41 ∷ 54 ∷ 54 ∷ 54 ∷ 71 ∷ 71 ∷ 91 ∷ []

-- the lists of the six matrices of a size, three of intra and three of inter prediction (Table 7-4)
abbrev pub default_lists_8x8 : List (List ℕ)
default_lists_8x8 = intra_list ∷ intra_list ∷ intra_list ∷ inter_list ∷ inter_list ∷ inter_list ∷ []

-- of the 32x32 matrices the syntax has those of luma alone (7.3.4)
abbrev pub default_lists_32x32 : List (List ℕ)
default_lists_32x32 =
    intra_list ∷ replicate 64 0 ∷ replicate 64 0 ∷ inter_list ∷ replicate 64 0 ∷ replicate 64 0 ∷ []

-- All lists are the default ones, and the first entry of each larger matrix is 16 (7.4.5).
abbrev pub default_lists : PlainScalingLists
default_lists = record {
  scaling_list_dc_coef_minus8_16x16 = replicate 6 (pos 8);
  scaling_list_dc_coef_minus8_32x32 = pos 8 ∷ pos 0 ∷ pos 0 ∷ pos 8 ∷ pos 0 ∷ pos 0 ∷ [];
  scaling_list_4x4 = replicate 6 flat_list;
  scaling_list_8x8 = default_lists_8x8;
  scaling_list_16x16 = default_lists_8x8;
  scaling_list_32x32 = default_lists_32x32;
}
