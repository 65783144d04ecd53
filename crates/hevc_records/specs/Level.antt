use Rattle.std.specs.Prelude.{ℕ, List, [], ◌∷◌, ◌||◌, nat_eq, if◌then◌else◌}

-- The numbers of the levels, thirty times each (H.265 A.4.1).
abbrev pub level_numbers : List ℕ
level_numbers = 30 ∷ 60 ∷ 63 ∷ 90 ∷ 93 ∷ 120 ∷ 123 ∷ 150 ∷ 153 ∷ 156 ∷ 180 ∷ 183 ∷ 186 ∷ []

-- MaxLumaPs: the most luma samples in a picture at the level of this number (H.265 A.4.1).
abbrev pub max_luma_ps_of_level : ℕ → ℕ
max_luma_ps_of_level level =
    if nat_eq level 30 then 36864 else
    if nat_eq level 60 then 122880 else
    if nat_eq level 63 then 245760 else
    if nat_eq level 90 then 552960 else
    if nat_eq level 93 then 983040 else
    if nat_eq level 120 || nat_eq level 123 then 2228224 else
    if nat_eq level 150 || nat_eq level 153 || nat_eq level 156 then 8912896 else
    35651584
