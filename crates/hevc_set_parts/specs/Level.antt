use Rattle.std.specs.Prelude.{ℕ}
use Rattle.hevc_set_parts.specs.declared.level.Level.{Level}
use Rattle.hevc_set_parts.specs.declared.level.Level.TheVariants.{L1, L2, L2_1, L3, L3_1, L4, L4_1}
use Rattle.hevc_set_parts.specs.declared.level.Level.TheVariants.{L5, L5_1, L5_2, L6, L6_1, L6_2}

-- The number of a level, thirty times the level (H.265 A.4.1).
abbrev pub level_number : Level → ℕ
level_number L1 = 30
level_number L2 = 60
level_number L2_1 = 63
level_number L3 = 90
level_number L3_1 = 93
level_number L4 = 120
level_number L4_1 = 123
level_number L5 = 150
level_number L5_1 = 153
level_number L5_2 = 156
level_number L6 = 180
level_number L6_1 = 183
level_number L6_2 = 186
