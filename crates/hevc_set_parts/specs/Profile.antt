use Rattle.std.specs.Prelude.{ℕ}
use Rattle.hevc_set_parts.specs.declared.profile.Profile.{Profile}
use Rattle.hevc_set_parts.specs.declared.profile.Profile.TheVariants.{Main, Main10, MainStill}
use Rattle.hevc_set_parts.specs.declared.profile.Profile.TheVariants.{RangeExtensions}
use Rattle.hevc_set_parts.specs.declared.profile.Profile.TheVariants.{HighThroughput, MultiviewMain}
use Rattle.hevc_set_parts.specs.declared.profile.Profile.TheVariants.{ScalableMain, ThreeDMain}
use Rattle.hevc_set_parts.specs.declared.profile.Profile.TheVariants.{ScreenContentCoding}
use Rattle.hevc_set_parts.specs.declared.profile.Profile.TheVariants.{ScalableRangeExtensions}
use Rattle.hevc_set_parts.specs.declared.profile.Profile.TheVariants.{HighThroughputScreenContentCoding}

-- The number of a profile (H.265 A.3, G.11, H.11, I.11).
abbrev pub profile_number : Profile → ℕ
profile_number Main = 1
profile_number Main10 = 2
profile_number MainStill = 3
profile_number RangeExtensions = 4
profile_number HighThroughput = 5
profile_number MultiviewMain = 6
profile_number ScalableMain = 7
profile_number ThreeDMain = 8
profile_number ScreenContentCoding = 9
profile_number ScalableRangeExtensions = 10
profile_number HighThroughputScreenContentCoding = 11
