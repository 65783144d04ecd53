-- Streams that keep what they declare.
use Rattle.std.specs.Prelude.{◌≡◌, ℕ, ◌+◌, ◌≤◌, ◌<◌, false, List, [], ◌∷◌, length, None}
use Rattle.hevc_spec.specs.UnitTypes.{is_idr}
use Rattle.hevc_walk.specs.Meanings.{Slice, Meaning}
use Rattle.hevc_walk.specs.Pictures.{Picture, pictures}
use Rattle.hevc_walk.specs.ReferenceSets.{short_term_set}
use Rattle.hevc_walk.specs.Refusals.{stop}

-- how many members the reference picture set has (8.3.2)
abbrev pub num_members : Slice → ℕ
num_members first =
    length (short_term_set first).negative_pics + length (short_term_set first).positive_pics
    + length first.long_term_pics

-- The reference picture set has at most sps_max_dec_pic_buffering_minus1 members (7.4.7.1), which
-- is below MaxDpbSize (A.4.2).
pub record IsCleanPicture (p : Picture) : Type 0 where
  pub few : p.skipped ≡ false → is_idr p.nal_unit_type ≡ false
      → num_members p.first ≤ p.limits.max_dec_pic_buffering_minus1
  pub room : p.skipped ≡ false → p.limits.max_dec_pic_buffering_minus1 < p.format.max_num_pics

abbrev pub AllClean : List Picture → Type 0
AllClean [] = Unit {0}
AllClean (p ∷ before) = IsCleanPicture p × AllClean before

pub record IsClean (us : List Meaning) : Type 0 where
  pub goes_on : stop us ≡ None
  pub pictures : AllClean (pictures us)
