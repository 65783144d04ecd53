-- The order of a set's arrays, which are filled from their begin.
use Rattle.std.proofs.Common.{◌≡◌, ℕ, ◌-◌, pos, List, length, replicate, refl}
use Rattle.std.proofs.lemmas.List.{length-map}
use Rattle.hevc_records.specs.ShortTermRefPicSet.{Fall, Rise}
use Rattle.hevc_tables.specs.declared.short_term_member.ShortTermMember.{ShortTermMember}
use Rattle.hevc_tables.specs.ShortTermTable.{deltas, array_of}
use Rattle.hevc_short_term_laws.specs.Sides.{LieBefore, LieAfter}
use Rattle.hevc_short_term_laws.proofs.OrderLaws.{fall_of, rise_of}

pub before_falls : (ms : List ShortTermMember) (n : ℕ) → n ≡ length ms → LieBefore ms
    → Fall n (array_of (pos 0) (deltas ms))
before_falls ms n is h =
    fall_of n (deltas ms) (replicate (16 - length (deltas ms)) (pos 0)) (rw (length-map, is) refl) h.negative h.falling

pub after_rises : (ms : List ShortTermMember) (n : ℕ) → n ≡ length ms → LieAfter ms
    → Rise n (array_of (pos 0) (deltas ms))
after_rises ms n is h =
    rise_of n (deltas ms) (replicate (16 - length (deltas ms)) (pos 0)) (rw (length-map, is) refl) h.positive h.rising

pub ruleset orders = (before_falls, after_rises)
