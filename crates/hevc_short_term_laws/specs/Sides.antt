-- Members on one side of the current picture, nearest first (7.4.8).
use Rattle.std.specs.Prelude.{pos, List, IsTrue}
use Rattle.std.specs.List.{list_all}
use Rattle.hevc_tables.specs.declared.short_term_member.ShortTermMember.{ShortTermMember}
use Rattle.hevc_tables.specs.ShortTermTable.{deltas, is_i32}
use Rattle.hevc_short_term_laws.specs.Orders.{AllAbove, AllBelow, Rises, Falls}

-- their differences fall below 0, and are of 32 bits
pub record LieBefore (ms : List ShortTermMember) : Type 0 where
  pub negative : AllBelow (pos 0) (deltas ms)
  pub falling : Falls (deltas ms)
  pub fit : IsTrue (list_all is_i32 (deltas ms))

-- their differences rise above 0, and are of 32 bits
pub record LieAfter (ms : List ShortTermMember) : Type 0 where
  pub positive : AllAbove (pos 0) (deltas ms)
  pub rising : Rises (deltas ms)
  pub fit : IsTrue (list_all is_i32 (deltas ms))
