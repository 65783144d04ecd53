-- The tables by which a stream is checked.
use Rattle.std.specs.Prelude.{ℕ, Bool, true, List, Option}
use Rattle.hevc_walk.specs.Meanings.{Format, Meaning}
use Rattle.hevc_walk.specs.Pictures.{Picture}
use Rattle.hevc_walk_order.specs.Sequences.{is_for_output}
use Rattle.hevc_check_laws.specs.Breaches.{Breach}
use Rattle.hevc_check_laws.specs.Bounds.{breaks_bounds}
use Rattle.hevc_check_laws.specs.Orders.{breaks_order}
use Rattle.hevc_check_laws.specs.Checks.{Checked, checked_bounds, checked_order}
use Rattle.hevc_check.specs.declared.table.Table.{Table}
use Rattle.hevc_check.specs.declared.table.Table.TheVariants.{Bounds, Order}

abbrev pub breaks_by : Table → Option (ℕ × Format) → Picture → List Picture → Breach → Bool
breaks_by Bounds set = breaks_bounds set
breaks_by Order set = breaks_order set

abbrev pub checked_by : Table → List Meaning → Checked
checked_by Bounds us = checked_bounds us
checked_by Order us = checked_order us

-- a picture's order count is compared with those of later ones: by the plainer bounds that of each,
-- by display order that of one that is to be output
abbrev pub is_counted : Table → Picture → Bool
is_counted Bounds p = true
is_counted Order p = is_for_output p
