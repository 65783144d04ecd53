use Rattle.std.proofs.Common.{refl}
use Rattle.hevc_walk.specs.Pictures.{nothing_yet}
use Rattle.hevc_check.proofs.check.Check.new.Goals as goal

pub returns-clause-at : goal.returns-clause-at
returns-clause-at c = record {
  table = c.new-2.ensures.table;
  place = c.in_ok-new.ensures.place;
  follows = c.new-2.ensures.follows nothing_yet.first_set;
  sequences = refl;
  unbroken = refl;
  numbers = tt;
}
