-- How a check goes on from unit to unit.
use Rattle.std.specs.Prelude.{◌≡◌, ◌+◌, ℕ, List, [], ◌∷◌, if◌then◌else◌, Option, Some, None, Result, Ok, Err}
use Rattle.hevc_walk.specs.Meanings.{Meaning}
use Rattle.hevc_walk.specs.Pictures.{Picture, Stream, context, with_unit}
use Rattle.hevc_walk_order.specs.Sequences.{begins}
use Rattle.hevc_check_laws.specs.Checks as laws
use Rattle.hevc_check_laws.specs.Checks.{BrokenAt, lowest_broken}
use Rattle.hevc_check.specs.declared.check.Check.{Check}
use Rattle.hevc_check.specs.declared.check.Checked.{Checked}
use Rattle.hevc_check.specs.declared.unlike.Unlike.{Unlike}
use Rattle.hevc_check.specs.declared.unlike.Unlike.TheVariants.{Refused, NoMemory}
use Rattle.hevc_check.specs.Answers.{checked_of}
use Rattle.hevc_check.specs.Places.{place, first_slice, CannotBeginWith}
use Rattle.hevc_check.specs.declared.table.Table.{Table}
use Rattle.hevc_check.specs.Late.{Fall}
use Rattle.hevc_check.specs.Sequences.{FollowsAll}
use Rattle.hevc_check.specs.Tables.{breaks_by}

-- how many of these pictures begin a sequence
abbrev pub num_sequences : List Picture → ℕ
num_sequences [] = 0
num_sequences (p ∷ before) =
    if begins p before then num_sequences before + 1 else num_sequences before

-- the lowest of a stream's pictures that breaks something by a table
abbrev pub lowest : Table → Stream → Option BrokenAt
lowest t v = lowest_broken (breaks_by t v.first_set) v.pictures

-- A check by a table is after these units, and found nothing that is broken.
pub record IsAt (t : Table) (v : Stream) (c : Check) : Type 0 where
  pub table : c.sequence.table ≡ t
  pub place : c.walk.pictures ≡ place v
  pub follows : FollowsAll v.first_set v.pictures c.sequence
  pub sequences : c.sequences ≡ num_sequences v.pictures
  pub unbroken : lowest t v ≡ None
  pub numbers : Fall (context v.pictures).number v.pictures

-- a broken picture is told of
pub record TellsBroken (t : Table) (v : Stream) (told : Checked) : Type 0 where
  pub broken : BrokenAt
  pub told_is : checked_of told ≡ laws.No broken
  pub lowest_is : lowest t v ≡ Some broken

-- a unit was taken, the k-th
abbrev pub Steps : Table → Result (Option Checked) Unlike → ℕ → Meaning → Stream → Check → Type 0
Steps t (Ok None) k u v new = IsAt t (with_unit k u v) new
Steps t (Ok (Some told)) k u v new = TellsBroken t (with_unit k u v) told
Steps t (Err Refused) k u v new = CannotBeginWith (first_slice u (place v)) (place v)
Steps t (Err NoMemory) k u v new = Unit {0}
