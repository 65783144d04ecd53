-- The standing between two calls, as the walk over units has it.
use Rattle.std.specs.Prelude.{ℕ, List, option_map, Option}
use Rattle.hevc_walk_units.specs.Units as units
use Rattle.hevc_walk_units.specs.Units.{Standing}
use Rattle.hevc_dpb.specs.Entries.{tickets}
use Rattle.hevc_dpb.specs.Views.{stored_entries, buffer_of}
use Rattle.hevc_refs.specs.Sets.{plain_set}
use Rattle.hevc_refs.specs.declared.ref_pic_set.RefPicSet.{RefPicSet}
use Rattle.hevc_backend.specs.declared.call.Call.{Call}
use Rattle.hevc_backend.specs.Handed.{Handed}
use Rattle.hevc_backend.specs.Trait.{Frames}
use Rattle.hevc_backend.specs.Negotiation.{format_of}
use Rattle.hevc_driver.specs.declared.current.Current.{Current}
use Rattle.hevc_driver.specs.declared.current.Current.TheVariants as code
use Rattle.hevc_driver.specs.declared.current.Open.{Open}
use Rattle.hevc_driver.specs.declared.standing.Standing as driver
use Rattle.hevc_driver.specs.declared.driver.Driver.{Driver}
use Rattle.hevc_driver.specs.Heads.{head_of, context_of}
use Rattle.hevc_driver.specs.Slices.{kept_of}
use Rattle.hevc_driver.specs.Does.{Traces}

-- the picture whose slices come, with the reference picture set of an open one
abbrev pub current_of : {P : Type 0} → RefPicSet → Current P → units.Current
current_of set code.NoPicture = units.NoPicture
current_of set code.SkippedPicture = units.SkippedPicture
current_of set (code.OpenPicture open_) = units.OpenPicture (head_of open_.head) (plain_set set)

-- a format that is awaited counts as accepted
abbrev pub standing : {H P : Type 0} → driver.Standing H P → Standing
standing w = record {
  store = record { accepted = option_map format_of w.accepted; buffer = buffer_of w.dpb };
  current = current_of w.set w.current;
  kept = option_map kept_of w.kept;
  next = context_of w.next;
}

abbrev pub traces : {H P : Type 0} → Option (List (Call H)) → Option (List Handed)
    → (asked : Option ℕ) → driver.Standing H P → Traces H
traces log handed asked w = record {
  log = log;
  handed = handed;
  asked = asked;
  queue = w.queue.items;
  tickets = tickets (stored_entries w.dpb);
}

-- those of a driver whose backend exposes these logs, and this of the questions for frames
abbrev pub traces_in : {B H P : Type 0} → (log : B → Option (List (Call H)))
    → (handed : B → Option (List Handed)) → (frames : B → Frames) → Driver B H P → Traces H
traces_in log handed frames d =
    traces (log d.backend) (handed d.backend) (frames d.backend).asked d.standing

-- with this picture open, of this reference picture set
abbrev pub with_open : {P : Type 0} → Open P → RefPicSet → Standing → Standing
with_open open_ set s =
    record s { current = units.OpenPicture (head_of open_.head) (plain_set set) }
