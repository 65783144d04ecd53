-- Where the units so far have led, told from their pictures.
use Rattle.std.specs.Prelude.{◌≡◌, ℕ, Bool, List, [], ◌∷◌, ◌++◌, cond, Option, Some, None}
use Rattle.hevc_walk.specs.Meanings.{Format}
use Rattle.hevc_walk.specs.Pictures.{Picture, Stream, Context, context}
use Rattle.hevc_walk.specs.Walk.{Part, store, reference_set_of, full_store, earlier_of, at_unit}
use Rattle.hevc_walk.specs.Results.{walk_events}
use Rattle.hevc_walk_units.specs.Units.{Current, NoPicture, current_of, Standing}

-- what the pictures mean for the next one, while the latest isn't over
abbrev pub next_context : List Picture → Context
next_context [] = context []
next_context (p ∷ before) =
    record (context (p ∷ before)) { prev_tid0_count = (context before).prev_tid0_count }

abbrev pub current_by : Option (ℕ × Format) → List Picture → Current
current_by set [] = NoPicture
current_by set (p ∷ before) = current_of p.head (reference_set_of set p before)

abbrev pub standing : Stream → Standing
standing v = record {
  store = store v.first_set v.pictures;
  current = current_by v.first_set v.pictures;
  kept = v.kept;
  next = next_context v.pictures;
}

abbrev pub full_by : Stream → Option ℕ
full_by v = full_store v.first_set v.pictures

-- a unit's part leads from some units to those with it, the k-th
pub record Takes (k : ℕ) (v : Stream) (part : Part Standing) (fills : Bool) (w : Stream)
    : Type 0 where
  pub events : walk_events w ≡ walk_events v ++ at_unit k part.events
  pub next : part.next ≡ standing w
  pub full : full_by w ≡ earlier_of (full_by v) (cond fills (Some k) None)
