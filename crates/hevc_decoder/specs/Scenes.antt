-- Where a run is.
use Rattle.std.specs.Prelude.{ℕ, List, Option}
use Rattle.hevc_backend.specs.declared.call.Call.{Call}
use Rattle.hevc_backend.specs.Handed.{Handed}
use Rattle.hevc_backend.specs.Trait.{Frames}
use Rattle.hevc_bumping.specs.declared.frame.Frame.{Frame}
use Rattle.hevc_stateless.specs.declared.decoder.StatelessDecoder.{StatelessDecoder}
use Rattle.hevc_stateless.specs.declared.state.State.TheVariants.{Decoding}
use Rattle.hevc_stateless.specs.Decoders.{seen_by}
use Rattle.hevc_stateless.specs.Steps.{Seen}
use Rattle.hevc_decoder.specs.declared.decoded.Shown.{Shown}

-- What its decoder is seen by, and the pictures that were output so far.
pub record Scene (B H : Type 0) : Type 0 where
  pub seen : Seen B H
  pub shown : List (Shown H)

-- where backends expose these logs, and this as what they were handed
abbrev pub scene : {B H P : Type 0} → (log : B → Option (List (Call H)))
    → (handed : B → Option (List Handed)) → (frames : B → Frames) → StatelessDecoder B H P
    → List (Shown H) → Scene B H
scene log handed frames decoder shown =
    record { seen = seen_by log handed frames decoder; shown = shown }

-- with these pictures in the queue
abbrev pub with_queue : {B H : Type 0} → List (Frame H) → Seen B H → Seen B H
with_queue queue s = record s { view = record s.view { queue = queue } }

-- a format that was awaited is accepted
abbrev pub accepting : {B H : Type 0} → Scene B H → Scene B H
accepting s = record s { seen = record s.seen { view = record s.seen.view { state = Decoding } } }

-- All that is left of what a run did: what the backend tells, the outputs,
-- and the numbers of the stored pictures with their handles.
pub record Trail (H : Type 0) : Type 0 where
  pub log : Option (List (Call H))
  pub handed : Option (List Handed)
  pub shown : List (Shown H)
  pub tickets : List (ℕ × H)

abbrev pub trail_of : {B H : Type 0} → Scene B H → Trail H
trail_of s = record {
  log = s.seen.log;
  handed = s.seen.handed;
  shown = s.shown;
  tickets = s.seen.view.tickets;
}
