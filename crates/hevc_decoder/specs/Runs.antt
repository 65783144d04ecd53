-- What a whole run did of the events that the units of a stream ask for.
use Rattle.std.specs.Prelude.{◌≡◌, ℕ, ◌+◌, ◌≤◌, List, [], ◌∷◌, ◌++◌, length, Option, Some, None}
use Rattle.std.specs.Prelude.{Result, Ok, Err, IfErr}
use Rattle.std.specs.List.{AllByRecursion}
use Rattle.hevc_spec.specs.Units.{NalUnit}
use Rattle.hevc_walk.specs.Meanings.{Meaning}
use Rattle.hevc_walk.specs.Pictures.{stream}
use Rattle.hevc_walk.specs.Walk.{Event}
use Rattle.hevc_walk.specs.Results.{walk_events, events}
use Rattle.hevc_stream.specs.Options.{Options}
use Rattle.hevc_stateless.specs.Segments.{ReadUnit}
use Rattle.hevc_stateless.specs.Steps.{Seen}
use Rattle.hevc_stateless_laws.specs.Segments.{given_of, read_units_of}
use Rattle.hevc_stateless_laws.specs.Stands.{meant, StandsAfter}
use Rattle.hevc_decoder.specs.declared.decoded.Refused.{Refused}
use Rattle.hevc_decoder.specs.declared.decoded.Shown.{Shown}
use Rattle.hevc_decoder.specs.Cut.{Ends}
use Rattle.hevc_decoder.specs.Scenes.{Scene, Trail, trail_of}
use Rattle.hevc_decoder.specs.Takes.{DoesAll}

-- Where a run is before unit k, from which on these units come: after the others, with
-- all that they ask for done.
pub record Reached {B H : Type 0} (options : Options) (all : List NalUnit) (k : ℕ)
    (old now : Scene B H) (later : List NalUnit) : Type 0 where
  pub front : List NalUnit
  pub whole : all ≡ front ++ later
  pub place : length front ≡ k
  pub stands : StandsAfter options front now.seen
  pub empty : now.seen.view.queue ≡ []
  -- no more pictures than units
  pub few : now.seen.view.standing.next.number ≤ k
  pub does : DoesAll (given_of (meant options all) (read_units_of options all)) (trail_of old)
      (trail_of now) (walk_events (stream (meant options front)))

-- A whole run.
pub record Ended {H : Type 0} (result : Result ℕ Refused) (us : List Meaning)
    (read_units : List ReadUnit) (old new : Trail H) : Type 0 where
  pub done : List (ℕ × Event)
  pub rest : List (ℕ × Event)
  pub whole : events us ≡ done ++ rest
  pub does : DoesAll (given_of us read_units) old new done
  pub ends : Ends result us done rest

-- Unit k was taken, the first of `before`, and `after` are left; there is none; or it is refused.
-- So much more was output, whatever was output before.
abbrev pub StepsBy : {B H T : Type 0} → Result (Option T) Refused → Options → (k : ℕ)
    → (before after : List NalUnit) → (out : List (Shown H)) → (old new : Seen B H) → Type 0
StepsBy {B} {H} (Ok (Some taken)) options k before after out old new =
    (begin : Scene B H) (all later : List NalUnit) (gone : List (Shown H))
    → Reached options all k begin (record { seen = old; shown = gone }) (before ++ later)
    → Reached options all (k + 1) begin (record { seen = new; shown = gone ++ out })
    (after ++ later)
StepsBy (Ok None) options k before after out old new = (before ≡ []) × (out ≡ []) × (new ≡ old)
StepsBy {B} {H} (Err refused) options k before after out old new =
    (begin : Scene B H) (all later : List NalUnit) (gone : List (Shown H))
    → Reached options all k begin (record { seen = old; shown = gone }) (before ++ later)
    → Ended (Err refused) (meant options all) (read_units_of options all) (trail_of begin)
    (trail_of (record { seen = new; shown = gone ++ out }))
    × (refused.unit ≤ length all)

pub record TakesNext {B H T : Type 0} (result : Result (Option T) Refused) (options : Options)
    (k : ℕ) (before after : List NalUnit) (old new : Scene B H) : Type 0 where
  pub out : List (Shown H)
  pub shown : new.shown ≡ old.shown ++ out
  pub steps : StepsBy result options k before after out old.seen new.seen

-- No unit is left: a run that was there, before unit k, has ended. So much more was output,
-- whatever was output before.
pub record EndsHere {B H : Type 0} (result : Result ℕ Refused) (options : Options) (k : ℕ)
    (old new : Scene B H) : Type 0 where
  pub out : List (Shown H)
  pub shown : new.shown ≡ old.shown ++ out
  pub ends : (begin : Scene B H) (all : List NalUnit) (gone : List (Shown H))
      → Reached options all k begin (record { seen = old.seen; shown = gone }) []
      → Ended result (meant options all) (read_units_of options all) (trail_of begin)
      (trail_of (record { seen = new.seen; shown = gone ++ out }))
      × IfErr result (λ refused. refused.unit ≤ length all)

-- Units were taken, from unit `first` on: a run that was before them is after them, at
-- the next unit, or has ended.
abbrev pub TakesPiece : {B H : Type 0} → Result ℕ Refused → Options → (first : ℕ) → List NalUnit
    → Scene B H → Scene B H → Type 0
TakesPiece {B} {H} (Ok next) options first us old new =
    (begin : Scene B H) (all later : List NalUnit)
    → Reached options all first begin old (us ++ later)
    → Reached options all next begin new later
TakesPiece {B} {H} (Err refused) options first us old new =
    (begin : Scene B H) (all later : List NalUnit)
    → Reached options all first begin old (us ++ later)
    → Ended (Err refused) (meant options all) (read_units_of options all) (trail_of begin)
    (trail_of new)
    × (refused.unit ≤ length all)

-- These units are the last: a run that was before them has ended.
abbrev pub EndsRun : {B H : Type 0} → Result ℕ Refused → Options → (first : ℕ) → List NalUnit
    → Scene B H → Scene B H → Type 0
EndsRun {B} {H} result options first us old new =
    (begin : Scene B H) (all : List NalUnit)
    → Reached options all first begin old us
    → Ended result (meant options all) (read_units_of options all) (trail_of begin) (trail_of new)
    × IfErr result (λ refused. refused.unit ≤ length all)
