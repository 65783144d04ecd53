-- A stream that is given to a decoder unit by unit.
use Rattle.std.specs.Prelude.{◌≡◌, ◌≤◌, ◌<◌, ℕ, ◌+◌, List, [], ◌∷◌, ◌++◌, length}
use Rattle.std.specs.Prelude.{Option, Some, None, OnSome, Result, Ok, Err, IfOk}
use Rattle.hevc_spec.specs.Units.{NalUnit, kept_bytes, units, units_from}
use Rattle.hevc_bits.specs.FoundUnit.{FoundUnit, unit_of}
use Rattle.hevc_stream.specs.Options.{Options}
use Rattle.hevc_backend.specs.declared.call.Call.{Call}
use Rattle.hevc_backend.specs.Handed.{Handed}
use Rattle.hevc_backend.specs.Trait.{Counts, Frames}
use Rattle.hevc_stateless.specs.declared.decoder.StatelessDecoder.{StatelessDecoder}
use Rattle.hevc_stateless.specs.Decoders.{view_of, set_for}
use Rattle.hevc_decoder.specs.declared.decoded.Refused.{Refused}
use Rattle.hevc_decoder.specs.declared.decoded.Shown.{Shown}
use Rattle.hevc_decoder.specs.Scenes.{Scene, Trail, scene, trail_of}
use Rattle.hevc_decoder.specs.Runs.{Reached}
use Rattle.hevc_decoder.specs.Promise.{Decodes, told}

-- a unit that was found is the first of some, after which these are left; or there is none
abbrev pub IsNextUnit : {U : Type 0} → Option (FoundUnit U) → (before after : List NalUnit) → Type 0
IsNextUnit None before after = before ≡ []
IsNextUnit (Some found) before after = before ≡ unit_of found ∷ after

-- a position stays where no unit was taken
abbrev pub StaysUnlessTaken : {T : Type 0} → Result (Option T) Refused → (old new : ℕ) → Type 0
StaysUnlessTaken (Ok (Some taken)) old new = Unit {0}
StaysUnlessTaken (Ok None) old new = new ≡ old
StaysUnlessTaken (Err refused) old new = new ≡ old

-- The first unit from a position on was found, and the position is after it now; where none was
-- taken it stays. It is never beyond the stream.
pub record MovesOn {U : Type 0} (result : Result (Option (FoundUnit U)) Refused)
    (stream : List ℕ) (old new : ℕ) : Type 0 where
  pub next : IfOk result (λ found. IsNextUnit found
      (units_from kept_bytes old stream) (units_from kept_bytes new stream))
  pub moves : IfOk result (λ found. OnSome found (old < new))
  pub stays : StaysUnlessTaken result old new
  pub within : new ≤ length stream

-- before a decoder is given a unit
abbrev pub first_trail : {H : Type 0} → Option (List (Call H)) → Option (List Handed) → Trail H
first_trail log handed = record { log = log; handed = handed; shown = []; tickets = [] }

-- A decoder that was made over a backend, under these options, was given the units of a stream up
-- to unit k; these are left. None was refused, all that they ask for was done, and these pictures
-- were output.
pub record StandsIn {B H P : Type 0} (log : B → Option (List (Call H)))
    (handed : B → Option (List Handed)) (frames : B → Frames) (counts : B → Counts)
    (is_faultless : B → Type 0)
    (options : Options) (stream : List ℕ) (k : ℕ) (left : List NalUnit) (backend : B)
    (shown : List (Shown H)) (decoder : StatelessDecoder B H P) : Type 0 where
  pub begin : Scene B H
  pub begins : trail_of begin ≡ first_trail (log backend) (handed backend)
  pub reached : Reached options (units stream) k begin (scene log handed frames decoder shown) left
  pub counted : counts (view_of decoder).backend ≡ counts backend
  pub faultless : is_faultless backend → is_faultless (view_of decoder).backend
  pub set : set_for decoder ≡ options

-- Unit k was taken, and `after` are left; or there is none; or it is refused, and with it the
-- stream.
abbrev pub GoesOn : {B H P T : Type 0} → (log : B → Option (List (Call H)))
    → (handed : B → Option (List Handed)) → (frames : B → Frames) → (counts : B → Counts)
    → (is_faultless : B → Type 0)
    → Result (Option T) Refused → Options → List ℕ → (k : ℕ) → (before after : List NalUnit) → B
    → List (Shown H) → StatelessDecoder B H P → Type 0
GoesOn log handed frames counts is_faultless (Ok (Some taken)) options stream k before
    after backend shown new =
    StandsIn log handed frames counts is_faultless options stream (k + 1) after backend shown new
GoesOn log handed frames counts is_faultless (Ok None) options stream k before after
    backend shown new =
    (before ≡ [])
    × StandsIn log handed frames counts is_faultless options stream k [] backend shown new
GoesOn log handed frames counts is_faultless (Err refused) options stream k before
    after backend shown new =
    Decodes options stream (told log handed counts is_faultless backend [])
    (told log handed counts is_faultless (view_of new).backend shown) (Err refused)

-- The next unit was taken of a stream, of which `before` were left: so much more was output, and
-- the stream goes on, under the same options.
pub record DecodesNext {B H P T : Type 0} (log : B → Option (List (Call H)))
    (handed : B → Option (List Handed)) (frames : B → Frames) (counts : B → Counts)
    (is_faultless : B → Type 0)
    (result : Result (Option T) Refused) (stream : List ℕ) (k : ℕ) (before after : List NalUnit)
    (old new : StatelessDecoder B H P) (old_shown new_shown : List (Shown H)) : Type 0 where
  pub out : List (Shown H)
  pub shown : new_shown ≡ old_shown ++ out
  pub options : set_for new ≡ set_for old
  pub goes_on : (options : Options) (backend : B) (gone : List (Shown H))
      → StandsIn log handed frames counts is_faultless options stream k before backend gone old
      → GoesOn log handed frames counts is_faultless result options stream k before after backend
      (gone ++ out) new

-- All units of a stream had been taken, k of them: so much more was output at its end, and the
-- stream is decoded.
pub record DecodesEnd {B H P : Type 0} (log : B → Option (List (Call H)))
    (handed : B → Option (List Handed)) (frames : B → Frames) (counts : B → Counts)
    (is_faultless : B → Type 0)
    (result : Result ℕ Refused) (k : ℕ) (old new : StatelessDecoder B H P)
    (old_shown new_shown : List (Shown H)) : Type 0 where
  pub out : List (Shown H)
  pub shown : new_shown ≡ old_shown ++ out
  pub decodes : (options : Options) (stream : List ℕ) (backend : B) (gone : List (Shown H))
      → StandsIn log handed frames counts is_faultless options stream k [] backend gone old
      → Decodes options stream (told log handed counts is_faultless backend [])
      (told log handed counts is_faultless (view_of new).backend (gone ++ out)) result

-- All units of a stream were taken from its beginning on, and the stream was decoded: these
-- pictures were output.
pub record ComesOut {B H P : Type 0} (log : B → Option (List (Call H)))
    (handed : B → Option (List Handed)) (frames : B → Frames) (counts : B → Counts)
    (is_faultless : B → Type 0)
    (result : Result ℕ Refused) (options : Options) (stream : List ℕ) (backend : B)
    (new : StatelessDecoder B H P) : Type 0 where
  pub shown : List (Shown H)
  pub decodes : Decodes options stream (told log handed counts is_faultless backend [])
      (told log handed counts is_faultless (view_of new).backend shown) result

abbrev pub JudgesUnits : {B H P : Type 0} → (log : B → Option (List (Call H)))
    → (handed : B → Option (List Handed)) → (frames : B → Frames) → (counts : B → Counts)
    → (is_faultless : B → Type 0)
    → Result ℕ Refused → List ℕ → (old new : StatelessDecoder B H P) → Type 0
JudgesUnits {B} log handed frames counts is_faultless result stream old new =
    (options : Options) (backend : B)
    → StandsIn log handed frames counts is_faultless options stream 0 (units stream) backend [] old
    → ComesOut log handed frames counts is_faultless result options stream backend new
