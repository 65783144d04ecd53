-- A stream that a source hands over in pieces.
use Rattle.std.specs.Prelude.{◌≡◌, ℕ, ◌≤◌, List, [], ◌++◌, length, map, Option, Result, Ok, Err}
use Rattle.std.specs.Prelude.{IfErr, IfOk, IfSome}
use Rattle.std.specs.Io.KnownBytes.{Consumes}
use Rattle.hevc_fault_counts.specs.Faults.{Rose}
use Rattle.hevc_spec.specs.Units.{NalUnit, units}
use Rattle.hevc_walk.specs.Results.{outputs}
use Rattle.hevc_stream.specs.Options.{Options}
use Rattle.hevc_stream.specs.Stream.{meanings}
use Rattle.hevc_stateless_laws.specs.Segments.{read_units, read_units_of}
use Rattle.hevc_stateless_laws.specs.Stands.{meant}
use Rattle.hevc_decoder.specs.declared.decoded.Shown.{Shown}
use Rattle.hevc_decoder.specs.declared.decoded.Refused.{Refused}
use Rattle.hevc_decoder.specs.Names.{output_picture}
use Rattle.hevc_decoder.specs.Headline.{Appended, IsFront}
use Rattle.hevc_decoder.specs.Scenes.{Scene, Trail, trail_of}
use Rattle.hevc_decoder.specs.Runs.{Reached, Ended}

-- A source's count of faults never falls; where it failed it has risen, or is at its highest.
pub record CountsFailure (failed : Type 0) (before now : ℕ) : Type 0 where
  pub later : before ≤ now
  pub cause : failed → Rose before now

-- what holds of an answer and of the bytes that a source had left, where it exposes them
abbrev pub OfSource : {T E : Type 0} → Result T E → Option (List ℕ) → (T → List ℕ → Type 0) → Type 0
OfSource result left fact = IfOk result (λ value. IfSome left (λ stream. fact value stream))

-- The pictures that were output are, in order, the first ones of the bytes that a source had left,
-- where it exposes them.
abbrev pub ComeOutFirst : {H : Type 0} → Options → Option (List ℕ) → (old new : List (Shown H))
    → Type 0
ComeOutFirst options left old new =
    IfSome left (λ stream.
    Appended old new (λ o. IsFront (map output_picture o) (outputs (meanings options stream))))

-- Of the bytes that a source gave, those of `window` are still to be cut;
-- the units before them were taken.
pub record Fed {B H : Type 0} (options : Options) (given window : List ℕ) (unit : ℕ)
    (begin now : Scene B H) : Type 0 where
  pub front : List NalUnit
  pub reached : Reached options front unit begin now []
  pub cut : (later : List ℕ)
      → meanings options (given ++ later) ≡ meant options (front ++ units (window ++ later))
  pub cut_read : (later : List ℕ)
      → read_units options (given ++ later) ≡ read_units_of options (front ++ units (window ++ later))

-- The run ended at a unit of these bytes, whatever comes after them.
pub record Stopped {B H : Type 0} (options : Options) (given : List ℕ) (refused : Refused)
    (begin now : Scene B H) : Type 0 where
  pub ended : (later : List ℕ)
      → Ended (Err refused) (meanings options (given ++ later)) (read_units options (given ++ later))
      (trail_of begin) (trail_of now)
  pub within : (later : List ℕ) → refused.unit ≤ length (units (given ++ later))

abbrev pub FedTo : {B H : Type 0} → Result ℕ Refused → Options → (given window : List ℕ)
    → (begin now : Scene B H) → Type 0
FedTo (Ok unit) options given window begin now = Fed options given window unit begin now
FedTo (Err refused) options given window begin now = Stopped options given refused begin now

-- Of the window, the units that are whole were taken, from unit `first` on.
abbrev pub FeedsOn : {B H : Type 0} → Result ℕ Refused → Options → (first : ℕ)
    → (window rest : List ℕ) → (old new : Scene B H) → Type 0
FeedsOn {B} {H} result options first window rest old new =
    (begin : Scene B H) (given : List ℕ)
    → Fed options given window first begin old
    → FedTo result options given rest begin new

-- The bytes that a source gave, up to its end, were decoded as a stream.
pub record Drained {H : Type 0} (options : Options) (limit : ℕ) (left rest : Option (List ℕ))
    (answer : Result ℕ Refused) (begin now : Trail H) : Type 0 where
  pub stream : List ℕ
  pub gave : Consumes left rest stream
  pub short : length stream ≤ limit
  pub ended : Ended answer (meanings options stream) (read_units options stream) begin now
  pub within : IfErr answer (λ refused. refused.unit ≤ length (units stream))
