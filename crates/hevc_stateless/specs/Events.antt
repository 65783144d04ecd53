-- What the decoder tells its caller.
use Rattle.std.specs.Prelude.{◌≡◌, true, false, List, [], ◌∷◌, Option, Some, None}
use Rattle.hevc_bumping.specs.declared.frame.Frame.{Frame}
use Rattle.hevc_stateless.specs.declared.event.DecoderEvent.{DecoderEvent}
use Rattle.hevc_stateless.specs.declared.event.DecoderEvent.TheVariants.{FrameReady, FormatChanged}
use Rattle.hevc_stateless.specs.declared.state.State.{State}
use Rattle.hevc_stateless.specs.States.{is_awaited}

-- the first frame of the queue, no longer in it; with none, while a format is awaited, that it is
abbrev pub TellsNext : {H : Type 0} → Option (DecoderEvent H) → State → List (Frame H)
    → List (Frame H) → Type 0
TellsNext (Some (FrameReady frame)) state before now = before ≡ frame ∷ now
TellsNext (Some FormatChanged) state before now =
    (is_awaited state ≡ true) × (before ≡ []) × (now ≡ [])
TellsNext None state before now = (is_awaited state ≡ false) × (before ≡ []) × (now ≡ [])
