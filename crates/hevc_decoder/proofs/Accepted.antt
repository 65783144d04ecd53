-- A unit is given again where its format was accepted.
use Rattle.std.proofs.Common.{◌≡◌, inl, inr, ℕ, List, ap, ◌∙◌, Option, Result, Ok, Err, true}
use Rattle.hevc_spec.specs.UnitHeader.{UnitHeader}
use Rattle.hevc_stream.specs.Kept.{Kept}
use Rattle.hevc_stream.specs.Options.{Options}
use Rattle.hevc_backend.specs.declared.call.Call.{Call}
use Rattle.hevc_driver.specs.declared.decode_error.DecodeError.{DecodeError}
use Rattle.hevc_driver.specs.declared.decode_error.DecodeError.TheVariants as errors
use Rattle.hevc_stateless.specs.declared.decoder.StatelessDecoder.{StatelessDecoder}
use Rattle.hevc_stateless.specs.declared.state.State.TheVariants.{Decoding}
use Rattle.hevc_stateless.specs.Decoders.{view_of, kept_in}
use Rattle.hevc_stateless.specs.Views.{View}
use Rattle.hevc_backend.specs.Handed.{Handed}
use Rattle.hevc_backend.specs.Trait.{Frames}
use Rattle.hevc_decoder.specs.declared.decoded.Shown.{Shown}
use Rattle.hevc_decoder.specs.Scenes.{Scene, scene, accepting}
use Rattle.hevc_decoder.specs.Gives.{Delivered, DecodesUnit, Gives, is_check_events}

pub accepted_scene : {B H P : Type 0} (logs : B → Option (List (Call H))) (handeds : B
    → Option (List Handed)) (framed : B → Frames) (d e : StatelessDecoder B H P) (shown : List (Shown H))
    → view_of e ≡ record (view_of d) { state = Decoding } → kept_in e ≡ kept_in d
    → scene logs handeds framed e shown ≡ accepting (scene logs handeds framed d shown)
accepted_scene {B} {H} logs handeds framed d e shown view kept =
    ap (λ (v : View B H). record {
      seen = record {
        log = logs v.backend;
        handed = handeds v.backend;
        asked = (framed v.backend).asked;
        view = v;
        kept = kept_in e;
      };
      shown = shown;
    }) view
    ∙ ap (λ (k : Kept). record {
      seen = record {
        log = logs (view_of d).backend;
        handed = handeds (view_of d).backend;
        asked = (framed (view_of d).backend).asked;
        view = record (view_of d) { state = Decoding };
        kept = k;
      };
      shown = shown;
    }) kept

pub opens : {B H T : Type 0} (r : Result T DecodeError) (k : ℕ) (o : Options) (h : UnitHeader)
    (bytes : List ℕ) (old mid : Scene B H) → is_check_events r ≡ true → Gives r k o h bytes old mid
    → Delivered {T = T} (DecodesUnit o h bytes) (Err errors.CheckEvents) k old mid
opens (Ok v) k o h bytes old mid is gives = absurd (cc is)
opens (Err errors.CheckEvents) k o h bytes old mid is (inl d) = d
opens (Err errors.CheckEvents) k o h bytes old mid is (inr u) = absurd (cc u.told)
opens (Err e) k o h bytes old mid is gives = absurd (cc is)
