-- What was output is moved to the outputs, one by one.
use Rattle.std.proofs.Common.{◌≡◌, ℕ, List, [], ◌∷◌, ◌++◌, map, refl, sym, ◌∙◌, ap, subst}
use Rattle.std.proofs.Common.{append_assoc, append-nil, Some}
use Rattle.std.proofs.lemmas.List.{map-append}
use Rattle.hevc_bumping.specs.declared.frame.Frame.{Frame}
use Rattle.hevc_stateless.specs.declared.event.DecoderEvent.{DecoderEvent}
use Rattle.hevc_stateless.specs.declared.event.DecoderEvent.TheVariants.{FrameReady}
use Rattle.hevc_stateless.specs.declared.state.State.{State}
use Rattle.hevc_stateless.specs.Events.{TellsNext}
use Rattle.hevc_decoder.specs.declared.decoded.Shown.{Shown}
use Rattle.hevc_decoder.specs.Names.{shown_at}

-- a prefix of the queue was moved, and these are left
pub record MovesTo {H : Type 0} (k : ℕ) (queue left : List (Frame H)) (before now : List (Shown H)) : Type 0 where
  pub front : List (Frame H)
  pub whole : queue ≡ front ++ left
  pub moved : now ≡ before ++ map (shown_at k) front

pub moves_none : {H : Type 0} (k : ℕ) (queue : List (Frame H)) (before : List (Shown H))
    → MovesTo k queue queue before before
moves_none k queue before = record { front = []; whole = refl; moved = sym (append-nil before) }

pub moves_more : {H : Type 0} (k : ℕ) (queue left more : List (Frame H)) (f : Frame H)
    (before now next : List (Shown H)) → MovesTo k queue left before now → left ≡ f ∷ more
    → next ≡ now ++ shown_at k f ∷ [] → MovesTo k queue more before next
moves_more k queue left more f before now next m is put = record {
  front = m.front ++ f ∷ [];
  whole = m.whole ∙ ap (λ l. m.front ++ l) is ∙ sym (append_assoc m.front (f ∷ []) more);
  moved = put ∙ ap (λ l. l ++ shown_at k f ∷ []) m.moved
      ∙ append_assoc before (map (shown_at k) m.front) (shown_at k f ∷ [])
      ∙ ap (λ l. before ++ l) (sym (map-append (shown_at k) m.front (f ∷ [])));
}

pub moves_all : {H : Type 0} (k : ℕ) (queue left : List (Frame H)) (before now : List (Shown H))
    → MovesTo k queue left before now → left ≡ [] → now ≡ before ++ map (shown_at k) queue
moves_all k queue left before now m none =
    m.moved ∙ ap (λ l. before ++ map (shown_at k) l) (sym (m.whole ∙ ap (λ l. m.front ++ l) none ∙ append-nil m.front))

-- the front of the queue was told
pub is_front : {H : Type 0} (f : Frame H) (e : DecoderEvent H) (state : State) (before now : List (Frame H))
    → e ≡ FrameReady f → TellsNext (Some e) state before now → before ≡ f ∷ now
is_front {H} f e state before now is tells =
    subst (λ (x : DecoderEvent H). TellsNext (Some x) state before now) is tells
