-- From the beginning of a stream, unit by unit.
use Rattle.std.proofs.Common.{◌≡◌, ℕ, ◌+◌, ◌<◌, ◌^◌, List, [], ◌∷◌, refl, sym, ap, subst, arith}
use Rattle.std.proofs.Common.{Option, Result, Ok, Err}
use Rattle.hevc_spec.specs.Units.{NalUnit}
use Rattle.hevc_spec.specs.UnitHeader.{UnitHeader, unit_header}
use Rattle.hevc_stream.specs.Options.{Options}
use Rattle.hevc_stream.specs.Kept.{Kept, none_kept}
use Rattle.hevc_stream.specs.Stream.{meanings}
use Rattle.hevc_walk_units.specs.Units.{Standing}
use Rattle.hevc_driver.specs.declared.decode_error.DecodeError.{DecodeError}
use Rattle.hevc_stateless.specs.Views.{View, at_beginning}
use Rattle.hevc_stateless.specs.Steps.{Seen}
use Rattle.hevc_stateless_laws.specs.Stands.{meant, standing_after, StandsAfter}
use Rattle.hevc_backend.specs.declared.call.Call.{Call}
use Rattle.hevc_stateless.specs.declared.decoder.StatelessDecoder.{StatelessDecoder}
use Rattle.hevc_stateless.specs.Decoders.{view_of, set_for}
use Rattle.hevc_decoder.specs.declared.decoded.Shown.{Shown}
use Rattle.hevc_decoder.specs.declared.decoded.Refused.{Refused}
use Rattle.hevc_backend.specs.Handed.{Handed}
use Rattle.hevc_backend.specs.Trait.{Frames}
use Rattle.hevc_driver.specs.Given.{Given}
use Rattle.hevc_stateless_laws.specs.Segments.{given_of, read_units, read_units_of}
use Rattle.hevc_stateless_laws.specs.Stands.{given_next}
use Rattle.hevc_decoder.proofs.Comings.{given_here}
use Rattle.hevc_decoder.specs.Scenes.{Scene, Trail, scene, trail_of}
use Rattle.hevc_decoder.specs.Gives.{GivesWhole, Closes}
use Rattle.hevc_decoder.specs.Takes.{EndsStream}
use Rattle.hevc_decoder.specs.Runs.{Reached, Ended}
use Rattle.hevc_decoder.proofs.Behind.{whole_taken, whole_stands}
use Rattle.hevc_decoder.proofs.Running.{reached_first, reached_more, ended_refused}
use Rattle.hevc_decoder.proofs.Closing.{ends_stream, ended_whole, ended_at_end}

stands_first : {B H : Type 0} (o : Options) (s : Seen B H) (backend : B) → s.view ≡ at_beginning backend
    → s.kept ≡ none_kept → StandsAfter o [] s
stands_first {B} {H} o s backend view kept = record {
  goes_on = refl;
  stands = ap (λ (v : View B H). v.standing) view;
  state_is = ap (λ (v : View B H). v.state) view;
  kept = kept;
  latest = ap (λ (v : View B H). v.latest) view;
  room = refl;
  started = ap (λ (k : Kept). k.has_sequence_set) (sym kept);
}

pub begins : {B H : Type 0} (o : Options) (all : List NalUnit) (now : Scene B H) (backend : B)
    → now.seen.view ≡ at_beginning backend → now.seen.kept ≡ none_kept → Reached o all 0 now now all
begins {B} {H} o all now backend view kept =
    reached_first o all now (stands_first o now.seen backend view kept)
    (ap (λ (v : View B H). v.queue) view) (ap (λ (v : View B H). v.standing.next.number) view)

-- the unit that was found is the next one
pub next_is : {B H : Type 0} (o : Options) (all : List NalUnit) (k : ℕ) (old mid : Scene B H)
    (us others : List NalUnit) (u : NalUnit) → us ≡ u ∷ others → Reached o all k old mid us
    → Reached o all k old mid (u ∷ others)
next_is o all k old mid us others u is x = subst (λ (vs : List NalUnit). Reached o all k old mid vs) is x

module _ {B H : Type 0} (o : Options) (all : List NalUnit) (k : ℕ) (old mid new : Scene B H) (u : NalUnit)
    (later : List NalUnit) (h : UnitHeader) (x : Reached o all k old mid (u ∷ later))
    (parsed : unit_header u.bytes ≡ Ok h) (few : k + 1 < 2 ^ 64) where
  abbrev at_all : ℕ → Given
  at_all = given_of (meant o all) (read_units_of o all)

  here : given_next 0 o x.front u ≡ at_all k
  here = given_here o all x.front u later k x.whole x.place

  fits : (standing_after (meant o x.front)).next.number + 1 < 2 ^ 64
  fits = let is = ap (λ (s : Standing). s.next.number) x.stands.stands in omega (arith, is, x.few, few)

  pub refused_here : {T : Type 0} (e : DecodeError) → GivesWhole {T = T} (Err e) k o h u.bytes mid new
      → Ended (Err (record { unit = k; error = e })) (meant o all) (read_units_of o all) (trail_of old) (trail_of new)
  refused_here {T} e gives =
      ended_refused o all k old mid u later x T e (trail_of new)
      (whole_taken at_all o x.front u h k here mid x.stands x.empty parsed new (Err e) fits gives)

  pub goes_on : {T : Type 0} (v : T) → GivesWhole (Ok v) k o h u.bytes mid new → new.seen.view.queue ≡ []
      → Reached o all (k + 1) old new later
  goes_on v gives empty =
      reached_more o all k old mid u later x new
      (whole_taken at_all o x.front u h k here mid x.stands x.empty parsed new (Ok v) fits gives)
      (whole_stands at_all o x.front u h k here mid x.stands x.empty parsed new v gives) empty

module _ {B H : Type 0} (o : Options) (all later : List NalUnit) (k : ℕ) (old mid new : Scene B H)
    (x : Reached o all k old mid later) (none : later ≡ []) where
  at_end : Reached o all k old mid []
  at_end = subst (λ (us : List NalUnit). Reached o all k old mid us) none x

  abbrev at_end_all : ℕ → Given
  at_end_all = given_of (meant o all) (read_units_of o all)

  closes_with : {T : Type 0} (r : Result T DecodeError) → Closes r k mid new
      → EndsStream at_end_all r k (trail_of mid) (trail_of new) (standing_after (meant o at_end.front))
  closes_with {T} r c =
      subst (λ (s : Standing). EndsStream at_end_all r k (trail_of mid) (trail_of new) s)
      at_end.stands.stands (ends_stream at_end_all k refl mid new at_end.empty r c)

  pub ends_whole : {T : Type 0} (v : T) → Closes (Ok v) k mid new
      → Ended (Ok mid.seen.view.standing.next.number) (meant o all) (read_units_of o all) (trail_of old) (trail_of new)
  ends_whole v c = ended_whole o all k old mid (trail_of new) at_end (closes_with (Ok v) c)

  pub ends_refused : {T : Type 0} (e : DecodeError) → Closes {T = T} (Err e) k mid new
      → Ended (Err (record { unit = k; error = e })) (meant o all) (read_units_of o all) (trail_of old) (trail_of new)
  ends_refused {T} e c = ended_at_end o all k old mid (trail_of new) at_end T e (closes_with (Err e) c)

-- ---- a decoder that is made for the stream

pub whole_run : {B H P : Type 0} (logs : B → Option (List (Call H))) (handeds : B
    → Option (List Handed)) (framed : B → Frames) (d e : StatelessDecoder B H P)
    (before after : List (Shown H)) (backend behind : B) (o : Options) (bytes : List ℕ)
    (r : Result ℕ Refused) → view_of d ≡ at_beginning backend → set_for d ≡ o → behind ≡ (view_of e).backend
    → Ended r (meanings (set_for d) bytes) (read_units (set_for d) bytes)
    (trail_of (scene logs handeds framed d before)) (trail_of (scene logs handeds framed e after))
    → Ended r (meanings o bytes) (read_units o bytes) (record {
      log = logs backend;
      handed = handeds backend;
      shown = before;
      tickets = [];
    }) (record { log = logs behind; handed = handeds behind; shown = after; tickets = (view_of e).tickets })
whole_run {B} {H} logs handeds framed d e before after backend behind o bytes r view options is ended =
    let old : trail_of (scene logs handeds framed d before) ≡ record {
      log = logs backend;
      handed = handeds backend;
      shown = before;
      tickets = [];
    } = ap (λ (v : View B H). record {
      log = logs v.backend;
      handed = handeds v.backend;
      shown = before;
      tickets = v.tickets;
    }) view in
    let new : trail_of (scene logs handeds framed e after) ≡ record {
      log = logs behind;
      handed = handeds behind;
      shown = after;
      tickets = (view_of e).tickets;
    } = ap (λ (b : B). record {
      log = logs b;
      handed = handeds b;
      shown = after;
      tickets = (view_of e).tickets;
    }) (sym is) in
    subst (λ (x : Options). Ended r (meanings x bytes) (read_units x bytes) (record {
      log = logs backend;
      handed = handeds backend;
      shown = before;
      tickets = [];
    }) (record { log = logs behind; handed = handeds behind; shown = after; tickets = (view_of e).tickets })) options
    (subst (λ (t : Trail H). Ended r (meanings (set_for d) bytes) (read_units (set_for d) bytes) t (record {
      log = logs behind;
      handed = handeds behind;
      shown = after;
      tickets = (view_of e).tickets;
    })) old
    (subst (λ (t : Trail H). Ended r (meanings (set_for d) bytes) (read_units (set_for d) bytes)
    (trail_of (scene logs handeds framed d before)) t) new ended))
