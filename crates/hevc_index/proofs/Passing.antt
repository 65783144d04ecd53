-- The points of the units that a decoder has taken.
use Rattle.std.proofs.Common.{◌≡◌, ℕ, ◌+◌, List, [], ◌∷◌, ◌++◌, length, map, take, refl, sym, ap}
use Rattle.std.proofs.Common.{ap₂, ◌∙◌, append_assoc, append-nil, length-append, zero-add, Option}
use Rattle.std.proofs.Common.{Some, None, Result, Ok, Err}
use Rattle.std.specs.Prelude.{option_to_list, slice_index_or, IsOk}
use Rattle.hevc_spec.specs.Units.{NalUnit, kept_bytes, units, units_from}
use Rattle.hevc_walk.specs.Meanings.{Meaning}
use Rattle.hevc_walk.specs.Pictures.{Stream, nothing_yet, pictures, stream, with_unit}
use Rattle.hevc_walk_units.specs.Units.{Standing}
use Rattle.hevc_walk_agree.proofs.Moment.{stream-last}
use Rattle.hevc_walk_agree.specs.Standings.{standing}
use Rattle.hevc_stream.specs.Kept.{none_kept}
use Rattle.hevc_stream.specs.Options.{default_options}
use Rattle.hevc_stream.specs.Stream.{meaning}
use Rattle.hevc_backend.specs.declared.call.Call.{Call}
use Rattle.hevc_backend.specs.Handed.{Handed}
use Rattle.hevc_backend.specs.Trait.{Counts, Frames}
use Rattle.hevc_stateless.specs.declared.decoder.StatelessDecoder.{StatelessDecoder}
use Rattle.hevc_stateless.specs.Decoders.{view_of}
use Rattle.hevc_stateless_laws.proofs.Keeping.{length_meant, meant_last}
use Rattle.hevc_stateless_laws.specs.Stands.{kept_after, meant, standing_after}
use Rattle.hevc_decoder.specs.declared.decoded.Refused.{Refused}
use Rattle.hevc_decoder.specs.declared.decoded.Shown.{Shown}
use Rattle.hevc_decoder.specs.Promise.{told}
use Rattle.hevc_decoder.specs.Runs.{Reached}
use Rattle.hevc_decoder.specs.Scenes.{Scene}
use Rattle.hevc_decoder.specs.Stepping.{DecodesEnd, DecodesNext, StandsIn}
use Rattle.hevc_index_laws.specs.Points.{points_of, PlainPoint}
use Rattle.hevc_index.specs.Finding.{point_begun, StandsFirst}
use Rattle.hevc_index.specs.Indexing.{ending, error_for, JudgesError}
use Rattle.hevc_index.proofs.Judging.{judged_ok, judged_refused}
use Rattle.hevc_index.proofs.Steps.{points_more, told_of}

-- the place of unit k of a stream
abbrev pub offset_in : List ℕ → ℕ → ℕ
offset_in bytes k = slice_index_or (map (λ (u : NalUnit). u.offset) (units bytes)) k 0

-- the points of its first units
abbrev pub told_points : List ℕ → List NalUnit → List PlainPoint
told_points bytes us = told_of (offset_in bytes) (pictures (meant default_options us))

pub take_front : (front us : List NalUnit) → take (length front) (front ++ us) ≡ front
take_front [] us = refl
take_front (u ∷ front) us = ap (λ (l : List NalUnit). u ∷ l) (take_front front us)

-- ---- one more unit

at_place : (front after : List NalUnit) (u : NalUnit)
    → slice_index_or (map (λ (w : NalUnit). w.offset) (front ++ u ∷ after)) (length front) 0 ≡ u.offset
at_place [] after u = refl
at_place (x ∷ front) after u = at_place front after u

stream_last : (front : List NalUnit) (u : NalUnit)
    → stream (meant default_options (front ++ u ∷ []))
    ≡ with_unit (length front) (meaning default_options (kept_after default_options front) u.bytes)
    (stream (meant default_options front))
stream_last front u =
    let m : Meaning = meaning default_options (kept_after default_options front) u.bytes in
    let ms : List Meaning = meant default_options front in
    ap stream (meant_last default_options none_kept front u)
    ∙ stream-last 0 nothing_yet ms m
    ∙ ap (λ (k : ℕ). with_unit k m (stream ms)) (zero-add (length ms) ∙ length_meant default_options none_kept front)

told_last : (bytes : List ℕ) (front after : List NalUnit) (u : NalUnit) → units bytes ≡ front ++ u ∷ after
    → told_points bytes (front ++ u ∷ []) ≡ told_points bytes front
    ++ option_to_list
    (point_begun (standing_after (meant default_options front)).next.number (length front) u.offset
    (standing_after (meant default_options (front ++ u ∷ []))))
told_last bytes front after u whole =
    let m : Meaning = meaning default_options (kept_after default_options front) u.bytes in
    let v : Stream = stream (meant default_options front) in
    let place : offset_in bytes (length front) ≡ u.offset =
    ap (λ (us : List NalUnit). slice_index_or (map (λ (w : NalUnit). w.offset) us) (length front) 0) whole
    ∙ at_place front after u in
    let last = stream_last front u in
    ap (λ (w : Stream). told_of (offset_in bytes) w.pictures) last
    ∙ points_more (offset_in bytes) (length front) m v
    ∙ ap₂ (λ (n : ℕ) (w : Stream). told_of (offset_in bytes) v.pictures
    ++ option_to_list (point_begun (standing v).next.number (length front) n (standing w))) place (sym last)

-- ---- the units that were taken

front_is : {B H : Type 0} (all : List NalUnit) (k : ℕ) (begin now : Scene B H) (left : List NalUnit)
    (x : Reached default_options all k begin now left) → x.front ≡ take k all
front_is all k begin now left x =
    sym (ap₂ (λ (n : ℕ) (us : List NalUnit). take n us) (sym x.place) x.whole ∙ take_front x.front left)

module _ {B H P : Type 0} (log : B → Option (List (Call H))) (handed : B → Option (List Handed)) (frames : B → Frames)
    (counts : B → Counts) (is_faultless : B → Type 0) where
  abbrev Stands : (bytes : List ℕ) (k : ℕ) (left : List NalUnit) (backend : B) (shown : List (Shown H))
      (decoder : StatelessDecoder B H P) → Type 0
  Stands bytes k left backend shown decoder =
      StandsIn log handed frames counts is_faultless default_options bytes k left backend shown decoder

  -- the points so far were told
  pub record Collected (bytes : List ℕ) (position k : ℕ) (points : List PlainPoint)
      (decoder : StatelessDecoder B H P) : Type 0 where
    pub backend : B
    pub shown : List (Shown H)
    pub stands : StandsIn log handed frames counts is_faultless default_options bytes k
        (units_from kept_bytes position bytes) backend shown decoder
    pub faultless : is_faultless backend
    pub told : points ≡ told_points bytes (take k (units bytes))

  -- all points were told
  pub record CollectedAll (bytes : List ℕ) (k : ℕ) (points : List PlainPoint) (decoder : StatelessDecoder B H P) : Type
      0 where
    pub backend : B
    pub shown : List (Shown H)
    pub stands : StandsIn log handed frames counts is_faultless default_options bytes k [] backend shown decoder
    pub faultless : is_faultless backend
    pub told : points ≡ points_of default_options bytes

  pub collected_first : (bytes : List ℕ) (decoder : StatelessDecoder B H P)
      → StandsFirst log handed frames counts is_faultless bytes decoder → Collected bytes 0 0 [] decoder
  collected_first bytes decoder first =
      record { backend = first.0; shown = []; stands = first.1; faultless = first.2; told = refl }

  module _ (bytes : List ℕ) (k : ℕ) (before after : List NalUnit) (u : NalUnit) (backend : B)
      (gone shown : List (Shown H)) (old new : StatelessDecoder B H P) (here : Stands bytes k before backend gone old)
      (next : Stands bytes (k + 1) after backend shown new) (is : before ≡ u ∷ after) where
    abbrev front : List NalUnit
    front = here.reached.front

    whole : units bytes ≡ front ++ u ∷ after
    whole = here.reached.whole ∙ ap (λ (us : List NalUnit). front ++ us) is

    next_front : next.reached.front ≡ front ++ u ∷ []
    next_front =
        let long : k + 1 ≡ length (front ++ u ∷ []) =
        ap (λ (n : ℕ). n + 1) (sym here.reached.place) ∙ sym (length-append front (u ∷ [])) in
        front_is (units bytes) (k + 1) next.begin _ after next.reached
        ∙ ap₂ (λ (n : ℕ) (us : List NalUnit). take n us) long (whole ∙ sym (append_assoc front (u ∷ []) after))
        ∙ take_front (front ++ u ∷ []) after

    pub told_more : told_points bytes (take (k + 1) (units bytes)) ≡ told_points bytes (take k (units bytes))
        ++ option_to_list (point_begun (view_of old).standing.next.number k u.offset (view_of new).standing)
    told_more =
        ap (told_points bytes) (sym (front_is (units bytes) (k + 1) next.begin _ after next.reached) ∙ next_front)
        ∙ told_last bytes front after u whole
        ∙ ap (λ (us : List NalUnit). told_points bytes us
        ++ option_to_list
        (point_begun (standing_after (meant default_options front)).next.number (length front) u.offset
        (standing_after (meant default_options (front ++ u ∷ [])))))
        (front_is (units bytes) k here.begin _ before here.reached)
        ∙ ap (λ (n : ℕ). told_points bytes (take k (units bytes))
        ++ option_to_list
        (point_begun (standing_after (meant default_options front)).next.number n u.offset
        (standing_after (meant default_options (front ++ u ∷ []))))) here.reached.place
        ∙ ap₂ (λ (s t : Standing). told_points bytes (take k (units bytes))
        ++ option_to_list (point_begun s.next.number k u.offset t)) (sym here.reached.stands.stands)
        (sym (next.reached.stands.stands
        ∙ ap (λ (us : List NalUnit). standing_after (meant default_options us)) next_front))

  -- where none is left, all points were told
  pub told_all : (bytes : List ℕ) (k : ℕ) (backend : B) (shown : List (Shown H)) (decoder : StatelessDecoder B H P)
      → Stands bytes k [] backend shown decoder
      → told_points bytes (take k (units bytes)) ≡ points_of default_options bytes
  told_all bytes k backend shown decoder here =
      let whole : units bytes ≡ here.reached.front = here.reached.whole ∙ append-nil here.reached.front in
      ap (told_points bytes) (sym (front_is (units bytes) k here.begin _ [] here.reached) ∙ sym whole)

  -- ---- step by step

  module _ {T : Type 0} (bytes : List ℕ) (position next k : ℕ) (points : List PlainPoint)
      (old new : StatelessDecoder B H P) (old_shown new_shown : List (Shown H))
      (there : Collected bytes position k points old) where
    abbrev Next : Result (Option T) Refused → Type 0
    Next r =
        DecodesNext log handed frames counts is_faultless r bytes k (units_from kept_bytes position bytes)
        (units_from kept_bytes next bytes) old new old_shown new_shown

    -- a unit, and the point that begins with it
    pub collected_more : (t : T) (u : NalUnit) (more : List PlainPoint) → Next (Ok (Some t))
        → units_from kept_bytes position bytes ≡ u ∷ units_from kept_bytes next bytes
        → more ≡ points
        ++ option_to_list (point_begun (view_of old).standing.next.number k u.offset (view_of new).standing)
        → Collected bytes next (k + 1) more new
    collected_more t u more x first is =
        let stands = x.goes_on default_options there.backend there.shown there.stands in
        record {
          backend = there.backend;
          shown = there.shown ++ x.out;
          stands = stands;
          faultless = there.faultless;
          told =
              is
              ∙ ap (λ (ps : List PlainPoint). ps
              ++ option_to_list (point_begun (view_of old).standing.next.number k u.offset (view_of new).standing))
              there.told
              ∙ sym (told_more bytes k (units_from kept_bytes position bytes) (units_from kept_bytes next bytes) u
              there.backend there.shown (there.shown ++ x.out) old new there.stands stands first);
        }

    -- it is refused
    pub collected_refused : (r : Refused) → Next (Err r) → JudgesError (error_for r.error r) (ending bytes)
    collected_refused r x =
        judged_refused bytes (told log handed counts is_faultless there.backend [])
        (told log handed counts is_faultless (view_of new).backend (there.shown ++ x.out)) r
        (x.goes_on default_options there.backend there.shown there.stands) there.faultless

    -- there is none
    pub collected_end : Next (Ok None) → CollectedAll bytes k points new
    collected_end x =
        let none = x.goes_on default_options there.backend there.shown there.stands in
        record {
          backend = there.backend;
          shown = there.shown ++ x.out;
          stands = none.1;
          faultless = there.faultless;
          told = there.told ∙ told_all bytes k there.backend (there.shown ++ x.out) new none.1;
        }

  module _ (bytes : List ℕ) (k : ℕ) (points : List PlainPoint) (old new : StatelessDecoder B H P)
      (old_shown new_shown : List (Shown H)) (there : CollectedAll bytes k points old) where
    pub ended_refused : (r : Refused)
        → DecodesEnd log handed frames counts is_faultless (Err r) k old new old_shown new_shown
        → JudgesError (error_for r.error r) (ending bytes)
    ended_refused r x =
        judged_refused bytes (told log handed counts is_faultless there.backend [])
        (told log handed counts is_faultless (view_of new).backend (there.shown ++ x.out)) r
        (x.decodes default_options bytes there.backend there.shown there.stands) there.faultless

    pub ended_ok : (n : ℕ) → DecodesEnd log handed frames counts is_faultless (Ok n) k old new old_shown new_shown
        → IsOk (ending bytes)
    ended_ok n x =
        judged_ok bytes (told log handed counts is_faultless there.backend [])
        (told log handed counts is_faultless (view_of new).backend (there.shown ++ x.out)) n
        (x.decodes default_options bytes there.backend there.shown there.stands)
