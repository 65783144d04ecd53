-- A stream, step by step: from what the units ask for to what decoding it promises.
use Rattle.std.proofs.Common.{◌≡◌, ℕ, ◌+◌, ◌≤◌, List, [], ◌++◌, length, refl, sym, ap, subst, ◌∙◌}
use Rattle.std.proofs.Common.{append-nil, Option, Some, None, Result, Ok, Err}
use Rattle.std.specs.Prelude.{IfErr}
use Rattle.hevc_spec.specs.Units.{NalUnit, units}
use Rattle.hevc_stream.specs.Kept.{none_kept}
use Rattle.hevc_stream.specs.Options.{Options}
use Rattle.hevc_backend.specs.declared.call.Call.{Call}
use Rattle.hevc_backend.specs.Handed.{Handed}
use Rattle.hevc_backend.specs.Trait.{Counts, Frames}
use Rattle.hevc_driver.specs.Answers.{BlamesFairly, CountsErrors}
use Rattle.hevc_stateless.specs.declared.decoder.StatelessDecoder.{StatelessDecoder}
use Rattle.hevc_stateless.specs.Decoders.{kept_in, set_for, view_of}
use Rattle.hevc_stateless.specs.Views.{View, at_beginning}
use Rattle.hevc_stateless_laws.specs.Segments.{read_units_of}
use Rattle.hevc_stateless_laws.specs.Stands.{meant}
use Rattle.hevc_decoder.specs.declared.decoded.Refused.{Refused}
use Rattle.hevc_decoder.specs.declared.decoded.Shown.{Shown}
use Rattle.hevc_decoder.specs.Answers.{without_unit}
use Rattle.hevc_decoder.specs.Scenes.{Scene, Trail, scene, trail_of}
use Rattle.hevc_decoder.specs.Runs.{Reached, Ended, EndsHere, StepsBy, TakesNext}
use Rattle.hevc_decoder.specs.Promise.{Decodes, told}
use Rattle.hevc_decoder.specs.Stepping.{ComesOut, DecodesEnd, DecodesNext, GoesOn, StandsIn}
use Rattle.hevc_decoder.proofs.Promises.{decodes_of}
use Rattle.hevc_decoder.proofs.Walking.{begins}

module _ {B H P : Type 0} (log : B → Option (List (Call H))) (handed : B → Option (List Handed)) (frames : B
    → Frames) (counts : B → Counts) (is_faultless : B → Type 0) where
  -- ---- a decoder that is made

  pub stands_first : (o : Options) (stream : List ℕ) (backend : B) (d : StatelessDecoder B H P)
      → view_of d ≡ at_beginning backend → kept_in d ≡ none_kept → set_for d ≡ o
      → StandsIn log handed frames counts is_faultless o stream 0 (units stream) backend [] d
  stands_first o stream backend d view kept set =
      let is : (view_of d).backend ≡ backend = ap (λ (v : View B H). v.backend) view in
      record {
        begin = scene log handed frames d [];
        begins = ap (λ (v : View B H). record {
          log = log v.backend;
          handed = handed v.backend;
          shown = [];
          tickets = v.tickets;
        }) view;
        reached = begins o (units stream) (scene log handed frames d []) backend view kept;
        counted = ap counts is;
        faultless = λ h. subst is_faultless (sym is) h;
        set = set;
      }

  -- ---- the end of a run

  module _ (o : Options) (stream : List ℕ) (k : ℕ) (left : List NalUnit) (backend : B)
      (gone : List (Shown H)) (old new : StatelessDecoder B H P)
      (there : StandsIn log handed frames counts is_faultless o stream k left backend gone old) where
    counts_as : {T : Type 0} (r : Result T Refused)
        → CountsErrors (counts (view_of old).backend) (counts (view_of new).backend) (without_unit r)
        → CountsErrors (counts backend) (counts (view_of new).backend) (without_unit r)
    counts_as r cause =
        subst (λ (n : Counts). CountsErrors n (counts (view_of new).backend) (without_unit r)) there.counted cause

    decodes_with : (r : Result ℕ Refused) (shown : List (Shown H))
        → BlamesFairly counts is_faultless (view_of old).backend (view_of new).backend (without_unit r)
        → Ended r (meant o (units stream)) (read_units_of o (units stream)) (trail_of there.begin)
        (trail_of (scene log handed frames new shown)) → IfErr r (λ refused. refused.unit ≤ length (units stream))
        → Decodes o stream (told log handed counts is_faultless backend [])
        (told log handed counts is_faultless (view_of new).backend shown) r
    decodes_with r shown blames ended within =
        decodes_of (told log handed counts is_faultless backend [])
        (told log handed counts is_faultless (view_of new).backend shown) r
        (counts_as r blames.cause) (λ h. blames.faultless (there.faultless h)) o stream (view_of new).tickets
        (subst (λ (t : Trail H). Ended r (meant o (units stream)) (read_units_of o (units stream)) t
        (trail_of (scene log handed frames new shown))) there.begins ended) within

    -- with all units there are
    reached_all : (before : List NalUnit) → left ≡ before
        → Reached o (units stream) k there.begin (scene log handed frames old gone) (before ++ [])
    reached_all before is =
        subst (λ (us : List NalUnit). Reached o (units stream) k there.begin
        (scene log handed frames old gone) us) (is ∙ sym (append-nil before)) there.reached

  -- ---- one more unit

  module _ {T : Type 0} (stream : List ℕ) (k : ℕ) (before after : List NalUnit)
      (old new : StatelessDecoder B H P) (same_set : set_for new ≡ set_for old) where
    by_result : (r : Result (Option T) Refused) (out : List (Shown H)) (o : Options) (backend : B)
        (gone : List (Shown H)) → StandsIn log handed frames counts is_faultless o stream k before backend gone old
        → BlamesFairly counts is_faultless (view_of old).backend (view_of new).backend (without_unit r)
        → StepsBy r o k before after out (scene log handed frames old []).seen (scene log handed frames new []).seen
        → GoesOn log handed frames counts is_faultless r o stream k before after backend (gone ++ out) new
    by_result (Ok (Some taken)) out o backend gone there blames steps = record {
      begin = there.begin;
      begins = there.begins;
      reached = subst
          (λ (us : List NalUnit). Reached o (units stream) (k + 1) there.begin
          (scene log handed frames new (gone ++ out)) us) (append-nil after)
          (steps there.begin (units stream) [] gone
          (reached_all o stream k before backend gone old new there before refl));
      counted = blames.cause ∙ there.counted;
      faultless = λ h. (blames.faultless (there.faultless h)).0;
      set = same_set ∙ there.set;
    }
    by_result (Ok None) out o backend gone there blames (none, nothing, same) = (
      none,
      record {
        begin = there.begin;
        begins = there.begins;
        reached = subst
            (λ (us : List NalUnit). Reached o (units stream) k there.begin
            (scene log handed frames new (gone ++ out)) us) none
            (subst (λ (s : Scene B H). Reached o (units stream) k there.begin s before)
            (ap (λ (l : List (Shown H)). record { seen = (scene log handed frames old []).seen; shown = l })
            (sym (append-nil gone) ∙ ap (λ (l : List (Shown H)). gone ++ l) (sym nothing))
            ∙ ap (λ x. record { seen = x; shown = gone ++ out }) (sym same))
            there.reached);
        counted = blames.cause ∙ there.counted;
        faultless = λ h. (blames.faultless (there.faultless h)).0;
        set = same_set ∙ there.set;
      },
    )
    by_result (Err refused) out o backend gone there blames steps =
        let ended = steps there.begin (units stream) [] gone
        (reached_all o stream k before backend gone old new there before refl) in
        decodes_with o stream k before backend gone old new there (Err refused) (gone ++ out) (record {
          cause = blames.cause;
          faultless = blames.faultless;
        }) ended.0 ended.1

    pub decodes_next : (r : Result (Option T) Refused) (old_shown new_shown : List (Shown H))
        → BlamesFairly counts is_faultless (view_of old).backend (view_of new).backend (without_unit r)
        → TakesNext r (set_for old) k before after (scene log handed frames old old_shown)
        (scene log handed frames new new_shown)
        → DecodesNext log handed frames counts is_faultless r stream k before after old new old_shown new_shown
    decodes_next r old_shown new_shown blames takes = record {
      out = takes.out;
      shown = takes.shown;
      options = same_set;
      goes_on = λ o backend gone there. by_result r takes.out o backend gone there blames
          (subst (λ (x : Options). StepsBy r x k before after takes.out
          (scene log handed frames old []).seen (scene log handed frames new []).seen) there.set takes.steps);
    }

  -- ---- the end

  pub decodes_end : (k : ℕ) (old new : StatelessDecoder B H P) (r : Result ℕ Refused)
      (old_shown new_shown : List (Shown H))
      → BlamesFairly counts is_faultless (view_of old).backend (view_of new).backend (without_unit r)
      → EndsHere r (set_for old) k (scene log handed frames old old_shown) (scene log handed frames new new_shown)
      → DecodesEnd log handed frames counts is_faultless r k old new old_shown new_shown
  decodes_end k old new r old_shown new_shown blames ends = record {
    out = ends.out;
    shown = ends.shown;
    decodes = λ o stream backend gone there.
        let there_reached : Reached (set_for old) (units stream) k there.begin
        (scene log handed frames old gone) [] =
        subst (λ (x : Options). Reached x (units stream) k there.begin
        (scene log handed frames old gone) []) (sym there.set) there.reached in
        let ended = ends.ends there.begin (units stream) gone there_reached in
        decodes_with o stream k [] backend gone old new there r (gone ++ ends.out) blames
        (subst (λ (x : Options). Ended r (meant x (units stream)) (read_units_of x (units stream))
        (trail_of there.begin) (trail_of (scene log handed frames new (gone ++ ends.out)))) there.set ended.0) ended.1;
  }

  -- ---- along a stream, where what was output was let go

  pub record Along (o : Options) (stream : List ℕ) (k : ℕ) (left : List NalUnit) (backend : B)
      (decoder : StatelessDecoder B H P) : Type 0 where
    pub gone : List (Shown H)
    pub stands : StandsIn log handed frames counts is_faultless o stream k left backend gone decoder

  module _ {T : Type 0} (o : Options) (stream : List ℕ) (k : ℕ) (before after : List NalUnit) (backend : B)
      (old new : StatelessDecoder B H P) (old_shown new_shown : List (Shown H))
      (there : Along o stream k before backend old) where
    pub along_more : (t : T)
        → DecodesNext log handed frames counts is_faultless
        (Ok (Some t)) stream k before after old new old_shown new_shown → Along o stream (k + 1) after backend new
    along_more t x = record { gone = there.gone ++ x.out; stands = x.goes_on o backend there.gone there.stands }

    pub along_end : DecodesNext {T = T} log handed frames counts is_faultless
        (Ok None) stream k before after old new old_shown new_shown → Along o stream k [] backend new
    along_end x = record { gone = there.gone ++ x.out; stands = (x.goes_on o backend there.gone there.stands).1 }

    pub along_refused : (r : Refused)
        → DecodesNext {T = T} log handed frames counts is_faultless
        (Err r) stream k before after old new old_shown new_shown
        → ComesOut log handed frames counts is_faultless (Err r) o stream backend new
    along_refused r x = record { shown = there.gone ++ x.out; decodes = x.goes_on o backend there.gone there.stands }

  pub along_ended : (o : Options) (stream : List ℕ) (k : ℕ) (backend : B) (old new : StatelessDecoder B H P)
      (old_shown new_shown : List (Shown H)) (r : Result ℕ Refused) → Along o stream k [] backend old
      → DecodesEnd log handed frames counts is_faultless r k old new old_shown new_shown
      → ComesOut log handed frames counts is_faultless r o stream backend new
  along_ended o stream k backend old new old_shown new_shown r there x = record {
    shown = there.gone ++ x.out;
    decodes = x.decodes o stream backend there.gone there.stands;
  }
