-- One unit after another, whatever was output before.
use Rattle.std.proofs.Common.{◌≡◌, ℕ, ◌+◌, ◌<◌, ◌≤◌, ◌^◌, List, [], ◌∷◌, ◌++◌, length, refl, sym}
use Rattle.std.proofs.Common.{ap, ap₂, subst, ◌∙◌, append-nil, Option, Some, None, Result, Ok, Err}
use Rattle.std.specs.Prelude.{IfErr}
use Rattle.hevc_spec.specs.Units.{NalUnit}
use Rattle.hevc_spec.specs.UnitHeader.{UnitHeader, HeaderFault, unit_header}
use Rattle.hevc_stream.specs.Options.{Options}
use Rattle.hevc_bits.specs.declared.header.UnitError.{UnitError}
use Rattle.hevc_bits.specs.ParsedHeader.{answer_of, parsed_header}
use Rattle.hevc_driver.specs.Errors.{unit_error}
use Rattle.hevc_driver.specs.declared.decode_error.DecodeError.{DecodeError}
use Rattle.hevc_stateless.specs.Steps.{Seen}
use Rattle.hevc_stateless_laws.specs.Segments.{read_units_of}
use Rattle.hevc_stateless_laws.specs.Stands.{meant}
use Rattle.hevc_decoder.specs.declared.decoded.Shown.{Shown}
use Rattle.hevc_decoder.specs.declared.decoded.Refused.{Refused}
use Rattle.hevc_decoder.specs.Scenes.{Scene, trail_of}
use Rattle.hevc_decoder.specs.Gives.{GivesWhole, LeavesUnit, LeavesNext, Closes}
use Rattle.hevc_decoder.specs.Runs.{Reached, Ended, EndsHere, EndsRun, TakesNext}
use Rattle.hevc_decoder.proofs.Gone.{Adds, adds_whole, adds_closed}
use Rattle.hevc_decoder.proofs.Headers.{header_ended}
use Rattle.hevc_decoder.proofs.Running.{reached_within}
use Rattle.hevc_decoder.proofs.Walking.{next_is, refused_here, goes_on, ends_whole, ends_refused}

module _ {B H : Type 0} where
  abbrev at : Scene B H → List (Shown H) → Scene B H
  at s gone = record { seen = s.seen; shown = gone }

  -- ---- a unit

  stands_at : (o : Options) (k : ℕ) (u : NalUnit) (before after : List NalUnit) (old : Scene B H)
      (is : before ≡ u ∷ after) (begin : Scene B H) (all later : List NalUnit) (gone : List (Shown H))
      → Reached o all k begin (at old gone) (before ++ later) → Reached o all k begin (at old gone) (u ∷ after ++ later)
  stands_at o k u before after old is begin all later gone x =
      next_is o all k begin (at old gone) (before ++ later) (after ++ later) u
      (ap (λ (us : List NalUnit). us ++ later) is) x

  module _ {T U : Type 0} (o : Options) (k : ℕ) (u : NalUnit) (h : UnitHeader) (before after : List NalUnit)
      (old new : Scene B H) (is : before ≡ u ∷ after) (parsed : unit_header u.bytes ≡ Ok h) (few : k + 1 < 2 ^ 64) where
    pub taken_next : (v : T) (t : U) → GivesWhole (Ok v) k o h u.bytes old new → new.seen.view.queue ≡ []
        → TakesNext (Ok (Some t)) o k before after old new
    taken_next v t gives empty =
        let a : Adds (GivesWhole (Ok v) k o h u.bytes) old new = adds_whole (Ok v) k o h u.bytes old new gives in
        record {
          out = a.out;
          shown = a.shown;
          steps = λ begin all later gone x. goes_on o all k begin (at old gone) (at new (gone ++ a.out)) u
              (after ++ later) h (stands_at o k u before after old is begin all later gone x) parsed few v
              (a.holds gone) empty;
        }

    pub refused_next : (e : DecodeError) → GivesWhole {T = T} (Err e) k o h u.bytes old new
        → (rest : List NalUnit) → TakesNext {T = U} (Err (record { unit = k; error = e })) o k before rest old new
    refused_next e gives rest =
        let a : Adds (GivesWhole {T = T} (Err e) k o h u.bytes) old new =
        adds_whole {T = T} (Err e) k o h u.bytes old new gives in
        record {
          out = a.out;
          shown = a.shown;
          steps = λ begin all later gone x. (
            refused_here o all k begin (at old gone) (at new (gone ++ a.out)) u (after ++ later) h
                (stands_at o k u before after old is begin all later gone x) parsed few e (a.holds gone),
            reached_within o all k begin (at old gone) (before ++ later) x,
          );
        }

  -- its header is refused
  pub header_next : {U : Type 0} (o : Options) (k : ℕ) (u : NalUnit) (before others rest : List NalUnit)
      (now : Scene B H) (e : UnitError) (named : DecodeError) → before ≡ u ∷ others
      → parsed_header u.bytes ≡ Err e → named ≡ unit_error e
      → TakesNext {T = U} (Err (record { unit = k; error = named })) o k before rest now now
  header_next o k u before others rest now e named is refused same = record {
    out = [];
    shown = sym (append-nil now.shown);
    steps = λ begin all later gone x. (
      subst (λ (l : List (Shown H)). Ended (Err (record { unit = k; error = named })) (meant o all)
          (read_units_of o all) (trail_of begin) (trail_of (at now l))) (sym (append-nil gone))
          (subst (λ (d : DecodeError). Ended (Err (record { unit = k; error = d })) (meant o all)
          (read_units_of o all) (trail_of begin) (trail_of (at now gone))) (sym same)
          (header_ended o all (before ++ later) (others ++ later) u k begin (at now gone) e x
          (ap (λ (us : List NalUnit). us ++ later) is) refused)),
      reached_within o all k begin (at now gone) (before ++ later) x,
    );
  }

  -- there is none
  pub none_next : {U : Type 0} (o : Options) (k : ℕ) (before after : List NalUnit) (now : Scene B H)
      → before ≡ [] → TakesNext {T = U} (Ok None) o k before after now now
  none_next o k before after now none = record {
    out = [];
    shown = sym (append-nil now.shown);
    steps = (none, refl, refl);
  }

  -- ---- what is left after a unit

  module _ (o : Options) (k : ℕ) (u : NalUnit) (before others : List NalUnit) (old new : Scene B H)
      (r : Result (Unit {0}) DecodeError) where
    -- it was given
    pub leaves_given : (h : UnitHeader) → before ≡ u ∷ others → unit_header u.bytes ≡ Ok h
        → GivesWhole r k o h u.bytes old new → LeavesNext r o k before old new
    leaves_given h is parsed gives = subst (λ (us : List NalUnit). LeavesNext r o k us old new) (sym is)
        (subst (λ (x : Result UnitHeader HeaderFault). LeavesUnit x r k o u.bytes old new) (sym parsed) gives)

    -- its header was refused
    pub leaves_refused : (e : UnitError) → before ≡ u ∷ others → parsed_header u.bytes ≡ Err e → new ≡ old
        → LeavesNext r o k before old new
    leaves_refused e is refused same =
        subst (λ (us : List NalUnit). LeavesNext r o k us old new) (sym is) (by (unit_header u.bytes) refused)
      where
        by : (x : Result UnitHeader HeaderFault) → answer_of x ≡ Err e → LeavesUnit x r k o u.bytes old new
        by (Ok h) is = absurd (cc is)
        by (Err fault) is = same

  pub leaves_none : (o : Options) (k : ℕ) (before : List NalUnit) (now : Scene B H)
      (r : Result (Unit {0}) DecodeError) → before ≡ [] → LeavesNext r o k before now now
  leaves_none o k before now r none = subst (λ (us : List NalUnit). LeavesNext r o k us now now) (sym none) refl

  -- ---- the end

  pub ends_here : {T : Type 0} (o : Options) (k n : ℕ) (v : T) (old new : Scene B H)
      → n ≡ old.seen.view.standing.next.number → Closes (Ok v) k old new → EndsHere (Ok n) o k old new
  ends_here o k n v old new number closes =
      let a : Adds (Closes (Ok v) k) old new = adds_closed (Ok v) k old new closes in
      record {
        out = a.out;
        shown = a.shown;
        ends = λ begin all gone x. (
          subst (λ (m : ℕ). Ended (Ok m) (meant o all) (read_units_of o all) (trail_of begin)
              (trail_of (at new (gone ++ a.out)))) (sym number)
              (ends_whole o all [] k begin (at old gone) (at new (gone ++ a.out)) x refl v (a.holds gone)),
          tt,
        );
      }

  pub refused_end : {T : Type 0} (o : Options) (k : ℕ) (e : DecodeError) (old new : Scene B H)
      → Closes {T = T} (Err e) k old new → EndsHere (Err (record { unit = k; error = e })) o k old new
  refused_end {T} o k e old new closes =
      let a : Adds (Closes {T = T} (Err e) k) old new = adds_closed {T = T} (Err e) k old new closes in
      record {
        out = a.out;
        shown = a.shown;
        ends = λ begin all gone x. (
          ends_refused o all [] k begin (at old gone) (at new (gone ++ a.out)) x refl e (a.holds gone),
          reached_within o all k begin (at old gone) [] x,
        );
      }

  -- ---- units of a piece, one after another

  pub with_options : {U : Type 0} (o p : Options) (k : ℕ) (before after : List NalUnit)
      (old new : Scene B H) (r : Result (Option U) Refused) → o ≡ p → TakesNext r o k before after old new
      → TakesNext r p k before after old new
  with_options o p k before after old new r same x =
      subst (λ (q : Options). TakesNext r q k before after old new) same x

  -- the next unit was taken of a piece
  pub piece_more : {U : Type 0} (o : Options) (k : ℕ) (before after : List NalUnit) (old new : Scene B H)
      (t : U) → TakesNext (Ok (Some t)) o k before after old new
      → (begin : Scene B H) (all later : List NalUnit) → Reached o all k begin old (before ++ later)
      → Reached o all (k + 1) begin new (after ++ later)
  piece_more o k before after old new t x begin all later reached =
      subst (λ (l : List (Shown H)). Reached o all (k + 1) begin (at new l) (after ++ later)) (sym x.shown)
      (x.steps begin all later old.shown reached)

  -- there was none
  pub piece_ends : {U : Type 0} (o : Options) (k : ℕ) (before after : List NalUnit) (old new : Scene B H)
      → TakesNext {T = U} (Ok None) o k before after old new
      → (begin : Scene B H) (all later : List NalUnit) → Reached o all k begin old (before ++ later)
      → Reached o all k begin new later
  piece_ends o k before after old new x begin all later reached =
      let none = x.steps.0 in
      let same : new ≡ old =
      ap₂ at_seen x.steps.2 (x.shown ∙ ap (λ (l : List (Shown H)). old.shown ++ l) x.steps.1 ∙ append-nil old.shown) in
      subst (λ (s : Scene B H). Reached o all k begin s later) (sym same)
      (subst (λ (us : List NalUnit). Reached o all k begin old (us ++ later)) none reached)
    where
      at_seen : Seen B H → List (Shown H) → Scene B H
      at_seen s l = record { seen = s; shown = l }

  -- it was refused
  pub piece_refused : {U : Type 0} (o : Options) (k : ℕ) (before after : List NalUnit) (old new : Scene B H)
      (r : Refused) → TakesNext {T = U} (Err r) o k before after old new
      → (begin : Scene B H) (all later : List NalUnit) → Reached o all k begin old (before ++ later)
      → Ended (Err r) (meant o all) (read_units_of o all) (trail_of begin) (trail_of new) × (r.unit ≤ length all)
  piece_refused o k before after old new r x begin all later reached =
      subst (λ (l : List (Shown H)). Ended (Err r) (meant o all) (read_units_of o all) (trail_of begin)
      (trail_of (at new l)) × (r.unit ≤ length all)) (sym x.shown) (x.steps begin all later old.shown reached)

  -- the end, as what was output before it stays
  pub ended_here : (o : Options) (k : ℕ) (r : Result ℕ Refused) (old new : Scene B H)
      → EndsHere r o k old new → EndsRun r o k [] old new
  ended_here o k r old new x begin all reached =
      subst (λ (l : List (Shown H)). Ended r (meant o all) (read_units_of o all) (trail_of begin)
      (trail_of (at new l)) × IfErr r (λ refused. refused.unit ≤ length all)) (sym x.shown)
      (x.ends begin all old.shown reached)
