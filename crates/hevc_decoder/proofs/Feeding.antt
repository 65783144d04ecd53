-- A stream that comes in pieces, cut before start codes, is taken as the whole is.
use Rattle.std.proofs.Common.{◌≡◌, inl, inr, ◌⊎◌, ℕ, ◌+◌, ◌≤◌, true, List, [], ◌∷◌, ◌++◌, take}
use Rattle.std.proofs.Common.{drop, length, refl, sym, ◌∙◌, ap, subst, arith, append_assoc}
use Rattle.std.proofs.Common.{append-nil, map, Option, Some, None, Result, Ok, Err, IfErr, IfSome}
use Rattle.std.proofs.lemmas.List.{take-append-drop, drop-append-le}
use Rattle.hevc_bits.specs.StartCode.{NoneStands}
use Rattle.hevc_bits.proofs.StartCodes.{begins_at, none_begins}
use Rattle.hevc_spec.proofs.UnitLaws.{units_from-skip}
use Rattle.hevc_spec.specs.Units.{NalUnit, begins_with_start_code, units_at, units_from, kept_bytes, units}
use Rattle.std.specs.Io.KnownBytes.{Consumes, IsAtEnd}
use Rattle.std.proofs.KnownBytes.{Consumes-trans}
use Rattle.hevc_walk.specs.Meanings.{Meaning}
use Rattle.hevc_walk.specs.Pictures.{stream}
use Rattle.hevc_walk.specs.Results.{walk_events, outputs, outputs_in}
use Rattle.hevc_walk_units.specs.Units.{events_from}
use Rattle.hevc_walk_agree.proofs.Cuts.{outputs_in-append}
use Rattle.hevc_stream.specs.Options.{Options}
use Rattle.hevc_stream.specs.Kept.{Kept, none_kept}
use Rattle.hevc_stream.specs.Stream.{meanings, meanings_behind, kept_behind_all}
use Rattle.hevc_stateless_laws.specs.Stands.{meant, standing_after, kept_after}
use Rattle.hevc_stateless_laws.proofs.Keeping.{meant_behind, length_meant}
use Rattle.hevc_stateless.specs.Views.{at_beginning}
use Rattle.hevc_decoder.specs.declared.decoded.Refused.{Refused}
use Rattle.hevc_decoder.specs.Names.{output_picture}
use Rattle.hevc_decoder.specs.Headline.{Appended, IsFront}
use Rattle.hevc_decoder.specs.Scenes.{Scene, trail_of}
use Rattle.hevc_decoder.specs.Runs.{Reached, TakesPiece, EndsRun, Ended}
use Rattle.hevc_decoder.specs.Sources.{ComeOutFirst, Drained, Fed, Stopped, FedTo}
use Rattle.hevc_decoder.specs.Windows.{IsLastStart, lead_length}
use Rattle.hevc_decoder.proofs.Windows.{EndsBehind, lead_without, lead_within}
use Rattle.hevc_stream_pieces.proofs.Joined.{units_joined}
use Rattle.hevc_decoder.proofs.Cutting.{units_moved}
use Rattle.hevc_records.specs.SliceHeader.{PlainSliceSegmentHeader}
use Rattle.hevc_stateless.specs.Segments.{ReadUnit}
use Rattle.hevc_stateless_laws.specs.Segments.{given_of, latest_after, latest_from, read_units}
use Rattle.hevc_stateless_laws.specs.Segments.{read_units_from, read_units_of}
use Rattle.hevc_decoder.proofs.Comings.{given_over, reads_behind, reads_moved}
use Rattle.hevc_decoder.proofs.Doing.{does_all_as}
use Rattle.hevc_decoder.proofs.Running.{below, events_are}
use Rattle.hevc_decoder.proofs.Promises.{outputs_of}
use Rattle.hevc_decoder.proofs.Walking.{begins}

-- ---- parts of a stream

begins_more : (xs ys : List ℕ) → begins_with_start_code xs ≡ true → begins_with_start_code (xs ++ ys) ≡ true
begins_more [] ys e = absurd (cc e)
begins_more (a ∷ []) ys e = absurd (cc e)
begins_more (a ∷ b ∷ []) ys e = absurd (cc e)
begins_more (a ∷ b ∷ c ∷ xs) ys e = e

-- a stream may be cut before a start code, or of its first byte
abbrev pub MayBeCut : (front rest : List ℕ) → Type 0
MayBeCut front rest = (front ≡ []) ⊎ (begins_with_start_code rest ≡ true)

parted_at : (o : Options) (k : Kept) (xs ys : List ℕ) → begins_with_start_code ys ≡ true
    → meanings_behind o k (units_at kept_bytes 0 (xs ++ ys)) ≡ meanings_behind o k (units_at kept_bytes 0 xs
    ++ units_at kept_bytes 0 ys)
parted_at o k xs ys e =
    ap (meanings_behind o k) (units_joined 0 xs ys e)
    ∙ meant_behind o k (units_at kept_bytes 0 xs) (units_at kept_bytes (0 + length xs) ys)
    ∙ ap (λ ms. meanings_behind o k (units_at kept_bytes 0 xs) ++ ms)
    (units_moved o (0 + length xs) 0 ys (kept_behind_all o k (units_at kept_bytes 0 xs)))
    ∙ sym (meant_behind o k (units_at kept_bytes 0 xs) (units_at kept_bytes 0 ys))

parted : (o : Options) (k : Kept) (xs ys : List ℕ) → MayBeCut xs ys
    → meanings_behind o k (units (xs ++ ys)) ≡ meanings_behind o k (units xs ++ units ys)
unfolding units_from
parted o k xs ys (inl none) =
    subst (λ (front : List ℕ). meanings_behind o k (units_at kept_bytes 0 (front ++ ys))
    ≡ meanings_behind o k (units_at kept_bytes 0 front ++ units_at kept_bytes 0 ys)) (sym none) refl
parted o k xs ys (inr e) = parted_at o k xs ys e

-- what a window means after some units, cut once more
window_parted : (o : Options) (front : List NalUnit) (xs ys later : List ℕ) → MayBeCut xs ys
    → meant o (front ++ units ((xs ++ ys) ++ later)) ≡ meant o (front ++ (units xs ++ units (ys ++ later)))
window_parted o front xs ys later cut =
    meant_behind o none_kept front (units ((xs ++ ys) ++ later))
    ∙ ap (λ ms. meant o front ++ ms)
    (ap (λ (bytes : List ℕ). meanings_behind o (kept_behind_all o none_kept front) (units bytes))
    (append_assoc xs ys later) ∙ parted o (kept_behind_all o none_kept front) xs (ys ++ later) (cut_more cut))
    ∙ sym (meant_behind o none_kept front (units xs ++ units (ys ++ later)))
  where
    cut_more : MayBeCut xs ys → MayBeCut xs (ys ++ later)
    cut_more (inl none) = inl none
    cut_more (inr e) = inr (begins_more ys later e)

-- the same of what they hand over
reads_parted : (o : Options) (k : Kept) (l : Option PlainSliceSegmentHeader) (xs ys : List ℕ)
    → MayBeCut xs ys → read_units_from o k l (units (xs ++ ys)) ≡ read_units_from o k l (units xs ++ units ys)
unfolding units_from
reads_parted o k l xs ys (inl none) =
    subst (λ (front : List ℕ). read_units_from o k l (units_at kept_bytes 0 (front ++ ys))
    ≡ read_units_from o k l (units_at kept_bytes 0 front ++ units_at kept_bytes 0 ys)) (sym none) refl
reads_parted o k l xs ys (inr e) =
    let front = units_at kept_bytes 0 xs in
    ap (read_units_from o k l) (units_joined 0 xs ys e)
    ∙ reads_behind o k l front (units_at kept_bytes (0 + length xs) ys)
    ∙ ap (λ ss. read_units_from o k l front ++ ss)
    (reads_moved o (0 + length xs) 0 ys (kept_behind_all o k front) (latest_from o k l front))
    ∙ sym (reads_behind o k l front (units_at kept_bytes 0 ys))

cut_more : (xs ys later : List ℕ) → MayBeCut xs ys → MayBeCut xs (ys ++ later)
cut_more xs ys later (inl none) = inl none
cut_more xs ys later (inr e) = inr (begins_more ys later e)

window_reads : (o : Options) (front : List NalUnit) (xs ys later : List ℕ) → MayBeCut xs ys
    → read_units_of o (front ++ units ((xs ++ ys) ++ later)) ≡ read_units_of o
    (front ++ (units xs ++ units (ys ++ later)))
window_reads o front xs ys later cut =
    reads_behind o none_kept None front (units ((xs ++ ys) ++ later))
    ∙ ap (λ ss. read_units_of o front ++ ss)
    (ap (λ (bytes : List ℕ). read_units_from o (kept_behind_all o none_kept front) (latest_after o front)
    (units bytes)) (append_assoc xs ys later) ∙ reads_parted o (kept_behind_all o none_kept front)
    (latest_after o front) xs (ys ++ later) (cut_more xs ys later cut))
    ∙ sym (reads_behind o none_kept None front (units xs ++ units (ys ++ later)))

-- ---- runs

-- units that come after those that were taken
reached_over : {B H : Type 0} (o : Options) (front more : List NalUnit) (k : ℕ) (begin now : Scene B H)
    → Reached o front k begin now [] → Reached o (front ++ more) k begin now more
reached_over o front more k begin now x = record {
  front = x.front;
  whole = ap (λ us. us ++ more) (x.whole ∙ append-nil x.front);
  place = x.place;
  stands = x.stands;
  empty = x.empty;
  few = x.few;
  does = does_all_as (given_of (meant o front) (read_units_of o front))
      (given_of (meant o (front ++ more)) (read_units_of o (front ++ more))) (trail_of begin) (trail_of now)
      (walk_events (stream (meant o x.front)))
      (given_over o front more k (walk_events (stream (meant o x.front)))
      (ap (λ (us : List NalUnit). length us) (x.whole ∙ append-nil x.front) ∙ x.place)
      (below o front k begin now [] x)) x.does;
}

pub fed_first : {B H : Type 0} (o : Options) (now : Scene B H) (backend : B)
    → now.seen.view ≡ at_beginning backend → now.seen.kept ≡ none_kept → Fed o [] [] 0 now now
fed_first o now backend view kept = record {
  front = [];
  reached = begins o [] now backend view kept;
  cut = λ later. refl;
  cut_read = λ later. refl;
}

pub fed_more : {B H : Type 0} (o : Options) (given window got : List ℕ) (k : ℕ) (begin now : Scene B H)
    → Fed o given window k begin now → Fed o (given ++ got) (window ++ got) k begin now
fed_more o given window got k begin now x = record {
  front = x.front;
  reached = x.reached;
  cut = λ later. ap (meanings o) (append_assoc given got later) ∙ x.cut (got ++ later)
      ∙ ap (λ (bytes : List ℕ). meant o (x.front ++ units bytes)) (sym (append_assoc window got later));
  cut_read = λ later. ap (read_units o) (append_assoc given got later) ∙ x.cut_read (got ++ later)
      ∙ ap (λ (bytes : List ℕ). read_units_of o (x.front ++ units bytes)) (sym (append_assoc window got later));
}

module _ {B H : Type 0} (o : Options) (given xs ys : List ℕ) (first : ℕ) (begin old new : Scene B H)
    (cut : MayBeCut xs ys) (x : Fed o given (xs ++ ys) first begin old) where
  means : (later : List ℕ) → meanings o (given ++ later) ≡ meant o (x.front ++ (units xs ++ units (ys ++ later)))
  means later = x.cut later ∙ window_parted o x.front xs ys later cut

  hand : (later : List ℕ)
      → read_units o (given ++ later) ≡ read_units_of o (x.front ++ (units xs ++ units (ys ++ later)))
  hand later = x.cut_read later ∙ window_reads o x.front xs ys later cut

  taken : (next : ℕ) → TakesPiece (Ok next) o first (units xs) old new → Fed o given ys next begin new
  taken next takes = record {
    front = x.front ++ units xs;
    reached = takes begin (x.front ++ units xs) []
        (subst (λ us. Reached o (x.front ++ units xs) first begin old us) (sym (append-nil (units xs)))
        (reached_over o x.front (units xs) first begin old x.reached));
    cut = λ later. means later ∙ ap (meant o) (sym (append_assoc x.front (units xs) (units (ys ++ later))));
    cut_read = λ later. hand later ∙ ap (read_units_of o) (sym (append_assoc x.front (units xs) (units (ys ++ later))));
  }

  -- all units, of which these are the later ones
  abbrev all : List ℕ → List NalUnit
  all later = x.front ++ (units xs ++ units (ys ++ later))

  stopped : (refused : Refused) → TakesPiece (Err refused) o first (units xs) old new
      → Stopped o given refused begin new
  stopped refused takes = record {
    ended = λ later. subst
        (λ (ss : List ReadUnit). Ended (Err refused) (meanings o (given ++ later)) ss (trail_of begin)
        (trail_of new)) (sym (hand later))
        (subst (λ (us : List Meaning). Ended (Err refused) us (read_units_of o (all later)) (trail_of begin)
        (trail_of new)) (sym (means later)) (at later).0);
    within = λ later. subst (λ (n : ℕ). refused.unit ≤ n) (sym (length_meant o none_kept (all later))
        ∙ ap (λ (ms : List Meaning). length ms) (sym (means later))
        ∙ length_meant o none_kept (units (given ++ later))) (at later).1;
  }
    where
      at : (later : List ℕ)
          → Ended (Err refused) (meant o (all later)) (read_units_of o (all later)) (trail_of begin)
          (trail_of new) × (refused.unit ≤ length (all later))
      at later = takes begin (all later) (units (ys ++ later))
          (reached_over o x.front (units xs ++ units (ys ++ later)) first begin old x.reached)

  pub fed_on : (r : Result ℕ Refused) → TakesPiece r o first (units xs) old new → FedTo r o given ys begin new
  fed_on (Ok next) takes = taken next takes
  fed_on (Err refused) takes = stopped refused takes

may_be_cut : (seen n : ℕ) (bytes : List ℕ) → (n ≡ 0) ⊎ EndsBehind bytes seen n → MayBeCut (take n bytes) (drop n bytes)
may_be_cut seen n bytes (inl none) = inl (subst (λ (m : ℕ). take m bytes ≡ []) (sym none) refl)
may_be_cut seen n bytes (inr ends) = inr (begins_at bytes n ends.1)

-- the units of the first so many bytes of the window
pub window_fed : {B H : Type 0} (o : Options) (given window : List ℕ) (first seen n : ℕ)
    (begin old new : Scene B H) → IsLastStart window seen n → Fed o given window first begin old
    → (r : Result ℕ Refused) → TakesPiece r o first (units (take n window)) old new
    → FedTo r o given (drop n window) begin new
window_fed o given window first seen n begin old new last x =
    fed_on o given (take n window) (drop n window) first begin old new (may_be_cut seen n window last.0)
    (subst (λ (bytes : List ℕ). Fed o given bytes first begin old) (sym (take-append-drop n window)) x)

-- what is before the first start code is given up
module _ (o : Options) (window later : List ℕ) (one : NoneStands window 1 (length window)) where
  abbrev lead : ℕ
  lead = lead_length window

  abbrev kept_on : List ℕ
  kept_on = drop lead window ++ later

  units_behind : units (window ++ later) ≡ units_at kept_bytes lead kept_on
  unfolding units_from
  units_behind =
      units_from-skip kept_bytes (window ++ later) 0 lead (omega arith)
      (none_begins (window ++ later) 0 lead (lead_without window later one))
      ∙ ap (units_at kept_bytes lead) (drop-append-le lead window later (lead_within window))

  lead_means : (front : List NalUnit) → meant o (front ++ units (window ++ later)) ≡ meant o (front ++ units kept_on)
  unfolding units_from
  lead_means front =
      ap (λ us. meant o (front ++ us)) units_behind
      ∙ meant_behind o none_kept front (units_at kept_bytes lead kept_on)
      ∙ ap (λ ms. meant o front ++ ms) (units_moved o lead 0 kept_on (kept_behind_all o none_kept front))
      ∙ sym (meant_behind o none_kept front (units_at kept_bytes 0 kept_on))

  lead_reads : (front : List NalUnit)
      → read_units_of o (front ++ units (window ++ later)) ≡ read_units_of o (front ++ units kept_on)
  unfolding units_from
  lead_reads front =
      ap (λ us. read_units_of o (front ++ us)) units_behind
      ∙ reads_behind o none_kept None front (units_at kept_bytes lead kept_on)
      ∙ ap (λ ss. read_units_of o front ++ ss)
      (reads_moved o lead 0 kept_on (kept_behind_all o none_kept front) (latest_after o front))
      ∙ sym (reads_behind o none_kept None front (units_at kept_bytes 0 kept_on))

pub lead_fed : {B H : Type 0} (o : Options) (given window : List ℕ) (k : ℕ) (begin now : Scene B H)
    → NoneStands window 1 (length window) → Fed o given window k begin now
    → Fed o given (drop (lead_length window) window) k begin now
lead_fed o given window k begin now one x = record {
  front = x.front;
  reached = x.reached;
  cut = λ later. x.cut later ∙ lead_means o window later one x.front;
  cut_read = λ later. x.cut_read later ∙ lead_reads o window later one x.front;
}

-- the last units
pub fed_whole : {B H : Type 0} (o : Options) (given window : List ℕ) (first : ℕ) (begin old new : Scene B H)
    (r : Result ℕ Refused) → Fed o given window first begin old → EndsRun r o first (units window) old new
    → Ended r (meanings o given) (read_units o given) (trail_of begin) (trail_of new) × IfErr r
    (λ refused. refused.unit ≤ length (units given))
fed_whole {B} {H} o given window first begin old new r x ends =
    let all = x.front ++ units window in
    let y = ends begin all (reached_over o x.front (units window) first begin old x.reached) in
    let means : meanings o given ≡ meant o all = ap (meanings o) (sym (append-nil given)) ∙ x.cut []
    ∙ ap (λ (bytes : List ℕ). meant o (x.front ++ units bytes)) (append-nil window) in
    let size : length all ≡ length (units given) = sym (length_meant o none_kept all)
    ∙ ap (λ (ms : List Meaning). length ms) (sym means) ∙ length_meant o none_kept (units given) in
    let hand : read_units o given ≡ read_units_of o all = ap (read_units o) (sym (append-nil given))
    ∙ x.cut_read [] ∙ ap (λ (bytes : List ℕ). read_units_of o (x.front ++ units bytes)) (append-nil window) in (
      subst (λ (ss : List ReadUnit). Ended r (meanings o given) ss (trail_of begin) (trail_of new))
          (sym hand) (subst
          (λ (us : List Meaning). Ended r us (read_units_of o all) (trail_of begin) (trail_of new)) (sym means) y.0),
      subst (λ (n : ℕ). IfErr r (λ refused. refused.unit ≤ n)) size y.1,
    )

-- ---- what was output so far

reached_front : {B H : Type 0} (o : Options) (all later : List NalUnit) (k : ℕ) (begin now : Scene B H)
    → Reached o all k begin now later
    → Appended begin.shown now.shown (λ out. IsFront (map output_picture out) (outputs (meant o all)))
reached_front o all later k begin now x =
    let ms = meant o x.front in
    let back = meanings_behind o (kept_after o x.front) later in (
      x.does.out,
      x.does.shown,
      (
        outputs_in (events_from (standing_after ms) k back),
        ap outputs_in (events_are o all k begin now later x)
            ∙ outputs_in-append (walk_events (stream ms)) (events_from (standing_after ms) k back)
            ∙ ap (λ l. l ++ outputs_in (events_from (standing_after ms) k back)) (sym x.does.given),
      ),
    )

pub fed_front : {B H : Type 0} (o : Options) (given window : List ℕ) (k : ℕ) (begin now : Scene B H)
    (a b : Option (List ℕ)) → Fed o given window k begin now → Consumes a b given
    → ComeOutFirst o a begin.shown now.shown
fed_front o given window k begin now None b x gave = tt
fed_front o given window k begin now (Some s) None x gave = absurd gave
fed_front o given window k begin now (Some s) (Some later) x gave =
    subst (λ (us : List Meaning). Appended begin.shown now.shown
    (λ out. IsFront (map output_picture out) (outputs us))) (sym (ap (meanings o) gave ∙ x.cut later))
    (reached_front o (x.front ++ units (window ++ later)) (units (window ++ later)) k begin now
    (reached_over o x.front (units (window ++ later)) k begin now x.reached))

pub stopped_front : {B H : Type 0} (o : Options) (given : List ℕ) (refused : Refused)
    (begin now : Scene B H) (a b : Option (List ℕ)) → Stopped o given refused begin now → Consumes a b given
    → ComeOutFirst o a begin.shown now.shown
stopped_front o given refused begin now None b x gave = tt
stopped_front o given refused begin now (Some s) None x gave = absurd gave
stopped_front o given refused begin now (Some s) (Some later) x gave =
    subst (λ (bytes : List ℕ). Appended begin.shown now.shown
    (λ out. IsFront (map output_picture out) (outputs (meanings o bytes)))) (sym gave)
    (outputs_of (meanings o (given ++ later)) (read_units o (given ++ later)) (Err refused) (trail_of begin)
    (trail_of now) (x.ended later))

-- ---- at the end of the source

all_given : (s given rest : List ℕ) → s ≡ given ++ rest → rest ≡ [] → s ≡ given
all_given s given rest is none = is ∙ ap (λ (bytes : List ℕ). given ++ bytes) none ∙ append-nil given

pub at_end : (P : List ℕ → Type 0) (given : List ℕ) (a b : Option (List ℕ)) → Consumes a b given → IsAtEnd b
    → P given → IfSome a P
at_end P given None b gave end holds = tt
at_end P given (Some s) None gave end holds = absurd gave
at_end P given (Some s) (Some rest) gave end holds = subst P (sym (all_given s given rest gave end)) holds

-- the last units were taken
pub source_whole : {B H : Type 0} (o : Options) (limit : ℕ) (given window : List ℕ) (first : ℕ)
    (begin old new : Scene B H) (r : Result ℕ Refused) (a b : Option (List ℕ))
    → Fed o given window first begin old → EndsRun r o first (units window) old new
    → Consumes a b given → length given ≤ limit → Drained o limit a b r (trail_of begin) (trail_of new)
source_whole o limit given window first begin old new r a b x ends gave short =
    let whole = fed_whole o given window first begin old new r x ends in
    record { stream = given; gave = gave; short = short; ended = whole.0; within = whole.1 }

-- a unit was refused, and the rest was skipped
pub source_stopped : {B H : Type 0} (o : Options) (limit : ℕ) (given more : List ℕ) (refused : Refused)
    (begin now : Scene B H) (a b d : Option (List ℕ)) → Stopped o given refused begin now
    → Consumes a b given → Consumes b d more
    → length (given ++ more) ≤ limit → Drained o limit a d (Err refused) (trail_of begin) (trail_of now)
source_stopped o limit given more refused begin now a b d x gave rest short =
    record {
      stream = given ++ more;
      gave = Consumes-trans a b d given more gave rest;
      short = short;
      ended = x.ended more;
      within = x.within more;
    }
