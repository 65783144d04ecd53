-- The units of a stream are taken one by one, to the end or to a picture that breaks something.
use Rattle.std.proofs.Common.{◌≡◌, ℕ, ◌+◌, ⊎_elim, Bool, true, false, cond, List, [], ◌∷◌, ◌++◌}
use Rattle.std.proofs.Common.{length, refl, sym, ap, ◌∙◌, subst, arith, Option, Some, None, Result}
use Rattle.std.proofs.Common.{Ok, Err, if◌then◌else◌}
use Rattle.std.specs.Prelude.{is_some, IsErrOf}
use Rattle.std.specs.Result.{IsErrAnd}
use Rattle.hevc_spec.specs.Units.{NalUnit}
use Rattle.hevc_spec.specs.UnitHeader.{UnitHeader, HeaderFault, unit_header}
use Rattle.hevc_bits.specs.declared.header.UnitError.{UnitError}
use Rattle.hevc_bits.specs.ParsedHeader.{answer_of, parsed_header}
use Rattle.hevc_walk.specs.Meanings.{Format, Slice, Meaning, SequenceSet, CodedSlice, EndOfSequence}
use Rattle.hevc_walk.specs.Meanings.{EndOfBitstream, Other, Refused}
use Rattle.hevc_walk.specs.DependentSlices.{whole_slice}
use Rattle.hevc_walk.specs.Pictures.{Picture, Stream, head, context, order_count_in_range}
use Rattle.hevc_walk.specs.Pictures.{with_unit, new_picture, stream_from, stream, pictures}
use Rattle.hevc_walk.specs.Pictures.{nothing_yet}
use Rattle.hevc_walk.specs.Walk.{latest_head, store, is_full, full_store, earlier_of}
use Rattle.hevc_walk.specs.Refusals.{Cause, Refusal, PocOutOfRange, refusal, refusal_of_slice}
use Rattle.hevc_walk.specs.Refusals.{refusal_of_picture, refusal_of_later, first_refusal, stop_from}
use Rattle.hevc_walk.specs.Refusals.{stop, covered_stream}
use Rattle.hevc_walk.specs.Results.{verdict, full, full_or, stop_or, full_at_end}
use Rattle.hevc_walk_fates.proofs.Numbers.{stream-numbered, numbered-length, covered_all}
use Rattle.hevc_walk_agree.specs.Standings.{full_by}
use Rattle.hevc_walk_order.specs.Sequences.{begins, sequences, sequences_from}
use Rattle.hevc_check_laws.specs.Breaches.{all_breaches}
use Rattle.hevc_check_laws.specs.Checks as laws
use Rattle.hevc_check_laws.specs.Checks.{BrokenAt, first_breach, broken_at as broken_by}
use Rattle.hevc_check_laws.specs.Checks.{earlier_broken, lowest_broken, checked_with}
use Rattle.hevc_stream.specs.Options.{Options}
use Rattle.hevc_stream.specs.Kept.{Kept}
use Rattle.hevc_stream.specs.Contents.{header_cause, content}
use Rattle.hevc_stream.specs.Stream.{meaning, kept_behind, meanings_behind, meanings}
use Rattle.hevc_kept_sets.specs.Kept.{kept_of}
use Rattle.hevc_check.specs.declared.check.Check.{Check}
use Rattle.hevc_check.specs.declared.check.Checked.{Checked}
use Rattle.hevc_check.specs.Answers.{checked_of}
use Rattle.hevc_check.specs.Places.{place, first_slice, first_if, CannotBeginWith}
use Rattle.hevc_check.specs.declared.unlike.Unlike.{Unlike}
use Rattle.hevc_check.specs.declared.unlike.Unlike.TheVariants as unlike
use Rattle.hevc_check.specs.declared.table.Table.{Table}
use Rattle.hevc_check.specs.declared.table.Table.TheVariants.{Bounds, Order}
use Rattle.hevc_check.specs.Tables.{breaks_by, checked_by}
use Rattle.hevc_check.specs.Steps.{IsAt, Steps, TellsBroken, num_sequences, lowest}
use Rattle.hevc_check.proofs.Steps.{still, unit_begins}

-- A check is before these units of a stream, the first of which is the k-th.
pub record Reached (t : Table) (o : Options) (bytes : List ℕ) (us : List NalUnit) (k : ℕ) (c : Check) : Type 0 where
  pub v : Stream
  pub at : IsAt t v c
  pub rest : stream_from k v (meanings_behind o (kept_of c.walk.sets) us) ≡ stream (meanings o bytes)
  pub stops : (n : ℕ) → verdict (meanings o bytes) ≡ Ok n
      → stop_from k v (meanings_behind o (kept_of c.walk.sets) us) ≡ None

-- ---- a stream that is decoded whole

verdict_parts : (us : List Meaning) (n : ℕ) → verdict us ≡ Ok n → (full us ≡ None) × (stop us ≡ None)
verdict_parts us n is = by (full us) (stop us) is
  where
    by : (f : Option ℕ) (s : Option Refusal) → full_or f (stop_or s (Ok (length (pictures us)))) ≡ Ok n
        → (f ≡ None) × (s ≡ None)
    by (Some k) s e = absurd (cc e)
    by None (Some r) e = absurd (cc e)
    by None None e = (refl, refl)

earlier_none : (a b : Option ℕ) → earlier_of a b ≡ None → a ≡ None
earlier_none None b e = refl
earlier_none (Some k) b e = absurd (cc e)

full_none : (us : List Meaning) (n : ℕ) → verdict us ≡ Ok n → full_by (stream us) ≡ None
full_none us n is =
    let parts = verdict_parts us n is in
    sym (ap full_by (covered_all 0 nothing_yet us parts.1))
    ∙ earlier_none (full_by (covered_stream us)) (full_at_end (stop us) (length us) (covered_stream us)) parts.0

-- ---- at the beginning

pub starts : (t : Table) (o : Options) (bytes : List ℕ) (us : List NalUnit) (c : Check) (kept : Kept)
    → IsAt t nothing_yet c → kept_of c.walk.sets ≡ kept → meanings_behind o kept us ≡ meanings o bytes
    → Reached t o bytes us 0 c
starts t o bytes us c kept at same is =
    let all = ap (λ (k : Kept). meanings_behind o k us) same ∙ is in
    record {
      v = nothing_yet;
      at = at;
      rest = ap (stream_from 0 nothing_yet) all;
      stops = λ n h. ap (stop_from 0 nothing_yet) all ∙ (verdict_parts (meanings o bytes) n h).1;
    }

-- ---- one unit more

further_none : (k : ℕ) (r : Option Cause) (x : Option Refusal) → first_refusal k r x ≡ None → x ≡ None
further_none k None x e = e
further_none k (Some cause) x e = absurd (cc e)

pub reaches : (t : Table) (o : Options) (bytes : List ℕ) (u : NalUnit) (others : List NalUnit) (k : ℕ)
    (old new : Check) (r : Reached t o bytes (u ∷ others) k old)
    → IsAt t (with_unit k (meaning o (kept_of old.walk.sets) u.bytes) r.v) new
    → kept_of new.walk.sets ≡ kept_behind o (kept_of old.walk.sets) u.bytes → Reached t o bytes others (k + 1) new
reaches t o bytes u others k old new r at kept = record {
  v = with_unit k m r.v;
  at = at;
  rest = ap (λ (x : Kept). stream_from (k + 1) (with_unit k m r.v) (meanings_behind o x others)) kept ∙ r.rest;
  stops =
      λ n h. ap (λ (x : Kept). stop_from (k + 1) (with_unit k m r.v) (meanings_behind o x others)) kept
      ∙ further_none k (refusal r.v m) _ (r.stops n h);
}
  where
    m : Meaning
    m = meaning o (kept_of old.walk.sets) u.bytes

-- ---- what is found stays found

earlier_some : (a b : Option ℕ) → is_some a ≡ true → is_some (earlier_of a b) ≡ true
earlier_some None b e = absurd (cc e)
earlier_some (Some k) b e = refl

full_step : (k : ℕ) (u : Meaning) (v : Stream) → is_some (full_by v) ≡ true → is_some (full_by (with_unit k u v)) ≡ true
full_step k u v e = by (first_slice u (place v)) refl
  where
    by : (f : Option Slice) → first_slice u (place v) ≡ f → is_some (full_by (with_unit k u v)) ≡ true
    by None is = ap is_some (still k u v is).full ∙ e
    by (Some s) is =
        let b = unit_begins k u v s is in
        ap (λ (set : Option (ℕ × Format)). is_some (full_store set (with_unit k u v).pictures)) b.set
        ∙ ap (λ (ps : List Picture). is_some (full_store v.first_set ps)) b.pictures
        ∙ earlier_some (full_by v)
        (if is_full (latest_head v.pictures) (store v.first_set v.pictures) then Some k else None) e

stays_full : (k : ℕ) (v : Stream) (us : List Meaning) → is_some (full_by v) ≡ true
    → is_some (full_by (stream_from k v us)) ≡ true
stays_full k v [] e = e
stays_full k v (u ∷ us) e = stays_full (k + 1) (with_unit k u v) us (full_step k u v e)

broken_step : (t : Table) (k : ℕ) (u : Meaning) (v : Stream) (b : BrokenAt) → lowest t v ≡ Some b
    → lowest t (with_unit k u v) ≡ Some b
broken_step t k u v b e = by (first_slice u (place v)) refl
  where
    by : (f : Option Slice) → first_slice u (place v) ≡ f → lowest t (with_unit k u v) ≡ Some b
    by None is = (still k u v is).lowest_is t ∙ e
    by (Some s) is =
        let at = unit_begins k u v s is in
        let p = new_picture k s v.pictures in
        ap (λ (set : Option (ℕ × Format)). lowest_broken (breaks_by t set) (with_unit k u v).pictures) at.set
        ∙ ap (lowest_broken (breaks_by t v.first_set)) at.pictures
        ∙ ap (λ (o : Option BrokenAt). earlier_broken o
        (broken_by p (first_breach (breaks_by t v.first_set p v.pictures) all_breaches))) e

stays_broken : (t : Table) (k : ℕ) (v : Stream) (us : List Meaning) (b : BrokenAt) → lowest t v ≡ Some b
    → lowest t (stream_from k v us) ≡ Some b
stays_broken t k v [] b e = e
stays_broken t k v (u ∷ us) b e = stays_broken t (k + 1) (with_unit k u v) us b (broken_step t k u v b e)

checked_is : (t : Table) (us : List Meaning) → checked_by t us ≡ checked_with (lowest t (stream us)) us
checked_is Bounds us = refl
checked_is Order us = refl

-- a broken picture is the answer to the stream
pub breaks : (t : Table) (o : Options) (bytes : List ℕ) (u : NalUnit) (others : List NalUnit) (k : ℕ) (old : Check)
    (told : Checked) (r : Reached t o bytes (u ∷ others) k old)
    → TellsBroken t (with_unit k (meaning o (kept_of old.walk.sets) u.bytes) r.v) told
    → checked_of told ≡ checked_by t (meanings o bytes)
breaks t o bytes u others k old told r tells =
    let m = meaning o (kept_of old.walk.sets) u.bytes in
    let later = meanings_behind o (kept_behind o (kept_of old.walk.sets) u.bytes) others in
    let low = stays_broken t (k + 1) (with_unit k m r.v) later tells.broken tells.lowest_is in
    tells.told_is
    ∙ sym (checked_is t (meanings o bytes)
    ∙ ap (λ (x : Option BrokenAt). checked_with x (meanings o bytes)) (sym (ap (lowest t) r.rest) ∙ low))

-- ---- at the end

sequences_count : (later rest ps : List Picture) → length (sequences_from later rest ps) ≡ num_sequences ps
sequences_count later rest [] = refl
sequences_count later rest (p ∷ before) =
    by (begins p before) (sequences_count (later ++ (rest ++ p ∷ [])) [] before)
    (sequences_count later (rest ++ p ∷ []) before)
  where
    by : (b : Bool) → length (sequences_from (later ++ (rest ++ p ∷ [])) [] before) ≡ num_sequences before
        → length (sequences_from later (rest ++ p ∷ []) before) ≡ num_sequences before
        → length
        (cond b
        (record { later = later; rest = rest; first = p; before = before } ∷ sequences_from
        (later ++ (rest ++ p ∷ [])) [] before) (sequences_from later (rest ++ p ∷ []) before))
        ≡ cond b (num_sequences before + 1) (num_sequences before)
    by true more same = omega (arith, more)
    by false more same = same

pub ends : (t : Table) (o : Options) (bytes : List ℕ) (us : List NalUnit) (k : ℕ) (c : Check) → us ≡ []
    → Reached t o bytes us k c → laws.Yes c.sequences c.walk.pictures.next.number ≡ checked_by t (meanings o bytes)
ends t o bytes us k c none r =
    let ms = meanings o bytes in
    let same : r.v ≡ stream ms =
    sym (ap (λ (x : List NalUnit). stream_from k r.v (meanings_behind o (kept_of c.walk.sets) x)) none) ∙ r.rest in
    let count : c.sequences ≡ length (sequences ms) =
    r.at.sequences ∙ ap (λ (v : Stream). num_sequences v.pictures) same
    ∙ sym (sequences_count [] [] (pictures ms)) in
    let number : c.walk.pictures.next.number ≡ length (pictures ms) =
    ap (λ w. w.next.number) r.at.place ∙ ap (λ (v : Stream). (context v.pictures).number) same
    ∙ numbered-length (pictures ms) (stream-numbered 0 nothing_yet ms tt) in
    ap (λ (m : ℕ). laws.Yes m c.walk.pictures.next.number) count
    ∙ ap (laws.Yes (length (sequences ms))) number
    ∙ sym (checked_is t ms ∙ ap (λ (x : Option BrokenAt). checked_with x ms) (sym (ap (lowest t) same) ∙ r.at.unbroken))

-- ---- a unit that is refused

stop_some : (k : ℕ) (r : Option Cause) (x : Option Refusal) → is_some r ≡ true → first_refusal k r x ≡ None → ⊥
stop_some k None x some e = absurd (cc some)
stop_some k (Some cause) x some e = absurd (cc e)

range_refused : (s : Slice) (ws : Option Slice) (ps : List Picture) → first_if ws (latest_head ps) ≡ Some s
    → order_count_in_range (head (context ps) s) ≡ false → is_some (refusal_of_slice ps ws) ≡ true
range_refused s None ps is range = absurd (cc is)
range_refused s (Some t) [] is range =
    let same : t ≡ s = cc is in
    ap (λ (b : Bool). is_some (if b then None else Some PocOutOfRange))
    (ap (λ (x : Slice). order_count_in_range (head (context []) x)) same ∙ range)
range_refused s (Some t) (p ∷ before) is range = by t.first_slice_segment_in_pic_flag is
  where
    by : (b : Bool) → cond b (Some t) None ≡ Some s
        → is_some (cond b (refusal_of_picture (head (context (p ∷ before)) t)) (refusal_of_later p.head t)) ≡ true
    by true e =
        let same : t ≡ s = cc e in
        ap (λ (b : Bool). is_some (if b then None else Some PocOutOfRange))
        (ap (λ (x : Slice). order_count_in_range (head (context (p ∷ before)) x)) same ∙ range)
    by false e = absurd (cc e)

unit_refused : (u : Meaning) (v : Stream) (s : Slice) → first_slice u (place v) ≡ Some s
    → order_count_in_range (head (context v.pictures) s) ≡ false → is_some (refusal v u) ≡ true
unit_refused (SequenceSet format) v s is range = absurd (cc is)
unit_refused (CodedSlice x) v s is range = range_refused s (whole_slice v.kept x) v.pictures is range
unit_refused EndOfSequence v s is range = absurd (cc is)
unit_refused EndOfBitstream v s is range = absurd (cc is)
unit_refused Other v s is range = absurd (cc is)
unit_refused (Refused cause) v s is range = absurd (cc is)

later_full : (a : Option ℕ) (b : Bool) (k : ℕ) → b ≡ true → is_some (earlier_of a (if b then Some k else None)) ≡ true
later_full None b k e = ap (λ (x : Bool). is_some (if x then Some k else None)) e
later_full (Some j) b k e = refl

begins_full : (k : ℕ) (u : Meaning) (v : Stream) (s : Slice) → first_slice u (place v) ≡ Some s
    → is_full (latest_head v.pictures) (store v.first_set v.pictures) ≡ true
    → is_some (full_by (with_unit k u v)) ≡ true
begins_full k u v s is e =
    let b = unit_begins k u v s is in
    ap (λ (set : Option (ℕ × Format)). is_some (full_store set (with_unit k u v).pictures)) b.set
    ∙ ap (λ (ps : List Picture). is_some (full_store v.first_set ps)) b.pictures
    ∙ later_full (full_by v) (is_full (latest_head v.pictures) (store v.first_set v.pictures)) k e

-- a stream with a picture that can't begin isn't decoded whole
pub cannot : (t : Table) (o : Options) (bytes : List ℕ) (u : NalUnit) (others : List NalUnit) (k : ℕ) (old : Check)
    (r : Reached t o bytes (u ∷ others) k old)
    → CannotBeginWith (first_slice (meaning o (kept_of old.walk.sets) u.bytes) (place r.v)) (place r.v)
    → (n : ℕ) → verdict (meanings o bytes) ≡ Ok n → ⊥
cannot t o bytes u others k old r refused n whole = by (first_slice m (place r.v)) refl refused
  where
    m : Meaning
    m = meaning o (kept_of old.walk.sets) u.bytes

    later : List Meaning
    later = meanings_behind o (kept_behind o (kept_of old.walk.sets) u.bytes) others

    by : (f : Option Slice) → first_slice m (place r.v) ≡ f → CannotBeginWith f (place r.v) → ⊥
    by None is h = h
    by (Some s) is h =
        ⊎_elim (λ e. absurd
        (cc (sym (stays_full (k + 1) (with_unit k m r.v) later (begins_full k m r.v s is e))
        ∙ ap (λ (v : Stream). is_some (full_by v)) r.rest ∙ ap is_some (full_none (meanings o bytes) n whole))))
        (λ e. stop_some k (refusal r.v m) (stop_from (k + 1) (with_unit k m r.v) later) (unit_refused m r.v s is e)
        (r.stops n whole)) h

header_means : (o : Options) (kept : Kept) (bytes : List ℕ) (fault : HeaderFault) → unit_header bytes ≡ Err fault
    → meaning o kept bytes ≡ Refused (header_cause fault)
unfolding meaning content
header_means o kept bytes fault parsed = rw parsed refl

header_refused : (v : Stream) (o : Options) (kept : Kept) (bytes : List ℕ) (e : UnitError)
    (r : Result UnitHeader HeaderFault) → unit_header bytes ≡ r → answer_of r ≡ Err e
    → is_some (refusal v (meaning o kept bytes)) ≡ true
header_refused v o kept bytes e (Ok h) parsed is = absurd (cc is)
header_refused v o kept bytes e (Err fault) parsed is =
    ap (λ (m : Meaning). is_some (refusal v m)) (header_means o kept bytes fault parsed)

-- nor is one with a header that is refused
pub header_stops : (t : Table) (o : Options) (bytes : List ℕ) (us others : List NalUnit) (u : NalUnit) (k : ℕ)
    (c : Check) (e : UnitError) → us ≡ u ∷ others → parsed_header u.bytes ≡ Err e → Reached t o bytes us k c → (n : ℕ)
    → verdict (meanings o bytes) ≡ Ok n → ⊥
header_stops t o bytes us others u k c e is refused r n whole =
    let kept = kept_of c.walk.sets in
    let all = sym (ap (λ (x : List NalUnit). stop_from k r.v (meanings_behind o kept x)) is) ∙ r.stops n whole in
    stop_some k (refusal r.v (meaning o kept u.bytes))
    (stop_from (k + 1) (with_unit k (meaning o kept u.bytes) r.v)
    (meanings_behind o (kept_behind o kept u.bytes) others))
    (header_refused r.v o kept u.bytes e (unit_header u.bytes) refl refused) all

-- ---- the answers to a unit

reached_first : (t : Table) (o : Options) (bytes : List ℕ) (us others : List NalUnit) (u : NalUnit) (k : ℕ) (c : Check)
    → us ≡ u ∷ others → Reached t o bytes us k c → Reached t o bytes (u ∷ others) k c
reached_first t o bytes us others u k c is r = subst (λ (x : List NalUnit). Reached t o bytes x k c) is r

steps_refused : (t : Table) (e : Unlike) (k : ℕ) (u : Meaning) (v : Stream) (new : Check) → Steps t (Err e) k u v new
    → e ≡ unlike.Refused → CannotBeginWith (first_slice u (place v)) (place v)
steps_refused t unlike.Refused k u v new h is = h
steps_refused t unlike.NoMemory k u v new h is = absurd (cc is)

pub refused_at : (t : Table) (o p : Options) (bytes : List ℕ) (us others : List NalUnit) (u : NalUnit) (k : ℕ)
    (old new : Check) (e : Unlike) → us ≡ u ∷ others → p ≡ o → Reached t o bytes us k old
    → ((v : Stream) → IsAt t v old → Steps t (Err e) k (meaning p (kept_of old.walk.sets) u.bytes) v new)
    → e ≡ unlike.Refused → (n : ℕ) → verdict (meanings o bytes) ≡ Ok n → ⊥
refused_at t o p bytes us others u k old new e is same reached steps refused n whole =
    let r = reached_first t o bytes us others u k old is reached in
    cannot t o bytes u others k old r
    (steps_refused t e k (meaning o (kept_of old.walk.sets) u.bytes) r.v new
    (subst (λ (x : Options). Steps t (Err e) k (meaning x (kept_of old.walk.sets) u.bytes) r.v new) same
    (steps r.v r.at)) refused) n whole

pub broken_at : (t : Table) (o p : Options) (bytes : List ℕ) (us others : List NalUnit) (u : NalUnit) (k : ℕ)
    (old new : Check) (told : Option Checked) (broken : Checked) → us ≡ u ∷ others → p ≡ o → Reached t o bytes us k old
    → ((v : Stream) → IsAt t v old → Steps t (Ok told) k (meaning p (kept_of old.walk.sets) u.bytes) v new)
    → told ≡ Some broken → checked_of broken ≡ checked_by t (meanings o bytes)
broken_at t o p bytes us others u k old new told broken is same reached steps some =
    let r = reached_first t o bytes us others u k old is reached in
    breaks t o bytes u others k old broken r
    (subst (λ (x : Option Checked). Steps t (Ok x) k (meaning o (kept_of old.walk.sets) u.bytes) r.v new) some
    (subst (λ (x : Options). Steps t (Ok told) k (meaning x (kept_of old.walk.sets) u.bytes) r.v new) same
    (steps r.v r.at)))

pub next_at : (t : Table) (o p : Options) (bytes : List ℕ) (us others : List NalUnit) (u : NalUnit) (k : ℕ)
    (old new : Check) (told : Option Checked) → us ≡ u ∷ others → p ≡ o → Reached t o bytes us k old
    → ((v : Stream) → IsAt t v old → Steps t (Ok told) k (meaning p (kept_of old.walk.sets) u.bytes) v new)
    → told ≡ None → kept_of new.walk.sets ≡ kept_behind p (kept_of old.walk.sets) u.bytes
    → Reached t o bytes others (k + 1) new
next_at t o p bytes us others u k old new told is same reached steps none kept =
    let r = reached_first t o bytes us others u k old is reached in
    reaches t o bytes u others k old new r
    (subst (λ (x : Option Checked). Steps t (Ok x) k (meaning o (kept_of old.walk.sets) u.bytes) r.v new) none
    (subst (λ (x : Options). Steps t (Ok told) k (meaning x (kept_of old.walk.sets) u.bytes) r.v new) same
    (steps r.v r.at)))
    (kept ∙ ap (λ (x : Options). kept_behind x (kept_of old.walk.sets) u.bytes) same)

pub is_err_of : {T E : Type 0} (r : Result T E) (x e : E) → IsErrAnd r (λ y. y ≡ x) → IsErrOf r e → x ≡ e
is_err_of (Ok v) x e h g = absurd h
is_err_of (Err y) x e h g = let same : y ≡ e = cc g in sym h ∙ same
