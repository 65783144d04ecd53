-- What comes with the calls of a stream goes one to one with them.
use Rattle.std.proofs.Common.{◌≡◌, ℕ, ◌+◌, zero, suc, List, [], ◌∷◌, ◌++◌, length, map, take, refl}
use Rattle.std.proofs.Common.{sym, ◌∙◌, ap, ap₂, subst, append_assoc, zero-add, Option, Some, None}
use Rattle.std.proofs.Common.{Result, Ok, Err, Bool, true, false, if◌then◌else◌}
use Rattle.std.specs.Prelude.{is_some, option_map}
use Rattle.std.specs.List.{AllByRecursion, flat_map}
use Rattle.std.proofs.lemmas.List.{map-append, length-append}
use Rattle.hevc_spec.specs.Units.{NalUnit}
use Rattle.hevc_spec.specs.UnitHeader.{UnitHeader, HeaderFault, unit_header}
use Rattle.hevc_records.specs.SliceHeader.{PlainSliceSegmentHeader, completed_header}
use Rattle.hevc_tables.specs.SliceHeaderTable.{ActiveSets, active_sets}
use Rattle.hevc_walk.specs.Buffer.{Entry}
use Rattle.hevc_walk.specs.DependentSlices.{KeptHeader, whole_slice, with_kept}
use Rattle.hevc_walk.specs.Meanings.{Format, Slice, Meaning, SequenceSet, CodedSlice, EndOfSequence}
use Rattle.hevc_walk.specs.Meanings.{EndOfBitstream, Other, Refused}
use Rattle.hevc_walk.specs.Pictures.{Head, Stream, stream, with_unit, nothing_yet}
use Rattle.hevc_walk.specs.Refusals.{Cause, first_refusal, stop}
use Rattle.hevc_walk.specs.Results.{calls, calls_in, events}
use Rattle.hevc_walk.specs.Walk as walk
use Rattle.hevc_walk.specs.Walk.{Event, Called, Output, Store, at_unit, finish, output_of, store_picture}
use Rattle.hevc_walk_units.specs.Units.{Standing, unit_part, refusal_at, events_from, closing_part}
use Rattle.hevc_walk_units.specs.Units.{sequence_part, open_head}
use Rattle.hevc_walk_agree.proofs.Cuts.{events-cut}
use Rattle.hevc_walk_agree.proofs.Ends.{stop-last}
use Rattle.hevc_walk_agree.proofs.Joined.{refusal-same}
use Rattle.hevc_walk_agree.proofs.Moment.{moment, stream-last}
use Rattle.hevc_stream.specs.Contents.{Content, refused, video_set, sequence_set, picture_set}
use Rattle.hevc_stream.specs.Contents.{unread_picture_set, slice, end_of_sequence, end_of_bitstream}
use Rattle.hevc_stream.specs.Contents.{nothing, content, header_cause}
use Rattle.hevc_stream.specs.Kept.{Kept, none_kept}
use Rattle.hevc_stream.specs.Options.{Options}
use Rattle.hevc_stream.specs.Slices.{coded_slice, slice_segment_meaning}
use Rattle.hevc_stream.specs.Stream.{meaning, meaning_of, meanings_behind, kept_behind}
use Rattle.hevc_stateless.specs.Segments.{ReadUnit}
use Rattle.hevc_driver.specs.Given.{Given, HandingCall, handed_by, begun_with, decoded_with}
use Rattle.hevc_driver.specs.Given.{call_with, handing_call, sequence_with, set_of}
use Rattle.hevc_driver.specs.Headers.{shared_header, whole_header}
use Rattle.hevc_stateless.specs.Segments.{header_in, own_header, latest_at, read_at, set_with}
use Rattle.hevc_stateless.specs.Segments.{with_sets, segment_with, segment_at, segment_if}
use Rattle.hevc_stateless_laws.specs.Segments.{given_of, read_units_of, handed_over, latest_after}
use Rattle.hevc_stateless_laws.specs.Stands.{meant, kept_after, standing_after}
use Rattle.hevc_stateless_laws.proofs.Given.{latest_last}
use Rattle.hevc_stateless_laws.proofs.Keeping.{meant_last, kept_last, is_coded, none_coded, sequence_read}
use Rattle.hevc_decoder.proofs.Comings.{given_here}
use Rattle.hevc_backend.specs.Handed.{Segment}
use Rattle.hevc_records.specs.Sps.{PlainSps}

-- ---- a call and what comes with it

abbrev Fits : Given → walk.Call → Type 0
Fits g c = map call_with (handed_by g c) ≡ handing_call c

abbrev FitsEvent : Given → Event → Type 0
FitsEvent g (Called c) = Fits g c
FitsEvent g (Output number order_count) = Unit {0}

-- with its set a negotiation fits
sequence_fits : (g : Given) (set : PlainSps) → g.set ≡ Some set → (f : Format) → Fits g (walk.NewSequence f)
sequence_fits g set is f = ap (λ (x : Option PlainSps). map call_with (sequence_with x)) is

-- with a segment all calls fit
fits_segment : (g : Given) (s : Segment) → g.set ≡ Some s.sps → g.segment ≡ Some s → (e : Event) → FitsEvent g e
fits_segment g s set is (Called (walk.NewSequence info)) = sequence_fits g s.sps set info
fits_segment g s set is (Called (walk.NewPicture number nal_unit_type order_count output timestamp)) = refl
fits_segment g s set is (Called (walk.BeginPicture number refs)) =
    ap (λ (x : Option Segment). map call_with (begun_with number g.picture g.dpb x)) is
fits_segment g s set is (Called (walk.DecodeSlice number address bytes list0 list1)) =
    ap (λ (x : Option Segment). map call_with (decoded_with number g.dpb x)) is
fits_segment g s set is (Called (walk.SubmitPicture number)) = refl
fits_segment g s set is (Output number order_count) = tt

every : {X : Type 0} (P : X → Type 0) → ((x : X) → P x) → (xs : List X) → AllByRecursion P xs
every P holds [] = tt
every P holds (x ∷ xs) = (holds x, every P holds xs)

both : {X : Type 0} (P : X → Type 0) (xs ys : List X) → AllByRecursion P xs → AllByRecursion P ys
    → AllByRecursion P (xs ++ ys)
both P [] ys a b = b
both P (x ∷ xs) ys a b = (a.0, both P xs ys a.1 b)

taken : {X : Type 0} (P : X → Type 0) (n : ℕ) (xs : List X) → AllByRecursion P xs → AllByRecursion P (take n xs)
taken P zero xs a = tt
taken P (suc n) [] a = tt
taken P (suc n) (x ∷ xs) a = (a.0, taken P n xs a.1)

-- ---- calls that need no segment

outputs_fit : (g : Given) (es : List Entry) → AllByRecursion (FitsEvent g) (map output_of es)
outputs_fit g [] = tt
outputs_fit g (e ∷ es) = (tt, outputs_fit g es)

stored_fits : (g : Given) (q : Head) (s : Store) → AllByRecursion (FitsEvent g) (store_picture q s).events
unfolding store_picture
stored_fits g q s = (refl, outputs_fit g _)

finish_fits : (g : Given) (before : Option Head) (s : Store) → AllByRecursion (FitsEvent g) (finish before s).events
unfolding finish
finish_fits g None s = tt
finish_fits g (Some q) s = by q.skipped
  where
    by : (b : Bool) → AllByRecursion (FitsEvent g) (if b then walk.nothing s else store_picture q s).events
    by true = tt
    by false = stored_fits g q s

closing_fits : (g : Given) (s : Standing) → AllByRecursion (FitsEvent g) (closing_part s).events
closing_fits g s =
    both (FitsEvent g) (finish (open_head s.current) s.store).events _
    (finish_fits g (open_head s.current) s.store) (outputs_fit g _)

set_fits : (g : Given) (a : Option Format) (f : Format) (s : Standing) (set : PlainSps) → g.set ≡ Some set
    → AllByRecursion (FitsEvent g) (sequence_part a f s).events
set_fits g None f s set is = (sequence_fits g set is f, tt)
set_fits g (Some accepted) f s set is = tt

-- ---- the header of a slice segment

-- A slice segment was read, with its sets.
record IsRead (o : Options) (k : Kept) (bytes : List ℕ) (w : Slice) : Type 0 where
  own : PlainSliceSegmentHeader
  is : own_header o k bytes ≡ Some own
  same : own.dependent_slice_segment_flag ≡ w.dependent_slice_segment_flag
  sets : ActiveSets
  active : active_sets k.sequence_sets k.picture_sets own.pic_parameter_set_id ≡ Some sets

coded_content : (o : Options) (k : Kept) (bytes : List ℕ) (w : Slice) → meaning o k bytes ≡ CodedSlice w
    → meaning_of o k bytes (content o k bytes) ≡ CodedSlice w
unfolding meaning
coded_content o k bytes w m = m

refused_isnt : (o : Options) (k : Kept) (bytes : List ℕ) (w : Slice) → meaning o k bytes ≡ CodedSlice w
    → (fault : HeaderFault) → unit_header bytes ≡ Err fault → ⊥
unfolding meaning content
refused_isnt o k bytes w m fault e = let no : Path Meaning (Refused (header_cause fault)) (CodedSlice w) =
    rw e at m in absurd (cc no)

module _ (o : Options) (k : Kept) (bytes : List ℕ) (w : Slice) (m : meaning o k bytes ≡ CodedSlice w) where
  has_by : (b : Bool) → k.has_sequence_set ≡ b → (r : Result UnitHeader HeaderFault) → unit_header bytes ≡ r
      → k.has_sequence_set ≡ true
  has_by true e r parsed = e
  has_by false e (Ok h) parsed = let coded : is_coded (meaning o k bytes) ≡ true =
      ap is_coded m in absurd (cc (sym (none_coded o k bytes h parsed e) ∙ coded))
  has_by false e (Err fault) parsed = absurd (refused_isnt o k bytes w m fault parsed)

  has : k.has_sequence_set ≡ true
  has = has_by k.has_sequence_set refl (unit_header bytes) refl

  own_is : own_header o k bytes ≡ header_in (content o k bytes)
  own_is = ap (λ (b : Bool). header_in (content o (record k { has_sequence_set = b }) bytes)) (sym has)

  by_sets : (h : UnitHeader) (own : PlainSliceSegmentHeader) → content o k bytes ≡ slice h own
      → (s : Option ActiveSets) → active_sets k.sequence_sets k.picture_sets own.pic_parameter_set_id ≡ s
      → slice_segment_meaning o h bytes own s ≡ CodedSlice w → IsRead o k bytes w
  by_sets h own c (Some sets) active e =
      let coded : coded_slice o h bytes own sets ≡ w = cc e in
      record {
        own = own;
        is = own_is ∙ ap header_in c;
        same = ap (λ (s : Slice). s.dependent_slice_segment_flag) coded;
        sets = sets;
        active = active;
      }
  by_sets h own c None active e = absurd (cc e)

  by_content : (c : Content) → content o k bytes ≡ c → meaning_of o k bytes c ≡ CodedSlice w → IsRead o k bytes w
  by_content (slice h own) c e =
      by_sets h own c (active_sets k.sequence_sets k.picture_sets own.pic_parameter_set_id) refl e
  by_content (refused cause) c e = absurd (cc e)
  by_content (video_set set) c e = absurd (cc e)
  by_content (sequence_set set) c e = absurd (cc e)
  by_content (picture_set set) c e = absurd (cc e)
  by_content unread_picture_set c e = absurd (cc e)
  by_content end_of_sequence c e = absurd (cc e)
  by_content end_of_bitstream c e = absurd (cc e)
  by_content nothing c e = absurd (cc e)

  is_read : IsRead o k bytes w
  is_read = by_content (content o k bytes) refl (coded_content o k bytes w m)

-- where the slice is whole its header is
header_whole : (l : Option PlainSliceSegmentHeader) (own : PlainSliceSegmentHeader)
    (kept : Option KeptHeader) (w x : Slice)
    → own.dependent_slice_segment_flag ≡ w.dependent_slice_segment_flag → is_some l ≡ is_some kept
    → whole_slice kept w ≡ Some x
    → (h : PlainSliceSegmentHeader) × (whole_header l own ≡ Some h)
header_whole l own kept w x same some whole = by_flag own.dependent_slice_segment_flag refl
  where
    by_both : (p : Option PlainSliceSegmentHeader) (q : Option KeptHeader) → is_some p ≡ is_some q
        → with_kept q w ≡ Some x → (h : PlainSliceSegmentHeader) × (option_map (completed_header own) p ≡ Some h)
    by_both p None e is = absurd (cc is)
    by_both None (Some q) e is = absurd (cc e)
    by_both (Some p) (Some q) e is = (completed_header own p, refl)

    by_flag : (d : Bool) → own.dependent_slice_segment_flag ≡ d
        → (h : PlainSliceSegmentHeader) × (whole_header l own ≡ Some h)
    by_flag false e = (own, ap (λ (b : Bool). if b then option_map (completed_header own) l else Some own) e)
    by_flag true e =
        let h = by_both l kept some
        (sym (ap (λ (b : Bool). if b then with_kept kept w else Some w) (sym same ∙ e)) ∙ whole) in
        (h.0, ap (λ (b : Bool). if b then option_map (completed_header own) l else Some own) e ∙ h.1)

-- so a whole slice has a segment
segment_whole : (o : Options) (k : Kept) (l : Option PlainSliceSegmentHeader) (bytes : List ℕ)
    (kept : Option KeptHeader) (w x : Slice) → meaning o k bytes ≡ CodedSlice w → is_some l ≡ is_some kept
    → whole_slice kept w ≡ Some x → (s : Segment) × (segment_at o k l bytes ≡ Some s)
segment_whole o k l bytes kept w x m some whole =
    let r = is_read o k bytes w m in
    let h = header_whole l r.own kept w x r.same some whole in (
      record { sps = r.sets.sps; pps = r.sets.pps; header = h.0 },
      ap (segment_with k l) r.is
          ∙ ap (λ (s : Option ActiveSets). with_sets s (whole_header l r.own)) r.active
          ∙ ap (with_sets (Some r.sets)) h.1,
    )

-- the latest independent header is known to both after one more unit
known_after_unit : (o : Options) (k : Kept) (l : Option PlainSliceSegmentHeader) (bytes : List ℕ) (n : ℕ)
    (v : Stream) (y : Meaning) → meaning o k bytes ≡ y → is_some l ≡ is_some v.kept
    → is_some (latest_at y (own_header o k bytes) l) ≡ is_some (with_unit n y v).kept
known_after_unit o k l bytes n v (CodedSlice w) m some =
    let r = is_read o k bytes w m in
    ap (λ (own : Option PlainSliceSegmentHeader). is_some (latest_at (CodedSlice w) own l)) r.is
    ∙ ap (λ (b : Bool). is_some (if b then l else Some (shared_header r.own))) r.same
    ∙ by w.dependent_slice_segment_flag
  where
    by : (d : Bool)
        → is_some (if d then l else Some (shared_header (is_read o k bytes w m).own)) ≡ is_some
        (if d then v.kept else Some (record { pic_parameter_set_id = w.pic_parameter_set_id; header = w.header }))
    by true = some
    by false = refl
known_after_unit o k l bytes n v (SequenceSet f) m some = some
known_after_unit o k l bytes n v EndOfSequence m some = some
known_after_unit o k l bytes n v EndOfBitstream m some = some
known_after_unit o k l bytes n v Other m some = some
known_after_unit o k l bytes n v (Refused c) m some = some

-- ---- unit by unit

module _ (o : Options) (all : List NalUnit) where
  abbrev comes : ℕ → Given
  comes = given_of (meant o all) (read_units_of o all)

  abbrev FitsAt : ℕ × Event → Type 0
  FitsAt e = FitsEvent (comes e.0) e.1

  abbrev FitsCall : ℕ × walk.Call → Type 0
  FitsCall c = Fits (comes c.0) c.1

  -- the latest independent header is known to both after these units
  abbrev IsKnown : List NalUnit → Type 0
  IsKnown front = is_some (latest_after o front) ≡ is_some (stream (meant o front)).kept

  at_unit_fits : (k : ℕ) (es : List Event) → AllByRecursion (FitsEvent (comes k)) es
      → AllByRecursion FitsAt (at_unit k es)
  at_unit_fits k [] a = tt
  at_unit_fits k (e ∷ es) a = (a.0, at_unit_fits k es a.1)

  module _ (front : List NalUnit) (u : NalUnit) (later : List NalUnit) (whole : all ≡ front ++ u ∷ later)
      (known : IsKnown front) where
    abbrev y : Meaning
    y = meaning o (kept_after o front) u.bytes

    abbrev s : Standing
    s = standing_after (meant o front)

    abbrev g : Given
    g = comes (length front)

    set_is : (m : Meaning) → y ≡ m → g.set ≡ set_with m (read_at o (kept_after o front) (latest_after o front) u.bytes)
    set_is m is = ap (λ (x : Given). x.set) (sym (given_here o all front u later (length front) whole refl))
        ∙ ap (λ (x : Meaning). set_with x (read_at o (kept_after o front) (latest_after o front) u.bytes)) is

    segment_is : (w : Slice) → y ≡ CodedSlice w
        → g.segment ≡ segment_at o (kept_after o front) (latest_after o front) u.bytes
    segment_is w is =
        ap (λ (x : Given). x.segment) (sym (given_here o all front u later (length front) whole refl))
        ∙ ap (λ (m : Meaning). segment_if m (segment_at o (kept_after o front) (latest_after o front) u.bytes)) is

    coded_fits : (w : Slice) → y ≡ CodedSlice w → AllByRecursion (FitsEvent g) (unit_part (CodedSlice w) s).events
    coded_fits w is = by (whole_slice s.kept w) refl
      where
        by : (x : Option Slice) → whole_slice s.kept w ≡ x
            → AllByRecursion (FitsEvent g) (unit_part (CodedSlice w) s).events
        by None e = rw e tt
        by (Some x) e =
            let some = segment_whole o (kept_after o front) (latest_after o front) u.bytes s.kept w x is known e in
            every (FitsEvent g)
            (fits_segment g some.0 (set_is (CodedSlice w) is ∙ ap set_of some.1) (segment_is w is ∙ some.1)) _

    by_meaning : (m : Meaning) → y ≡ m → AllByRecursion (FitsEvent g) (unit_part m s).events
    by_meaning (SequenceSet f) is = let found = sequence_read o (kept_after o front) u.bytes f is in
        set_fits g s.store.accepted f s found.0 (set_is (SequenceSet f) is ∙ found.1)
    by_meaning (CodedSlice w) is = coded_fits w is
    by_meaning EndOfSequence is = tt
    by_meaning EndOfBitstream is = tt
    by_meaning Other is = tt
    by_meaning (Refused c) is = tt

    unit_fits : AllByRecursion (FitsEvent g) (unit_part y s).events
    unit_fits = by_meaning y refl

    abbrev ms : List Meaning
    ms = meant o front

    list : meant o (front ++ u ∷ []) ≡ ms ++ y ∷ []
    list = meant_last o none_kept front u

    known_next : IsKnown (front ++ u ∷ [])
    known_next =
        ap is_some (latest_last o none_kept None front u)
        ∙ known_after_unit o (kept_after o front) (latest_after o front) u.bytes (length ms) (stream ms) y refl known
        ∙ sym (ap (λ (v : Stream). is_some v.kept) (ap stream list ∙ stream-last 0 nothing_yet ms y
        ∙ ap (λ (n : ℕ). with_unit n y (stream ms)) (zero-add (length ms))))

    goes_on : stop ms ≡ None → refusal_at y s ≡ None → stop (meant o (front ++ u ∷ [])) ≡ None
    goes_on goes fine = ap stop list ∙ stop-last ms y goes
        ∙ ap (λ (c : Option Cause). first_refusal (length ms) c None) (sym (refusal-same (stream ms) y) ∙ fine)

    next_is : refusal_at y s ≡ None → (unit_part y s).next ≡ standing_after (meant o (front ++ u ∷ []))
    next_is fine = (moment ms y (sym (refusal-same (stream ms) y) ∙ fine)).next ∙ sym (ap standing_after list)

    -- what the later units ask for, after this one
    rest_fits : stop ms ≡ None
        → (stop (meant o (front ++ u ∷ [])) ≡ None
        → AllByRecursion FitsAt
        (events_from (standing_after (meant o (front ++ u ∷ []))) (length (front ++ u ∷ []))
        (meanings_behind o (kept_after o (front ++ u ∷ [])) later)))
        → AllByRecursion FitsAt (if is_some (refusal_at y s) then [] else events_from (unit_part y s).next
        (length front + 1) (meanings_behind o (kept_behind o (kept_after o front) u.bytes) later))
    rest_fits goes more = by (refusal_at y s) refl
      where
        by : (r : Option Cause) → refusal_at y s ≡ r
            → AllByRecursion FitsAt
            (if is_some r then [] else events_from (unit_part y s).next (length front + 1)
            (meanings_behind o (kept_behind o (kept_after o front) u.bytes) later))
        by (Some c) e = tt
        by None e =
            subst (λ (q : Standing). AllByRecursion FitsAt
            (events_from q (length front + 1)
            (meanings_behind o (kept_behind o (kept_after o front) u.bytes) later))) (sym (next_is e))
            (subst (λ (k : Kept). AllByRecursion FitsAt
            (events_from (standing_after (meant o (front ++ u ∷ []))) (length front + 1)
            (meanings_behind o k later))) (kept_last o none_kept front u)
            (subst (λ (n : ℕ). AllByRecursion FitsAt
            (events_from (standing_after (meant o (front ++ u ∷ []))) n
            (meanings_behind o (kept_after o (front ++ u ∷ [])) later))) (length-append front (u ∷ []))
            (more (goes_on goes e))))

  fits_from : (front us : List NalUnit) → all ≡ front ++ us → stop (meant o front) ≡ None → IsKnown front
      → AllByRecursion FitsAt
      (events_from (standing_after (meant o front)) (length front) (meanings_behind o (kept_after o front) us))
  fits_from front [] whole goes known =
      at_unit_fits (length front) _ (closing_fits (comes (length front)) (standing_after (meant o front)))
  fits_from front (u ∷ us) whole goes known =
      both FitsAt (at_unit (length front)
      (unit_part (meaning o (kept_after o front) u.bytes) (standing_after (meant o front))).events) _
      (at_unit_fits (length front) _ (unit_fits front u us whole known))
      (rest_fits front u us whole known goes
      (λ on. fits_from (front ++ u ∷ []) us (whole ∙ sym (append_assoc front (u ∷ []) us)) on
      (known_next front u us whole known)))

  calls_fit : (es : List (ℕ × Event)) → AllByRecursion FitsAt es → AllByRecursion FitsCall (calls_in es)
  calls_fit [] a = tt
  calls_fit ((k, Called c) ∷ es) a = (a.0, calls_fit es a.1)
  calls_fit ((k, Output number order_count) ∷ es) a = calls_fit es a.1

  all_fit : AllByRecursion FitsCall (calls (meant o all))
  all_fit = calls_fit (events (meant o all))
      (subst (AllByRecursion FitsAt) (sym (events-cut [] (meant o all) refl)) (fits_from [] all refl refl refl))

  paired : (cs : List (ℕ × walk.Call)) → AllByRecursion FitsCall cs
      → map call_with (handed_over (meant o all) (read_units_of o all) cs) ≡ flat_map (λ c. handing_call c.1) cs
  paired [] a = refl
  paired (c ∷ cs) a =
      map-append call_with (handed_by (comes c.0) c.1) (handed_over (meant o all) (read_units_of o all) cs)
      ∙ ap₂ (λ (x y : List HandingCall). x ++ y) a.0 (paired cs a.1)

  -- What came with the first calls goes one to one with them.
  pub one_to_one : (n : ℕ)
      → map call_with (handed_over (meant o all) (read_units_of o all) (take n (calls (meant o all))))
      ≡ flat_map (λ c. handing_call c.1) (take n (calls (meant o all)))
  one_to_one n = paired (take n (calls (meant o all))) (taken FitsCall n (calls (meant o all)) all_fit)
