-- The walk unit by unit is, after some units, where the walk over their pictures is.
use Rattle.std.proofs.Common.{◌≡◌, ℕ, ◌+◌, Bool, true, false, not, cond, ◌&&◌, ◌||◌, List, [], ◌∷◌}
use Rattle.std.proofs.Common.{◌++◌, length, refl, sym, ◌∙◌, ap, subst, append_assoc, append-nil}
use Rattle.std.proofs.Common.{arith, Option, Some, None, is_some, Result, Ok, Err, add-zero}
use Rattle.std.proofs.Common.{zero-add}
use Rattle.std.proofs.lemmas.List.{map-append}
use Rattle.hevc_walk.specs.Meanings.{Format, Slice, Meaning, CodedSlice, Refused, SequenceSet}
use Rattle.hevc_walk.specs.Meanings.{EndOfSequence, EndOfBitstream, Other, same_format}
use Rattle.hevc_walk.specs.DependentSlices.{KeptHeader, whole_slice, kept_header}
use Rattle.hevc_walk.specs.Pictures.{Head, Picture, Stream, Context, context, head}
use Rattle.hevc_walk.specs.Pictures.{order_count_in_range, new_picture, with_unit, with_slice}
use Rattle.hevc_walk.specs.Pictures.{with_whole, with_set, with_sequence_end, with_bitstream_end}
use Rattle.hevc_walk.specs.Pictures.{nothing_yet, stream_from, pictures}
use Rattle.hevc_walk.specs.ReferenceSets.{RefPicSet, reference_set}
use Rattle.hevc_walk.specs.Walk.{slice_call, Event, Called, Part, ◌>>=◌, nothing, call, Store}
use Rattle.hevc_walk.specs.Walk.{finish, store_picture, change_format, begin_picture, picture_part}
use Rattle.hevc_walk.specs.Walk.{store, latest_head, reference_set_of, picture_events, decode_slice}
use Rattle.hevc_walk.specs.Walk.{decode_slices, at_unit, is_decoded, is_full, accepted_size}
use Rattle.hevc_walk.specs.Walk.{earlier_of, closing, output_by}
use Rattle.hevc_walk.specs.Refusals.{Cause, UnitRefused, NoIndependentSlice, ChangedMidPicture}
use Rattle.hevc_walk.specs.Refusals.{PocOutOfRange, DpbFull, Refusal, refusal_of_picture}
use Rattle.hevc_walk.specs.Refusals.{refusal_of_later, refusal_of_whole, refusal_of_slice, refusal}
use Rattle.hevc_walk.specs.Refusals.{first_refusal, stop_from, stop, covered_at, covered_from}
use Rattle.hevc_walk.specs.Refusals.{covered_stream}
use Rattle.hevc_walk.specs.Results.{walk_events, ending, events, full_at_end, full_or, stop_or, verdict}
use Rattle.hevc_walk_fates.proofs.Accepted.{accepted_is}
use Rattle.hevc_walk_fates.proofs.Numbers.{Numbered, unit-numbered, numbered-length}
use Rattle.hevc_walk_units.specs.Units as units
use Rattle.hevc_walk_units.specs.Units.{Current, NoPicture, SkippedPicture, OpenPicture, Standing}
use Rattle.hevc_walk_units.specs.Units.{unit_part, refusal_at, is_full_at, open_head, current_of}
use Rattle.hevc_walk_units.specs.Units.{tid0_behind, first_slice, later_slice, slice_part}
use Rattle.hevc_walk_units.specs.Units.{decode_current, begins_picture, events_from, verdict_from}
use Rattle.hevc_walk_units.specs.Units.{refused_at, full_or_cause}
use Rattle.hevc_walk_agree.specs.Standings.{next_context, current_by, standing, full_by, Takes}
use Rattle.std.specs.Prelude.{nat_le}
use Rattle.hevc_walk.specs.Buffer.{draining}

-- a unit that is refused at once does nothing
pub record Idles (part : Part Standing) (fills : Bool) : Type 0 where
  pub events : part.events ≡ []
  pub full : fills ≡ false

abbrev pub Outcome : ℕ → Stream → Part Standing → Bool → Stream → Option Cause → Type 0
Outcome k v part fills w None = Takes k v part fills w
Outcome k v part fills w (Some PocOutOfRange) = Takes k v part fills w
Outcome k v part fills w (Some cause) = Idles part fills

pub at-append : (k : ℕ) (xs ys : List Event) → at_unit k (xs ++ ys) ≡ at_unit k xs ++ at_unit k ys
at-append k xs ys = map-append (λ e. (k, e)) xs ys

-- the current picture tells what the latest one tells
finish-open : (q : Head) (set : RefPicSet) (s : Store) → finish (open_head (current_of q set)) s ≡ finish (Some q) s
unfolding finish
finish-open q set s = by_test q.skipped refl
  where
    by_test : (b : Bool) → q.skipped ≡ b
        → finish (open_head (cond b SkippedPicture (OpenPicture q set))) s ≡ finish (Some q) s
    by_test true is = sym (ap (λ (c : Bool). cond c (nothing s) (store_picture q s)) is)
    by_test false is = refl

full-open : (q : Head) (set : RefPicSet) (s : Store) → is_full (open_head (current_of q set)) s ≡ is_full (Some q) s
full-open q set s = by_test q.skipped refl
  where
    by_test : (b : Bool) → q.skipped ≡ b
        → is_full (open_head (cond b SkippedPicture (OpenPicture q set))) s ≡ is_full (Some q) s
    by_test true is = sym (ap (λ (c : Bool). not c && nat_le (accepted_size s.accepted) (length s.buffer)) is)
    by_test false is = refl

tid0-open : (q : Head) (set : RefPicSet) (c : Option _)
    → tid0_behind (open_head (current_of q set)) c ≡ tid0_behind (Some q) c
tid0-open q set c = by_test q.skipped refl
  where
    by_test : (b : Bool) → q.skipped ≡ b
        → tid0_behind (open_head (cond b SkippedPicture (OpenPicture q set))) c ≡ tid0_behind (Some q) c
    by_test true is = sym (ap (λ (x : Bool). cond (not x && q.valid_for_prev_tid0) (Some q.order_count) c) is)
    by_test false is = refl

pub finish-latest : (set : Option (ℕ × Format)) (ps : List Picture) (s : Store)
    → finish (open_head (current_by set ps)) s ≡ finish (latest_head ps) s
finish-latest set [] s = refl
finish-latest set (p ∷ before) s = finish-open p.head (reference_set_of set p before) s

full-latest : (set : Option (ℕ × Format)) (ps : List Picture) (s : Store)
    → is_full (open_head (current_by set ps)) s ≡ is_full (latest_head ps) s
full-latest set [] s = refl
full-latest set (p ∷ before) s = full-open p.head (reference_set_of set p before) s

finished_context : (set : Option (ℕ × Format)) (ps : List Picture)
    → record (next_context ps) {
      prev_tid0_count = tid0_behind (open_head (current_by set ps))
          (next_context ps).prev_tid0_count;
    } ≡ context ps
finished_context set [] = refl
finished_context set (p ∷ before) =
    ap (λ (c : Option _). record (context (p ∷ before)) { prev_tid0_count = c })
    (tid0-open p.head (reference_set_of set p before) (context before).prev_tid0_count)

pub begins-current : (q : Head) (set : RefPicSet) (slice : Slice)
    → begins_picture (current_of q set) slice ≡ slice.first_slice_segment_in_pic_flag
begins-current q set slice = by_test q.skipped
  where
    by_test : (b : Bool)
        → begins_picture (cond b SkippedPicture (OpenPicture q set)) slice ≡ slice.first_slice_segment_in_pic_flag
    by_test true = refl
    by_test false = refl

-- a slice of the current picture is decoded as the latest picture asks
pub decode-next : (c : Current) (slice : Slice) (s : Standing) → (decode_current c slice s).next ≡ s
decode-next NoPicture slice s = refl
decode-next SkippedPicture slice s = refl
decode-next (OpenPicture p set) slice s = by_test (is_decoded p)
  where
    by_test : (b : Bool) → (cond b (call (slice_call p set slice) s) (nothing s)).next ≡ s
    by_test true = refl
    by_test false = refl

decode-events : (k : ℕ) (p : Head) (set : RefPicSet) (slice : Slice) (s : Standing)
    → at_unit k (decode_current (current_of p set) slice s).events ≡ decode_slices p set ((k, slice) ∷ [])
decode-events k p set slice s = by_skipped p.skipped refl
  where
    wanted : Bool → List (ℕ × Event)
    wanted b = cond b ((k, Called (slice_call p set slice)) ∷ []) [] ++ []

    none : (b : Bool) → wanted (b && false) ≡ []
    none true = refl
    none false = refl

    by_decoded : (b : Bool)
        → at_unit k (cond b (call (slice_call p set slice) s) (nothing s)).events ≡ cond b
        ((k, Called (slice_call p set slice)) ∷ []) [] ++ []
    by_decoded true = refl
    by_decoded false = refl

    by_skipped : (b : Bool) → p.skipped ≡ b
        → at_unit k (decode_current (cond b SkippedPicture (OpenPicture p set)) slice s).events
        ≡ decode_slices p set ((k, slice) ∷ [])
    by_skipped true is =
        sym (ap (λ (c : Bool). wanted (order_count_in_range p && not c)) is ∙ none (order_count_in_range p))
    by_skipped false is = by_decoded (is_decoded p)

decode-slices-append : (p : Head) (set : RefPicSet) (xs ys : List (ℕ × Slice))
    → decode_slices p set (xs ++ ys) ≡ decode_slices p set xs ++ decode_slices p set ys
decode-slices-append p set [] ys = refl
decode-slices-append p set (x ∷ xs) ys =
    ap (λ l. decode_slice p set x ++ l) (decode-slices-append p set xs ys)
    ∙ sym (append_assoc (decode_slice p set x) (decode_slices p set xs) (decode_slices p set ys))

or-none : (f : Option ℕ) → f ≡ earlier_of f None
or-none None = refl
or-none (Some k) = refl

join_parts : (k : ℕ) (finished changed begun decoded : List Event) (slices : List (ℕ × Event))
    → at_unit k decoded ≡ slices
    → at_unit k (finished ++ (changed ++ begun ++ decoded)) ≡ at_unit k (finished ++ changed ++ begun) ++ slices
join_parts k finished changed begun decoded slices is =
    ap (at_unit k) (sym (append_assoc finished (changed ++ begun) decoded)
    ∙ ap (λ l. l ++ decoded) (sym (append_assoc finished changed begun)))
    ∙ at-append k (finished ++ changed ++ begun) decoded
    ∙ ap (λ l. at_unit k (finished ++ changed ++ begun) ++ l) is

abbrev stream_of : Option (ℕ × Format) → Option KeptHeader → List Picture → Stream
stream_of set kept ps = record { first_set = set; kept = kept; pictures = ps }

abbrev over : Store → Current → Option KeptHeader → Context → Standing
over store current kept c = record { store = store; current = current; kept = kept; next = c }

-- where the picture before is over
abbrev finished : Part Store → Option KeptHeader → Context → Part Standing
finished f kept c = record { events = f.events; next = over f.next NoPicture kept c }

-- a slice that begins a picture, over plain variables
begin-takes : (k : ℕ) (set : Option (ℕ × Format)) (old kept : Option KeptHeader) (ps : List Picture)
    (slice : Slice) (p : Head)
    → Takes k (stream_of set old ps)
    (finished (finish (latest_head ps) (store set ps)) kept (context ps) >>= units.begin_by p slice)
    (is_full (latest_head ps) (store set ps))
    (stream_of set kept (record {
      head = p;
      first = slice;
      unit = k;
      slices = (k, slice) ∷ [];
      sequence_ends = false;
      bitstream_ends = false;
    } ∷ ps))
begin-takes k set old kept ps slice p =
    let done = finish (latest_head ps) (store set ps) in
    let changed = change_format p.format done.next in
    let begun = begin_picture p slice changed.next in
    let references = reference_set p slice changed.next.buffer in
    let all = picture_part (latest_head ps) p slice (store set ps) in
    let now = over begun.next (current_of p references) kept (units.context_behind p (context ps)) in
    let slices = decode_slices p references ((k, slice) ∷ []) in
    record {
      events =
          append_assoc (picture_events set ps) (at_unit k all.events) slices
          ∙ ap (λ l. picture_events set ps ++ l)
          (sym (join_parts k done.events changed.events begun.events
          (decode_current (current_of p references) slice now).events slices (decode-events k p references slice now)));
      next = decode-next (current_of p references) slice now;
      full = refl;
    }

-- a slice that begins a picture
first-takes : (k : ℕ) (set : Option (ℕ × Format)) (old kept : Option KeptHeader) (ps : List Picture) (slice : Slice)
    → Takes k (stream_of set old ps)
    (first_slice slice (over (store set ps) (current_by set ps) kept (next_context ps)))
    (is_full (open_head (current_by set ps)) (store set ps)) (stream_of set kept (new_picture k slice ps ∷ ps))
first-takes k set old kept ps slice =
    by_finished _ (finish-latest set ps (store set ps)) _ (finished_context set ps) _
    (full-latest set ps (store set ps))
  where
    Goal : Part Store → Context → Bool → Type 0
    Goal f c fills = Takes k (stream_of set old ps) (finished f kept c >>= units.begin_slice slice) fills
        (stream_of set kept (new_picture k slice ps ∷ ps))

    by_finished : (f : Part Store) → f ≡ finish (latest_head ps) (store set ps) → (c : Context)
        → c ≡ context ps → (fills : Bool) → fills ≡ is_full (latest_head ps) (store set ps) → Goal f c fills
    by_finished f f_is c c_is fills fills_is =
        subst (λ (x : Part Store). Goal x c fills) (sym f_is)
        (subst (λ (x : Context). Goal (finish (latest_head ps) (store set ps)) x fills) (sym c_is)
        (subst (λ (x : Bool). Goal (finish (latest_head ps) (store set ps)) (context ps) x) (sym fills_is)
        (begin-takes k set old kept ps slice (head (context ps) slice))))

abbrev joined : ℕ → Slice → Picture → Picture
joined k slice p = record p { slices = p.slices ++ (k, slice) ∷ [] }

-- a later slice
later-takes : (k : ℕ) (set : Option (ℕ × Format)) (old kept : Option KeptHeader) (p : Picture)
    (before : List Picture) (slice : Slice)
    → Takes k (stream_of set old (p ∷ before))
    (units.decode_slice slice
    (over (store set (p ∷ before)) (current_by set (p ∷ before)) kept (next_context (p ∷ before)))) false
    (stream_of set kept (joined k slice p ∷ before))
later-takes k set old kept p before slice =
    let references = reference_set_of set p before in
    let now = over (store set (p ∷ before)) (current_by set (p ∷ before)) kept (next_context (p ∷ before)) in
    let front = picture_events set before
    ++ at_unit p.unit (picture_part (latest_head before) p.head p.first (store set before)).events in
    record {
      events =
          ap (λ l. front ++ l) (decode-slices-append p.head references p.slices ((k, slice) ∷ []))
          ∙ sym (append_assoc front (decode_slices p.head references p.slices)
          (decode_slices p.head references ((k, slice) ∷ [])))
          ∙ ap (λ l. (front ++ decode_slices p.head references p.slices) ++ l)
          (sym (decode-events k p.head references slice now));
      next = decode-next (current_by set (p ∷ before)) slice now;
      full = or-none _;
    }

-- both forms refuse the same later slices
later_refusal-same : (p : Head) (set : RefPicSet) (slice : Slice)
    → units.refusal_of_later (current_of p set) slice (Some p.format) ≡ refusal_of_later p slice
later_refusal-same p set slice = by_skipped p.skipped refl
  where
    by_skipped : (b : Bool) → p.skipped ≡ b
        → units.refusal_of_later (cond b SkippedPicture (OpenPicture p set)) slice (Some p.format)
        ≡ refusal_of_later p slice
    by_skipped true is =
        sym (ap (λ (c : Bool). cond (c || same_format p.format slice.format) None
        (Some (ChangedMidPicture p.format slice.format))) is)
    by_skipped false is =
        sym (ap (λ (c : Bool). cond (c || same_format p.format slice.format) None
        (Some (ChangedMidPicture p.format slice.format))) is)

later-same : (set : Option (ℕ × Format)) (p : Picture) (before : List Picture) (slice : Slice)
    → units.refusal_of_later (current_by set (p ∷ before)) slice (store set (p ∷ before)).accepted
    ≡ refusal_of_later p.head slice
later-same set p before slice =
    ap (units.refusal_of_later (current_by set (p ∷ before)) slice) (accepted_is set p before)
    ∙ later_refusal-same p.head (reference_set_of set p before) slice

later-outcome : (k : ℕ) (set : Option (ℕ × Format)) (old kept : Option KeptHeader) (p : Picture)
    (before : List Picture) (slice : Slice)
    → Outcome k (stream_of set old (p ∷ before))
    (later_slice slice
    (over (store set (p ∷ before)) (current_by set (p ∷ before)) kept (next_context (p ∷ before)))) false
    (stream_of set kept (joined k slice p ∷ before)) (refusal_of_later p.head slice)
later-outcome k set old kept p before slice = by_refusal _ (later-same set p before slice)
  where
    now : Standing
    now = over (store set (p ∷ before)) (current_by set (p ∷ before)) kept (next_context (p ∷ before))

    Goal : Option Cause → Option Cause → Type 0
    Goal r cause =
        Outcome k (stream_of set old (p ∷ before))
        (cond (is_some r) (nothing now) (units.decode_slice slice now)) false
        (stream_of set kept (joined k slice p ∷ before)) cause

    by_test : (b : Bool) (named : Format)
        → Goal (cond b None (Some (ChangedMidPicture named slice.format)))
        (cond b None (Some (ChangedMidPicture named slice.format)))
    by_test true named = later-takes k set old kept p before slice
    by_test false named = record { events = refl; full = refl }

    by_refusal : (r : Option Cause) → r ≡ refusal_of_later p.head slice → Goal r (refusal_of_later p.head slice)
    by_refusal r is = subst (λ (x : Option Cause). Goal x (refusal_of_later p.head slice)) (sym is)
        (by_test (p.skipped || same_format p.format slice.format) p.format)

-- one that begins a picture is walked over whether its count is in range or not
counted-outcome : (k : ℕ) (v w : Stream) (part : Part Standing) (fills : Bool) (p : Head)
    → Takes k v part fills w → Outcome k v part fills w (refusal_of_picture p)
counted-outcome k v w part fills p takes = by_test (order_count_in_range p)
  where
    by_test : (b : Bool) → Outcome k v part fills w (cond b None (Some PocOutOfRange))
    by_test true = takes
    by_test false = takes

slice-outcome : (k : ℕ) (set : Option (ℕ × Format)) (old kept : Option KeptHeader) (ps : List Picture) (slice : Slice)
    → Outcome k (stream_of set old ps)
    (slice_part slice (over (store set ps) (current_by set ps) kept (next_context ps)))
    (begins_picture (current_by set ps) slice && is_full (open_head (current_by set ps)) (store set ps))
    (stream_of set kept (with_slice k slice ps)) (refusal_of_whole ps slice)
slice-outcome k set old kept [] slice = counted-outcome k _ _ _ _ _ (first-takes k set old kept [] slice)
slice-outcome k set old kept (p ∷ before) slice =
    by_begins _ (begins-current p.head (reference_set_of set p before) slice)
  where
    v : Stream
    v = stream_of set old (p ∷ before)

    now : Standing
    now = over (store set (p ∷ before)) (current_by set (p ∷ before)) kept (next_context (p ∷ before))

    Goal : Bool → Bool → Type 0
    Goal a b = Outcome k v (cond a (first_slice slice now) (later_slice slice now))
        (a && is_full (open_head now.current) now.store)
        (stream_of set kept
        (cond b (new_picture k slice (p ∷ before) ∷ p ∷ before) (joined k slice p ∷ before)))
        (cond b (refusal_of_picture (head (context (p ∷ before)) slice)) (refusal_of_later p.head slice))

    by_test : (b : Bool) → Goal b b
    by_test true = counted-outcome k _ _ _ _ _ (first-takes k set old kept (p ∷ before) slice)
    by_test false = later-outcome k set old kept p before slice

    by_begins : (a : Bool) → a ≡ slice.first_slice_segment_in_pic_flag → Goal a slice.first_slice_segment_in_pic_flag
    by_begins a is = subst (λ (x : Bool). Goal x slice.first_slice_segment_in_pic_flag) (sym is)
        (by_test slice.first_slice_segment_in_pic_flag)

idle-takes : (k : ℕ) (v : Stream) → Takes k v (nothing (standing v)) false v
idle-takes k v = record { events = sym (append-nil (walk_events v)); next = refl; full = or-none _ }

-- a slice with its whole header, or one that lacks it
whole-outcome : (k : ℕ) (v : Stream) (kept : Option KeptHeader) (s : Option Slice)
    → Outcome k v (units.whole_part s (record (standing v) { kept = kept })) (units.fills_by s (standing v))
    (record v { kept = kept; pictures = with_whole k s v.pictures }) (refusal_of_slice v.pictures s)
whole-outcome k v kept None = record { events = refl; full = refl }
whole-outcome k v kept (Some slice) = slice-outcome k v.first_set v.kept kept v.pictures slice

-- a sequence set after which pictures have begun
told-takes : (k : ℕ) (set : Option (ℕ × Format)) (kept : Option KeptHeader) (p : Picture)
    (before : List Picture) (format : Format)
    → Takes k (stream_of set kept (p ∷ before))
    (units.sequence_part (store set (p ∷ before)).accepted format
    (standing (stream_of set kept (p ∷ before)))) false (stream_of set kept (p ∷ before))
told-takes k set kept p before format =
    subst (λ (a : Option Format). Takes k v (units.sequence_part a format (standing v)) false v)
    (sym (accepted_is set p before)) (idle-takes k v)
  where
    v : Stream
    v = stream_of set kept (p ∷ before)

set-takes : (k : ℕ) (set : Option (ℕ × Format)) (kept : Option KeptHeader) (ps : List Picture) (format : Format)
    → Takes k (stream_of set kept ps)
    (units.sequence_part (store set ps).accepted format (standing (stream_of set kept ps))) false
    (stream_of (with_set k format set ps) kept ps)
set-takes k None kept [] format = record { events = refl; next = refl; full = refl }
set-takes k (Some set) kept [] format = idle-takes k (stream_of (Some set) kept [])
set-takes k None kept (p ∷ before) format = told-takes k None kept p before format
set-takes k (Some set) kept (p ∷ before) format = told-takes k (Some set) kept p before format

sequence_end-takes : (k : ℕ) (set : Option (ℕ × Format)) (kept : Option KeptHeader) (ps : List Picture)
    → Takes k (stream_of set kept ps) (unit_part EndOfSequence (standing (stream_of set kept ps))) false
    (stream_of set kept (with_sequence_end ps))
sequence_end-takes k set kept [] = idle-takes k (stream_of set kept [])
sequence_end-takes k set kept (p ∷ before) = record {
  events = sym (append-nil (picture_events set (p ∷ before)));
  next = refl;
  full = or-none _;
}

bitstream_end-takes : (k : ℕ) (set : Option (ℕ × Format)) (kept : Option KeptHeader) (ps : List Picture)
    → Takes k (stream_of set kept ps) (unit_part EndOfBitstream (standing (stream_of set kept ps))) false
    (stream_of set kept (with_bitstream_end ps))
bitstream_end-takes k set kept [] = idle-takes k (stream_of set kept [])
bitstream_end-takes k set kept (p ∷ before) = record {
  events = sym (append-nil (picture_events set (p ∷ before)));
  next = refl;
  full = or-none _;
}

pub outcome : (k : ℕ) (v : Stream) (u : Meaning)
    → Outcome k v (unit_part u (standing v)) (is_full_at u (standing v)) (with_unit k u v) (refusal v u)
outcome k v (SequenceSet format) = set-takes k v.first_set v.kept v.pictures format
outcome k v (CodedSlice slice) = whole-outcome k v (kept_header v.kept slice) (whole_slice v.kept slice)
outcome k v EndOfSequence = sequence_end-takes k v.first_set v.kept v.pictures
outcome k v EndOfBitstream = bitstream_end-takes k v.first_set v.kept v.pictures
outcome k v Other = idle-takes k v
outcome k v (Refused cause) = record { events = refl; full = refl }

-- both forms refuse the same
slice_refusal-same : (set : Option (ℕ × Format)) (kept : Option KeptHeader) (ps : List Picture)
    (slice : Slice) → units.refusal_of_slice slice (standing (stream_of set kept ps)) ≡ refusal_of_whole ps slice
slice_refusal-same set kept [] slice = refl
slice_refusal-same set kept (p ∷ before) slice =
    ap (λ (a : Bool). cond a (units.refusal_of_first slice now)
    (units.refusal_of_later now.current slice now.store.accepted))
    (begins-current p.head (reference_set_of set p before) slice)
    ∙ ap (λ (c : Context). cond slice.first_slice_segment_in_pic_flag (refusal_of_picture (head c slice))
    (units.refusal_of_later now.current slice now.store.accepted)) (finished_context set (p ∷ before))
    ∙ ap (λ x. cond slice.first_slice_segment_in_pic_flag
    (refusal_of_picture (head (context (p ∷ before)) slice)) x) (later-same set p before slice)
  where
    now : Standing
    now = standing (stream_of set kept (p ∷ before))

whole_refusal-same : (v : Stream) (s : Option Slice)
    → units.refusal_of_whole s (standing v) ≡ refusal_of_slice v.pictures s
whole_refusal-same v None = refl
whole_refusal-same v (Some slice) = slice_refusal-same v.first_set v.kept v.pictures slice

pub refusal-same : (v : Stream) (u : Meaning) → refusal_at u (standing v) ≡ refusal v u
refusal-same v (SequenceSet format) = refl
refusal-same v (CodedSlice slice) = whole_refusal-same v (whole_slice v.kept slice)
refusal-same v EndOfSequence = refl
refusal-same v EndOfBitstream = refl
refusal-same v Other = refl
refusal-same v (Refused cause) = refl

closing-same : (v : Stream)
    → (units.closing_part (standing v)).events
    ≡ (closing (latest_head v.pictures) (store v.first_set v.pictures)).events
closing-same v =
    ap (λ (f : Part Store). (f >>= output_by draining).events)
    (finish-latest v.first_set v.pictures (store v.first_set v.pictures))

-- what happens from the unit k on, by units, after what the pictures before did
EventsJoin : ℕ → Stream → List (ℕ × Event) → Option Refusal → ℕ → Stream → Type 0
EventsJoin k v rest stopped n last = walk_events v ++ rest ≡ walk_events last ++ ending stopped n last

events-step : (k n : ℕ) (v w last : Stream) (part : Part Standing) (fills : Bool) (later : Option Refusal)
    (from : Standing → List (ℕ × Event)) (r : Option Cause) → Outcome k v part fills w r
    → EventsJoin (k + 1) w (from (standing w)) later n last
    → EventsJoin k v (at_unit k part.events ++ cond (is_some r) [] (from part.next))
    (first_refusal k r later) n (covered_at r v w last)
unfolding EventsJoin
events-step k n v w last part fills later from None takes h =
    sym (append_assoc (walk_events v) (at_unit k part.events) (from part.next))
    ∙ ap (λ l. l ++ from part.next) (sym takes.events) ∙ ap (λ (x : Standing). walk_events w ++ from x) takes.next ∙ h
events-step k n v w last part fills later from (Some PocOutOfRange) takes h =
    ap (λ l. walk_events v ++ l) (append-nil (at_unit k part.events)) ∙ sym takes.events
    ∙ sym (append-nil (walk_events w))
events-step k n v w last part fills later from (Some (UnitRefused cause)) idles h =
    ap (λ (l : List Event). walk_events v ++ (at_unit k l ++ [])) idles.events
events-step k n v w last part fills later from (Some NoIndependentSlice) idles h =
    ap (λ (l : List Event). walk_events v ++ (at_unit k l ++ [])) idles.events
events-step k n v w last part fills later from (Some (ChangedMidPicture a b)) idles h =
    ap (λ (l : List Event). walk_events v ++ (at_unit k l ++ [])) idles.events
events-step k n v w last part fills later from (Some DpbFull) idles h =
    ap (λ (l : List Event). walk_events v ++ (at_unit k l ++ [])) idles.events

pub next-place : (k : ℕ) (u : Meaning) (us : List Meaning) → k + 1 + length us ≡ k + length (u ∷ us)
next-place k u us = omega arith

events-join : (k : ℕ) (v : Stream) (us : List Meaning)
    → EventsJoin k v (events_from (standing v) k us) (stop_from k v us) (k + length us) (covered_from k v us)
unfolding EventsJoin
events-join k v [] =
    ap (λ (l : List Event). walk_events v ++ at_unit k l) (closing-same v)
    ∙ ap (λ (n : ℕ). walk_events v
    ++ at_unit n (closing (latest_head v.pictures) (store v.first_set v.pictures)).events) (sym (add-zero k))
events-join k v (u ∷ us) =
    let w = with_unit k u v in
    let here = unit_part u (standing v) in
    let h : EventsJoin k v
    (at_unit k here.events ++ cond (is_some (refusal v u)) [] (events_from here.next (k + 1) us))
    (stop_from k v (u ∷ us)) (k + length (u ∷ us)) (covered_from k v (u ∷ us)) =
    events-step k (k + length (u ∷ us)) v w (covered_from (k + 1) w us) here (is_full_at u (standing v))
    (stop_from (k + 1) w us) (λ s. events_from s (k + 1) us) (refusal v u) (outcome k v u)
    (subst (λ (n : ℕ). EventsJoin (k + 1) w (events_from (standing w) (k + 1) us) (stop_from (k + 1) w us) n
    (covered_from (k + 1) w us)) (next-place k u us) (events-join (k + 1) w us)) in
    ap (λ (r : Option Cause). walk_events v
    ++ (at_unit k here.events ++ cond (is_some r) [] (events_from here.next (k + 1) us))) (refusal-same v u) ∙ h

pub events-same : (us : List Meaning) → events_from units.at_first 0 us ≡ events us
unfolding EventsJoin
events-same us =
    subst (λ (n : ℕ). EventsJoin 0 nothing_yet (events_from units.at_first 0 us) (stop us) n
    (covered_stream us)) (zero-add (length us)) (events-join 0 nothing_yet us)

pub same_number : (ps : List Picture) → (next_context ps).number ≡ (context ps).number
same_number [] = refl
same_number (p ∷ before) = refl

VerdictJoin : Stream → Result ℕ Refusal → Option Refusal → ℕ → Stream → ℕ → Type 0
VerdictJoin v rest stopped n last count =
    full_or (full_by v) rest ≡ full_or (earlier_of (full_by last) (full_at_end stopped n last))
    (stop_or stopped (Ok count))

pub fills-step : (k : ℕ) (f : Option ℕ) (b : Bool) (later : Result ℕ Refusal)
    → full_or f (refused_at k (full_or_cause b None) later) ≡ full_or (earlier_of f (cond b (Some k) None)) later
fills-step k None true later = refl
fills-step k None false later = refl
fills-step k (Some j) b later = refl

poc-step : (k : ℕ) (f : Option ℕ) (b : Bool) (later : Result ℕ Refusal)
    → full_or f (refused_at k (full_or_cause b (Some PocOutOfRange)) later) ≡ full_or
    (earlier_of (earlier_of f (cond b (Some k) None)) None) (Err (record { unit = k; cause = PocOutOfRange }))
poc-step k None true later = refl
poc-step k None false later = refl
poc-step k (Some j) b later = refl

idle-step : (k : ℕ) (f : Option ℕ) (b : Bool) (cause : Cause) (later : Result ℕ Refusal) → b ≡ false
    → full_or f (refused_at k (full_or_cause b (Some cause)) later) ≡ full_or (earlier_of f None)
    (Err (record { unit = k; cause = cause }))
idle-step k f true cause later h = absurd (cc h)
idle-step k None false cause later h = refl
idle-step k (Some j) false cause later h = refl

verdict-step : (k n count : ℕ) (v w last : Stream) (part : Part Standing) (fills : Bool)
    (later : Option Refusal) (from : Standing → Result ℕ Refusal) (r : Option Cause) → Outcome k v part fills w r
    → VerdictJoin w (from (standing w)) later n last count
    → VerdictJoin v (refused_at k (full_or_cause fills r) (from part.next)) (first_refusal k r later) n
    (covered_at r v w last) count
unfolding VerdictJoin
verdict-step k n count v w last part fills later from None takes h =
    fills-step k (full_by v) fills (from part.next) ∙ ap (λ (f : Option ℕ). full_or f (from part.next))
    (sym takes.full) ∙ ap (λ (x : Standing). full_or (full_by w) (from x)) takes.next ∙ h
verdict-step k n count v w last part fills later from (Some PocOutOfRange) takes h =
    poc-step k (full_by v) fills (from part.next)
    ∙ ap (λ (f : Option ℕ). full_or (earlier_of f None) (Err (record { unit = k; cause = PocOutOfRange })))
    (sym takes.full)
verdict-step k n count v w last part fills later from (Some (UnitRefused cause)) idles h =
    idle-step k (full_by v) fills (UnitRefused cause) (from part.next) idles.full
verdict-step k n count v w last part fills later from (Some NoIndependentSlice) idles h =
    idle-step k (full_by v) fills NoIndependentSlice (from part.next) idles.full
verdict-step k n count v w last part fills later from (Some (ChangedMidPicture a b)) idles h =
    idle-step k (full_by v) fills (ChangedMidPicture a b) (from part.next) idles.full
verdict-step k n count v w last part fills later from (Some DpbFull) idles h =
    idle-step k (full_by v) fills DpbFull (from part.next) idles.full

pub full-now : (v : Stream)
    → units.is_full_now (standing v) ≡ is_full (latest_head v.pictures) (store v.first_set v.pictures)
full-now v = full-latest v.first_set v.pictures (store v.first_set v.pictures)

verdict-join : (k : ℕ) (v : Stream) (us : List Meaning) → Numbered v.pictures
    → VerdictJoin v (verdict_from (standing v) k us) (stop_from k v us) (k + length us)
    (covered_from k v us) (length (stream_from k v us).pictures)
unfolding VerdictJoin
verdict-join k v [] numbered =
    fills-step k (full_by v) (units.is_full_now (standing v)) (Ok (next_context v.pictures).number)
    ∙ ap (λ (b : Bool). full_or (earlier_of (full_by v) (cond b (Some k) None))
    (Ok (next_context v.pictures).number)) (full-now v)
    ∙ ap (λ (n : ℕ). full_or
    (earlier_of (full_by v)
    (cond (is_full (latest_head v.pictures) (store v.first_set v.pictures)) (Some n) None))
    (Ok (next_context v.pictures).number)) (sym (add-zero k))
    ∙ ap (λ (n : ℕ). full_or
    (earlier_of (full_by v)
    (cond (is_full (latest_head v.pictures) (store v.first_set v.pictures)) (Some (k + 0)) None)) (Ok n))
    (same_number v.pictures ∙ numbered-length v.pictures numbered)
verdict-join k v (u ∷ us) numbered =
    let w = with_unit k u v in
    let here = unit_part u (standing v) in
    let count = length (stream_from (k + 1) w us).pictures in
    let h : VerdictJoin v
    (refused_at k (full_or_cause (is_full_at u (standing v)) (refusal v u))
    (verdict_from here.next (k + 1) us)) (stop_from k v (u ∷ us)) (k + length (u ∷ us))
    (covered_from k v (u ∷ us)) count =
    verdict-step k (k + length (u ∷ us)) count v w (covered_from (k + 1) w us) here
    (is_full_at u (standing v)) (stop_from (k + 1) w us) (λ s. verdict_from s (k + 1) us) (refusal v u) (outcome k v u)
    (subst (λ (n : ℕ). VerdictJoin w (verdict_from (standing w) (k + 1) us) (stop_from (k + 1) w us) n
    (covered_from (k + 1) w us) count) (next-place k u us)
    (verdict-join (k + 1) w us (unit-numbered k u v numbered))) in
    ap (λ (r : Option Cause). full_or (full_by v)
    (refused_at k (full_or_cause (is_full_at u (standing v)) r) (verdict_from here.next (k + 1) us)))
    (refusal-same v u) ∙ h

pub verdict-same : (us : List Meaning) → units.verdict_by_units us ≡ verdict us
unfolding VerdictJoin
verdict-same us =
    subst (λ (n : ℕ). VerdictJoin nothing_yet (verdict_from units.at_first 0 us) (stop us) n
    (covered_stream us) (length (pictures us))) (zero-add (length us)) (verdict-join 0 nothing_yet us tt)
