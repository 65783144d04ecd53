-- What each unit does where the units before it have led. The parts are those of the walk over
-- pictures; that both forms ask for the same is proved in hevc_walk_agree.
use Rattle.std.specs.Prelude.{ℕ, ℤ, ◌+◌, Bool, true, false, ◌&&◌, List, [], ◌∷◌, ◌++◌}
use Rattle.std.specs.Prelude.{if◌then◌else◌, Option, Some, None, is_some, Result, Ok, Err}
use Rattle.hevc_walk.specs.Meanings.{Format, Slice, Meaning, SequenceSet, CodedSlice, EndOfSequence}
use Rattle.hevc_walk.specs.Meanings.{EndOfBitstream, Other, Refused, same_format}
use Rattle.hevc_walk.specs.DependentSlices.{KeptHeader, whole_slice, kept_header}
use Rattle.hevc_walk.specs.Pictures.{Head, Context, head, is_tid0}
use Rattle.hevc_walk.specs.ReferenceSets.{RefPicSet, reference_set}
use Rattle.hevc_walk.specs.Walk.{Event, Call, Part, ◌>>=◌, nothing, call, Store, finish}
use Rattle.hevc_walk.specs.Walk.{change_format, begin_picture, is_decoded, slice_call}
use Rattle.hevc_walk.specs.Walk.{open_sequence, closing, is_full, at_unit}
use Rattle.hevc_walk.specs.Refusals.{Cause, UnitRefused, NoIndependentSlice, ChangedMidPicture}
use Rattle.hevc_walk.specs.Refusals.{DpbFull, Refusal, refusal_of_picture}
use Rattle.hevc_walk.specs.Results.{OutputPicture, calls_in, outputs_in}

-- The picture whose slices come: none, one that is passed over, or one that is decoded,
-- with its reference picture set.
pub data Current : Type 0 where
  NoPicture : Current
  SkippedPicture : Current
  OpenPicture : Head → RefPicSet → Current

-- What the units so far mean for those to come.
pub record Standing : Type 0 where
  pub store : Store
  pub current : Current
  pub kept : Option KeptHeader
  -- for the next picture; the open one isn't yet its prevTid0Pic
  pub next : Context

abbrev pub at_first : Standing
at_first = record {
  store = record { accepted = None; buffer = [] };
  current = NoPicture;
  kept = None;
  next = record {
    number = 0;
    first_in_bitstream = true;
    first_after_end = true;
    prev_tid0_count = None;
    latest_irap_no_rasl = false;
  };
}

abbrev pub on_store : (Store → Part Store) → Standing → Part Standing
on_store f s = record { events = (f s.store).events; next = record s { store = (f s.store).next } }

abbrev pub open_head : Current → Option Head
open_head NoPicture = None
open_head SkippedPicture = None
open_head (OpenPicture p set) = Some p

abbrev pub current_of : Head → RefPicSet → Current
current_of p set = if p.skipped then SkippedPicture else OpenPicture p set

-- the count of prevTid0Pic once the open picture is over
abbrev pub tid0_behind : Option Head → Option ℤ → Option ℤ
tid0_behind None count = count
tid0_behind (Some p) count = if is_tid0 p then Some p.order_count else count

-- the open picture is over, or the skipped one
abbrev pub finish_current : Standing → Part Standing
finish_current s =
    on_store (finish (open_head s.current)) (record s {
      current = NoPicture;
      next = record s.next {
        prev_tid0_count = tid0_behind (open_head s.current) s.next.prev_tid0_count;
      };
    })

abbrev pub context_behind : Head → Context → Context
context_behind p c = record c {
  number = p.number + 1;
  first_in_bitstream = false;
  first_after_end = false;
  latest_irap_no_rasl = p.latest_irap_no_rasl;
}

-- a picture begins, or is passed over
abbrev pub open_picture : Head → Slice → Standing → Part Standing
open_picture p first s = record {
  events = (begin_picture p first s.store).events;
  next = record s {
    store = (begin_picture p first s.store).next;
    current = current_of p (reference_set p first s.store.buffer);
    next = context_behind p s.next;
  };
}

-- a slice of the current picture
abbrev pub decode_current : Current → Slice → Standing → Part Standing
decode_current NoPicture slice s = nothing s
decode_current SkippedPicture slice s = nothing s
decode_current (OpenPicture p set) slice s =
    if is_decoded p then call (slice_call p set slice) s else nothing s

abbrev pub decode_slice : Slice → Standing → Part Standing
decode_slice slice s = decode_current s.current slice s

abbrev pub begin_by : Head → Slice → Standing → Part Standing
begin_by p slice s =
    on_store (change_format p.format) s >>= open_picture p slice >>= decode_slice slice

-- a slice begins a picture where none is current
abbrev pub begin_slice : Slice → Standing → Part Standing
begin_slice slice s = begin_by (head s.next slice) slice s

abbrev pub first_slice : Slice → Standing → Part Standing
first_slice slice s = finish_current s >>= begin_slice slice

-- the refusal of a later slice
abbrev pub changed_by : Format → Option Format → Option Cause
changed_by named None = None
changed_by named (Some accepted) =
    if same_format accepted named then None else Some (ChangedMidPicture accepted named)

abbrev pub refusal_of_later : Current → Slice → Option Format → Option Cause
refusal_of_later NoPicture slice accepted = None
refusal_of_later SkippedPicture slice accepted = None
refusal_of_later (OpenPicture p set) slice accepted = changed_by slice.format accepted

abbrev pub later_slice : Slice → Standing → Part Standing
later_slice slice s =
    if is_some (refusal_of_later s.current slice s.store.accepted) then nothing s
    else decode_slice slice s

abbrev pub begins_picture : Current → Slice → Bool
begins_picture NoPicture slice = true
begins_picture SkippedPicture slice = slice.first_slice_segment_in_pic_flag
begins_picture (OpenPicture p set) slice = slice.first_slice_segment_in_pic_flag

abbrev pub slice_part : Slice → Standing → Part Standing
slice_part slice s =
    if begins_picture s.current slice then first_slice slice s else later_slice slice s

-- nothing where the slice lacks an independent one
abbrev pub whole_part : Option Slice → Standing → Part Standing
whole_part None s = nothing s
whole_part (Some slice) s = slice_part slice s

-- the first sequence set opens the first negotiation, others open none
abbrev pub sequence_part : Option Format → Format → Standing → Part Standing
sequence_part None format s = on_store (open_sequence format) s
sequence_part (Some accepted) format s = nothing s

-- what a unit does
abbrev pub unit_part : Meaning → Standing → Part Standing
unit_part (SequenceSet format) s = sequence_part s.store.accepted format s
unit_part (CodedSlice slice) s =
    whole_part (whole_slice s.kept slice) (record s { kept = kept_header s.kept slice })
unit_part EndOfSequence s = nothing (record s { next = record s.next { first_after_end = true } })
unit_part EndOfBitstream s =
    nothing (record s { next = record s.next { first_in_bitstream = true } })
unit_part Other s = nothing s
unit_part (Refused cause) s = nothing s

abbrev pub refusal_of_first : Slice → Standing → Option Cause
refusal_of_first slice s = refusal_of_picture (head (finish_current s).next.next slice)

abbrev pub refusal_of_slice : Slice → Standing → Option Cause
refusal_of_slice slice s =
    if begins_picture s.current slice then refusal_of_first slice s
    else refusal_of_later s.current slice s.store.accepted

abbrev pub refusal_of_whole : Option Slice → Standing → Option Cause
refusal_of_whole None s = Some NoIndependentSlice
refusal_of_whole (Some slice) s = refusal_of_slice slice s

-- why a unit is refused, but for a full store
abbrev pub refusal_at : Meaning → Standing → Option Cause
refusal_at (CodedSlice slice) s = refusal_of_whole (whole_slice s.kept slice) s
refusal_at (Refused cause) s = Some (UnitRefused cause)
refusal_at u s = None

abbrev pub is_full_now : Standing → Bool
is_full_now s = is_full (open_head s.current) s.store

abbrev pub fills_by : Option Slice → Standing → Bool
fills_by None s = false
fills_by (Some slice) s = begins_picture s.current slice && is_full_now s

-- a unit stores a picture into a full buffer
abbrev pub is_full_at : Meaning → Standing → Bool
is_full_at (CodedSlice slice) s = fills_by (whole_slice s.kept slice) s
is_full_at u s = false

-- after the last unit
abbrev pub closing_part : Standing → Part Standing
closing_part s = on_store (closing (open_head s.current)) s

-- the events from the unit k on
abbrev pub events_from : Standing → ℕ → List Meaning → List (ℕ × Event)
events_from s k [] = at_unit k (closing_part s).events
events_from s k (u ∷ us) =
    at_unit k (unit_part u s).events
    ++ (if is_some (refusal_at u s) then [] else events_from (unit_part u s).next (k + 1) us)

abbrev pub calls_by_units : List Meaning → List (ℕ × Call)
calls_by_units us = calls_in (events_from at_first 0 us)

abbrev pub outputs_by_units : List Meaning → List OutputPicture
outputs_by_units us = outputs_in (events_from at_first 0 us)

abbrev pub refused_at : ℕ → Option Cause → Result ℕ Refusal → Result ℕ Refusal
refused_at k None later = later
refused_at k (Some cause) later = Err (record { unit = k; cause = cause })

-- a full store comes before the refusals of a slice that begins a picture
abbrev pub full_or_cause : Bool → Option Cause → Option Cause
full_or_cause full cause = if full then Some DpbFull else cause

abbrev pub verdict_from : Standing → ℕ → List Meaning → Result ℕ Refusal
verdict_from s k [] = refused_at k (full_or_cause (is_full_now s) None) (Ok s.next.number)
verdict_from s k (u ∷ us) =
    refused_at k (full_or_cause (is_full_at u s) (refusal_at u s))
    (verdict_from (unit_part u s).next (k + 1) us)

abbrev pub verdict_by_units : List Meaning → Result ℕ Refusal
verdict_by_units us = verdict_from at_first 0 us
