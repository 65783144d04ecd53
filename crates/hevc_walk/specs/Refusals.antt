-- The unit that stops a stream, and why.
use Rattle.std.specs.Prelude.{ℕ, ◌+◌, ◌||◌, List, [], ◌∷◌, if◌then◌else◌, Option, Some, None}
use Rattle.hevc_walk.specs.Meanings.{Format, Slice, UnitCause, Meaning, CodedSlice, Refused}
use Rattle.hevc_walk.specs.Meanings.{same_format}
use Rattle.hevc_walk.specs.DependentSlices.{whole_slice}
use Rattle.hevc_walk.specs.Pictures.{Head, Picture, Stream, context, head, order_count_in_range}
use Rattle.hevc_walk.specs.Pictures.{with_unit, nothing_yet}

-- Why a stream is refused.
pub data Cause : Type 0 where
  UnitRefused : UnitCause → Cause
  -- a dependent slice segment has no independent one that it belongs to (7.4.7.1)
  NoIndependentSlice : Cause
  -- a later slice of a picture names a set of another format than the accepted one (7.4.2.4.2)
  ChangedMidPicture : (accepted named : Format) → Cause
  -- an order count, or its most significant bits, isn't a 32-bit number (8.3.1)
  PocOutOfRange : Cause
  -- the buffer holds the accepted number of pictures as one is to be stored (C.5.2.3)
  DpbFull : Cause

pub record Refusal : Type 0 where
  pub unit : ℕ
  pub cause : Cause

-- the refusal of a slice that begins a picture (8.3.1)
abbrev pub refusal_of_picture : Head → Option Cause
refusal_of_picture p = if order_count_in_range p then None else Some PocOutOfRange

-- the refusal of a later slice, whose picture has the format that was accepted (7.4.2.4.2)
abbrev pub refusal_of_later : Head → Slice → Option Cause
refusal_of_later p s =
    if p.skipped || same_format p.format s.format then None
    else Some (ChangedMidPicture p.format s.format)

abbrev pub refusal_of_whole : List Picture → Slice → Option Cause
refusal_of_whole [] s = refusal_of_picture (head (context []) s)
refusal_of_whole (p ∷ before) s =
    if s.first_slice_segment_in_pic_flag then refusal_of_picture (head (context (p ∷ before)) s)
    else refusal_of_later p.head s

abbrev pub refusal_of_slice : List Picture → Option Slice → Option Cause
refusal_of_slice before None = Some NoIndependentSlice
refusal_of_slice before (Some s) = refusal_of_whole before s

-- why a unit is refused, where those before it aren't
abbrev pub refusal : Stream → Meaning → Option Cause
refusal v (CodedSlice s) = refusal_of_slice v.pictures (whole_slice v.kept s)
refusal v (Refused cause) = Some (UnitRefused cause)
refusal v u = None

abbrev pub first_refusal : ℕ → Option Cause → Option Refusal → Option Refusal
first_refusal k None later = later
first_refusal k (Some cause) later = Some (record { unit = k; cause = cause })

abbrev pub stop_from : ℕ → Stream → List Meaning → Option Refusal
stop_from k v [] = None
stop_from k v (u ∷ us) = first_refusal k (refusal v u) (stop_from (k + 1) (with_unit k u v) us)

-- the first unit that is refused, with its cause
abbrev pub stop : List Meaning → Option Refusal
stop us = stop_from 0 nothing_yet us

-- What the walk covers: the units before the stop,
-- and the picture at it whose order count isn't in range.
abbrev pub covered_at : Option Cause → Stream → Stream → Stream → Stream
covered_at None before at later = later
covered_at (Some PocOutOfRange) before at later = at
covered_at (Some cause) before at later = before

abbrev pub covered_from : ℕ → Stream → List Meaning → Stream
covered_from k v [] = v
covered_from k v (u ∷ us) =
    covered_at (refusal v u) v (with_unit k u v) (covered_from (k + 1) (with_unit k u v) us)

abbrev pub covered_stream : List Meaning → Stream
covered_stream us = covered_from 0 nothing_yet us
