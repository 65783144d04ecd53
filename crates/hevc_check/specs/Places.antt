-- Where the walk over the pictures of a stream is.
use Rattle.std.specs.Int.{w32}
use Rattle.std.specs.Prelude.{FitsSigned, ◌&&◌, not, ℤ, ◌≡◌, ◌⊎◌, ◌≤◌, ◌<◌, ◌+◌, Bool, true, false, [], length, if◌then◌else◌, Option, Some, None, IfSome, option_map, Result, Ok, Err}
use Rattle.std.specs.declared.collections.VecDeque.{VecDeque}
use Rattle.std.specs.VecDeque.{deque_capacity}
use Rattle.hevc_walk.specs.Meanings.{Format, Slice, Meaning, SequenceSet, CodedSlice, EndOfSequence, EndOfBitstream, Other, Refused}
use Rattle.hevc_walk.specs.DependentSlices.{KeptHeader, whole_slice, kept_header}
use Rattle.hevc_walk.specs.Pictures as walk
use Rattle.hevc_walk.specs.Pictures.{Stream, head, context, order_count_in_range}
use Rattle.hevc_walk.specs.Buffer.{Buffer, bumping, needs_bumping}
use Rattle.hevc_walk.specs.ReferenceSets.{with_marks}
use Rattle.hevc_walk.specs.Walk.{Store, store, latest_head, finish, prepare, picture_part, needed_entries, accepted_size, is_full}
use Rattle.hevc_walk_units.specs.Units.{tid0_behind}
use Rattle.hevc_dpb.specs.declared.dpb.Dpb.{Dpb}
use Rattle.hevc_dpb.specs.Entries.{tickets}
use Rattle.hevc_dpb.specs.Plain.{HaveLatency}
use Rattle.hevc_dpb.specs.Views.{stored_entries, max_num_pics_of, room_of}
use Rattle.hevc_bumping.specs.declared.frame.Frame.{Frame}
use Rattle.hevc_backend.specs.declared.negotiation.NegotiationInfo.{NegotiationInfo}
use Rattle.hevc_backend.specs.Negotiation.{format_of}
use Rattle.hevc_driver.specs.declared.head.Head.{Head}
use Rattle.hevc_driver.specs.declared.head.Context.{Context}
use Rattle.hevc_driver.specs.Heads.{head_of}
use Rattle.hevc_driver.specs.Sound.{AreBelow}
use Rattle.hevc_check.specs.declared.begun.Begun.{Begun}
use Rattle.hevc_check.specs.Filled.{is_full_up_to, is_up_to}
use Rattle.hevc_check.specs.declared.unlike.Unlike.{Unlike}
use Rattle.hevc_check.specs.declared.unlike.Unlike.TheVariants as unlike

-- What the pictures so far mean for the next one: what is stored once the latest has begun, this
-- one, what it and those before it tell, and the latest independent slice's header.
pub record Place : Type 0 where
  pub store : Store
  pub latest : Option walk.Head
  pub next : walk.Context
  pub kept : Option KeptHeader

-- after some units
abbrev pub place : Stream → Place
place v = record {
  store = store v.first_set v.pictures;
  latest = latest_head v.pictures;
  next = context v.pictures;
  kept = v.kept;
}

-- what the pictures with this one tell of the next (8.1.3, 8.3.1)
abbrev pub context_after : walk.Head → walk.Context → walk.Context
context_after p c = record {
  number = p.number + 1;
  first_in_bitstream = false;
  first_after_end = false;
  prev_tid0_count = tid0_behind (Some p) c.prev_tid0_count;
  latest_irap_no_rasl = p.latest_irap_no_rasl;
}

-- the latest picture is over (C.5.2.3)
abbrev pub after_picture : Place → Place
after_picture w = record w { store = (finish w.latest w.store).next; latest = None }

-- after the first slice of a picture
abbrev pub with_picture : Slice → Place → Place
with_picture s w = record {
  store = (picture_part w.latest (head w.next s) s w.store).next;
  latest = Some (head w.next s);
  next = context_after (head w.next s) w.next;
  kept = w.kept;
}

-- what is left of the needed entries as a picture is to be decoded (C.5.2.2)
abbrev pub room_left : walk.Head → Buffer → Buffer
room_left p es =
    if p.no_output_of_prior_pics then [] else if p.starts_sequence then []
    else (bumping (needs_bumping p.limits) es).left

-- a picture begins a sequence: it is the first of all,
-- or an IRAP picture with NoRaslOutputFlag (8.1.3)
abbrev pub starts_sequence_after : walk.Head → Option walk.Head → Bool
starts_sequence_after p None = true
starts_sequence_after p (Some latest) = p.starts_sequence

-- the entries that stay as the picture of a first slice is to be decoded (C.5.2.2)
abbrev pub entries_at : Slice → Place → Buffer
entries_at s w =
    needed_entries
    (with_marks (head w.next s) s (prepare w.latest (head w.next s) w.store).next.buffer)

-- What is told of the picture that a slice begins.
pub record TellsPicture (s : Slice) (w : Place) (b : Begun) : Type 0 where
  pub same_head : head_of b.head ≡ head w.next s
  pub begins : b.begins_sequence ≡ starts_sequence_after (head w.next s) w.latest
  pub stored : (head w.next s).skipped ≡ false → b.stored.num ≡ length (entries_at s w)
  pub filled : (c : ℤ) → FitsSigned w32 c
      → is_up_to c b.stored.filled
      ≡ (not (head w.next s).skipped
      && is_full_up_to ((head w.next s).limits.max_dec_pic_buffering_minus1 + 1) c (entries_at s w))

-- What holds between two calls.
pub record IsSound {Z : Type 0} (accepted : Option NegotiationInfo) (dpb : Dpb (Unit {0}))
    (out : VecDeque (Frame (Unit {0})) Z) (latest : Option Head) (next : Context) : Type 0 where
  -- the buffer has the size that was accepted
  pub sized : max_num_pics_of dpb ≡ accepted_size (option_map format_of accepted)
  pub latency : HaveLatency (stored_entries dpb)
  -- there is room for what may be stored and may be output
  pub stored : 16 ≤ room_of dpb
  pub queue : 16 ≤ deque_capacity out
  pub below : AreBelow next.number (tickets (stored_entries dpb))
  pub newest : IfSome latest (λ h.
      AreBelow h.number (tickets (stored_entries dpb)) × (h.number < next.number))

-- a picture can't begin with a slice: the one before finds the buffer full as it is to be stored
-- (C.5.2.3), or the order count isn't in range (8.3.1)
abbrev pub CannotBegin : Slice → Place → Type 0
CannotBegin s w =
    (is_full w.latest w.store ≡ true) ⊎ (order_count_in_range (head w.next s) ≡ false)

-- a slice is the first of its picture (7.4.2.4.5)
abbrev pub is_first_slice : Slice → Option walk.Head → Bool
is_first_slice s None = true
is_first_slice s (Some latest) = s.first_slice_segment_in_pic_flag

abbrev pub first_if : Option Slice → Option walk.Head → Option Slice
first_if None latest = None
first_if (Some s) latest = if is_first_slice s latest then Some s else None

-- the slice of a unit with which a picture begins, if one does
abbrev pub first_slice : Meaning → Place → Option Slice
first_slice (CodedSlice s) w = first_if (whole_slice w.kept s) w.latest
first_slice u w = None

abbrev pub with_first : Option Slice → Place → Place
with_first None w = w
with_first (Some s) w = with_picture s w

-- the format that is accepted after a sequence set: that of the first one
abbrev pub accepted_after : Option Format → Format → Option Format
accepted_after None format = Some format
accepted_after (Some accepted) format = Some accepted

-- after one more unit
abbrev pub after_unit : Meaning → Place → Place
after_unit (SequenceSet format) w =
    record w { store = record w.store { accepted = accepted_after w.store.accepted format } }
after_unit (CodedSlice s) w =
    with_first (first_slice (CodedSlice s) w) (record w { kept = kept_header w.kept s })
after_unit EndOfSequence w = record w { next = record w.next { first_after_end = true } }
after_unit EndOfBitstream w = record w { next = record w.next { first_in_bitstream = true } }
after_unit Other w = w
after_unit (Refused cause) w = w

-- the picture that begins is told, if one does
abbrev pub TellsFirst : Option Slice → Place → Option Begun → Type 0
TellsFirst None w told = told ≡ None
TellsFirst (Some s) w told = (b : Begun) × (told ≡ Some b) × TellsPicture s w b

abbrev pub CannotBeginWith : Option Slice → Place → Type 0
CannotBeginWith None w = ⊥
CannotBeginWith (Some s) w = CannotBegin s w

-- a unit was taken; or it wasn't, since its picture can't begin, or where an allocation fails
abbrev pub Takes : Result (Option Begun) Unlike → Meaning → Place → Place → Type 0
Takes (Ok told) u old new = TellsFirst (first_slice u old) old told × (new ≡ after_unit u old)
Takes (Err unlike.Refused) u old new = CannotBeginWith (first_slice u old) old
Takes (Err unlike.NoMemory) u old new = Unit {0}
