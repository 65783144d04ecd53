-- The walk over the pictures, as the output order decoding process goes (C.5.2): calls, and
-- pictures that are output.
use Rattle.std.specs.Prelude.{ℕ, ℤ, Bool, false, not, ◌&&◌, List, [], ◌∷◌, ◌++◌, length, map}
use Rattle.std.specs.Prelude.{filter, if◌then◌else◌, Option, Some, None, nat_le}
use Rattle.hevc_walk.specs.Meanings.{Format, Slice, same_format}
use Rattle.hevc_walk.specs.Pictures.{Head, Picture, order_count_in_range}
use Rattle.hevc_walk.specs.Buffer.{Entry, Buffer, Bumped, bumping, draining}
use Rattle.hevc_walk.specs.Buffer.{needs_additional_bumping, needs_bumping, is_needed, with_stored}
use Rattle.hevc_walk.specs.ReferenceSets.{RefPicSet, reference_set, with_marks}
use Rattle.hevc_walk.specs.ReferenceLists.{RefPicListEntry, ref_pic_list0, ref_pic_list1}

-- What the backend is asked, handles left out.
pub data Call : Type 0 where
  NewSequence : (info : Format) → Call
  NewPicture : (number nal_unit_type : ℕ) (pic_order_cnt_val : ℤ) (pic_output_flag : Bool)
      (timestamp : ℕ) → Call
  BeginPicture : (number : ℕ) (set : RefPicSet) → Call
  DecodeSlice : (number segment_address : ℕ) (bytes : List ℕ)
      (list0 list1 : List (Option RefPicListEntry)) → Call
  SubmitPicture : (number : ℕ) → Call

-- What happens: a call is made, or a picture is output.
pub data Event : Type 0 where
  Called : Call → Event
  Output : (number : ℕ) (order_count : ℤ) → Event

-- Some events, and the standing after them.
pub record Part (S : Type 0) : Type 0 where
  pub events : List Event
  pub next : S

-- one part, then the next
infixl 10 ◌>>=◌
abbrev pub ◌>>=◌ : {S T : Type 0} → Part S → (S → Part T) → Part T
p >>= f = record { events = p.events ++ (f p.next).events; next = (f p.next).next }

abbrev pub nothing : {S : Type 0} → S → Part S
nothing s = record { events = []; next = s }

abbrev pub call : {S : Type 0} → Call → S → Part S
call c s = record { events = Called c ∷ []; next = s }

-- What the walk carries from picture to picture.
pub record Store : Type 0 where
  pub accepted : Option Format
  pub buffer : Buffer

abbrev pub output_of : Entry → Event
output_of e = Output e.number e.order_count

abbrev pub output_by : (Buffer → Bumped) → Store → Part Store
output_by rule s = record {
  events = map output_of (rule s.buffer).outputs;
  next = record s { buffer = (rule s.buffer).left };
}

-- The picture before is over: it is submitted and stored, and what is then due is output (C.5.2.3).
unfoldable pub store_picture : Head → Store → Part Store
store_picture q s =
    call (SubmitPicture q.number) (record s { buffer = with_stored q s.buffer })
    >>= output_by (bumping (needs_additional_bumping q.limits))

-- the picture before, if there is one that isn't skipped
unfoldable pub finish : Option Head → Store → Part Store
finish None s = nothing s
finish (Some q) s = if q.skipped then nothing s else store_picture q s

abbrev pub is_accepted : Format → Option Format → Bool
is_accepted format None = false
is_accepted format (Some accepted) = same_format accepted format

abbrev pub open_sequence : Format → Store → Part Store
open_sequence format s = call (NewSequence format) (record s { accepted = Some format })

-- Where the format of a picture differs from the accepted one, what is needed for output is output
-- before it is negotiated, in every case: no NoOutputOfPriorPicsFlag is looked at.
unfoldable pub change_format : Format → Store → Part Store
change_format format s =
    if is_accepted format s.accepted then nothing s
    else output_by draining s >>= open_sequence format

-- A picture whose order count isn't in range, or that is skipped (8.1.3), isn't decoded.
abbrev pub is_decoded : Head → Bool
is_decoded p = order_count_in_range p && not p.skipped

-- the entries that stay as a picture is to be decoded, before any is bumped (C.5.2.2)
abbrev pub needed_entries : Buffer → Buffer
needed_entries es = filter is_needed es

-- Pictures leave before a picture is decoded (C.5.2.2): all where NoOutputOfPriorPicsFlag holds;
-- where a sequence starts without it all are output; else those that aren't needed leave, and
-- bumping goes on until there is room.
unfoldable pub make_room : Head → Store → Part Store
make_room p s =
    if p.no_output_of_prior_pics then nothing (record s { buffer = [] })
    else if p.starts_sequence then output_by draining s
    else output_by (bumping (needs_bumping p.limits)) (record s {
      buffer = needed_entries s.buffer;
    })

-- the two calls that begin a picture
unfoldable pub start_decoding : Head → RefPicSet → Store → Part Store
start_decoding p set s = record {
  events =
      Called (NewPicture p.number p.nal_unit_type p.order_count p.pic_output_flag 0)
      ∷ Called (BeginPicture p.number set) ∷ [];
  next = s;
}

-- A picture begins (8.1.3): entries are marked (8.3.2), and leave (C.5.2.2),
-- and the backend is asked to decode.
unfoldable pub begin_picture : Head → Slice → Store → Part Store
begin_picture p first s =
    if is_decoded p
    then make_room p (record s { buffer = with_marks p first s.buffer })
    >>= start_decoding p (reference_set p first s.buffer)
    else nothing s

-- What comes before it begins.
abbrev pub prepare : Option Head → Head → Store → Part Store
prepare before p s = finish before s >>= change_format p.format

-- a picture, with the one before it
abbrev pub picture_part : Option Head → Head → Slice → Store → Part Store
picture_part before p first s = prepare before p s >>= begin_picture p first

abbrev pub latest_head : List Picture → Option Head
latest_head [] = None
latest_head (p ∷ before) = Some p.head

-- the standing before the first picture
abbrev pub first_store : Option (ℕ × Format) → Store
first_store None = record { accepted = None; buffer = [] }
first_store (Some set) = record { accepted = Some set.1; buffer = [] }

-- the standing once the latest picture has begun, after a first sequence set
abbrev pub store : Option (ℕ × Format) → List Picture → Store
store set [] = first_store set
store set (p ∷ before) = (picture_part (latest_head before) p.head p.first (store set before)).next

-- the standing as a picture is to begin
abbrev pub store_before : Option (ℕ × Format) → Picture → List Picture → Store
store_before set p before = (prepare (latest_head before) p.head (store set before)).next

abbrev pub reference_set_of : Option (ℕ × Format) → Picture → List Picture → RefPicSet
reference_set_of set p before = reference_set p.head p.first (store_before set p before).buffer

abbrev pub at_unit : ℕ → List Event → List (ℕ × Event)
at_unit k events = map (λ e. (k, e)) events

-- a slice with its reference picture lists (8.3.4)
abbrev pub slice_call : Head → RefPicSet → Slice → Call
slice_call p set s =
    DecodeSlice p.number s.segment_address s.bytes (ref_pic_list0 set s) (ref_pic_list1 set s)

-- each slice is decoded at its own unit
abbrev pub decode_slice : Head → RefPicSet → ℕ × Slice → List (ℕ × Event)
decode_slice p set s = if is_decoded p then (s.0, Called (slice_call p set s.1)) ∷ [] else []

abbrev pub decode_slices : Head → RefPicSet → List (ℕ × Slice) → List (ℕ × Event)
decode_slices p set [] = []
decode_slices p set (s ∷ slices) = decode_slice p set s ++ decode_slices p set slices

-- the first sequence set is negotiated at its unit
abbrev pub opening : Option (ℕ × Format) → List (ℕ × Event)
opening None = []
opening (Some set) = (set.0, Called (NewSequence set.1)) ∷ []

-- what the pictures ask, each at the unit of its first slice
abbrev pub picture_events : Option (ℕ × Format) → List Picture → List (ℕ × Event)
picture_events set [] = opening set
picture_events set (p ∷ before) =
    picture_events set before
    ++ at_unit p.unit (picture_part (latest_head before) p.head p.first (store set before)).events
    ++ decode_slices p.head (reference_set_of set p before) p.slices

-- after the last unit the last picture is over, and all that is needed for output is output
-- (C.5.2.2)
abbrev pub closing : Option Head → Store → Part Store
closing before s = finish before s >>= output_by draining

-- the accepted max_num_pics, 0 where there is none
abbrev pub accepted_size : Option Format → ℕ
accepted_size None = 0
accepted_size (Some format) = format.max_num_pics

-- the picture before is to be stored, and the buffer holds as many as were accepted (C.5.2.3)
abbrev pub is_full : Option Head → Store → Bool
is_full None s = false
is_full (Some q) s = not q.skipped && nat_le (accepted_size s.accepted) (length s.buffer)

-- the earlier unit, if there is one, else the later one
abbrev pub earlier_of : Option ℕ → Option ℕ → Option ℕ
earlier_of (Some k) later = Some k
earlier_of None later = later

-- the unit of the first store into a full buffer
abbrev pub full_store : Option (ℕ × Format) → List Picture → Option ℕ
full_store set [] = None
full_store set (p ∷ before) =
    earlier_of (full_store set before)
    (if is_full (latest_head before) (store set before) then Some p.unit else None)
