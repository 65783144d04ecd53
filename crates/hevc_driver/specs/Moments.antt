-- The parts of the walk that a call may stop between, and the standing there.
use Rattle.std.specs.Prelude.{Bool, true, false, not, ◌&&◌, ◌==◌, ◌-◌, ◌^◌, [], ◌∷◌, Option, Some}
use Rattle.std.specs.Prelude.{None}
use Rattle.hevc_walk.specs.Meanings.{Format, Slice, Meaning, SequenceSet, CodedSlice}
use Rattle.hevc_walk.specs.Pictures.{Head}
use Rattle.hevc_walk.specs.DependentSlices.{whole_slice, kept_header}
use Rattle.hevc_walk.specs.Walk as walk
use Rattle.hevc_walk.specs.Walk.{Part, ◌>>=◌, nothing, is_accepted, change_format, open_sequence}
use Rattle.hevc_walk.specs.Walk.{output_by, make_room, slice_call, Called}
use Rattle.hevc_walk.specs.Buffer.{draining}
use Rattle.hevc_walk.specs.ReferenceSets.{RefPicSet, with_marks}
use Rattle.hevc_walk.specs.Refusals.{Cause, PocOutOfRange, ChangedMidPicture}
use Rattle.hevc_walk_units.specs.Units.{Standing, NoPicture, OpenPicture, context_behind, on_store}
use Rattle.hevc_walk_units.specs.Units.{finish_current, open_picture, decode_slice, begins_picture}
use Rattle.hevc_walk_units.specs.Units.{unit_part}

-- a slice's header is kept for the dependent ones after it
abbrev pub with_kept : Slice → Standing → Standing
with_kept slice s = record s { kept = kept_header s.kept slice }

abbrev pub kept_behind : Meaning → Standing → Standing
kept_behind (CodedSlice slice) s = with_kept slice s
kept_behind u s = s

-- the picture whose slices came is given up
abbrev pub given_up : Standing → Standing
given_up s = record s { current = NoPicture }

-- the picture whose slices came is over, but for its store
abbrev pub not_stored : Standing → Standing
not_stored s = record (finish_current s).next { store = s.store }

abbrev pub drained : Standing → Standing
drained s = record s { store = record s.store { buffer = [] } }

-- what is needed for output is output, and a format is negotiated
abbrev pub renegotiates : Format → Standing → Part Standing
renegotiates format s = on_store (output_by draining) s >>= on_store (open_sequence format)

-- a picture of the accepted format begins with its first slice
abbrev pub starts : Head → Slice → Standing → Part Standing
starts p slice s = open_picture p slice s >>= decode_slice slice

-- entries are marked, and leave
abbrev pub room_of : Head → Slice → Standing → Part walk.Store
room_of p slice s = make_room p (record s.store { buffer = with_marks p slice s.store.buffer })

abbrev pub enters : Head → Slice → Standing → Part Standing
enters p slice s = record {
  events = (room_of p slice s).events;
  next = record s { store = (room_of p slice s).next; next = context_behind p s.next };
}

abbrev pub new_call : Head → walk.Call
new_call p = walk.NewPicture p.number p.nal_unit_type p.order_count p.pic_output_flag 0

abbrev pub begin_call : Head → RefPicSet → walk.Call
begin_call p set = walk.BeginPicture p.number set

-- the backend gets the picture with its first slice
abbrev pub hands_over : Head → RefPicSet → Slice → Standing → Part Standing
hands_over p set slice s = record {
  events = Called (new_call p) ∷ Called (begin_call p set) ∷ Called (slice_call p set slice) ∷ [];
  next = record s { current = OpenPicture p set };
}

-- ---- a format is negotiated first

abbrev pub begins_by : Option Slice → Standing → Bool
begins_by None s = false
begins_by (Some slice) s = begins_picture s.current slice

-- a unit begins a picture
abbrev pub begins_at : Meaning → Standing → Bool
begins_at (CodedSlice slice) s = begins_by (whole_slice s.kept slice) s
begins_at u s = false

abbrev pub negotiates_by : Option Slice → Standing → Bool
negotiates_by None s = false
negotiates_by (Some slice) s =
    begins_picture s.current slice && not (is_accepted slice.format s.store.accepted)

-- a unit opens a negotiation: the first sequence set,
-- or a slice that begins a picture of another format
abbrev pub negotiates : Meaning → Standing → Bool
negotiates (SequenceSet format) s = true
negotiates (CodedSlice slice) s = negotiates_by (whole_slice s.kept slice) s
negotiates u s = false

-- a picture of the accepted format begins, and no number is left for it
abbrev pub spends : Meaning → Standing → Bool
spends u s = begins_at u s && not (negotiates u s) && (s.next.number == 2 ^ 64 - 1)

abbrev pub opening_by : Option Slice → Standing → Part Standing
opening_by None s = nothing s
opening_by (Some slice) s = finish_current s >>= on_store (change_format slice.format)

-- what it asks up to there
abbrev pub opening : Meaning → Standing → Part Standing
opening (SequenceSet format) s = on_store (open_sequence format) s
opening (CodedSlice slice) s = opening_by (whole_slice s.kept slice) (with_kept slice s)
opening u s = nothing s

-- what a unit asks; a sequence set is looked at while none has come
abbrev pub step_part : Meaning → Standing → Part Standing
step_part (SequenceSet format) s = on_store (open_sequence format) s
step_part u s = unit_part u s

-- ---- the standing after a refusal

-- as a call of the backend is refused: the picture is given up,
-- and its number is taken if it has begun
abbrev pub left_at : walk.Call → Meaning → Standing → Standing
left_at (walk.SubmitPicture number) u s = given_up (kept_behind u s)
left_at (walk.NewSequence info) (CodedSlice slice) s =
    drained (finish_current (with_kept slice s)).next
left_at (walk.NewSequence info) u s = s
left_at call u s = given_up (step_part u s).next

-- as a unit is refused for a cause
abbrev pub left_by : Cause → Meaning → Standing → Standing
left_by PocOutOfRange u s = (finish_current (kept_behind u s)).next
left_by (ChangedMidPicture accepted named) u s = given_up (kept_behind u s)
left_by cause u s = s

-- after the last unit; a format that was awaited is forgotten
abbrev pub closes : Standing → Part Standing
closes s = finish_current s >>= on_store (output_by draining)

-- a format that was accepted, or is awaited, is forgotten
abbrev pub forgotten : Standing → Standing
forgotten s = record s { store = record s.store { accepted = None } }
