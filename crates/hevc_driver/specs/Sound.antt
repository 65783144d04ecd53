-- What holds between two calls, so that a backend is handed no reference that isn't stored, and no
-- handle that it didn't give.
use Rattle.std.specs.Prelude.{◌≡◌, ℕ, ◌+◌, ◌-◌, ◌^◌, ◌<◌, ◌≤◌, Bool, true, IsTrue, List, option_map}
use Rattle.std.specs.Prelude.{Option, Some, None, Contains}
use Rattle.std.specs.VecDeque.{deque_len, deque_capacity}
use Rattle.hevc_walk.specs.Walk.{accepted_size, is_accepted, is_decoded}
use Rattle.hevc_walk_inputs.specs.Sequences.{format_of_set}
use Rattle.hevc_walk_units.specs.Units as units
use Rattle.hevc_sequence_set.specs.Sps.{plain_sps}
use Rattle.hevc_sequence_set.specs.declared.sps.Sps.{Sps}
use Rattle.hevc_picture_slice.specs.declared.pps.Pps.{Pps}
use Rattle.hevc_picture_slice.specs.declared.slice.Slice.{Slice}
use Rattle.hevc_picture_slice.specs.declared.slice_header.SliceHeader.{SliceHeader}
use Rattle.hevc_dpb.specs.Entries.{IsPartOf, numbers, tickets}
use Rattle.hevc_dpb.specs.Plain.{HaveLatency}
use Rattle.hevc_dpb.specs.Views.{stored_entries, max_num_pics_of, room_of, buffer_of}
use Rattle.hevc_bumping.specs.Bumps.{num_waiting}
use Rattle.hevc_backend.specs.declared.call.Call.{Call}
use Rattle.hevc_backend.specs.declared.negotiation.NegotiationInfo.{NegotiationInfo}
use Rattle.hevc_backend.specs.Negotiation.{format_of, info_of}
use Rattle.hevc_backend.specs.Handed.{Handed, AreAnnounced, IsAmong, stored_pictures}
use Rattle.hevc_backend.specs.Named.{SetNamesAmong}
use Rattle.hevc_backend.specs.Told.{Told, WhereTold, AreSubmitted, BegunPicture, begun_picture}
use Rattle.hevc_walk.specs.Meanings.{Format}
use Rattle.hevc_driver.specs.declared.current.Current.{Current}
use Rattle.hevc_driver.specs.declared.current.Current.TheVariants.{NoPicture, SkippedPicture}
use Rattle.hevc_driver.specs.declared.current.Current.TheVariants.{OpenPicture}
use Rattle.hevc_driver.specs.declared.head.Head.{Head}
use Rattle.hevc_driver.specs.declared.standing.Standing as driver
use Rattle.hevc_driver.specs.declared.driver.Driver.{Driver}
use Rattle.hevc_driver.specs.Heads.{head_of}
use Rattle.hevc_driver.specs.Standings.{current_of}
use Rattle.hevc_backend.specs.Trait.{Frames}

-- each of these numbers is below n
abbrev pub AreBelow : {H : Type 0} → ℕ → List (ℕ × H) → Type 0
AreBelow {H} n ts = (t : ℕ × H) → Contains ts t → t.0 < n

-- the backend's last sequence is of the accepted format
abbrev pub IsAccepted : Option NegotiationInfo → Option Format → Type 0
IsAccepted None sequence = Unit {0}
IsAccepted (Some accepted) sequence = sequence ≡ Some (format_of accepted)

-- the backend's last picture is the open one
abbrev pub IsLatest : {P : Type 0} → Current P → Option BegunPicture → Type 0
IsLatest NoPicture picture = Unit {0}
IsLatest SkippedPicture picture = Unit {0}
IsLatest (OpenPicture open_) picture =
    picture ≡ Some (begun_picture open_.head.number open_.head.picture)

-- what the backend was told fits
pub record Fits {H P : Type 0} (w : driver.Standing H P) (t : Told H) : Type 0 where
  pub handles : AreSubmitted (stored_entries w.dpb) t
  pub sequence : IsAccepted w.accepted t.sequence
  pub picture : IsLatest w.current t.picture

-- A picture of this head, and of the reference picture set that is there, is newer than all that
-- are stored, and refers to none but those.
pub record IsNewest {H P : Type 0} (head : Head) (w : driver.Standing H P) : Type 0 where
  pub newer : AreBelow head.number (tickets (stored_entries w.dpb))
  pub counted : head.number < w.next.number
  pub references : SetNamesAmong (numbers (stored_entries w.dpb)) w.set
  pub accepted : w.accepted ≡ Some head.format

abbrev pub IsOpenNewest : {H P : Type 0} → Current P → driver.Standing H P → Type 0
IsOpenNewest NoPicture w = Unit {0}
IsOpenNewest SkippedPicture w = Unit {0}
IsOpenNewest (OpenPicture open_) w = IsNewest open_.head w

-- the open picture was announced
abbrev pub IsOpenAnnounced : {P : Type 0} → Option (List Handed) → Current P → Type 0
IsOpenAnnounced handed NoPicture = Unit {0}
IsOpenAnnounced handed SkippedPicture = Unit {0}
IsOpenAnnounced handed (OpenPicture open_) = IsAmong handed open_.head.number open_.head.picture

-- what is stored, and the open picture, are as they were announced
pub record AsAnnounced {H P : Type 0} (handed : Option (List Handed)) (w : driver.Standing H P)
    : Type 0 where
  pub stored : AreAnnounced handed (stored_entries w.dpb)
  pub current : IsOpenAnnounced handed w.current

pub record IsSound {H P : Type 0} (log : Option (List (Call H))) (handed : Option (List Handed))
    (w : driver.Standing H P) : Type 0 where
  -- the buffer has the size that was accepted
  pub sized : max_num_pics_of w.dpb ≡ accepted_size (option_map format_of w.accepted)
  pub latency : HaveLatency (stored_entries w.dpb)
  pub below : AreBelow w.next.number (tickets (stored_entries w.dpb))
  pub newest : IsOpenNewest w.current w
  pub told : WhereTold log (Fits w)
  pub announced : AsAnnounced handed w

-- how many pictures were output or may be output
abbrev pub total : {H P : Type 0} → driver.Standing H P → ℕ
total w = deque_len w.queue + num_waiting (buffer_of w.dpb)

-- There is room for so many pictures more than were output or are needed for output, and for 16
-- that are stored.
pub record HasRoom {H P : Type 0} (more : ℕ) (w : driver.Standing H P) : Type 0 where
  pub queue : total w + more ≤ deque_capacity w.queue
  pub stored : 16 ≤ room_of w.dpb

-- At most so many pictures more were output or are needed for output, in the same memory.
pub record Grows {H P : Type 0} (more : ℕ) (old new : driver.Standing H P) : Type 0 where
  pub few : total new ≤ total old + more
  pub capacity : deque_capacity new.queue ≡ deque_capacity old.queue
  pub stored : room_of new.dpb ≡ room_of old.dpb

-- It is sound again, with at most so many pictures more that were output or are
-- needed for output.
pub record StaysSound {H P : Type 0} (more : ℕ) (log : Option (List (Call H)))
    (handed : Option (List Handed)) (old new : driver.Standing H P) : Type 0 where
  pub sound : IsSound log handed new
  pub grows : Grows more old new
  -- the header of the latest independent slice segment stays
  pub kept : new.kept ≡ old.kept

-- so it is of a driver whose backend exposes these logs
abbrev pub IsSoundIn : {B H P : Type 0} → (log : B → Option (List (Call H)))
    → (handed : B → Option (List Handed)) → Driver B H P → Type 0
IsSoundIn log handed d = IsSound (log d.backend) (handed d.backend) d.standing

abbrev pub StaysSoundIn : {B H P : Type 0} → (more : ℕ) → (log : B → Option (List (Call H)))
    → (handed : B → Option (List Handed)) → Driver B H P → Driver B H P → Type 0
StaysSoundIn more log handed old new =
    StaysSound more (log new.backend) (handed new.backend) old.standing new.standing

-- with this header of the latest independent slice segment
abbrev pub with_header : {H P : Type 0} → Option SliceHeader → driver.Standing H P
    → driver.Standing H P
with_header kept w = record w { kept = kept }

-- Pictures are output, and some leave; none comes in.
pub record Leaves {H P : Type 0} (old new : driver.Standing H P) : Type 0 where
  pub handles : IsPartOf (tickets (stored_entries new.dpb)) (tickets (stored_entries old.dpb))
  -- nothing of them changes but their marks, and whether they are needed for output
  pub pictures :
      IsPartOf (stored_pictures (stored_entries new.dpb)) (stored_pictures (stored_entries old.dpb))
  pub size : max_num_pics_of new.dpb ≡ max_num_pics_of old.dpb
  pub latency : HaveLatency (stored_entries new.dpb)
  pub grows : Grows 0 old new
  pub accepted : new.accepted ≡ old.accepted
  pub current : new.current ≡ old.current
  pub kept : new.kept ≡ old.kept

-- the sets are the ones that the slice names (7.4.7.1, 7.4.3.3.1)
abbrev pub AreNamed : Slice → Sps → Pps → Type 0
AreNamed slice sps pps =
    (pps.pic_parameter_set_id ≡ slice.header.pic_parameter_set_id)
    × (sps.seq_parameter_set_id ≡ pps.seq_parameter_set_id)

-- A picture may begin with this slice: none is current, its format is the accepted one, and the
-- backend has a free frame.
pub record MayBegin {H P : Type 0} (has_frame : Bool) (log : Option (List (Call H)))
    (handed : Option (List Handed)) (slice : Slice) (sps : Sps) (pps : Pps)
    (w : driver.Standing H P) : Type 0 where
  pub none : current_of w.set w.current ≡ units.NoPicture
  pub accepted :
      is_accepted (format_of_set (plain_sps sps)) (option_map format_of w.accepted) ≡ true
  pub named : AreNamed slice sps pps
  pub frame : IsTrue has_frame
  pub sound : IsSound log handed w

-- so it may in a driver whose backend exposes these
abbrev pub MayBeginIn : {B H P : Type 0} → (frames : B → Frames) → (log : B → Option (List (Call H)))
    → (handed : B → Option (List Handed)) → Driver B H P → Slice → Sps → Pps → Type 0
MayBeginIn frames log handed d slice sps pps =
    MayBegin (frames d.backend).found (log d.backend) (handed d.backend) slice sps pps d.standing

-- The head of the next picture, which is decoded.
pub record IsNextHead {H P : Type 0} (head : Head) (sps : Sps) (w : driver.Standing H P) : Type 0 where
  pub number : head.number ≡ w.next.number
  pub counted : head.number < 2 ^ 64 - 1
  pub format : head.format ≡ info_of (format_of_set (plain_sps sps))
  pub decoded : is_decoded (head_of head) ≡ true
