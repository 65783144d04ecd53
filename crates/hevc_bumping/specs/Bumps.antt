-- What bumping does to a buffer, and to the queue of pictures that are output.
use Rattle.std.specs.Prelude.{◌≡◌, ℕ, ◌+◌, List, ◌++◌, length, map}
use Rattle.std.specs.declared.collections.VecDeque.{VecDeque}
use Rattle.std.specs.VecDeque.{deque_capacity}
use Rattle.hevc_walk.specs.Buffer.{Buffer, Bumped, in_output_order}
use Rattle.hevc_dpb.specs.declared.dpb.Dpb.{Dpb}
use Rattle.hevc_dpb.specs.Entries.{IsPartOf, tickets}
use Rattle.hevc_dpb.specs.Output.{as_output}
use Rattle.hevc_dpb.specs.Plain.{HaveLatency}
use Rattle.hevc_dpb.specs.Views.{stored_entries, max_num_pics_of, room_of, buffer_of}
use Rattle.hevc_bumping.specs.declared.frame.Frame.{Frame}
use Rattle.hevc_bumping.specs.Frames.{frame_ticket, frame_output, entry_output}

-- how many entries are needed for output
abbrev pub num_waiting : Buffer → ℕ
num_waiting es = length (in_output_order es)

-- These entries are output, each with the handle that was stored with it, and these are left.
pub record Bumps {H Z : Type 0} (bumped : Bumped) (old new : Dpb H)
    (before now : VecDeque (Frame H) Z) : Type 0 where
  pub out : List (Frame H)
  pub appended : now.items ≡ before.items ++ out
  pub given : map frame_output out ≡ map entry_output bumped.outputs
  pub left : buffer_of new ≡ bumped.left
  pub out_handles : IsPartOf (map frame_ticket out) (tickets (stored_entries old))
  pub handles : IsPartOf (tickets (stored_entries new)) (tickets (stored_entries old))
  -- nothing of those that are left has changed but whether they are needed for output
  pub entries : IsPartOf (map as_output (stored_entries new)) (map as_output (stored_entries old))
  pub size : max_num_pics_of new ≡ max_num_pics_of old
  pub room : room_of new ≡ room_of old
  pub latency : HaveLatency (stored_entries new)
  pub capacity : deque_capacity now ≡ deque_capacity before
  -- each output is no longer needed for output
  pub fewer : length out + num_waiting (buffer_of new) ≡ num_waiting (buffer_of old)
