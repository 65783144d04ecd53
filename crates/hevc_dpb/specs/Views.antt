-- What contracts say of a buffer.
use Rattle.std.specs.Prelude.{ℕ, Bool, List}
use Rattle.std.specs.Vec.{vec_capacity}
use Rattle.hevc_walk.specs.Buffer.{Buffer}
use Rattle.hevc_dpb.specs.declared.entry.DpbEntry.{DpbEntry}
use Rattle.hevc_dpb.specs.declared.dpb.Dpb.{Dpb}
use Rattle.hevc_dpb.specs.Plain.{plain_entries}

-- the stored pictures, in stored order
abbrev pub stored_entries : {T : Type 0} → Dpb T → List (DpbEntry T)
stored_entries dpb = dpb.entries.items

-- how many pictures it may hold
abbrev pub max_num_pics_of : {T : Type 0} → Dpb T → ℕ
max_num_pics_of dpb = dpb.max_num_pics

-- how many pictures there is memory for, those that are stored included
abbrev pub room_of : {T : Type 0} → Dpb T → ℕ
room_of dpb = vec_capacity dpb.entries

-- the waiting pictures are to be put in order again
abbrev pub is_stale : {T : Type 0} → Dpb T → Bool
is_stale dpb = dpb.stale

-- the buffer as the walk's
abbrev pub buffer_of : {T : Type 0} → Dpb T → Buffer
buffer_of dpb = plain_entries (stored_entries dpb)
