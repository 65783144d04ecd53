-- Latency counts without a cap (C.5.2.3), beside those of the walk, which stop at 2 ^ 31 - 1.
use Rattle.std.specs.Prelude.{◌+◌, ◌-◌, ◌^◌, min, [], ◌∷◌, ◌++◌, map}
use Rattle.hevc_walk.specs.Pictures.{Head}
use Rattle.hevc_walk.specs.Buffer.{Entry, Buffer, Bumped, entry_of}

-- an entry with its count stopped
abbrev pub capped : Entry → Entry
capped e = record e { latency_count = min e.latency_count (2 ^ 31 - 1) }

abbrev pub capped_bumped : Bumped → Bumped
capped_bumped b = record { outputs = map capped b.outputs; left = map capped b.left }

-- one picture more is stored after it, and its count goes on
abbrev pub with_uncapped_latency : Entry → Entry
with_uncapped_latency e = record e { latency_count = e.latency_count + 1 }

-- the buffer with this picture stored
abbrev pub with_stored_uncapped : Head → Buffer → Buffer
with_stored_uncapped p es = map with_uncapped_latency es ++ entry_of p ∷ []
