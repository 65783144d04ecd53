-- The places of units once there is one more before them.
use Rattle.std.specs.Prelude.{ℕ, ◌+◌, nat_le, if◌then◌else◌, Result, Ok, Err}
use Rattle.hevc_walk.specs.Walk.{Call}
use Rattle.hevc_walk.specs.Refusals.{Refusal}
use Rattle.hevc_walk.specs.Results.{OutputPicture}

-- a unit's place once there is one more unit at place k
abbrev pub raised : ℕ → ℕ → ℕ
raised k u = if nat_le k u then u + 1 else u

abbrev pub raised_call : ℕ → ℕ × Call → ℕ × Call
raised_call k c = (raised k c.0, c.1)

abbrev pub raised_output : ℕ → OutputPicture → OutputPicture
raised_output k o = record o { unit = raised k o.unit }

abbrev pub raised_verdict : ℕ → Result ℕ Refusal → Result ℕ Refusal
raised_verdict k (Ok n) = Ok n
raised_verdict k (Err r) = Err (record r { unit = raised k r.unit })
