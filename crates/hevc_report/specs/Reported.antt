-- What a backend that reports its calls tells.
use Rattle.std.specs.Prelude.{ℕ, Bool, List}
use Rattle.hevc_backend.specs.declared.call.Call.{Call}

pub record Reported : Type 0 where
  -- the calls that it took
  pub log : List (Call ℕ)
  -- it was asked for frames, and no picture has begun since
  pub room : Bool
