-- Sources and sinks over memory, and the calls of them that fail.
use Rattle.std.specs.Prelude.{◌≡◌, ℕ, ◌+◌, ◌-◌, ◌^◌, ◌↔◌, Contains, List, min}

-- which calls fail, by their numbers from 1, how many were made, and how many of these failed
pub record Plan : Type 0 where
  pub failing : List ℕ
  pub calls : ℕ
  pub faults : ℕ

-- a call was made, which fails exactly where its number is in the list of those that do; the list
-- is kept
pub record CountsCall (fails : Type 0) (old new : Plan) : Type 0 where
  pub planned : fails ↔ Contains old.failing (old.calls + 1)
  pub failing : new.failing ≡ old.failing
  pub calls : new.calls ≡ min (old.calls + 1) (2 ^ 64 - 1)

-- what a source over memory has left, and its plan
pub record Supply : Type 0 where
  pub left : List ℕ
  pub plan : Plan

-- what a sink over memory was given, and its plan
pub record Store : Type 0 where
  pub written : List ℕ
  pub plan : Plan
