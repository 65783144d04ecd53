-- What taking a unit of a stream does to the walk.
use Rattle.std.specs.Prelude.{◌≡◌, ℕ, is_some, List, Option, None, Result, Ok, Err}
use Rattle.hevc_stream.specs.Stream.{meaning, kept_behind}
use Rattle.hevc_kept_sets.specs.Kept.{kept_of, options_in}
use Rattle.hevc_check.specs.declared.begun.Begun.{Begun}
use Rattle.hevc_check.specs.declared.unlike.Unlike.{Unlike}
use Rattle.hevc_check.specs.declared.units.Walk.{Walk}
use Rattle.hevc_check.specs.Places.{after_unit, first_slice, Takes}

-- a format was negotiated exactly where some sequence set is kept
abbrev pub HasStarted : Walk → Type 0
HasStarted w = is_some w.pictures.store.accepted ≡ (kept_of w.sets).has_sequence_set

-- what is kept after a unit of these bytes
abbrev pub KeepsBehind : {T : Type 0} → Result T Unlike → List ℕ → Walk → Walk → Type 0
KeepsBehind (Ok told) bytes old new =
    (kept_of new.sets ≡ kept_behind (options_in old.sets) (kept_of old.sets) bytes) × HasStarted new
KeepsBehind (Err e) bytes old new = Unit {0}

-- A unit of these bytes was taken.
pub record TakesUnit (result : Result (Option Begun) Unlike) (bytes : List ℕ) (old new : Walk)
    : Type 0 where
  pub takes : Takes result (meaning (options_in old.sets) (kept_of old.sets) bytes)
      old.pictures new.pictures
  pub kept : KeepsBehind result bytes old new

-- The unit of a parameter set was taken.
pub record TakesSet (bytes : List ℕ) (old new : Walk) : Type 0 where
  pub first : first_slice (meaning (options_in old.sets) (kept_of old.sets) bytes) old.pictures
      ≡ None
  pub after_unit : new.pictures
      ≡ after_unit (meaning (options_in old.sets) (kept_of old.sets) bytes) old.pictures
  pub kept : kept_of new.sets ≡ kept_behind (options_in old.sets) (kept_of old.sets) bytes
