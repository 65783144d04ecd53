-- The parameter sets that are kept (7.4.2.4.2): of each id the latest one. A picture set stays as
-- it was read, also where the sequence set that it names is replaced.
use Rattle.std.specs.Prelude.{ℕ, ◌==◌, Bool, false, true, List, [], ◌∷◌, ◌++◌, if◌then◌else◌}
use Rattle.std.specs.Prelude.{Option, Some, None}
use Rattle.hevc_records.specs.Vps.{PlainVps}
use Rattle.hevc_records.specs.Sps.{PlainSps}
use Rattle.hevc_records.specs.Pps.{PlainPps}

-- The sets that are kept, by their ids, and the units of picture sets that couldn't be read yet.
pub record Kept : Type 0 where
  pub video_sets : ℕ → Option PlainVps
  pub sequence_sets : ℕ → Option PlainSps
  pub picture_sets : ℕ → Option PlainPps
  -- some sequence set is kept
  pub has_sequence_set : Bool
  -- the bytes of each unit that waits, in the order in which they came
  pub waiting : List (List ℕ)

-- at the beginning of a stream
abbrev pub none_kept : Kept
none_kept = record {
  video_sets = λ id. None;
  sequence_sets = λ id. None;
  picture_sets = λ id. None;
  has_sequence_set = false;
  waiting = [];
}

-- one more set, in the place of an earlier one of its id
abbrev pub with_set : {A : Type 0} → ℕ → A → (ℕ → Option A) → ℕ → Option A
with_set id set sets k = if k == id then Some set else sets k

abbrev pub with_video_set : PlainVps → Kept → Kept
with_video_set set kept =
    record kept { video_sets = with_set set.video_parameter_set_id set kept.video_sets }

abbrev pub with_sequence_set : PlainSps → Kept → Kept
with_sequence_set set kept = record kept {
  sequence_sets = with_set set.seq_parameter_set_id set kept.sequence_sets;
  has_sequence_set = true;
}

abbrev pub with_picture_set : PlainPps → Kept → Kept
with_picture_set set kept =
    record kept { picture_sets = with_set set.pic_parameter_set_id set kept.picture_sets }

-- a unit waits after those that wait already
abbrev pub with_waiting : List ℕ → Kept → Kept
with_waiting bytes kept = record kept { waiting = kept.waiting ++ bytes ∷ [] }
