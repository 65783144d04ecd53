-- A list of units that begins at a point where decoding can start, with parameter sets before it.
use Rattle.std.specs.Prelude.{◌≡◌, ℕ, ◌+◌, ◌-◌, Bool, true, false, not, ◌||◌, List, ◌++◌, map}
use Rattle.std.specs.Prelude.{filter, drop, nat_le, Contains, Option, Some, None}
use Rattle.hevc_spec.specs.UnitTypes.{is_idr, is_bla}
use Rattle.hevc_walk.specs.Meanings.{Meaning, SequenceSet, Other}
use Rattle.hevc_walk.specs.Pictures.{Picture, pictures}
use Rattle.hevc_walk.specs.ReferenceSets.{RefPicSet}
use Rattle.hevc_walk.specs.ReferenceLists.{RefPicListEntry, CurrentPicture, DpbEntry}
use Rattle.hevc_walk.specs.Walk.{Call, NewSequence, NewPicture, BeginPicture, DecodeSlice}
use Rattle.hevc_walk.specs.Walk.{SubmitPicture}
use Rattle.hevc_walk.specs.Results.{OutputPicture}

-- what a video, sequence or picture set may mean
abbrev pub IsOfSet : Meaning → Type 0
IsOfSet (SequenceSet format) = Unit {0}
IsOfSet Other = Unit {0}
IsOfSet u = ⊥

-- A point where decoding can start: an IDR or BLA picture, whose coded video sequence refers to
-- nothing before it (8.1.3, 8.3.2). Its temporal id is 0, as that of every IRAP picture has to be
-- (7.4.2.2).
pub record IsPoint (us : List Meaning) (p : Picture) : Type 0 where
  pub among : Contains (pictures us) p
  pub nal_unit_type : is_idr p.nal_unit_type || is_bla p.nal_unit_type ≡ true
  pub temporal_id : p.first.temporal_id ≡ 0

-- the units from its first slice on, after these sets
abbrev pub spliced : List Meaning → Picture → List Meaning → List Meaning
spliced sets p us = sets ++ drop p.unit us

abbrev pub is_new_sequence : Call → Bool
is_new_sequence (NewSequence info) = true
is_new_sequence c = false

abbrev pub without_sequences : List (ℕ × Call) → List (ℕ × Call)
without_sequences cs = filter (λ c. not (is_new_sequence c.1)) cs

-- a call is for a picture from number n on; NewSequence is for none
abbrev pub is_for : ℕ → Call → Bool
is_for n (NewSequence info) = false
is_for n (NewPicture number nal_unit_type order_count output timestamp) = nat_le n number
is_for n (BeginPicture number set) = nat_le n number
is_for n (DecodeSlice number address bytes list0 list1) = nat_le n number
is_for n (SubmitPicture number) = nat_le n number

abbrev pub calls_for : ℕ → List (ℕ × Call) → List (ℕ × Call)
calls_for n cs = filter (λ c. is_for n c.1) cs

-- the outputs of pictures from number n on
abbrev pub outputs_for : ℕ → List OutputPicture → List OutputPicture
outputs_for n os = filter (λ o. nat_le n o.number) os

-- a reference picture set, a list entry and a call with f m in place of each picture number m
abbrev pub numbered_member : (ℕ → ℕ) → Option ℕ → Option ℕ
numbered_member f None = None
numbered_member f (Some m) = Some (f m)

abbrev pub numbered_set : (ℕ → ℕ) → RefPicSet → RefPicSet
numbered_set f set = record {
  st_curr_before = map (numbered_member f) set.st_curr_before;
  st_curr_after = map (numbered_member f) set.st_curr_after;
  st_foll = map (numbered_member f) set.st_foll;
  lt_curr = map (numbered_member f) set.lt_curr;
  lt_foll = map (numbered_member f) set.lt_foll;
}

abbrev pub numbered_entry : (ℕ → ℕ) → Option RefPicListEntry → Option RefPicListEntry
numbered_entry f None = None
numbered_entry f (Some CurrentPicture) = Some CurrentPicture
numbered_entry f (Some (DpbEntry m)) = Some (DpbEntry (f m))

abbrev pub numbered_call : (ℕ → ℕ) → Call → Call
numbered_call f (NewSequence info) = NewSequence info
numbered_call f (NewPicture m nal_unit_type order_count output timestamp) =
    NewPicture (f m) nal_unit_type order_count output timestamp
numbered_call f (BeginPicture m set) = BeginPicture (f m) (numbered_set f set)
numbered_call f (DecodeSlice m address bytes list0 list1) =
    DecodeSlice (f m) address bytes
    (map (numbered_entry f) list0) (map (numbered_entry f) list1)
numbered_call f (SubmitPicture m) = SubmitPicture (f m)

-- picture n becomes picture 0, and unit v unit k
abbrev pub moved_call : ℕ → ℕ → ℕ → ℕ × Call → ℕ × Call
moved_call n v k c = (c.0 - v + k, numbered_call (λ m. m - n) c.1)

abbrev pub moved_output : ℕ → ℕ → ℕ → OutputPicture → OutputPicture
moved_output n v k o = record o { number = o.number - n; unit = o.unit - v + k }

-- picture 0 becomes picture n, and unit k unit v
abbrev pub moved_back_call : ℕ → ℕ → ℕ → ℕ × Call → ℕ × Call
moved_back_call n v k c = (c.0 - k + v, numbered_call (λ m. n + m) c.1)

abbrev pub moved_back_output : ℕ → ℕ → ℕ → OutputPicture → OutputPicture
moved_back_output n v k o = record o { number = n + o.number; unit = o.unit - k + v }
