-- Calls and outputs that break what decoding promises.
use Rattle.std.specs.Prelude.{ℕ, pos, negsuc, List, [], ◌∷◌}
use Rattle.hevc_walk.specs.Meanings.{P, Meaning, SequenceSet, CodedSlice, Other}
use Rattle.hevc_walk_examples.specs.Streams.{plain_format, used_member, idr}
use Rattle.hevc_walk_examples.specs.Corners.{sets, limited}
use Rattle.hevc_walk_examples.specs.References.{referring}
use Rattle.hevc_backend.specs.declared.call.Call.{Call}
use Rattle.hevc_backend.specs.declared.call.Call.TheVariants.{SubmitPicture}
use Rattle.hevc_decoder.specs.declared.decoded.Shown.{Shown}

-- a picture is submitted, and gets this handle
abbrev pub submitted : (number handle : ℕ) → Call ℕ
submitted number handle = SubmitPicture number handle

-- a picture of this number is output with this handle
abbrev pub shown : (number handle : ℕ) → Shown ℕ
shown number handle = record {
  number = number;
  handle = handle;
  order_count = pos 0;
  unit = 0;
}

-- the third picture refers to both before it, and declares one
abbrev pub overstored : List Meaning
overstored =
    SequenceSet plain_format ∷ Other ∷ idr sets
    ∷ CodedSlice (referring P 1 (used_member (negsuc 0) ∷ []) [] [] 1)
    ∷ CodedSlice (record
    (referring P 2 (used_member (negsuc 0) ∷ used_member (negsuc 1) ∷ []) [] [] 1)
    { sets = limited 1 0 1 })
    ∷ []
