-- Small streams that each break one thing, or nothing.
use Rattle.std.specs.Prelude.{ℕ, pos, List, [], ◌∷◌, ◌++◌}
use Rattle.hevc_walk.specs.Meanings.{P, NamedSets, Meaning, SequenceSet, CodedSlice, Other}
use Rattle.hevc_walk_examples.specs.Streams.{plain_format, deep_format, plain_sets, used_member, idr, idr_without_prior}
use Rattle.hevc_walk_examples.specs.References.{referring}
use Rattle.hevc_walk_examples.specs.Corners.{limited, intra, trailing, hidden}

-- these pictures under a sequence set and a picture set
abbrev pub stream_of : List Meaning → List Meaning
stream_of pictures = SequenceSet plain_format ∷ Other ∷ pictures

-- an IDR picture, and a picture of order count 4 that has a latency declared
abbrev pub late_second : List Meaning
late_second = stream_of (idr (limited 2 0 4) ∷ trailing (limited 2 1 4) 4 ∷ [])

-- an IDR picture, and one of order count 4 in another format
abbrev pub deep_second : List Meaning
deep_second = stream_of (idr (plain_sets plain_format) ∷ trailing (plain_sets deep_format) 4 ∷ [])

-- a buffer of two pictures, order counts 0, 1 and 2, and one of 2 under other limits
abbrev pub full_then_changed : List Meaning
full_then_changed =
    stream_of (idr (limited 2 0 1) ∷ trailing (limited 2 0 1) 1 ∷ trailing (limited 2 0 1) 2
    ∷ trailing (limited 2 0 2) 2 ∷ [])

-- order counts 0, 1 and 1 in that buffer
abbrev pub full_twin : List Meaning
full_twin =
    stream_of (idr (limited 2 0 1) ∷ trailing (limited 2 0 1) 1 ∷ trailing (limited 2 0 1) 1 ∷ [])

-- a CRA picture of order count 8, and RASL pictures after it, which are skipped
abbrev pub skipped_under : NamedSets → NamedSets → List ℕ → List Meaning
skipped_under sets own [] = CodedSlice (intra 21 sets 8) ∷ []
skipped_under sets own (lsb ∷ lsbs) =
    skipped_under sets own lsbs ++ CodedSlice (intra 9 own lsb) ∷ []

-- a picture of order count 4 that isn't to be output, and one of 2,
-- where none may precede one that is output before it
abbrev pub hidden_between : List Meaning
hidden_between =
    stream_of (idr (limited 0 0 4) ∷ hidden (limited 0 0 4) 4 ∷ trailing (limited 0 0 4) 2 ∷ [])

-- an IDR picture and one of its order count that isn't to be output
abbrev pub hidden_twin : List Meaning
hidden_twin = stream_of (idr (plain_sets plain_format) ∷ hidden (plain_sets plain_format) 0 ∷ [])

-- a CRA picture within a sequence
abbrev pub cra_within : List Meaning
cra_within =
    stream_of (idr (limited 2 0 4) ∷ CodedSlice (intra 21 (limited 2 0 4) 8) ∷ [])

-- a first picture that discards nothing, since there is nothing before it
abbrev pub first_without_prior : List Meaning
first_without_prior = stream_of (idr_without_prior (plain_sets plain_format) ∷ [])

-- three sequences: the second one finds a full buffer of two pictures, the third has other limits
abbrev pub full_at_start : List Meaning
full_at_start =
    stream_of (idr (limited 2 0 1) ∷ trailing (limited 2 0 1) 1 ∷ idr (limited 2 0 1)
    ∷ idr (limited 0 0 4) ∷ [])

-- Order counts 0, 4 and 8 in a buffer of two pictures, a picture that isn't to be output, for which
-- 4 is bumped, and one of 2, which finds room.
abbrev pub full_before : List Meaning
full_before =
    stream_of (idr (limited 2 0 1) ∷ trailing (limited 2 0 1) 4 ∷ trailing (limited 2 0 1) 8
    ∷ hidden (limited 2 0 1) 9 ∷ trailing (limited 2 0 1) 2 ∷ [])

-- order counts 0, 4, 8, 9, 10 and 4 where SpsMaxLatencyPictures is 2
abbrev pub late_twin : List Meaning
late_twin =
    stream_of (idr (limited 2 1 4) ∷ trailing (limited 2 1 4) 4 ∷ trailing (limited 2 1 4) 8
    ∷ trailing (limited 2 1 4) 9 ∷ trailing (limited 2 1 4) 10 ∷ trailing (limited 2 1 4) 4 ∷ [])

-- a CRA picture of order count 8, and one of 4 that refers to it, in a buffer of one picture
abbrev pub full_reference : List Meaning
full_reference =
    stream_of (CodedSlice (intra 21 (limited 0 0 0) 8)
    ∷ CodedSlice (record (referring P 4 [] (used_member (pos 4) ∷ []) [] 1) {
      sets = limited 0 0 0;
    })
    ∷ [])

-- the same, but the one that refers to it is a RASL picture, which is skipped, and one of 9 follows
abbrev pub full_skipped : List Meaning
full_skipped =
    stream_of (CodedSlice (intra 21 (limited 0 0 0) 8)
    ∷ CodedSlice (record (referring P 6 [] (used_member (pos 2) ∷ []) [] 1) {
      nal_unit_type = 9;
      sets = limited 0 0 0;
    })
    ∷ trailing (limited 0 0 0) 9 ∷ [])

-- order counts 0 and 4 fill a buffer of two pictures as one of 0 comes that isn't to be output
abbrev pub full_hidden : List Meaning
full_hidden =
    stream_of (idr (limited 2 0 1) ∷ trailing (limited 2 0 1) 4 ∷ hidden (limited 2 0 1) 0 ∷ [])

-- an IDR picture, and one that discards and has a latency declared
abbrev pub late_discarding : List Meaning
late_discarding = stream_of (idr (limited 2 0 4) ∷ idr_without_prior (limited 2 1 4) ∷ [])

-- order counts 0, 4, 1, 2 and 4 where SpsMaxLatencyPictures is 2: two are decoded between the twins
abbrev pub twin_at_latency : List Meaning
twin_at_latency =
    stream_of (idr (limited 2 1 4) ∷ trailing (limited 2 1 4) 4 ∷ trailing (limited 2 1 4) 1
    ∷ trailing (limited 2 1 4) 2 ∷ trailing (limited 2 1 4) 4 ∷ [])
