-- A stream with two points where decoding can start, and streams that miss a premise of the law.
use Rattle.std.specs.Prelude.{true, negsuc, List, [], ◌∷◌}
use Rattle.hevc_walk.specs.Meanings.{Meaning, SequenceSet, CodedSlice, Other, I, P}
use Rattle.hevc_walk_examples.specs.Streams.{plain_format, plain_sets, plain_header, first_slice}
use Rattle.hevc_walk_examples.specs.Streams.{idr, idr_bytes, idr_without_prior, dependent_bytes, p4}

abbrev pub two_points : List Meaning
two_points =
    SequenceSet plain_format ∷ Other ∷ idr (plain_sets plain_format) ∷ p4
    ∷ idr_without_prior (plain_sets plain_format) ∷ p4 ∷ []

-- its sets
abbrev pub its_sets : List Meaning
its_sets = SequenceSet plain_format ∷ Other ∷ []

-- an IDR picture of temporal id 1, which no stream may have (7.4.2.2)
abbrev pub high_idr : Meaning
high_idr =
    CodedSlice (record
    (first_slice 19 idr_bytes (plain_sets plain_format) (plain_header I 0 [] [] 0)) {
      temporal_id = 1;
    })

-- TRAIL_R, a P slice of order count 8 that refers to 0
abbrev pub p8 : Meaning
p8 = CodedSlice (first_slice 1 [] (plain_sets plain_format) (plain_header P 8 (negsuc 7 ∷ []) [] 1))

-- a dependent slice with the first-slice flag, which no header is read as (7.3.6.1)
abbrev pub dependent_first : Meaning
dependent_first =
    CodedSlice (record
    (first_slice 19 dependent_bytes (plain_sets plain_format) (plain_header I 0 [] [] 0)) {
      dependent_slice_segment_flag = true;
    })
