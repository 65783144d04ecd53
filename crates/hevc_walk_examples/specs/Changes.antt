-- Streams that each turn on what changes between pictures: limits, the format, a stop.
use Rattle.std.specs.Prelude.{ℕ, negsuc, true, ◌^◌, List, [], ◌∷◌, ◌++◌, map, replicate}
use Rattle.hevc_walk.specs.Meanings.{Format, I, P, Meaning, SequenceSet, CodedSlice, Other, Refused}
use Rattle.hevc_walk.specs.Meanings.{OutOfBits}
use Rattle.hevc_walk.specs.Walk.{Call, NewSequence, NewPicture, BeginPicture, DecodeSlice}
use Rattle.hevc_walk.specs.Walk.{SubmitPicture}
use Rattle.hevc_walk.specs.Results.{calls}
use Rattle.hevc_walk_examples.specs.Streams.{plain_format, deep_format, tight_format, tight_sets}
use Rattle.hevc_walk_examples.specs.Streams.{plain_sets, plain_header, later_slice, used_member}
use Rattle.hevc_walk_examples.specs.Streams.{idr, idr_without_prior, p4, cra, rasl6, t0}
use Rattle.hevc_walk_examples.specs.Corners.{sets, limited, intra, trailing}
use Rattle.hevc_walk_examples.specs.References.{referring}

-- two pictures are needed for output under a reordering of 2; the next sequence, which discards
-- them, has one of 0
abbrev pub discarded_waiting : List Meaning
discarded_waiting =
    SequenceSet plain_format ∷ Other ∷ idr (limited 2 0 4) ∷ trailing (limited 2 0 4) 4
    ∷ idr_without_prior (limited 0 0 4) ∷ []

-- the same, but the third picture belongs to the same sequence
abbrev pub narrowed : List Meaning
narrowed =
    SequenceSet plain_format ∷ Other ∷ idr (limited 2 0 4) ∷ trailing (limited 2 0 4) 4
    ∷ trailing (limited 0 0 4) 2 ∷ []

-- a P picture of these low bits that refers to the picture so much before it,
-- where SpsMaxLatencyPictures is 2
abbrev pub late_p : ℕ → ℕ → Meaning
late_p lsb distance_minus1 =
    CodedSlice (record (referring P lsb (used_member (negsuc distance_minus1) ∷ []) [] [] 1) {
      sets = limited 2 1 4;
    })

-- order counts 0, 4, 8 and 12: the first picture is referred to after it was output
abbrev pub late_reference : List Meaning
late_reference =
    SequenceSet plain_format ∷ Other ∷ idr (limited 2 1 4) ∷ late_p 4 3 ∷ late_p 8 7
    ∷ trailing (limited 2 1 4) 12 ∷ []

-- each of these formats differs from the one before it in one number
abbrev pub wide_format : Format
wide_format = record plain_format { coded_width = 32 }

abbrev pub tall_format : Format
tall_format = record wide_format { coded_height = 32 }

abbrev pub ten_bits_format : Format
ten_bits_format = record tall_format { general_profile_idc = 2 }

abbrev pub chroma_format : Format
chroma_format = record ten_bits_format { bit_depth_chroma_minus8 = 2 }

abbrev pub full_format : Format
full_format = record chroma_format { chroma_format_idc = 3 }

abbrev pub small_format : Format
small_format = record full_format { max_num_pics = 6 }

-- an IDR picture of each, and one more of the last
abbrev pub reformed : List Meaning
reformed = SequenceSet plain_format
    ∷ map (λ format. idr (plain_sets format))
    (plain_format ∷ wide_format ∷ tall_format ∷ ten_bits_format ∷ chroma_format ∷ full_format
    ∷ small_format ∷ small_format ∷ [])

abbrev pub formats_in : List (ℕ × Call) → List (ℕ × Format)
formats_in [] = []
formats_in ((u, NewSequence format) ∷ cs) = (u, format) ∷ formats_in cs
formats_in ((u, NewPicture number t c o s) ∷ cs) = formats_in cs
formats_in ((u, BeginPicture number set) ∷ cs) = formats_in cs
formats_in ((u, DecodeSlice number address bytes list0 list1) ∷ cs) = formats_in cs
formats_in ((u, SubmitPicture number) ∷ cs) = formats_in cs

-- each format that is negotiated, with the unit
abbrev pub negotiated : List Meaning → List (ℕ × Format)
negotiated us = formats_in (calls us)

-- six pictures fill the buffer, and a RASL picture after them is skipped
abbrev pub crowded_skipped : List Meaning
crowded_skipped =
    SequenceSet tight_format ∷ Other ∷ CodedSlice (intra 21 tight_sets 0)
    ∷ replicate 5 (t0 tight_sets) ++ CodedSlice (intra 9 tight_sets 1) ∷ []

-- a skipped RASL picture whose later slice names a set of another format
abbrev pub skipped_deeper : List Meaning
skipped_deeper =
    SequenceSet plain_format ∷ Other ∷ cra ∷ rasl6 ∷ SequenceSet deep_format ∷ Other
    ∷ CodedSlice (later_slice 9 [] (plain_sets deep_format) (plain_header I 6 [] [] 0)) ∷ []

-- two pictures are needed for output, and a CRA picture that would discard them has an order count
-- of 2 ^ 31
abbrev pub far_discard : List Meaning
far_discard =
    SequenceSet plain_format ∷ Other ∷ idr (limited 2 0 4) ∷ trailing (limited 2 0 4) 4
    ∷ CodedSlice (record (intra 21 (record sets { max_pic_order_cnt_lsb = 2 ^ 33 }) (2 ^ 31)) {
      handled_as_bla = true;
    })
    ∷ []

-- a refused unit while the first picture waits
abbrev pub stopped_waiting : List Meaning
stopped_waiting = SequenceSet plain_format ∷ Other ∷ idr sets ∷ p4 ∷ Refused OutOfBits ∷ []
