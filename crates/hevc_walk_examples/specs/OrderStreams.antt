-- Small streams, as lists of what their units mean.
use Rattle.std.specs.Prelude.{ℕ, ℤ, List, [], ◌∷◌, map, reverse}
use Rattle.hevc_walk.specs.Meanings.{I, NamedSets, Meaning, SequenceSet, CodedSlice, Other}
use Rattle.hevc_walk.specs.Results.{OutputPicture, outputs}
use Rattle.hevc_walk_examples.specs.Streams.{plain_format, plain_sets, plain_header, first_slice}
use Rattle.hevc_walk_examples.specs.Streams.{idr, p4, p2}
use Rattle.hevc_walk_order.specs.Sequences.{Sequence, sequences, pictures_of, outputs_of}

-- TRAIL_R, an I slice of order count 2
abbrev pub i2 : Meaning
i2 =
    CodedSlice (first_slice 1 (2 ∷ 1 ∷ 217 ∷ 60 ∷ 128 ∷ []) (plain_sets plain_format)
    (plain_header I 2 [] [] 0))

-- the same of order count 1
abbrev pub i1 : Meaning
i1 =
    CodedSlice (first_slice 1 (2 ∷ 1 ∷ 216 ∷ 188 ∷ 128 ∷ []) (plain_sets plain_format)
    (plain_header I 1 [] [] 0))

-- A sequence that begins without an IRAP picture, of order counts 4 and
-- 2, then one of 0, 4 and 2. The sets declare that at most one picture
-- precedes another in decoding order and follows it in output order.
abbrev pub two_sequences : List Meaning
two_sequences =
    SequenceSet plain_format ∷ Other ∷ p4 ∷ p2 ∷ idr (plain_sets plain_format) ∷ p4 ∷ p2 ∷ []

-- under the same sets order counts 0, 4, 2 and 1: two pictures precede the last,
-- and are to be output after it
abbrev pub reordered_too_far : List Meaning
reordered_too_far =
    SequenceSet plain_format ∷ Other ∷ idr (plain_sets plain_format) ∷ p4 ∷ i2 ∷ i1 ∷ []

-- sets that declare at most 2 pictures so, with a latency and a size of the buffer
abbrev pub sets_of : ℕ → ℕ → NamedSets
sets_of increase buffering = record (plain_sets plain_format) {
  limits = record {
    max_num_reorder_pics = 2;
    max_latency_increase_plus1 = increase;
    max_dec_pic_buffering_minus1 = buffering;
  };
}

-- TRAIL_R, an I slice of this order count; its bytes are left out
abbrev pub i_picture : NamedSets → ℕ → Meaning
i_picture sets lsb = CodedSlice (first_slice 1 [] sets (plain_header I lsb [] [] 0))

-- an IDR picture and I pictures of these order counts, with no references
abbrev pub counts_under : NamedSets → List ℕ → List Meaning
counts_under sets counts = SequenceSet plain_format ∷ Other ∷ idr sets ∷ map (i_picture sets) counts

-- order counts 0, 4, 8, 2 and 3: two pictures are between those of 4 and 3
abbrev pub late_stream : ℕ → List Meaning
late_stream increase = counts_under (sets_of increase 4) (4 ∷ 8 ∷ 2 ∷ 3 ∷ [])

-- a buffer of two pictures, and order counts 0, 1 and 2
abbrev pub full_stream : List Meaning
full_stream = counts_under (sets_of 0 1) (1 ∷ 2 ∷ [])

-- the same with order counts 0, 4, 3 and 1
abbrev pub overfull_stream : List Meaning
overfull_stream = counts_under (sets_of 0 1) (4 ∷ 3 ∷ 1 ∷ [])

-- the numbers of the pictures of each sequence, latest first
abbrev pub sequence_numbers : List Meaning → List (List ℕ)
sequence_numbers us = map (λ (q : Sequence). map (λ p. p.number) (pictures_of q)) (sequences us)

-- the order counts of the outputs of each sequence, in output order, and the latest sequence first
abbrev pub output_counts : List Meaning → List (List ℤ)
output_counts us =
    map (λ (q : Sequence). map (λ o. o.order_count) (outputs_of q (outputs us))) (sequences us)

-- the outputs of some units, the last one first
abbrev pub last_first : List Meaning → List OutputPicture
last_first us = reverse (outputs us)
