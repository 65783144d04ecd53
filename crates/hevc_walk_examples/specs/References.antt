-- Streams that each turn on what a picture may refer to.
use Rattle.std.specs.Prelude.{ℕ, ℤ, pos, negsuc, ◌-◌, ◌*◌, ◌^◌, true, false, List, [], ◌∷◌, Some}
use Rattle.std.specs.Prelude.{None}
use Rattle.hevc_walk.specs.Meanings.{ShortTermMember, LongTermMember, SliceType, B, I, P, Slice}
use Rattle.hevc_walk.specs.Meanings.{Meaning, SequenceSet, CodedSlice, EndOfSequence, Other}
use Rattle.hevc_walk_examples.specs.Streams.{plain_format, plain_header, first_slice, later_slice}
use Rattle.hevc_walk_examples.specs.Streams.{idr, p4, cra, used_member}
use Rattle.hevc_walk_examples.specs.Corners.{sets, limited, screen_sets, intra, trailing, places}
use Rattle.hevc_walk_examples.specs.Corners.{long_member, short_member, dependent_of}

abbrev pub unused_member : ℤ → ShortTermMember
unused_member delta = short_member delta false

-- a slice of these low bits with these short-term members before it and after it,
-- these long-term ones, and two lists of this many places
abbrev pub referring : SliceType → ℕ → List ShortTermMember → List ShortTermMember
    → List LongTermMember → ℕ → Slice
referring slice_type lsb negative positive long_term n =
    first_slice 1 [] sets (record (plain_header slice_type lsb [] [] 0) {
      short_term_ref_pic_set = record { negative_pics = negative; positive_pics = positive };
      long_term_pics = long_term;
      list0 = places n;
      list1 = places n;
    })

-- order counts 0, 2, 8 and 4: a B picture has one before it, one after it,
-- and a long-term one that is named by its whole count
abbrev pub between : List Meaning
between = SequenceSet plain_format ∷ Other ∷ idr sets
    ∷ CodedSlice (referring P 2 (used_member (negsuc 1) ∷ []) [] [] 1)
    ∷ CodedSlice (referring P 8 (used_member (negsuc 5) ∷ used_member (negsuc 7) ∷ []) [] [] 1)
    ∷ CodedSlice (referring B 4 (used_member (negsuc 3) ∷ []) (used_member (pos 4) ∷ [])
    (long_member 2 (Some 0) true ∷ []) 4)
    ∷ []

-- order counts 0, 8, 4, 6 and 7: the picture of 8 is first kept
-- for later ones alone, and then referred to twice
abbrev pub kept_for_later : List Meaning
kept_for_later = SequenceSet plain_format ∷ Other ∷ idr sets
    ∷ CodedSlice (referring P 8 (used_member (negsuc 7) ∷ []) [] [] 1)
    ∷ CodedSlice (referring P 4 (used_member (negsuc 3) ∷ []) (unused_member (pos 4) ∷ []) [] 1)
    ∷ CodedSlice (referring P 6 (used_member (negsuc 1) ∷ []) (used_member (pos 2) ∷ []) [] 1)
    ∷ CodedSlice (referring P 7 (used_member (negsuc 0) ∷ []) (used_member (pos 1) ∷ []) [] 1)
    ∷ []

-- order counts 0, 8 and 4: the last picture keeps both others for later ones alone
abbrev pub kept_on_both_sides : List Meaning
kept_on_both_sides = SequenceSet plain_format ∷ Other ∷ idr sets
    ∷ CodedSlice (referring P 8 (used_member (negsuc 7) ∷ []) [] [] 1)
    ∷ CodedSlice (referring I 4 (unused_member (negsuc 3) ∷ []) (unused_member (pos 4) ∷ []) [] 1)
    ∷ []

-- the first picture waits for output, but the second one refers to nothing: the third finds it
-- neither by its low bits nor by its difference
abbrev pub unmarked_waits : List Meaning
unmarked_waits =
    SequenceSet plain_format ∷ Other ∷ idr (limited 2 0 4) ∷ trailing (limited 2 0 4) 8
    ∷ CodedSlice (record (referring P 4 (used_member (negsuc 3) ∷ []) []
    (long_member 0 None true ∷ []) 2) { sets = limited 2 0 4 })
    ∷ []

-- a BLA picture whose header names the IDR picture twice
abbrev pub broken_link_set : List Meaning
broken_link_set =
    SequenceSet plain_format ∷ Other ∷ idr sets
    ∷ CodedSlice (record (referring I 8 (used_member (negsuc 7) ∷ []) []
    (long_member 0 None true ∷ []) 1) { nal_unit_type = 17 })
    ∷ []

-- an IDR picture under a sequence set that has a short-term set, which its header doesn't name
abbrev pub idr_under_set : List Meaning
idr_under_set =
    SequenceSet plain_format ∷ Other
    ∷ idr (record sets {
      short_term_ref_pic_sets =
          record { negative_pics = used_member (negsuc 3) ∷ []; positive_pics = [] } ∷ [];
    })
    ∷ []

-- the current picture takes the second of two places, where three pictures may be referred to
abbrev pub screen_pair : List Meaning
screen_pair = SequenceSet plain_format ∷ Other ∷ idr sets ∷ p4
    ∷ CodedSlice (first_slice 1 [] screen_sets (record (plain_header P 5 (negsuc 0 ∷ negsuc 4 ∷ [])
    [] 3) { list0 = places 2 }))
    ∷ []

-- order counts 0, 8, 1 and 16: the RASL_R picture of 1 isn't prevTid0Pic
abbrev pub rasl_tid0 : List Meaning
rasl_tid0 =
    SequenceSet plain_format ∷ Other ∷ idr sets ∷ cra ∷ CodedSlice (intra 9 sets 1)
    ∷ trailing sets 0 ∷ []

-- order counts 0, 8 and 16, then BLA_N_LP of 8
abbrev pub counted_anew : List Meaning
counted_anew =
    SequenceSet plain_format ∷ Other ∷ idr sets ∷ trailing sets 8 ∷ trailing sets 0
    ∷ CodedSlice (intra 18 sets 8) ∷ []

-- a picture that is no IRAP picture after an end of sequence
abbrev pub ended_within : List Meaning
ended_within =
    SequenceSet plain_format ∷ Other ∷ idr sets ∷ p4 ∷ EndOfSequence ∷ trailing sets 14 ∷ []

-- order counts 0, 2 ^ 31 - 2 and 2 ^ 31 + 2: the last one is far from the second alone
abbrev pub far_step : List Meaning
far_step =
    SequenceSet plain_format ∷ Other ∷ idr sets
    ∷ trailing (record sets { max_pic_order_cnt_lsb = 2 ^ 33 }) (2 ^ 31 - 2) ∷ trailing sets 2 ∷ []

-- an order count of -(2 ^ 30) - 1, whose most significant bits are -(3 * 2 ^ 30)
abbrev pub far_msb : List Meaning
far_msb =
    SequenceSet plain_format ∷ Other ∷ idr sets
    ∷ trailing (record sets { max_pic_order_cnt_lsb = 3 * 2 ^ 30 }) (2 ^ 31 - 1) ∷ []

-- the slices of a picture that names picture set 1: an independent one and a dependent one
abbrev pub dependent_of_1 : List Meaning
dependent_of_1 =
    SequenceSet plain_format ∷ Other
    ∷ CodedSlice (record (first_slice 19 [] sets (plain_header I 0 [] [] 0)) {
      pic_parameter_set_id = 1;
    })
    ∷ dependent_of sets 1 ∷ []

-- a dependent slice of a P picture, whose own header says nothing
abbrev pub dependent_at : ℕ → Meaning
dependent_at address =
    CodedSlice (record (later_slice 1 [] sets (plain_header I 9 [] [] 0)) {
      dependent_slice_segment_flag = true;
      segment_address = address;
    })

-- two of them after a P slice
abbrev pub dependent_twice : List Meaning
dependent_twice =
    SequenceSet plain_format ∷ Other ∷ idr sets ∷ p4 ∷ dependent_at 3 ∷ dependent_at 5 ∷ []
