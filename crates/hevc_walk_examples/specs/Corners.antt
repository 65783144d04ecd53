-- Streams that each turn on one rule.
use Rattle.std.specs.Prelude.{ℕ, ℤ, negsuc, ◌^◌, Bool, true, false, List, [], ◌∷◌, map, Option}
use Rattle.std.specs.Prelude.{Some, None}
use Rattle.hevc_walk.specs.Meanings.{ShortTermMember, LongTermMember, ListRule, SliceHeader, B, I}
use Rattle.hevc_walk.specs.Meanings.{P, NamedSets, Slice, Meaning, SequenceSet, CodedSlice, Other}
use Rattle.hevc_walk.specs.Meanings.{Refused, OutOfBits}
use Rattle.hevc_walk.specs.Pictures.{pictures}
use Rattle.hevc_walk.specs.ReferenceSets.{RefPicSet}
use Rattle.hevc_walk.specs.Walk.{Call, NewSequence, NewPicture, BeginPicture, DecodeSlice}
use Rattle.hevc_walk.specs.Walk.{SubmitPicture}
use Rattle.hevc_walk.specs.Results.{calls}
use Rattle.hevc_walk.specs.Fates.{Fate, fate}
use Rattle.hevc_walk_examples.specs.Streams.{plain_format, deep_format, plain_sets, plain_header}
use Rattle.hevc_walk_examples.specs.Streams.{first_slice, later_slice, idr, idr_without_prior, p4}
use Rattle.hevc_walk_examples.specs.Streams.{cra, rasl4, rasl6}

abbrev pub sets : NamedSets
sets = plain_sets plain_format

-- the same with other limits
abbrev pub limited : ℕ → ℕ → ℕ → NamedSets
limited reorder latency_plus1 buffering = record sets {
  limits = record {
    max_num_reorder_pics = reorder;
    max_latency_increase_plus1 = latency_plus1;
    max_dec_pic_buffering_minus1 = buffering;
  };
}

-- an I slice of a picture of this type and these low bits that refers to nothing
abbrev pub intra : ℕ → NamedSets → ℕ → Slice
intra nal_unit_type named lsb = first_slice nal_unit_type [] named (plain_header I lsb [] [] 0)

abbrev pub trailing : NamedSets → ℕ → Meaning
trailing named lsb = CodedSlice (intra 1 named lsb)

abbrev pub hidden : NamedSets → ℕ → Meaning
hidden named lsb =
    CodedSlice (first_slice 1 [] named (record (plain_header I lsb [] [] 0) {
      pic_output_flag = false;
    }))

abbrev pub places : ℕ → ListRule
places n = record { num_ref_idx_active = n; list_entry = None }

abbrev pub long_member : ℕ → Option ℕ → Bool → LongTermMember
long_member lsb cycle used = record {
  poc_lsb = lsb;
  delta_poc_msb_cycle = cycle;
  used_by_curr_pic = used;
}

abbrev pub short_member : ℤ → Bool → ShortTermMember
short_member delta used = record { delta_poc = delta; used_by_curr_pic = used }

-- a P slice with these negative members, long-term members and list 0
abbrev pub inter : ℕ → List ShortTermMember → List LongTermMember → ListRule → Meaning
inter lsb negative long_term list =
    CodedSlice (first_slice 1 [] sets (record (plain_header P lsb [] [] 0) {
      short_term_ref_pic_set = record { negative_pics = negative; positive_pics = [] };
      long_term_pics = long_term;
      list0 = list;
    }))

-- order counts 0, 8, 16, 17, 18, 19: a long-term member is named by its low bits or by its whole
-- count, and isn't a short-term one any more
abbrev pub long_terms : List Meaning
long_terms = SequenceSet plain_format ∷ Other ∷ idr sets
    ∷ inter 8 (short_member (negsuc 7) true ∷ []) [] (places 1)
    ∷ inter 0 (short_member (negsuc 7) true ∷ short_member (negsuc 15) true ∷ []) [] (places 2)
    ∷ inter 1 (short_member (negsuc 0) true ∷ short_member (negsuc 8) true ∷ [])
    (long_member 0 (Some 1) true ∷ long_member 0 (Some 0) true ∷ []) (places 5)
    ∷ inter 2 (short_member (negsuc 1) true ∷ short_member (negsuc 9) false ∷ [])
    (long_member 0 None true ∷ long_member 0 (Some 0) false ∷ [])
    (record { num_ref_idx_active = 3; list_entry = Some (1 ∷ 1 ∷ 0 ∷ []) })
    ∷ inter 3 (short_member (negsuc 1) true ∷ short_member (negsuc 10) true ∷ [])
    (long_member 0 (Some 0) true ∷ []) (places 5)
    ∷ []

abbrev pub screen_sets : NamedSets
screen_sets = record sets { pps_curr_pic_ref_enabled_flag = true }

abbrev pub screen_header : SliceHeader
screen_header = plain_header P 1 (negsuc 0 ∷ []) [] 2

-- the current picture may be referred to: a picture of four slices after an IDR picture
abbrev pub screen : List Meaning
screen = SequenceSet plain_format ∷ Other ∷ idr sets
    ∷ CodedSlice (first_slice 1 [] screen_sets (record screen_header { list0 = places 1 }))
    ∷ CodedSlice (later_slice 1 [] screen_sets (record screen_header { list0 = places 3 }))
    ∷ CodedSlice (later_slice 1 [] screen_sets (record screen_header {
      list0 = record { num_ref_idx_active = 1; list_entry = Some (0 ∷ []) };
    }))
    ∷ CodedSlice (later_slice 1 [] screen_sets (record screen_header {
      slice_type = B;
      list0 = places 1;
      list1 = places 2;
    }))
    ∷ []

-- SpsMaxLatencyPictures is 3: hidden pictures are stored after the first
abbrev pub latent : List Meaning
latent =
    SequenceSet plain_format ∷ Other ∷ CodedSlice (intra 19 (limited 2 2 4) 0)
    ∷ hidden (limited 2 2 4) 1 ∷ hidden (limited 2 2 4) 2 ∷ hidden (limited 2 2 4) 3
    ∷ hidden (limited 2 2 4) 4 ∷ []

-- room for one picture beside the current one
abbrev pub roomless : List Meaning
roomless =
    SequenceSet plain_format ∷ Other ∷ CodedSlice (intra 19 (limited 16 0 1) 0)
    ∷ trailing (limited 16 0 1) 4 ∷ trailing (limited 16 0 1) 2 ∷ []

-- the same, but the second picture is neither output nor referred to
abbrev pub unneeded : List Meaning
unneeded =
    SequenceSet plain_format ∷ Other ∷ CodedSlice (intra 19 (limited 16 0 1) 0)
    ∷ hidden (limited 16 0 1) 4 ∷ trailing (limited 16 0 1) 2 ∷ []

abbrev pub without_prior : List Meaning
without_prior = SequenceSet plain_format ∷ Other ∷ idr sets ∷ p4 ∷ idr_without_prior sets ∷ []

abbrev pub with_prior : List Meaning
with_prior = SequenceSet plain_format ∷ Other ∷ idr sets ∷ p4 ∷ idr sets ∷ []

-- no IRAP picture is before these RASL pictures
abbrev pub rasl_first : List Meaning
rasl_first = SequenceSet plain_format ∷ Other ∷ rasl6 ∷ rasl4 ∷ []

-- TRAIL_N, one of temporal id 1, and RADL_R are not prevTid0Pic
abbrev pub tid0 : List Meaning
tid0 =
    SequenceSet plain_format ∷ Other ∷ idr sets ∷ CodedSlice (intra 0 sets 7)
    ∷ CodedSlice (record (intra 1 sets 8) { temporal_id = 1 }) ∷ CodedSlice (intra 7 sets 5)
    ∷ trailing sets 9 ∷ []

-- BLA_W_RADL, then a RASL picture
abbrev pub broken_link : List Meaning
broken_link =
    SequenceSet plain_format ∷ Other ∷ idr sets ∷ p4 ∷ CodedSlice (intra 17 sets 8) ∷ rasl6 ∷ []

-- a CRA picture within a sequence, then a RASL picture
abbrev pub open_gop : List Meaning
open_gop = SequenceSet plain_format ∷ Other ∷ idr sets ∷ cra ∷ rasl6 ∷ []

abbrev pub handled : ℕ → ℕ → Meaning
handled nal_unit_type lsb =
    CodedSlice (record (intra nal_unit_type sets lsb) { handled_as_bla = true })

-- the same with the CRA picture handled as a BLA picture
abbrev pub handled_cra : List Meaning
handled_cra = SequenceSet plain_format ∷ Other ∷ idr sets ∷ handled 21 8 ∷ rasl6 ∷ []

-- the same with the flag at the RASL picture, where it isn't looked at
abbrev pub handled_rasl : List Meaning
handled_rasl = SequenceSet plain_format ∷ Other ∷ idr sets ∷ cra ∷ handled 9 6 ∷ []

-- a dependent slice after the P slice
abbrev pub dependent_p : List Meaning
dependent_p =
    SequenceSet plain_format ∷ Other ∷ idr sets ∷ p4
    ∷ CodedSlice (record (later_slice 1 (2 ∷ 1 ∷ []) sets (plain_header I 9 [] [] 0)) {
      dependent_slice_segment_flag = true;
      segment_address = 3;
    })
    ∷ []

abbrev pub dependent_of : NamedSets → ℕ → Meaning
dependent_of named id =
    CodedSlice (record (later_slice 19 [] named (plain_header P 0 [] [] 0)) {
      dependent_slice_segment_flag = true;
      pic_parameter_set_id = id;
    })

-- one that names another picture set, and one whose sequence
-- set has fewer short-term sets than the kept header counts
abbrev pub other_set : List Meaning
other_set = SequenceSet plain_format ∷ Other ∷ idr sets ∷ dependent_of sets 1 ∷ []

abbrev pub fewer_sets : List Meaning
fewer_sets =
    SequenceSet plain_format ∷ Other
    ∷ CodedSlice (first_slice 19 [] sets (record (plain_header I 0 [] [] 0) { curr_rps_idx = 1 }))
    ∷ dependent_of sets 0 ∷ []

-- an order count of 2 ^ 31, in another format
abbrev pub far_count : List Meaning
far_count =
    SequenceSet plain_format ∷ Other ∷ idr sets
    ∷ trailing (record sets { format = deep_format; max_pic_order_cnt_lsb = 2 ^ 33 }) (2 ^ 31) ∷ p4
    ∷ []

abbrev pub refused_slice : List Meaning
refused_slice = SequenceSet plain_format ∷ Other ∷ idr sets ∷ Refused OutOfBits ∷ p4 ∷ []

-- a sequence set's own short-term set is meant where CurrRpsIdx is below their number
abbrev pub set_of_sps : List Meaning
set_of_sps =
    SequenceSet plain_format ∷ Other ∷ idr sets
    ∷ CodedSlice (first_slice 1 [] (record sets {
      short_term_ref_pic_sets =
          record { negative_pics = short_member (negsuc 3) true ∷ []; positive_pics = [] } ∷ [];
    }) (plain_header P 4 [] [] 1))
    ∷ []

abbrev pub sets_in : List (ℕ × Call) → List (ℕ × RefPicSet)
sets_in [] = []
sets_in ((u, BeginPicture number set) ∷ cs) = (number, set) ∷ sets_in cs
sets_in ((u, NewPicture number t c o s) ∷ cs) = sets_in cs
sets_in ((u, DecodeSlice number address bytes list0 list1) ∷ cs) = sets_in cs
sets_in ((u, NewSequence format) ∷ cs) = sets_in cs
sets_in ((u, SubmitPicture number) ∷ cs) = sets_in cs

-- the reference picture set of each picture that is decoded
abbrev pub reference_sets : List Meaning → List (ℕ × RefPicSet)
reference_sets us = sets_in (calls us)

-- latest first
abbrev pub fates : List Meaning → List Fate
fates us = map (fate us) (pictures us)
