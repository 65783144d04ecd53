-- Small streams, as lists of what their units mean, with the bytes of each slice's unit.
use Rattle.std.specs.Prelude.{ℕ, ℤ, pos, negsuc, Bool, true, false, List, [], ◌∷◌, ◌++◌, map}
use Rattle.std.specs.Prelude.{replicate, Option, None}
use Rattle.hevc_walk.specs.Meanings.{Format, ShortTermMember, ListRule, SliceHeader, SliceType, B}
use Rattle.hevc_walk.specs.Meanings.{I, P, NamedSets, Slice, Meaning, SequenceSet, CodedSlice}
use Rattle.hevc_walk.specs.Meanings.{Other, Refused, OutOfBits}
use Rattle.hevc_walk.specs.Buffer.{Buffer, Entry, ShortTerm}
use Rattle.hevc_walk.specs.ReferenceLists.{RefPicListEntry}
use Rattle.hevc_walk.specs.Walk.{Call, NewSequence, NewPicture, BeginPicture, DecodeSlice}
use Rattle.hevc_walk.specs.Walk.{SubmitPicture}
use Rattle.hevc_walk.specs.Results.{calls, outputs}

-- a sequence set of 16 by 16 samples, Main profile, 8 bits, 4:2:0, a buffer of 16 pictures
abbrev pub plain_format : Format
plain_format = record {
  coded_width = 16;
  coded_height = 16;
  general_profile_idc = 1;
  bit_depth_luma_minus8 = 0;
  bit_depth_chroma_minus8 = 0;
  chroma_format_idc = 1;
  max_num_pics = 16;
}

-- the same with 10 bits of luma
abbrev pub deep_format : Format
deep_format = record plain_format { bit_depth_luma_minus8 = 2 }

-- 192 by 192 samples at level 1: a buffer of 6 pictures
abbrev pub tight_format : Format
tight_format = record plain_format { coded_width = 192; coded_height = 192; max_num_pics = 6 }

-- the sets that go with a format: MaxPicOrderCntLsb 16, no short-term set of their own
abbrev pub plain_sets : Format → NamedSets
plain_sets format = record {
  format = format;
  limits = record {
    max_num_reorder_pics = 1;
    max_latency_increase_plus1 = 0;
    max_dec_pic_buffering_minus1 = 4;
  };
  max_pic_order_cnt_lsb = 16;
  short_term_ref_pic_sets = [];
  pps_curr_pic_ref_enabled_flag = false;
}

-- reordering that waits for more pictures than there is room for
abbrev pub tight_sets : NamedSets
tight_sets = record (plain_sets tight_format) {
  limits = record {
    max_num_reorder_pics = 16;
    max_latency_increase_plus1 = 0;
    max_dec_pic_buffering_minus1 = 16;
  };
}

abbrev pub one_place : ListRule
one_place = record { num_ref_idx_active = 1; list_entry = None }

abbrev pub used_member : ℤ → ShortTermMember
used_member delta = record { delta_poc = delta; used_by_curr_pic = true }

-- a slice header with the short-term members of these differences, all used
abbrev pub plain_header : SliceType → ℕ → List ℤ → List ℤ → ℕ → SliceHeader
plain_header slice_type lsb negative positive total = record {
  slice_type = slice_type;
  pic_output_flag = true;
  pic_order_cnt_lsb = lsb;
  curr_rps_idx = 0;
  short_term_ref_pic_set = record {
    negative_pics = map used_member negative;
    positive_pics = map used_member positive;
  };
  long_term_pics = [];
  num_pic_total_curr = total;
  list0 = one_place;
  list1 = one_place;
}

-- the first slice of a picture, of temporal id 0
abbrev pub first_slice : ℕ → List ℕ → NamedSets → SliceHeader → Slice
first_slice nal_unit_type bytes sets header = record {
  nal_unit_type = nal_unit_type;
  temporal_id = 0;
  bytes = bytes;
  handled_as_bla = false;
  first_slice_segment_in_pic_flag = true;
  no_output_of_prior_pics_flag = false;
  pic_parameter_set_id = 0;
  dependent_slice_segment_flag = false;
  segment_address = 0;
  header = header;
  sets = sets;
}

abbrev pub later_slice : ℕ → List ℕ → NamedSets → SliceHeader → Slice
later_slice nal_unit_type bytes sets header =
    record (first_slice nal_unit_type bytes sets header) { first_slice_segment_in_pic_flag = false }

abbrev pub idr_bytes : List ℕ
idr_bytes = 38 ∷ 1 ∷ 175 ∷ 128 ∷ []

-- IDR_W_RADL under these sets
abbrev pub idr : NamedSets → Meaning
idr sets = CodedSlice (first_slice 19 idr_bytes sets (plain_header I 0 [] [] 0))

abbrev pub p4_bytes : List ℕ
p4_bytes = 2 ∷ 1 ∷ 210 ∷ 20 ∷ 151 ∷ 128 ∷ []

-- TRAIL_R, a P slice of order count 4 that refers to 0
abbrev pub p4 : Meaning
p4 =
    CodedSlice (first_slice 1 p4_bytes (plain_sets plain_format)
    (plain_header P 4 (negsuc 3 ∷ []) [] 1))

abbrev pub p2_bytes : List ℕ
p2_bytes = 2 ∷ 1 ∷ 209 ∷ 18 ∷ 85 ∷ 112 ∷ 128 ∷ []

-- TRAIL_R, a P slice of order count 2 between 0 and 4
abbrev pub p2 : Meaning
p2 =
    CodedSlice (first_slice 1 p2_bytes (plain_sets plain_format)
    (plain_header P 2 (negsuc 1 ∷ []) (pos 2 ∷ []) 2))

abbrev pub b2_bytes : List ℕ
b2_bytes = 2 ∷ 1 ∷ 228 ∷ 73 ∷ 84 ∷ 224 ∷ 128 ∷ []

-- the same as a B slice
abbrev pub b2 : Meaning
b2 =
    CodedSlice (first_slice 1 b2_bytes (plain_sets plain_format)
    (plain_header B 2 (negsuc 1 ∷ []) (pos 2 ∷ []) 2))

-- CRA_NUT of order count 8
abbrev pub cra : Meaning
cra =
    CodedSlice (first_slice 21 (42 ∷ 1 ∷ 174 ∷ 30 ∷ 128 ∷ []) (plain_sets plain_format)
    (plain_header I 8 [] [] 0))

-- TRAIL_R, an I slice of order count 0
abbrev pub t0 : NamedSets → Meaning
t0 sets = CodedSlice (first_slice 1 (2 ∷ 1 ∷ 216 ∷ 60 ∷ 128 ∷ []) sets (plain_header I 0 [] [] 0))

-- RASL_R
abbrev pub rasl6 : Meaning
rasl6 =
    CodedSlice (first_slice 9 (18 ∷ 1 ∷ 219 ∷ 60 ∷ 128 ∷ []) (plain_sets plain_format)
    (plain_header I 6 [] [] 0))

abbrev pub later_rasl6 : Meaning
later_rasl6 =
    CodedSlice (later_slice 9 (18 ∷ 1 ∷ 91 ∷ 60 ∷ 128 ∷ []) (plain_sets plain_format)
    (plain_header I 6 [] [] 0))

abbrev pub rasl4 : Meaning
rasl4 =
    CodedSlice (first_slice 9 (18 ∷ 1 ∷ 218 ∷ 60 ∷ 128 ∷ []) (plain_sets plain_format)
    (plain_header I 4 [] [] 0))

-- a P slice of order count 4 whose reference picture set is empty
abbrev pub alone : Meaning
alone =
    CodedSlice (first_slice 1 (2 ∷ 1 ∷ 210 ∷ 55 ∷ 128 ∷ []) (plain_sets plain_format)
    (plain_header P 4 [] [] 0))

abbrev pub dependent_bytes : List ℕ
dependent_bytes = 38 ∷ 1 ∷ 56 ∷ 128 ∷ []

-- a dependent slice segment of an IDR picture, whose header says nothing more
abbrev pub dependent : Meaning
dependent =
    CodedSlice
    (record
    (later_slice 19 dependent_bytes (plain_sets plain_format) (plain_header P 0 [] [] 0))
    { dependent_slice_segment_flag = true })

-- an IDR picture with no_output_of_prior_pics_flag
abbrev pub idr_without_prior : NamedSets → Meaning
idr_without_prior sets =
    CodedSlice (record (first_slice 19 (38 ∷ 1 ∷ 239 ∷ 128 ∷ []) sets (plain_header I 0 [] [] 0)) {
      no_output_of_prior_pics_flag = true;
    })

-- a later slice of an IDR picture
abbrev pub later_idr : NamedSets → Meaning
later_idr sets =
    CodedSlice (later_slice 19 (38 ∷ 1 ∷ 47 ∷ 128 ∷ []) sets (plain_header I 0 [] [] 0))

-- a picture set, a video set or a message is Other
abbrev pub plain : List Meaning
plain = SequenceSet plain_format ∷ Other ∷ idr (plain_sets plain_format) ∷ p4 ∷ p2 ∷ []

-- clean random access first: the leading pictures are skipped,
-- and a later slice of one is passed over
abbrev pub leading : List Meaning
leading = SequenceSet plain_format ∷ Other ∷ cra ∷ rasl6 ∷ later_rasl6 ∷ rasl4 ∷ []

abbrev pub ended_by : Meaning → List Meaning
ended_by end =
    SequenceSet plain_format ∷ Other ∷ idr (plain_sets plain_format) ∷ p4 ∷ end ∷ cra ∷ []

-- two pictures of one order count
abbrev pub equal_counts : List Meaning
equal_counts =
    SequenceSet plain_format ∷ Other ∷ idr (plain_sets plain_format) ∷ t0 (plain_sets plain_format)
    ∷ []

abbrev pub without_reference : List Meaning
without_reference = SequenceSet plain_format ∷ Other ∷ idr (plain_sets plain_format) ∷ alone ∷ []

-- as an encoder writes it: a video set, a sequence set, a picture set, a message, then the pictures
abbrev pub encoded : List Meaning
encoded =
    Other ∷ SequenceSet plain_format ∷ Other ∷ Other ∷ idr (plain_sets plain_format) ∷ p4 ∷ b2 ∷ []

abbrev pub dependent_alone : List Meaning
dependent_alone = SequenceSet plain_format ∷ Other ∷ dependent ∷ []

abbrev pub dependent_behind : List Meaning
dependent_behind = SequenceSet plain_format ∷ Other ∷ idr (plain_sets plain_format) ∷ dependent ∷ []

-- seven pictures that are needed for output, in a buffer of six
abbrev pub crowded : List Meaning
crowded = SequenceSet tight_format ∷ Other ∷ idr tight_sets ∷ replicate 6 (t0 tight_sets)

-- one more, and a refused unit after them
abbrev pub crowded_refused : List Meaning
crowded_refused =
    SequenceSet tight_format ∷ Other ∷ idr tight_sets ∷ replicate 7 (t0 tight_sets)
    ++ Refused OutOfBits ∷ []

-- a set of 10 bits of luma in place of the first one
abbrev pub deeper : List Meaning
deeper =
    SequenceSet plain_format ∷ Other ∷ idr (plain_sets plain_format) ∷ SequenceSet deep_format
    ∷ Other ∷ idr (plain_sets deep_format) ∷ []

abbrev pub deeper_without_prior : List Meaning
deeper_without_prior =
    SequenceSet plain_format ∷ Other ∷ idr (plain_sets plain_format) ∷ p4 ∷ SequenceSet deep_format
    ∷ Other ∷ idr_without_prior (plain_sets deep_format) ∷ []

abbrev pub deeper_mid_picture : List Meaning
deeper_mid_picture =
    SequenceSet plain_format ∷ Other ∷ idr (plain_sets plain_format) ∷ SequenceSet deep_format
    ∷ Other ∷ later_idr (plain_sets deep_format) ∷ []

-- number, order count and unit of each output
abbrev pub told_outputs : List Meaning → List (ℕ × ℤ × ℕ)
told_outputs us = map (λ o. (o.number, o.order_count, o.unit)) (outputs us)

abbrev pub slices_in : List (ℕ × Call)
    → List (ℕ × List (Option RefPicListEntry) × List (Option RefPicListEntry))
slices_in [] = []
slices_in ((u, DecodeSlice number address bytes list0 list1) ∷ cs) =
    (number, list0, list1) ∷ slices_in cs
slices_in ((u, NewSequence format) ∷ cs) = slices_in cs
slices_in ((u, NewPicture number t c o s) ∷ cs) = slices_in cs
slices_in ((u, BeginPicture number set) ∷ cs) = slices_in cs
slices_in ((u, SubmitPicture number) ∷ cs) = slices_in cs

-- each slice that is decoded, by its picture's number, with its two lists
abbrev pub slice_lists : List Meaning
    → List (ℕ × List (Option RefPicListEntry) × List (Option RefPicListEntry))
slice_lists us = slices_in (calls us)

abbrev pub pictures_in : List (ℕ × Call) → List (ℕ × ℕ × ℤ × Bool)
pictures_in [] = []
pictures_in ((u, NewPicture number t c o s) ∷ cs) = (number, t, c, o) ∷ pictures_in cs
pictures_in ((u, DecodeSlice number address bytes list0 list1) ∷ cs) = pictures_in cs
pictures_in ((u, NewSequence format) ∷ cs) = pictures_in cs
pictures_in ((u, BeginPicture number set) ∷ cs) = pictures_in cs
pictures_in ((u, SubmitPicture number) ∷ cs) = pictures_in cs

-- number, unit type, order count and output flag of each picture that is decoded
abbrev pub new_pictures : List Meaning → List (ℕ × ℕ × ℤ × Bool)
new_pictures us = pictures_in (calls us)

abbrev pub waiting : ℕ → ℤ → Entry
waiting number order_count = record {
  number = number;
  order_count = order_count;
  mark = ShortTerm;
  needed_for_output = true;
  latency_count = 0;
}

-- three pictures that are needed for output, two of one order count
abbrev pub three_waiting : Buffer
three_waiting = waiting 7 (pos 4) ∷ waiting 8 (pos 0) ∷ waiting 9 (pos 0) ∷ []
