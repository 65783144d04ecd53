-- Worked streams: the bytes of their units, and what these mean.
use Rattle.std.specs.Prelude.{ℕ, negsuc, pos, true, false, Some, None, List, [], ◌∷◌, ◌++◌}
use Rattle.std.specs.Prelude.{replicate, take, drop, is_some, Bool}
use Rattle.hevc_walk.specs.Meanings.{Format, ShortTermRefPicSet, SliceHeader, Slice, B, I, P}
use Rattle.hevc_walk.specs.Meanings.{Meaning, SequenceSet, CodedSlice, Other}
use Rattle.hevc_spec.specs.Units.{units}
use Rattle.hevc_stream.specs.Options.{Options, default_options}
use Rattle.hevc_stream.specs.Kept.{none_kept}
use Rattle.hevc_stream.specs.Stream.{kept_behind_all}
use Rattle.hevc_walk_examples.specs.Streams.{plain_format, plain_sets, plain_header, first_slice}
use Rattle.hevc_walk_examples.specs.Streams.{later_slice, idr, idr_bytes, p4_bytes, p2_bytes}
use Rattle.hevc_walk_examples.specs.Streams.{b2_bytes, dependent_bytes}
use Rattle.hevc_walk_examples.specs.Corners.{limited, long_member, short_member}

-- ---- units

-- 16 by 16 samples, MaxPicOrderCntLsb 16
abbrev pub sps_bytes : List ℕ
sps_bytes =
    66 ∷ 1 ∷ 1 ∷ 1 ∷ 96 ∷ 0 ∷ 0 ∷ 3 ∷ 0 ∷ 144 ∷ 0 ∷ 0 ∷ 3 ∷ 0 ∷ 0 ∷ 3 ∷ 0 ∷ 60 ∷ 160 ∷ 136 ∷ 69
    ∷ 229 ∷ 90 ∷ 188 ∷ 32 ∷ 128 ∷ []

-- the same with 32 by 16 samples
abbrev pub wide_sps_bytes : List ℕ
wide_sps_bytes =
    66 ∷ 1 ∷ 1 ∷ 1 ∷ 96 ∷ 0 ∷ 0 ∷ 3 ∷ 0 ∷ 144 ∷ 0 ∷ 0 ∷ 3 ∷ 0 ∷ 0 ∷ 3 ∷ 0 ∷ 60 ∷ 160 ∷ 66 ∷ 17 ∷ 121
    ∷ 86 ∷ 175 ∷ 8 ∷ 32 ∷ []

-- the same with 10 bits of luma
abbrev pub deep_sps_bytes : List ℕ
deep_sps_bytes =
    66 ∷ 1 ∷ 1 ∷ 1 ∷ 96 ∷ 0 ∷ 0 ∷ 3 ∷ 0 ∷ 144 ∷ 0 ∷ 0 ∷ 3 ∷ 0 ∷ 0 ∷ 3 ∷ 0 ∷ 60 ∷ 160 ∷ 136 ∷ 68
    ∷ 249 ∷ 86 ∷ 175 ∷ 8 ∷ 32 ∷ []

-- the same under the id 1
abbrev pub other_sps_bytes : List ℕ
other_sps_bytes =
    66 ∷ 1 ∷ 1 ∷ 1 ∷ 96 ∷ 0 ∷ 0 ∷ 3 ∷ 0 ∷ 144 ∷ 0 ∷ 0 ∷ 3 ∷ 0 ∷ 0 ∷ 3 ∷ 0 ∷ 60 ∷ 72 ∷ 34 ∷ 17 ∷ 121
    ∷ 86 ∷ 175 ∷ 8 ∷ 32 ∷ []

-- 192 by 192 samples at level 1
abbrev pub tight_sps_bytes : List ℕ
tight_sps_bytes =
    66 ∷ 1 ∷ 1 ∷ 1 ∷ 96 ∷ 0 ∷ 0 ∷ 3 ∷ 0 ∷ 144 ∷ 0 ∷ 0 ∷ 3 ∷ 0 ∷ 0 ∷ 3 ∷ 0 ∷ 30 ∷ 160 ∷ 24 ∷ 32 ∷ 48
    ∷ 94 ∷ 17 ∷ 8 ∷ 234 ∷ 240 ∷ 130 ∷ []

-- two sub-layers, which declare 1, 0 and 0, and 4, 2 and 3: how many pictures beside the current
-- one, reordering and latency plus 1; MaxPicOrderCntLsb 32
abbrev pub two_layers_sps_bytes : List ℕ
two_layers_sps_bytes =
    66 ∷ 1 ∷ 3 ∷ 1 ∷ 96 ∷ 0 ∷ 0 ∷ 3 ∷ 0 ∷ 144 ∷ 0 ∷ 0 ∷ 3 ∷ 0 ∷ 0 ∷ 3 ∷ 0 ∷ 60 ∷ 0 ∷ 0 ∷ 160 ∷ 136
    ∷ 69 ∷ 170 ∷ 202 ∷ 201 ∷ 87 ∷ 132 ∷ 16 ∷ []

-- 352 by 240 samples at level 2
abbrev pub large_sps_bytes : List ℕ
large_sps_bytes =
    66 ∷ 1 ∷ 1 ∷ 1 ∷ 96 ∷ 0 ∷ 0 ∷ 3 ∷ 0 ∷ 144 ∷ 0 ∷ 0 ∷ 3 ∷ 0 ∷ 0 ∷ 3 ∷ 0 ∷ 60 ∷ 160 ∷ 11 ∷ 8 ∷ 15
    ∷ 23 ∷ 149 ∷ 106 ∷ 240 ∷ 130 ∷ []

-- id 2, 32 by 16 samples, two short-term sets and a long-term picture
abbrev pub referring_sps_bytes : List ℕ
referring_sps_bytes =
    66 ∷ 1 ∷ 1 ∷ 1 ∷ 96 ∷ 0 ∷ 0 ∷ 3 ∷ 0 ∷ 144 ∷ 0 ∷ 0 ∷ 3 ∷ 0 ∷ 0 ∷ 3 ∷ 0 ∷ 60 ∷ 104 ∷ 16 ∷ 132
    ∷ 94 ∷ 85 ∷ 171 ∷ 193 ∷ 174 ∷ 73 ∷ 90 ∷ 166 ∷ 16 ∷ []

-- id 3, with ordered lists, in which the current picture may be
abbrev pub referring_pps_bytes : List ℕ
referring_pps_bytes = 68 ∷ 1 ∷ 35 ∷ 1 ∷ 198 ∷ 0 ∷ 209 ∷ 9 ∷ []

-- a B slice at block 1 by them: the second short-term set and the long-term picture
-- of the sequence set, two long-term pictures of its own, and ordered lists
abbrev pub referring_bytes : List ℕ
referring_bytes = 2 ∷ 1 ∷ 19 ∷ 109 ∷ 59 ∷ 57 ∷ 85 ∷ 79 ∷ 153 ∷ 28 ∷ []

-- a P slice there: the first short-term set, the long-term picture, and an ordered list 0
abbrev pub referring_p_bytes : List ℕ
referring_p_bytes = 2 ∷ 1 ∷ 18 ∷ 158 ∷ 83 ∷ 112 ∷ []

abbrev pub vps_bytes : List ℕ
vps_bytes =
    64 ∷ 1 ∷ 12 ∷ 1 ∷ 255 ∷ 255 ∷ 1 ∷ 96 ∷ 0 ∷ 0 ∷ 3 ∷ 0 ∷ 144 ∷ 0 ∷ 0 ∷ 3 ∷ 0 ∷ 0 ∷ 3 ∷ 0 ∷ 60
    ∷ 149 ∷ 64 ∷ 144 ∷ []

-- names the sequence set of id 0
abbrev pub pps_bytes : List ℕ
pps_bytes = 68 ∷ 1 ∷ 192 ∷ 113 ∷ 128 ∷ 18 ∷ []

-- the same, naming the sequence set of id 1
abbrev pub other_pps_bytes : List ℕ
other_pps_bytes = 68 ∷ 1 ∷ 160 ∷ 28 ∷ 96 ∷ 4 ∷ 128 ∷ []

-- with dependent slices
abbrev pub dependent_pps_bytes : List ℕ
dependent_pps_bytes = 68 ∷ 1 ∷ 224 ∷ 113 ∷ 128 ∷ 18 ∷ []

-- a picture set that ends too early
abbrev pub cut_pps_bytes : List ℕ
cut_pps_bytes = 68 ∷ 1 ∷ 192 ∷ 113 ∷ []

-- a message
abbrev pub sei_bytes : List ℕ
sei_bytes =
    78 ∷ 1 ∷ 5 ∷ 16 ∷ 165 ∷ 165 ∷ 165 ∷ 165 ∷ 165 ∷ 165 ∷ 165 ∷ 165 ∷ 165 ∷ 165 ∷ 165 ∷ 165 ∷ 165
    ∷ 165 ∷ 165 ∷ 165 ∷ 128 ∷ []

abbrev pub cra_bytes : List ℕ
cra_bytes = 42 ∷ 1 ∷ 174 ∷ 30 ∷ 128 ∷ []

abbrev pub t0_bytes : List ℕ
t0_bytes = 2 ∷ 1 ∷ 216 ∷ 60 ∷ 128 ∷ []

abbrev pub rasl6_bytes : List ℕ
rasl6_bytes = 18 ∷ 1 ∷ 219 ∷ 60 ∷ 128 ∷ []

abbrev pub later_rasl6_bytes : List ℕ
later_rasl6_bytes = 18 ∷ 1 ∷ 91 ∷ 60 ∷ 128 ∷ []

abbrev pub rasl4_bytes : List ℕ
rasl4_bytes = 18 ∷ 1 ∷ 218 ∷ 60 ∷ 128 ∷ []

-- a P slice whose reference picture set is empty
abbrev pub alone_bytes : List ℕ
alone_bytes = 2 ∷ 1 ∷ 210 ∷ 55 ∷ 128 ∷ []

-- a later slice, at block 1
abbrev pub later_idr_bytes : List ℕ
later_idr_bytes = 38 ∷ 1 ∷ 55 ∷ 128 ∷ 128 ∷ []

-- an IDR slice whose SliceQpY is -6
abbrev pub low_quantiser_bytes : List ℕ
low_quantiser_bytes = 38 ∷ 1 ∷ 172 ∷ 8 ∷ 56 ∷ []

-- TSA_N of temporal id 1, a P slice of order count 2
abbrev pub sub_layer_bytes : List ℕ
sub_layer_bytes = 4 ∷ 2 ∷ 209 ∷ 18 ∷ 85 ∷ 112 ∷ 128 ∷ []

abbrev pub eos_bytes : List ℕ
eos_bytes = 72 ∷ 1 ∷ []

abbrev pub eob_bytes : List ℕ
eob_bytes = 74 ∷ 1 ∷ []

-- ---- streams

-- units one after another, each after its start code
abbrev pub stream_of : List (List ℕ) → List ℕ
stream_of [] = []
stream_of (unit ∷ units) = 0 ∷ 0 ∷ 1 ∷ unit ++ stream_of units

-- the same with a zero byte before each start code
abbrev pub padded_stream_of : List (List ℕ) → List ℕ
padded_stream_of [] = []
padded_stream_of (unit ∷ units) = 0 ∷ 0 ∷ 0 ∷ 1 ∷ unit ++ padded_stream_of units

-- after a sequence set and a picture set
abbrev pub behind_sets : List (List ℕ) → List ℕ
behind_sets units = stream_of (sps_bytes ∷ pps_bytes ∷ units)

-- an IDR picture and two P pictures
abbrev pub plain_stream : List ℕ
plain_stream = behind_sets (idr_bytes ∷ p4_bytes ∷ p2_bytes ∷ [])

-- as an encoder writes it
abbrev pub encoded_stream : List ℕ
encoded_stream =
    padded_stream_of
    (vps_bytes ∷ sps_bytes ∷ pps_bytes ∷ sei_bytes ∷ idr_bytes ∷ p4_bytes ∷ b2_bytes ∷ [])

-- a picture set before its sequence set
abbrev pub waiting_stream : List ℕ
waiting_stream = stream_of (pps_bytes ∷ sps_bytes ∷ idr_bytes ∷ [])

-- a picture set whose sequence set does not come
abbrev pub still_waiting_stream : List ℕ
still_waiting_stream = stream_of (other_pps_bytes ∷ sps_bytes ∷ idr_bytes ∷ [])

-- one whose sequence set comes second
abbrev pub read_later_stream : List ℕ
read_later_stream = stream_of (other_pps_bytes ∷ sps_bytes ∷ other_sps_bytes ∷ idr_bytes ∷ [])

-- two picture sets of one id before their sequence set
abbrev pub in_order_stream : List ℕ
in_order_stream =
    stream_of (pps_bytes ∷ dependent_pps_bytes ∷ sps_bytes ∷ idr_bytes ∷ dependent_bytes ∷ [])

-- a sequence set that is replaced, and a slice by the picture set before it
abbrev pub not_read_again_stream : List ℕ
not_read_again_stream = behind_sets (deep_sps_bytes ∷ low_quantiser_bytes ∷ [])

-- a picture set that comes again after a replaced sequence set
abbrev pub read_again_stream : List ℕ
read_again_stream = behind_sets (deep_sps_bytes ∷ pps_bytes ∷ idr_bytes ∷ [])

-- pictures of two sizes
abbrev pub resized_stream : List ℕ
resized_stream = behind_sets (idr_bytes ∷ wide_sps_bytes ∷ pps_bytes ∷ idr_bytes ∷ [])

-- a size that changes within a picture
abbrev pub mid_picture_stream : List ℕ
mid_picture_stream = behind_sets (idr_bytes ∷ wide_sps_bytes ∷ pps_bytes ∷ later_idr_bytes ∷ [])

-- an end of sequence between two slices of a picture
abbrev pub ended_within_stream : List ℕ
ended_within_stream =
    stream_of (wide_sps_bytes ∷ pps_bytes ∷ idr_bytes ∷ eos_bytes ∷ later_idr_bytes ∷ [])

-- seven pictures that are needed for output
abbrev pub crowded_stream : List ℕ
crowded_stream = stream_of (tight_sps_bytes ∷ pps_bytes ∷ idr_bytes ∷ replicate 6 t0_bytes)

-- a slice without its last bytes
abbrev pub ends_early_stream : List ℕ
ends_early_stream = behind_sets (idr_bytes ∷ (2 ∷ 1 ∷ 210 ∷ []) ∷ [])

-- a slice that names picture set 5
abbrev pub missing_set_stream : List ℕ
missing_set_stream = behind_sets ((38 ∷ 1 ∷ 141 ∷ 128 ∷ []) ∷ [])

-- a slice that names a short-term set of a sequence set that has none
abbrev pub no_sets_yet_stream : List ℕ
no_sets_yet_stream = behind_sets ((2 ∷ 1 ∷ 216 ∷ 64 ∷ 128 ∷ []) ∷ [])

abbrev pub truncated_stream : List ℕ
truncated_stream = stream_of ((66 ∷ []) ∷ [])

-- nal_unit_type 62
abbrev pub unspecified_stream : List ℕ
unspecified_stream = stream_of ((124 ∷ 1 ∷ 128 ∷ []) ∷ [])

-- nuh_temporal_id_plus1 is 0
abbrev pub no_temporal_id_stream : List ℕ
no_temporal_id_stream = stream_of ((64 ∷ 0 ∷ 128 ∷ []) ∷ [])

-- the same at an end of sequence with a third byte
abbrev pub end_cut_stream : List ℕ
end_cut_stream = stream_of ((72 ∷ 0 ∷ 5 ∷ []) ∷ [])

-- sps_max_sub_layers_minus1 is 7
abbrev pub many_sub_layers_stream : List ℕ
many_sub_layers_stream = stream_of ((66 ∷ 1 ∷ 15 ∷ 128 ∷ []) ∷ [])

-- general_level_idc is 61
abbrev pub no_level_stream : List ℕ
no_level_stream = stream_of ((take 17 sps_bytes ++ 61 ∷ []) ∷ [])

-- sps_max_latency_increase_plus1 is 256
abbrev pub long_latency_stream : List ℕ
long_latency_stream = stream_of ((take 22 sps_bytes ++ 64 ∷ 16 ∷ 24 ∷ []) ∷ [])

-- a video set without its last bytes
abbrev pub cut_video_set_stream : List ℕ
cut_video_set_stream = stream_of (take 20 vps_bytes ∷ [])

abbrev pub two_layers_stream : List ℕ
two_layers_stream = stream_of (two_layers_sps_bytes ∷ pps_bytes ∷ idr_bytes ∷ [])

abbrev pub large_stream : List ℕ
large_stream = stream_of (large_sps_bytes ∷ [])

-- the same under a profile of screen content: general_profile_idc is 9
abbrev pub screen_stream : List ℕ
screen_stream = stream_of ((take 3 large_sps_bytes ++ 9 ∷ drop 4 large_sps_bytes) ∷ [])

abbrev pub referring_stream : List ℕ
referring_stream =
    stream_of (referring_sps_bytes ∷ referring_pps_bytes ∷ referring_bytes ∷ referring_p_bytes ∷ [])

-- a CRA picture with leading pictures
abbrev pub leading_stream : List ℕ
leading_stream = behind_sets (cra_bytes ∷ rasl6_bytes ∷ later_rasl6_bytes ∷ rasl4_bytes ∷ [])

abbrev pub sequence_ends_stream : List ℕ
sequence_ends_stream = behind_sets (idr_bytes ∷ p4_bytes ∷ eos_bytes ∷ cra_bytes ∷ [])

abbrev pub bitstream_ends_stream : List ℕ
bitstream_ends_stream = behind_sets (idr_bytes ∷ p4_bytes ∷ eob_bytes ∷ cra_bytes ∷ [])

abbrev pub equal_counts_stream : List ℕ
equal_counts_stream = behind_sets (idr_bytes ∷ t0_bytes ∷ [])

abbrev pub without_reference_stream : List ℕ
without_reference_stream = behind_sets (idr_bytes ∷ alone_bytes ∷ [])

abbrev pub dependent_alone_stream : List ℕ
dependent_alone_stream = stream_of (sps_bytes ∷ dependent_pps_bytes ∷ dependent_bytes ∷ [])

abbrev pub dependent_behind_stream : List ℕ
dependent_behind_stream =
    stream_of (sps_bytes ∷ dependent_pps_bytes ∷ idr_bytes ∷ dependent_bytes ∷ [])

-- a slice and an end before the first sequence set
abbrev pub before_sets_stream : List ℕ
before_sets_stream = stream_of (idr_bytes ∷ eos_bytes ∷ sps_bytes ∷ pps_bytes ∷ idr_bytes ∷ [])

-- a CRA picture within a stream
abbrev pub cra_within_stream : List ℕ
cra_within_stream = behind_sets (idr_bytes ∷ p4_bytes ∷ cra_bytes ∷ [])

-- a picture of temporal id 1
abbrev pub sub_layers_stream : List ℕ
sub_layers_stream = behind_sets (idr_bytes ∷ p4_bytes ∷ sub_layer_bytes ∷ [])

-- two sets that are not read after two that are, and what comes of it
abbrev pub cut_sets_stream : List ℕ
cut_sets_stream = behind_sets (cut_pps_bytes ∷ other_pps_bytes ∷ sps_bytes ∷ [])

-- the same with the sequence set that the second one names
abbrev pub cut_set_stream : List ℕ
cut_set_stream = behind_sets (cut_pps_bytes ∷ other_pps_bytes ∷ other_sps_bytes ∷ [])

-- an IDR picture whose slice has one more byte
abbrev pub longer_idr_bytes : List ℕ
longer_idr_bytes = idr_bytes ++ 128 ∷ []

abbrev pub idr_stream : List ℕ
idr_stream = behind_sets (idr_bytes ∷ [])

abbrev pub longer_idr_stream : List ℕ
longer_idr_stream = behind_sets (longer_idr_bytes ∷ [])

-- a picture, and one or two ends of sequence
abbrev pub ended_stream : List ℕ
ended_stream = behind_sets (idr_bytes ∷ eos_bytes ∷ [])

abbrev pub ended_twice_stream : List ℕ
ended_twice_stream = behind_sets (idr_bytes ∷ eos_bytes ∷ eos_bytes ∷ [])

-- a video set of id 5
abbrev pub video_set_stream : List ℕ
video_set_stream = stream_of ((64 ∷ 1 ∷ 92 ∷ drop 3 vps_bytes) ∷ [])

-- ---- what they mean

-- an IDR picture of a format
abbrev pub idr_of : Format → Meaning
idr_of format = idr (plain_sets format)

-- the same of one more byte
abbrev pub longer_idr_of : Format → Meaning
longer_idr_of format =
    CodedSlice (first_slice 19 longer_idr_bytes (plain_sets format) (plain_header I 0 [] [] 0))

-- a sequence set of a format and a picture set, and what follows them
abbrev pub sets_then : Format → List Meaning → List Meaning
sets_then format us = SequenceSet format ∷ Other ∷ us

abbrev pub wide_format : Format
wide_format = record plain_format { coded_width = 32 }

-- an IDR picture under sets that declare these numbers, with MaxPicOrderCntLsb 32
abbrev pub idr_under : (reorder latency_plus1 buffering : ℕ) → Meaning
idr_under reorder latency_plus1 buffering =
    idr (record (limited reorder latency_plus1 buffering) { max_pic_order_cnt_lsb = 32 })

-- the buffer has room for 8: the picture has more than half as many samples as the largest of
-- level 2, and at most three quarters
abbrev pub large_format : Format
large_format = record plain_format { coded_width = 352; coded_height = 240; max_num_pics = 8 }

-- under a profile of screen content it has room for 9
abbrev pub screen_format : Format
screen_format = record large_format { general_profile_idc = 9; max_num_pics = 9 }

abbrev pub one_sided_set : ShortTermRefPicSet
one_sided_set = record {
  negative_pics = short_member (negsuc 0) true ∷ [];
  positive_pics = [];
}

-- order counts 2 before and 3 after the picture, the latter for later ones alone
abbrev pub two_sided_set : ShortTermRefPicSet
two_sided_set = record {
  negative_pics = short_member (negsuc 1) true ∷ [];
  positive_pics = short_member (pos 3) false ∷ [];
}

-- four pictures may be referred to: one of the short-term set, two long-term ones and itself
abbrev pub referring_header : SliceHeader
referring_header = record (plain_header B 6 [] [] 4) {
  curr_rps_idx = 1;
  long_term_pics =
      long_member 9 (Some 2) true ∷ long_member 3 None true ∷ long_member 5 (Some 1) false ∷ [];
  list0 = record { num_ref_idx_active = 2; list_entry = Some (3 ∷ 0 ∷ []) };
  list1 = record { num_ref_idx_active = 3; list_entry = Some (2 ∷ 1 ∷ 0 ∷ []) };
}

abbrev pub referring_p_header : SliceHeader
referring_p_header = record (plain_header P 7 [] [] 3) {
  long_term_pics = long_member 9 None true ∷ [];
  list0 = record { num_ref_idx_active = 1; list_entry = Some (2 ∷ []) };
}

abbrev pub referring_slice : List ℕ → SliceHeader → Meaning
referring_slice bytes header =
    CodedSlice (record (later_slice 1 bytes (record (plain_sets wide_format) {
      short_term_ref_pic_sets = one_sided_set ∷ two_sided_set ∷ [];
      pps_curr_pic_ref_enabled_flag = true;
    }) header) {
      pic_parameter_set_id = 3;
      segment_address = 1;
    })

-- what the two slices mean
abbrev pub referring_slices : List Meaning
referring_slices =
    referring_slice referring_bytes referring_header
    ∷ referring_slice referring_p_bytes referring_p_header ∷ []

-- a slice that begins after the first block of a picture
abbrev pub later_idr_at_1 : Format → Meaning
later_idr_at_1 format =
    CodedSlice
    (record (later_slice 19 later_idr_bytes (plain_sets format) (plain_header I 0 [] [] 0)) {
      segment_address = 1;
    })

-- TSA_N of temporal id 1, a P slice of order count 2 between 0 and 4
abbrev pub sub_layer_p2 : Slice
sub_layer_p2 =
    record (first_slice 2 sub_layer_bytes (plain_sets plain_format)
    (plain_header P 2 (negsuc 1 ∷ []) (pos 2 ∷ []) 2)) { temporal_id = 1 }

-- slices are handled as of BLA pictures
abbrev pub handled : Meaning → Meaning
handled (CodedSlice s) = CodedSlice (record s { handled_as_bla = true })
handled u = u

abbrev pub cra_as_bla : Options
cra_as_bla = record default_options { handle_cra_as_bla = true }

-- sub-layers up to this one
abbrev pub up_to : ℕ → Options
up_to highest_tid = record default_options { highest_tid = highest_tid }

-- the units that wait after the units of a stream
abbrev pub waiting_behind : List ℕ → List (List ℕ)
waiting_behind stream = (kept_behind_all default_options none_kept (units stream)).waiting

-- whether the video set of an id is kept after the units of a stream
abbrev pub has_video_set : List ℕ → ℕ → Bool
has_video_set stream id =
    is_some ((kept_behind_all default_options none_kept (units stream)).video_sets id)
