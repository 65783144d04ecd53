-- How many bits the long-term part of a slice header takes: rows 14 to 20 of table 14 (7.3.6.1).
use Rattle.std.specs.Prelude.{ℕ, ◌+◌, ◌-◌, ◌*◌, min, ◌==◌, ◌||◌, not, nat_lt, map, sum, slice_index}
use Rattle.std.specs.Prelude.{slice_index_or, false, if◌then◌else◌}
use Rattle.std.specs.List.{range_with_len}
use Rattle.hevc_spec.specs.UnitTypes.{is_idr}
use Rattle.hevc_records.specs.Sps.{PlainSps}
use Rattle.hevc_records.specs.SliceHeader.{PlainSliceSegmentHeader}
use Rattle.hevc_tables.specs.MathFunctions.{ceil_log2}
use Rattle.hevc_tables.specs.SliceHeaderTable.{cycles_before, lsb_bits}

-- The bits of ue(v) (9.2): as many zeros as there are bits of number + 1 after its first one, and
-- these. Of the numbers above 2147483647, which aren't read, all count as that one.
abbrev pub ue_bits : (number : ℕ) → ℕ
ue_bits number = 2 * ceil_log2 (min number 2147483647 + 2) - 1

-- row 14
abbrev pub candidate_count_bits : PlainSps → PlainSliceSegmentHeader → ℕ
candidate_count_bits sps h =
    if sps.num_long_term_ref_pics_sps == 0 then 0 else ue_bits h.num_long_term_sps

-- rows 19 and 20 of picture i, whose element is what its cycles add to those before (7-52)
abbrev pub cycle_bits : PlainSliceSegmentHeader → (i : ℕ) → ℕ
cycle_bits h i =
    if slice_index_or h.delta_poc_msb_present_flag i false
    then 1 + ue_bits (slice_index h.delta_poc_msb_cycle_lt i - cycles_before i h)
    else 1

-- rows 16 to 20 of picture i: row 16 names one of the sequence set's, rows 17 and 18 another one
abbrev pub picture_bits : PlainSps → PlainSliceSegmentHeader → (i : ℕ) → ℕ
picture_bits sps h i =
    (if nat_lt i h.num_long_term_sps then ceil_log2 sps.num_long_term_ref_pics_sps
    else lsb_bits sps + 1)
    + cycle_bits h i

-- rows 14 to 20
abbrev pub long_term_bits : PlainSps → PlainSliceSegmentHeader → ℕ
long_term_bits sps h =
    candidate_count_bits sps h + ue_bits h.num_long_term_pics
    + sum (map (picture_bits sps h) (range_with_len 0 (h.num_long_term_sps + h.num_long_term_pics)))

-- none in a slice of an IDR picture, and where no long-term pictures are referred to
abbrev pub long_term_size : (nal_unit_type : ℕ) → PlainSps → PlainSliceSegmentHeader → ℕ
long_term_size nal_unit_type sps h =
    if is_idr nal_unit_type || not sps.long_term_ref_pics_present_flag then 0
    else long_term_bits sps h
