-- What a slice segment means for the pictures,
-- with the sets that it makes active (7.4.2.4.2, 7.4.7.1).
use Rattle.std.specs.Prelude.{ℕ, ◌+◌, ◌-◌, ◌^◌, List, map, Option, Some, None}
use Rattle.hevc_spec.specs.UnitHeader.{UnitHeader}
use Rattle.hevc_records.specs.SliceHeader.{PlainSliceSegmentHeader}
use Rattle.hevc_tables.specs.SliceHeaderTable.{ActiveSets}
use Rattle.hevc_walk.specs.Meanings.{NamedSets, Slice, MissingPps, Meaning, CodedSlice, Refused}
use Rattle.hevc_stream.specs.Options.{Options}
use Rattle.hevc_walk_inputs.specs.Headers.{short_term_set_of, slice_header_of}
use Rattle.hevc_walk_inputs.specs.Sequences.{format_of_set, limits_of_set}

-- TemporalId (7-1)
abbrev pub temporal_id : UnitHeader → ℕ
temporal_id header = header.nuh_temporal_id_plus1 - 1

-- what the active sets say, where sub-layers up to this one are wanted
abbrev pub named_sets : ℕ → ActiveSets → NamedSets
named_sets wanted sets = record {
  format = format_of_set sets.sps;
  limits = limits_of_set wanted sets.sps;
  max_pic_order_cnt_lsb = 2 ^ (sets.sps.log2_max_pic_order_cnt_lsb_minus4 + 4);
  short_term_ref_pic_sets = map short_term_set_of sets.sps.short_term_ref_pic_set;
  pps_curr_pic_ref_enabled_flag = sets.pps.scc_extension.curr_pic_ref_enabled_flag;
}

-- a slice segment of a unit with this header and these bytes, as the walk over pictures has it
abbrev pub coded_slice : Options → UnitHeader → List ℕ → PlainSliceSegmentHeader → ActiveSets
    → Slice
coded_slice options header bytes segment sets = record {
  nal_unit_type = header.nal_unit_type;
  temporal_id = temporal_id header;
  bytes = bytes;
  handled_as_bla = options.handle_cra_as_bla;
  first_slice_segment_in_pic_flag = segment.first_slice_segment_in_pic_flag;
  no_output_of_prior_pics_flag = segment.no_output_of_prior_pics_flag;
  pic_parameter_set_id = segment.pic_parameter_set_id;
  dependent_slice_segment_flag = segment.dependent_slice_segment_flag;
  segment_address = segment.segment_address;
  header = slice_header_of segment;
  sets = named_sets options.highest_tid sets;
}

-- a slice segment with its active sets; one that was read has them
abbrev pub slice_segment_meaning : Options → UnitHeader → List ℕ → PlainSliceSegmentHeader
    → Option ActiveSets → Meaning
slice_segment_meaning options header bytes segment (Some sets) =
    CodedSlice (coded_slice options header bytes segment sets)
slice_segment_meaning options header bytes segment None =
    Refused (MissingPps segment.pic_parameter_set_id)
