-- What the units of worked streams mean, computed.
use Rattle.std.proofs.Common.{◌≡◌, false, true, [], ◌∷◌, map, refl}
use Rattle.hevc_walk.specs.Meanings.{TruncatedNalu, InvalidNaluType, OutOfBits, OutOfRange}
use Rattle.hevc_walk.specs.Meanings.{MissingPps, SequenceSet, CodedSlice, EndOfSequence}
use Rattle.hevc_walk.specs.Meanings.{EndOfBitstream, Other, Refused}
use Rattle.hevc_stream.specs.Options.{default_options}
use Rattle.hevc_stream.specs.Stream.{meanings}
use Rattle.hevc_walk_examples.specs.Streams.{plain_format, deep_format, p4, cra, dependent, plain}
use Rattle.hevc_walk_examples.specs.Streams.{encoded, crowded, leading, ended_by, equal_counts}
use Rattle.hevc_walk_examples.specs.Streams.{without_reference, dependent_alone, dependent_behind}
use Rattle.hevc_stream_examples.specs.Worked.{plain_stream, encoded_stream, waiting_stream}
use Rattle.hevc_stream_examples.specs.Worked.{still_waiting_stream, read_later_stream}
use Rattle.hevc_stream_examples.specs.Worked.{in_order_stream, cut_sets_stream, cut_set_stream}
use Rattle.hevc_stream_examples.specs.Worked.{not_read_again_stream, read_again_stream}
use Rattle.hevc_stream_examples.specs.Worked.{resized_stream, mid_picture_stream}
use Rattle.hevc_stream_examples.specs.Worked.{ended_within_stream, crowded_stream}
use Rattle.hevc_stream_examples.specs.Worked.{ends_early_stream, missing_set_stream}
use Rattle.hevc_stream_examples.specs.Worked.{no_sets_yet_stream, truncated_stream}
use Rattle.hevc_stream_examples.specs.Worked.{unspecified_stream, no_temporal_id_stream}
use Rattle.hevc_stream_examples.specs.Worked.{end_cut_stream, many_sub_layers_stream}
use Rattle.hevc_stream_examples.specs.Worked.{no_level_stream, long_latency_stream, leading_stream}
use Rattle.hevc_stream_examples.specs.Worked.{sequence_ends_stream, bitstream_ends_stream}
use Rattle.hevc_stream_examples.specs.Worked.{equal_counts_stream, without_reference_stream}
use Rattle.hevc_stream_examples.specs.Worked.{dependent_alone_stream, dependent_behind_stream}
use Rattle.hevc_stream_examples.specs.Worked.{before_sets_stream, cut_video_set_stream}
use Rattle.hevc_stream_examples.specs.Worked.{two_layers_stream, large_stream, screen_stream}
use Rattle.hevc_stream_examples.specs.Worked.{idr_stream, longer_idr_stream, longer_idr_of}
use Rattle.hevc_stream_examples.specs.Worked.{ended_stream, ended_twice_stream, referring_stream}
use Rattle.hevc_stream_examples.specs.Worked.{referring_slices, cra_within_stream}
use Rattle.hevc_stream_examples.specs.Worked.{sub_layers_stream, cut_pps_bytes, other_pps_bytes}
use Rattle.hevc_stream_examples.specs.Worked.{idr_of, sets_then, waiting_behind, video_set_stream}
use Rattle.hevc_stream_examples.specs.Worked.{has_video_set, wide_format, large_format}
use Rattle.hevc_stream_examples.specs.Worked.{screen_format, idr_under, later_idr_at_1}
use Rattle.hevc_stream_examples.specs.Worked.{sub_layer_p2, handled, cra_as_bla, up_to}
use Rattle.hevc_spec.specs.Bits as bits
use Rattle.hevc_spec.specs.Payload as payload
use Rattle.hevc_spec.specs.Rows as rows
use Rattle.hevc_spec.specs.Units as units
use Rattle.hevc_records.specs.SpsSizes as sps_sizes
use Rattle.hevc_tables.specs.HrdTable as hrd_table
use Rattle.hevc_tables.specs.MathFunctions as math_functions
use Rattle.hevc_tables.specs.PpsRangeExtensionTable as pps_range_extension_table
use Rattle.hevc_tables.specs.PpsSccExtensionTable as pps_scc_extension_table
use Rattle.hevc_tables.specs.PpsTable as pps_table
use Rattle.hevc_tables.specs.ProfileTierLevelTable as profile_tier_level_table
use Rattle.hevc_tables.specs.RefPicListModificationTable as ref_pic_list_modification_table
use Rattle.hevc_tables.specs.ScalingListTable as scaling_list_table
use Rattle.hevc_tables.specs.ShortTermTable as short_term_table
use Rattle.hevc_tables.specs.SliceHeaderTable as slice_header_table
use Rattle.hevc_tables.specs.SpsRangeExtensionTable as sps_range_extension_table
use Rattle.hevc_tables.specs.SpsSccExtensionTable as sps_scc_extension_table
use Rattle.hevc_tables.specs.SpsTable as sps_table
use Rattle.hevc_tables.specs.VpsTable as vps_table
use Rattle.hevc_tables.specs.VuiTable as vui_table
use Rattle.hevc_tables.specs.WeightedPredictionTable as weighted_prediction_table
use Rattle.hevc_stream.specs.Contents as contents
use Rattle.hevc_stream.specs.Stream as stream

-- Each is computed with all parts of the tables opened.
pub record Rows : Type 0 where
  pub plain : meanings default_options plain_stream ≡ plain
  pub empty : meanings default_options [] ≡ []
  pub encoded : meanings default_options encoded_stream ≡ encoded
  pub waiting : meanings default_options waiting_stream ≡ Other ∷ SequenceSet plain_format ∷ idr_of plain_format ∷ []
  pub still_waiting : meanings default_options still_waiting_stream ≡ Other ∷ SequenceSet plain_format
      ∷ Refused (MissingPps 0) ∷ []
  pub read_later : meanings default_options read_later_stream ≡ Other ∷ SequenceSet plain_format
      ∷ SequenceSet plain_format ∷ idr_of plain_format ∷ []
  pub in_order : meanings default_options in_order_stream ≡ Other ∷ Other ∷ SequenceSet plain_format
      ∷ idr_of plain_format ∷ dependent ∷ []
  pub waits : waiting_behind cut_sets_stream ≡ cut_pps_bytes ∷ other_pps_bytes ∷ []
  pub leaves : waiting_behind cut_set_stream ≡ cut_pps_bytes ∷ []
  pub video_sets : map (has_video_set video_set_stream) (0 ∷ 5 ∷ []) ≡ false ∷ true ∷ []
  pub not_read_again : meanings default_options not_read_again_stream ≡ sets_then plain_format
      (SequenceSet deep_format ∷ Refused (OutOfRange 14 36) ∷ [])
  pub read_again : meanings default_options read_again_stream ≡ sets_then plain_format
      (sets_then deep_format (idr_of deep_format ∷ []))
  pub resized : meanings default_options resized_stream ≡ sets_then plain_format
      (idr_of plain_format ∷ sets_then wide_format (idr_of wide_format ∷ []))
  pub mid_picture : meanings default_options mid_picture_stream ≡ sets_then plain_format
      (idr_of plain_format ∷ sets_then wide_format (later_idr_at_1 wide_format ∷ []))
  pub ended_within : meanings default_options ended_within_stream ≡ sets_then wide_format
      (idr_of wide_format ∷ EndOfSequence ∷ later_idr_at_1 wide_format ∷ [])
  pub crowded : meanings default_options crowded_stream ≡ crowded
  pub ends_early : meanings default_options ends_early_stream ≡ sets_then plain_format
      (idr_of plain_format ∷ Refused OutOfBits ∷ [])
  pub missing_set : meanings default_options missing_set_stream ≡ sets_then plain_format (Refused (MissingPps 5) ∷ [])
  pub no_sets_yet : meanings default_options no_sets_yet_stream ≡ sets_then plain_format
      (Refused (OutOfRange 14 11) ∷ [])
  pub truncated : meanings default_options truncated_stream ≡ Refused TruncatedNalu ∷ []
  pub unspecified : meanings default_options unspecified_stream ≡ Refused (InvalidNaluType 62) ∷ []
  pub no_temporal_id : meanings default_options no_temporal_id_stream ≡ Refused (OutOfRange 0 1) ∷ []
  pub end_cut : meanings default_options end_cut_stream ≡ Refused (OutOfRange 0 1) ∷ []
  pub many_sub_layers : meanings default_options many_sub_layers_stream ≡ Refused (OutOfRange 5 2) ∷ []
  pub no_level : meanings default_options no_level_stream ≡ Refused (OutOfRange 2 27) ∷ []
  pub long_latency : meanings default_options long_latency_stream ≡ Refused (OutOfRange 5 19) ∷ []
  pub cut_video_set : meanings default_options cut_video_set_stream ≡ Refused OutOfBits ∷ []
  pub lower_layer : meanings (up_to 0) two_layers_stream ≡ sets_then plain_format (idr_under 0 0 1 ∷ [])
  pub higher_layer : meanings default_options two_layers_stream ≡ sets_then plain_format (idr_under 2 3 4 ∷ [])
  pub large : meanings default_options large_stream ≡ SequenceSet large_format ∷ []
  pub screen_content : meanings default_options screen_stream ≡ SequenceSet screen_format ∷ []
  pub referring : meanings default_options referring_stream ≡ sets_then wide_format referring_slices
  pub leading : meanings default_options leading_stream ≡ leading
  pub sequence_ends : meanings default_options sequence_ends_stream ≡ ended_by EndOfSequence
  pub bitstream_ends : meanings default_options bitstream_ends_stream ≡ ended_by EndOfBitstream
  pub idr : meanings default_options idr_stream ≡ sets_then plain_format (idr_of plain_format ∷ [])
  pub longer_idr : meanings default_options longer_idr_stream ≡ sets_then plain_format (longer_idr_of plain_format ∷ [])
  pub ended : meanings default_options ended_stream ≡ sets_then plain_format (idr_of plain_format ∷ EndOfSequence ∷ [])
  pub ended_twice : meanings default_options ended_twice_stream ≡ sets_then plain_format
      (idr_of plain_format ∷ EndOfSequence ∷ EndOfSequence ∷ [])
  pub equal_counts : meanings default_options equal_counts_stream ≡ equal_counts
  pub without_reference : meanings default_options without_reference_stream ≡ without_reference
  pub dependent_alone : meanings default_options dependent_alone_stream ≡ dependent_alone
  pub dependent_behind : meanings default_options dependent_behind_stream ≡ dependent_behind
  pub before_sets : meanings default_options before_sets_stream ≡ Other ∷ Other ∷ SequenceSet plain_format
      ∷ Other ∷ idr_of plain_format ∷ []
  pub as_cra : meanings default_options cra_within_stream ≡ sets_then plain_format (idr_of plain_format ∷ p4 ∷ cra ∷ [])
  pub as_bla : meanings cra_as_bla cra_within_stream ≡ map handled
      (sets_then plain_format (idr_of plain_format ∷ p4 ∷ cra ∷ []))
  pub lowest : meanings (up_to 0) sub_layers_stream ≡ sets_then plain_format (idr_of plain_format ∷ p4 ∷ Other ∷ [])
  pub with_sub_layer : meanings (up_to 1) sub_layers_stream ≡ sets_then plain_format
      (idr_of plain_format ∷ p4 ∷ CodedSlice sub_layer_p2 ∷ [])

pub computed : Rows
unfolding bits.bits_after bits.bits_at bits.golomb_at bits.ue_at payload.payload_bits payload.bits
    payload.bits_left rows.flag_row rows.zero_row rows.bits_row rows.ue_row rows.se_row
    rows.skip_row rows.check_row rows.when rows.repeat rows.either units.units_from
    sps_sizes.leaves_some hrd_table.schedule hrd_table.sub_layer_hrd_parameters
    hrd_table.decoding_units hrd_table.scales hrd_table.buffering hrd_table.common_parameters
    hrd_table.common_of hrd_table.sub_layer hrd_table.sub_layers hrd_table.hrd_parameters
    math_functions.ceil_log2 pps_range_extension_table.offset_pair
    pps_range_extension_table.offset_pairs pps_range_extension_table.offset_lists
    pps_range_extension_table.pps_range_extension pps_scc_extension_table.colour_transform
    pps_scc_extension_table.predictor pps_scc_extension_table.component_predictors
    pps_scc_extension_table.predictors pps_scc_extension_table.initializers
    pps_scc_extension_table.palettes pps_scc_extension_table.pps_scc_extension pps_table.named
    pps_table.ids pps_table.presence pps_table.quantiser pps_table.tools pps_table.told_size
    pps_table.told_parts pps_table.told_sizes pps_table.tile_counts pps_table.with_even_tiles
    pps_table.told_tiles pps_table.tiles pps_table.filter_offsets pps_table.deblocking
    pps_table.filters pps_table.scaling pps_table.merging pps_table.extension_flags
    pps_table.range_extension pps_table.scc_extension pps_table.extension_data pps_table.extensions
    pps_table.coding pps_table.picture_set_of pps_table.picture_parameter_set
    profile_tier_level_table.compatibility_flag profile_tier_level_table.compatibility_flags
    profile_tier_level_table.profiles profile_tier_level_table.source
    profile_tier_level_table.formats profile_tier_level_table.bit_depth_flag
    profile_tier_level_table.range_extensions_flags profile_tier_level_table.main_10_flags
    profile_tier_level_table.reserved_bits profile_tier_level_table.constraints
    profile_tier_level_table.inbld profile_tier_level_table.layer_profile
    profile_tier_level_table.level profile_tier_level_table.with_general_profile
    profile_tier_level_table.general_rows profile_tier_level_table.next_presence
    profile_tier_level_table.presence profile_tier_level_table.absent_layers
    profile_tier_level_table.with_sub_layer_profile profile_tier_level_table.sub_layer_profile
    profile_tier_level_table.sub_layer_level profile_tier_level_table.next_sub_layer
    profile_tier_level_table.sub_layers profile_tier_level_table.profile_tier_level
    ref_pic_list_modification_table.list_entry ref_pic_list_modification_table.list_entries
    ref_pic_list_modification_table.modification_l1 ref_pic_list_modification_table.modification_l0
    ref_pic_list_modification_table.ref_pic_list_modification scaling_list_table.next_entry
    scaling_list_table.coefs scaling_list_table.with_matrix scaling_list_table.coded_matrix
    scaling_list_table.predicted_matrix scaling_list_table.matrix scaling_list_table.next_matrix
    scaling_list_table.matrices scaling_list_table.scaling_list_data short_term_table.with_members
    short_term_table.differences short_term_table.shifted_one short_term_table.shifted
    short_term_table.rising short_term_table.predicted_members short_term_table.members_before
    short_term_table.members_after short_term_table.has_room short_term_table.prediction
    short_term_table.shift_of short_term_table.member_flags short_term_table.next_member_flags
    short_term_table.all_member_flags short_term_table.fitting_set short_term_table.predicted_set
    short_term_table.member_before short_term_table.next_member_before short_term_table.member_after
    short_term_table.next_member_after short_term_table.listed_before short_term_table.listed_after
    short_term_table.listed_set short_term_table.short_term_ref_pic_set slice_header_table.beginning
    slice_header_table.later_segment slice_header_table.kind slice_header_table.own_short_term_set
    slice_header_table.candidate_short_term_set slice_header_table.short_term_flag
    slice_header_table.short_term slice_header_table.long_term_counts
    slice_header_table.candidate_long_term_picture slice_header_table.other_long_term_picture
    slice_header_table.msb_cycles slice_header_table.long_term_picture
    slice_header_table.long_term_pictures slice_header_table.long_term
    slice_header_table.reference_pictures slice_header_table.adaptive_offset
    slice_header_table.own_active_counts slice_header_table.with_default_active_counts
    slice_header_table.active_counts slice_header_table.num_pic_total_curr
    slice_header_table.list_modification slice_header_table.with_pictures
    slice_header_table.reference_lists slice_header_table.motion slice_header_table.weights
    slice_header_table.prediction slice_header_table.chroma_offset slice_header_table.chroma_offsets
    slice_header_table.colour_transform_offsets slice_header_table.quantiser
    slice_header_table.extension_offsets slice_header_table.quantisers
    slice_header_table.filter_offsets slice_header_table.own_deblocking
    slice_header_table.across_slices slice_header_table.filters
    slice_header_table.independent_segment slice_header_table.entry_point
    slice_header_table.entry_points slice_header_table.entry_point_offsets
    slice_header_table.parallel_parts slice_header_table.header_extension slice_header_table.ending
    slice_header_table.header_of slice_header_table.elements slice_header_table.aligned
    slice_header_table.emulation_prevention_bytes slice_header_table.with_sizes
    slice_header_table.slice_segment_header sps_range_extension_table.sps_range_extension
    sps_scc_extension_table.predictor sps_scc_extension_table.component_predictors
    sps_scc_extension_table.predictors sps_scc_extension_table.initializers
    sps_scc_extension_table.palettes sps_scc_extension_table.sps_scc_extension sps_table.identity
    sps_table.with_picture_size sps_table.samples sps_table.window sps_table.cropping
    sps_table.with_half_ranges sps_table.depths sps_table.own_ordering sps_table.common_ordering
    sps_table.own_orderings sps_table.orderings sps_table.with_block_sizes sps_table.blocks
    sps_table.scaling_lists sps_table.scaling sps_table.pulse_code_modulation sps_table.tools
    sps_table.short_term_set sps_table.short_term_sets sps_table.short_term
    sps_table.long_term_picture sps_table.long_term_pictures sps_table.long_term
    sps_table.usability_information sps_table.usability sps_table.extension_flags
    sps_table.range_extension sps_table.scc_extension sps_table.extension_data sps_table.extensions
    sps_table.format sps_table.coding sps_table.sequence_parameter_set vps_table.identity
    vps_table.own_ordering vps_table.common_ordering vps_table.own_orderings vps_table.orderings
    vps_table.layer_sets vps_table.structure vps_table.structures vps_table.timing
    vps_table.timing_info vps_table.extension vps_table.video_parameter_set vui_table.aspect_ratio
    vui_table.overscan vui_table.colours vui_table.signal vui_table.signal_type
    vui_table.chroma_places vui_table.display_window vui_table.display vui_table.hrd
    vui_table.timing vui_table.timing_info vui_table.restrictions vui_table.stream_restrictions
    vui_table.vui_parameters weighted_prediction_table.luma_flag
    weighted_prediction_table.chroma_flag weighted_prediction_table.flags
    weighted_prediction_table.luma_weight weighted_prediction_table.chroma_component
    weighted_prediction_table.chroma_weight weighted_prediction_table.place_weights
    weighted_prediction_table.list_weights weighted_prediction_table.denominators
    weighted_prediction_table.with_list0 weighted_prediction_table.with_list1
    weighted_prediction_table.pred_weight_table contents.content stream.kept_behind stream.meaning
computed = record {
  plain = refl;
  empty = refl;
  encoded = refl;
  waiting = refl;
  still_waiting = refl;
  read_later = refl;
  in_order = refl;
  waits = refl;
  leaves = refl;
  video_sets = refl;
  not_read_again = refl;
  read_again = refl;
  resized = refl;
  mid_picture = refl;
  ended_within = refl;
  crowded = refl;
  ends_early = refl;
  missing_set = refl;
  no_sets_yet = refl;
  truncated = refl;
  unspecified = refl;
  no_temporal_id = refl;
  end_cut = refl;
  many_sub_layers = refl;
  no_level = refl;
  long_latency = refl;
  cut_video_set = refl;
  lower_layer = refl;
  higher_layer = refl;
  large = refl;
  screen_content = refl;
  referring = refl;
  leading = refl;
  sequence_ends = refl;
  bitstream_ends = refl;
  idr = refl;
  longer_idr = refl;
  ended = refl;
  ended_twice = refl;
  equal_counts = refl;
  without_reference = refl;
  dependent_alone = refl;
  dependent_behind = refl;
  before_sets = refl;
  as_cra = refl;
  as_bla = refl;
  lowest = refl;
  with_sub_layer = refl;
}
