-- What events say of the calls of a log, and of what came with them.
use Rattle.std.specs.Prelude.{ℕ, ◌+◌, if◌then◌else◌, List, [], ◌∷◌, length, map, slice_index}
use Rattle.std.specs.Prelude.{Option, Some, None}
use Rattle.hevc_bits.specs.NaluType.{nalu_type_number}
use Rattle.hevc_refs.specs.declared.ref_pic_list.RefPicListEntry.{RefPicListEntry}
use Rattle.hevc_refs.specs.declared.ref_pic_list.RefPicListEntry.TheVariants as place
use Rattle.hevc_backend.specs.declared.call.Call.{Call}
use Rattle.hevc_backend.specs.declared.call.Call.TheVariants.{NewSequence, NewPicture, BeginPicture}
use Rattle.hevc_backend.specs.declared.call.Call.TheVariants.{DecodeSlice, SubmitPicture}
use Rattle.hevc_v4l2.specs.Arrays.{padded}
use Rattle.hevc_events.specs.declared.event.Places.{Places}
use Rattle.hevc_events.specs.declared.event.Window.{Window}
use Rattle.hevc_events.specs.declared.event.Sequence.{Sequence}
use Rattle.hevc_events.specs.declared.event.Event.{Event}
use Rattle.hevc_records.specs.Sps.{PlainSps}
use Rattle.hevc_records.specs.SpsSizes.{window_left, window_top, window_width, window_height}
use Rattle.hevc_sequence_set.specs.Sps.{plain_sps}
use Rattle.hevc_backend.specs.Calls.{new_sequence_call}
use Rattle.hevc_queue.specs.declared.given.Given.{Given}
use Rattle.hevc_queue.specs.declared.given.Given.TheVariants as given
use Rattle.hevc_queue.specs.Given.{call_of}
use Rattle.hevc_events.specs.Plain.{bare_event, event_of_picture, no_places}

-- ---- lists of pictures

-- the number of a member of a reference picture set, and whether there is such a picture (8.3.2)
abbrev pub member_number : Option ℕ → ℕ
member_number None = 0
member_number (Some number) = number

abbrev pub member_kind : Option ℕ → ℕ
member_kind None = 1
member_kind (Some number) = 0

abbrev pub places_of_members : List (Option ℕ) → Places
places_of_members members = record {
  numbers = padded 0 (map member_number members);
  kinds = padded 0 (map member_kind members);
  count = length members;
}

-- the same of a place of a reference picture list (8.3.4)
abbrev pub entry_number : Option RefPicListEntry → ℕ
entry_number None = 0
entry_number (Some place.CurrentPicture) = 0
entry_number (Some (place.DpbEntry number)) = number

abbrev pub entry_kind : Option RefPicListEntry → ℕ
entry_kind None = 1
entry_kind (Some place.CurrentPicture) = 2
entry_kind (Some (place.DpbEntry number)) = 0

abbrev pub places_of_entries : List (Option RefPicListEntry) → Places
places_of_entries entries = record {
  numbers = padded 0 (map entry_number entries);
  kinds = padded 0 (map entry_kind entries);
  count = length entries;
}

-- ---- events

-- what a call itself tells, with its place in the log
abbrev pub event_of_call : (place : ℕ) → Call ℕ → Event
event_of_call place (NewSequence info) = record (bare_event place 1) {
  width = info.coded_resolution.width;
  height = info.coded_resolution.height;
  general_profile_idc = info.general_profile_idc;
  bit_depth_luma_minus8 = info.bit_depth_luma_minus8;
  bit_depth_chroma_minus8 = info.bit_depth_chroma_minus8;
  chroma_format_idc = info.chroma_format_idc;
  max_num_pics = info.max_num_pics;
}
event_of_call place (NewPicture number nalu_type order_count output timestamp) =
    record (event_of_picture place 2 number) {
      nal_unit_type = nalu_type_number nalu_type;
      timestamp = timestamp;
      order_count = order_count;
      is_output = if output then 1 else 0;
    }
event_of_call place (BeginPicture number st_curr_before st_curr_after st_foll lt_curr lt_foll) =
    record (event_of_picture place 3 number) {
      lists =
          places_of_members st_curr_before ∷
          places_of_members st_curr_after ∷
          places_of_members st_foll ∷
          places_of_members lt_curr ∷
          places_of_members lt_foll ∷ [];
    }
event_of_call place (DecodeSlice number address bytes list0 list1) =
    record (event_of_picture place 4 number) {
      address = address;
      size = length bytes;
      lists =
          places_of_entries list0 ∷
          places_of_entries list1 ∷
          no_places ∷ no_places ∷ no_places ∷ [];
    }
event_of_call place (SubmitPicture number handle) = event_of_picture place 5 number

-- the conformance cropping window of pictures of a sequence (7.4.3.2.1)
abbrev pub window_of : PlainSps → Window
window_of s = record {
  x = window_left s;
  y = window_top s;
  width = window_width s;
  height = window_height s;
}

-- the size of pictures of a sequence, and what is shown of them
abbrev pub with_size : PlainSps → Event → Event
with_size s event = record event {
  width = s.pic_width_in_luma_samples;
  height = s.pic_height_in_luma_samples;
  window = window_of s;
}

-- what else a sequence parameter set says; the ordering numbers are those of the highest sub-layer
abbrev pub sequence_of : PlainSps → Sequence
sequence_of s = record {
  general_level_idc = s.profile_tier_level.general_level_idc;
  sps_max_dec_pic_buffering_minus1 =
      slice_index s.max_dec_pic_buffering_minus1 s.max_sub_layers_minus1;
  sps_max_num_reorder_pics = slice_index s.max_num_reorder_pics s.max_sub_layers_minus1;
  sps_max_latency_increase_plus1 =
      slice_index s.max_latency_increase_plus1 s.max_sub_layers_minus1;
  aspect_ratio_idc = s.vui_parameters.aspect_ratio_idc;
  sar_width = s.vui_parameters.sar_width;
  sar_height = s.vui_parameters.sar_height;
  video_full_range_flag = if s.vui_parameters.video_full_range_flag then 1 else 0;
  colour_primaries = s.vui_parameters.colour_primaries;
  transfer_characteristics = s.vui_parameters.transfer_characteristics;
  matrix_coeffs = s.vui_parameters.matrix_coeffs;
  vui_num_units_in_tick = s.vui_parameters.num_units_in_tick;
  vui_time_scale = s.vui_parameters.time_scale;
}

-- The event of what a call was given, which has this place among all: the call, and what is known of
-- the sequence, or of the size of a picture that begins.
abbrev pub event_of : (place : ℕ) → Given → Event
event_of place (given.Sequence sps) =
    record (with_size (plain_sps sps) (event_of_call place (new_sequence_call sps))) {
      sequence = sequence_of (plain_sps sps);
    }
event_of place (given.Begun b) =
    with_size (plain_sps b.sps) (event_of_call place (call_of (given.Begun b)))
event_of place other = event_of_call place (call_of other)

-- the events of what calls were given that have places from this one on
abbrev pub events_from : (place : ℕ) → List Given → List Event
events_from place [] = []
events_from place (g ∷ gs) = event_of place g ∷ events_from (place + 1) gs

-- those of all
abbrev pub events_of : List Given → List Event
events_of gs = events_from 0 gs
