-- Plain events.
use Rattle.std.specs.Prelude.{ℕ, pos, replicate}
use Rattle.hevc_events.specs.declared.event.Places.{Places}
use Rattle.hevc_events.specs.declared.event.Window.{Window}
use Rattle.hevc_events.specs.declared.event.Sequence.{Sequence}
use Rattle.hevc_events.specs.declared.event.Event.{Event}

-- a list of no place
abbrev pub no_places : Places
no_places = record { numbers = replicate 16 0; kinds = replicate 16 0; count = 0 }

-- a window of no sample
abbrev pub no_window : Window
no_window = record { x = 0; y = 0; width = 0; height = 0 }

-- a sequence of which nothing is known
abbrev pub no_sequence : Sequence
no_sequence = record {
  general_level_idc = 0;
  sps_max_dec_pic_buffering_minus1 = 0;
  sps_max_num_reorder_pics = 0;
  sps_max_latency_increase_plus1 = 0;
  aspect_ratio_idc = 0;
  sar_width = 0;
  sar_height = 0;
  video_full_range_flag = 0;
  colour_primaries = 0;
  transfer_characteristics = 0;
  matrix_coeffs = 0;
  vui_num_units_in_tick = 0;
  vui_time_scale = 0;
}

-- an event of a kind, and nothing else
abbrev pub bare_event : (place kind : ℕ) → Event
bare_event place kind = record {
  place = place;
  kind = kind;
  nal_unit_type = 0;
  number = 0;
  timestamp = 0;
  order_count = pos 0;
  is_output = 0;
  width = 0;
  height = 0;
  window = no_window;
  sequence = no_sequence;
  general_profile_idc = 0;
  bit_depth_luma_minus8 = 0;
  bit_depth_chroma_minus8 = 0;
  chroma_format_idc = 0;
  max_num_pics = 0;
  address = 0;
  size = 0;
  lists = replicate 5 no_places;
}

-- an event that is about this picture, and nothing else
abbrev pub event_of_picture : (place kind number : ℕ) → Event
event_of_picture place kind number = record (bare_event place kind) { number = number }
