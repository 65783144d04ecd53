-- Structs whose fields are numbered from 1 on.
use Rattle.std.specs.Prelude.{ℕ, pos, [], ◌∷◌, ◌++◌, replicate}
use Rattle.hevc_events.specs.declared.event.Event.{Event}
use Rattle.hevc_events.specs.declared.event.Sequence.{Sequence}
use Rattle.hevc_events.specs.declared.event.Places.{Places}
use Rattle.hevc_events.specs.Plain.{no_places}
use Rattle.hevc_pull.specs.declared.calls.DecodeCall.{DecodeCall}
use Rattle.hevc_pull.specs.declared.reads.UnitRead.{UnitRead}
use Rattle.hevc_pull.specs.declared.units.UnitCall.{UnitCall}

-- a list with these in its last place
abbrev pub numbered_places : (count number kind : ℕ) → Places
numbered_places count number kind = record {
  numbers = replicate 15 0 ++ number ∷ [];
  kinds = replicate 15 0 ++ kind ∷ [];
  count = count;
}

abbrev pub numbered_sequence : Sequence
numbered_sequence = record {
  general_level_idc = 14;
  sps_max_dec_pic_buffering_minus1 = 15;
  sps_max_num_reorder_pics = 16;
  sps_max_latency_increase_plus1 = 17;
  aspect_ratio_idc = 18;
  sar_width = 19;
  sar_height = 20;
  video_full_range_flag = 21;
  colour_primaries = 22;
  transfer_characteristics = 23;
  matrix_coeffs = 24;
  vui_num_units_in_tick = 25;
  vui_time_scale = 26;
}

abbrev pub numbered_event : Event
numbered_event = record {
  place = 1;
  kind = 2;
  nal_unit_type = 3;
  number = 4;
  timestamp = 5;
  order_count = pos 6;
  is_output = 7;
  width = 8;
  height = 9;
  window = record { x = 10; y = 11; width = 12; height = 13 };
  sequence = numbered_sequence;
  general_profile_idc = 27;
  bit_depth_luma_minus8 = 28;
  bit_depth_chroma_minus8 = 29;
  chroma_format_idc = 30;
  max_num_pics = 31;
  address = 32;
  size = 33;
  lists =
      numbered_places 34 35 36 ∷
      no_places ∷ no_places ∷ no_places ∷
      numbered_places 37 38 39 ∷ [];
}

abbrev pub numbered_call : DecodeCall
numbered_call = record {
  timestamp = 1;
  free_frames = 2;
  offset = 3;
  size = 4;
  next = 5;
  table = 6;
  row = 7;
}

abbrev pub numbered_unit : UnitCall
numbered_unit = record {
  offset = 1;
  size = 2;
  next = 3;
  nal_unit_type = 4;
  layer_id = 5;
  temporal_id = 6;
  table = 7;
  row = 8;
}

-- the last field of each struct that is in it; the others stay
abbrev pub numbered_read : UnitRead → UnitRead
numbered_read told = record {
  unit = numbered_unit;
  vps = record told.vps { flags = 9 };
  sps = record told.sps { flags = 10 };
  pps = record told.pps { flags = 11 };
  slice = record told.slice { flags = 12 };
}
