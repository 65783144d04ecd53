-- Places of long-term pictures in a slice segment header.
use Rattle.std.specs.Prelude.{◌≡◌, length}
use Rattle.hevc_records.specs.SliceHeader.{PlainSliceSegmentHeader}

-- there are sixteen for what tells of their order counts
pub record HasPlaces (h : PlainSliceSegmentHeader) : Type 0 where
  pub flags : length h.delta_poc_msb_present_flag ≡ 16
  pub cycles : length h.delta_poc_msb_cycle_lt ≡ 16
