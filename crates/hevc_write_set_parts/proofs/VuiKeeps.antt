-- What the parts of table 8 leave.
use Rattle.std.proofs.Common.{ℕ, refl}
use Rattle.hevc_tables.specs.VuiTable.{aspect_ratio, overscan, colours, signal, signal_type}
use Rattle.hevc_tables.specs.VuiTable.{chroma_places, display_window, display, hrd, timing}
use Rattle.hevc_tables.specs.VuiTable.{timing_info, restrictions, stream_restrictions}
use Rattle.hevc_tables.specs.VuiTable.{vui_parameters}
use Rattle.hevc_write_elements.specs.Filling.{Keeps}
use Rattle.hevc_write_elements.proofs.Steps.{IsFillable, then_filled, part_kept, kept_rows, when_kept}
use Rattle.hevc_write_set_parts.specs.VuiParts as own
use Rattle.hevc_write_set_parts.proofs.HrdKeeps.{hrd_fillable}

-- sets no elements but those of rows 1 to 3
pub aspect_ratio_keeps : Keeps aspect_ratio own.aspect_ratio_of
unfolding aspect_ratio
aspect_ratio_keeps = record {
  same = λ y. refl;
  last = λ x y z. refl;
  kept = λ y w. search kept_rows depth 40 fits 4000;
}

-- sets no elements but those of rows 4 and 5
pub overscan_keeps : Keeps overscan own.overscan_of
unfolding overscan
overscan_keeps = record { same = λ y. refl; last = λ x y z. refl; kept = λ y w. search kept_rows depth 40 fits 4000 }

-- sets no elements but those of row 9
pub colours_keeps : Keeps colours own.colours_of
unfolding colours
colours_keeps = record { same = λ y. refl; last = λ x y z. refl; kept = λ y w. search kept_rows depth 40 fits 4000 }

-- sets no elements but those of rows 7 to 9
pub signal_keeps : Keeps signal own.signal_of
unfolding signal
signal_keeps = record {
  same = λ y. refl;
  last = λ x y z. refl;
  kept = λ y w. search (kept_rows, when_kept colours own.colours_of colours_keeps) depth 40 fits 4000;
}

-- sets no elements but those of rows 6 to 9
pub signal_type_keeps : Keeps signal_type own.signal_type_of
unfolding signal_type
signal_type_keeps = record {
  same = λ y. refl;
  last = λ x y z. refl;
  kept = λ y w. search (kept_rows, when_kept signal own.signal_of signal_keeps) depth 40 fits 4000;
}

-- sets no elements but those of rows 10 to 12
pub chroma_places_keeps : Keeps chroma_places own.chroma_places_of
unfolding chroma_places
chroma_places_keeps = record {
  same = λ y. refl;
  last = λ x y z. refl;
  kept = λ y w. search kept_rows depth 40 fits 4000;
}

-- sets no elements but those of row 14
pub display_window_keeps : Keeps display_window own.display_window_of
unfolding display_window
display_window_keeps = record {
  same = λ y. refl;
  last = λ x y z. refl;
  kept = λ y w. search kept_rows depth 40 fits 4000;
}

-- sets no elements but those of rows 13 and 14
pub display_keeps : Keeps display own.display_of
unfolding display
display_keeps = record {
  same = λ y. refl;
  last = λ x y z. refl;
  kept = λ y w. search (kept_rows, when_kept display_window own.display_window_of display_window_keeps)
      depth 40 fits 4000;
}

-- sets no elements but those of row 20
pub hrd_keeps : (m : ℕ) → Keeps (hrd m) own.hrd_of
unfolding hrd
hrd_keeps m = record {
  same = λ y. refl;
  last = λ x y z. refl;
  kept = λ y w. search (kept_rows, hrd_fillable) depth 40 fits 4000;
}

-- sets no elements but those of rows 16 to 20
pub timing_keeps : (m : ℕ) → Keeps (timing m) own.timing_of
unfolding timing
timing_keeps m = record {
  same = λ y. refl;
  last = λ x y z. refl;
  kept = λ y w. search (kept_rows, when_kept (hrd m) own.hrd_of (hrd_keeps m)) depth 40 fits 4000;
}

-- sets no elements but those of rows 15 to 20
pub timing_info_keeps : (m : ℕ) → Keeps (timing_info m) own.timing_info_of
unfolding timing_info
timing_info_keeps m = record {
  same = λ y. refl;
  last = λ x y z. refl;
  kept = λ y w. search (kept_rows, when_kept (timing m) own.timing_of (timing_keeps m)) depth 40 fits 4000;
}

-- sets no elements but those of rows 22 to 26
pub restrictions_keeps : Keeps restrictions own.restrictions_of
unfolding restrictions
restrictions_keeps = record {
  same = λ y. refl;
  last = λ x y z. refl;
  kept = λ y w. search kept_rows depth 40 fits 4000;
}

-- sets no elements but those of rows 21 to 26
pub stream_restrictions_keeps : Keeps stream_restrictions own.stream_restrictions_of
unfolding stream_restrictions
stream_restrictions_keeps = record {
  same = λ y. refl;
  last = λ x y z. refl;
  kept = λ y w. search (kept_rows, when_kept restrictions own.restrictions_of restrictions_keeps) depth 40 fits 4000;
}

-- there are always lines of vui parameters to write
pub vui_fillable : (m : ℕ) → IsFillable (vui_parameters m)
unfolding vui_parameters
vui_fillable m = record {
  fill = λ w. then_filled (part_kept aspect_ratio own.aspect_ratio_of aspect_ratio_keeps _ (λ z1 b1.
      then_filled (part_kept overscan own.overscan_of overscan_keeps _ (λ z2 b2.
      then_filled (part_kept signal_type own.signal_type_of signal_type_keeps _ (λ z3 b3.
      then_filled (part_kept chroma_places own.chroma_places_of chroma_places_keeps _ (λ z4 b4.
      then_filled (part_kept display own.display_of display_keeps _ (λ z5 b5.
      then_filled (part_kept (timing_info m) own.timing_info_of (timing_info_keeps m) _ (λ z6 b6.
      part_kept stream_restrictions own.stream_restrictions_of stream_restrictions_keeps _ (λ z7 b7. tt)))))))))))));
}
