-- What the parts of tables 3 and 4 leave, and their loops.
use Rattle.std.proofs.Common.{◌≡◌, ℕ, ◌+◌, Bool, true, false, List, refl, sym, subst, ◌∙◌}
use Rattle.hevc_spec.specs.Rows.{when}
use Rattle.hevc_records.specs.HrdParams.{PlainHrdParams}
use Rattle.hevc_records.specs.SublayerHrdParameters.{PlainSublayerHrdParameters, default_sublayer_hrd_parameters}
use Rattle.hevc_records.proofs.BoundLemmas.{AtMost-at}
use Rattle.hevc_tables.specs.HrdTable.{schedule, sub_layer_hrd_parameters, decoding_units, scales}
use Rattle.hevc_tables.specs.HrdTable.{buffering, common_parameters, common_of, sub_layer}
use Rattle.hevc_tables.specs.HrdTable.{sub_layers, hrd_parameters}
use Rattle.hevc_write_elements.specs.Filling.{Keeps, Writes, WritesTable, WritesTurns, WritesIf}
use Rattle.hevc_write_elements.proofs.Steps.{then_filled, done_filled, kept_rows, IsFillable}
use Rattle.hevc_write_elements.proofs.Steps.{part_kept, when_kept, part_written, by}
use Rattle.hevc_write_elements.proofs.Loops.{turns_keep, turns_fillable, turns_table, all_turns, all_same}
use Rattle.hevc_write_set_parts.specs.HrdParts as own

-- ---- table 4

-- there are always lines of schedule to write
schedule_fillable : (by_units : Bool) (i : ℕ) (hrd : PlainSublayerHrdParameters) → IsFillable (schedule by_units i hrd)
unfolding schedule
schedule_fillable by_units i hrd = record { fill = λ w. search kept_rows depth 40 fits 4000 }

-- there are always lines of sub layer hrd parameters to write
pub schedules_fillable : (by_units : Bool) (cpb_cnt_minus1 : ℕ)
    → IsFillable (sub_layer_hrd_parameters by_units cpb_cnt_minus1)
unfolding sub_layer_hrd_parameters
schedules_fillable by_units n =
    turns_fillable (schedule by_units) (schedule_fillable by_units) (n + 1) default_sublayer_hrd_parameters

-- the whole of it is written once all its turns are
pub schedules_written : (by_units : Bool) (x : PlainSublayerHrdParameters) (n cpb_cnt_minus1 : ℕ)
    (old new : List Bool) → WritesTurns (schedule by_units) (own.same_schedules x) n old new
    → n ≡ cpb_cnt_minus1 + 1 → WritesTable (sub_layer_hrd_parameters by_units cpb_cnt_minus1) x old new
unfolding sub_layer_hrd_parameters
schedules_written by_units x n m old new h e =
    subst (λ (k : ℕ). WritesTable
    (Rattle.hevc_spec.specs.Rows.repeat (schedule by_units) 0 k default_sublayer_hrd_parameters) x old new) e
    (turns_table (schedule by_units) (own.same_schedules x) (
      all_same _ _ _ refl,
      all_same _ _ _ refl,
      all_same _ _ _ refl,
      all_same _ _ _ refl,
      all_same _ _ _ refl,
    ) h default_sublayer_hrd_parameters)

-- ---- table 3: what all sub-layers have in common

-- sets no elements but those of rows 3 to 6
pub decoding_units_keep : Keeps decoding_units own.decoding_units_of
unfolding decoding_units
decoding_units_keep = record {
  same = λ y. refl;
  last = λ x y z. refl;
  kept = λ y w. search kept_rows depth 40 fits 4000;
}

-- sets no elements but those of rows 7 to 9
pub scales_keep : Keeps scales own.scales_of
unfolding scales
scales_keep = record { same = λ y. refl; last = λ x y z. refl; kept = λ y w. search kept_rows depth 40 fits 4000 }

-- sets no elements but those of rows 2 to 9
pub buffering_keeps : Keeps buffering own.buffering_of
unfolding buffering
buffering_keeps = record {
  same = λ y. refl;
  last = λ x y z. refl;
  kept = λ y w. search (
    kept_rows,
    when_kept decoding_units own.decoding_units_of decoding_units_keep,
    part_kept scales own.scales_of scales_keep,
  ) depth 40 fits 4000;
}

-- sets no elements but those of rows 1 to 9
pub common_parameters_keep : Keeps common_parameters own.common_parameters_of
unfolding common_parameters
common_parameters_keep = record {
  same = λ y. refl;
  last = λ x y z. refl;
  kept = λ y w. search (kept_rows, when_kept buffering own.buffering_of buffering_keeps) depth 40 fits 4000;
}

-- ---- table 3: each sub-layer

-- sets no elements but those of rows 10 to 16
sub_layer_keeps : (i : ℕ) → Keeps (sub_layer i) own.sub_layers_of
unfolding sub_layer
sub_layer_keeps i = record {
  same = λ y. refl;
  last = λ x y z. refl;
  kept = λ y w. search (kept_rows, schedules_fillable) depth 40 fits 4000;
}

-- sets no elements but those of rows 10 to 16
pub sub_layers_keep : (max_sub_layers_minus1 : ℕ) → Keeps (sub_layers max_sub_layers_minus1) own.sub_layers_of
unfolding sub_layers
sub_layers_keep m = turns_keep sub_layer own.sub_layers_of sub_layer_keeps (m + 1)

-- the whole of it is written once all its turns are
pub sub_layers_written : (x : PlainHrdParams) (n max_sub_layers_minus1 : ℕ) (old new : List Bool)
    → WritesTurns sub_layer (own.same_sub_layers x) n old new → n ≡ max_sub_layers_minus1 + 1
    → Writes (sub_layers max_sub_layers_minus1) own.sub_layers_with_inputs_of x old new
unfolding sub_layers
sub_layers_written x n m old new h e =
    subst (λ (k : ℕ). Writes (Rattle.hevc_spec.specs.Rows.repeat sub_layer 0 k)
    own.sub_layers_with_inputs_of x old new) e (all_turns sub_layer (own.same_sub_layers x) (λ z is. (
      record {
        nal = by is (λ r. r.nal_hrd_parameters_present_flag);
        vcl = by is (λ r. r.vcl_hrd_parameters_present_flag);
        units = by is (λ r. r.sub_pic_hrd_params_present_flag);
      },
      all_same _ _ _ (by is (λ r. r.fixed_pic_rate_general_flag)),
      all_same _ _ _ (by is (λ r. r.fixed_pic_rate_within_cvs_flag)),
      all_same _ _ _ (by is (λ r. r.elemental_duration_in_tc_minus1)),
      all_same _ _ _ (by is (λ r. r.low_delay_hrd_flag)),
      all_same _ _ _ (by is (λ r. r.cpb_cnt_minus1)),
      all_same _ _ _ (by is (λ r. r.nal_hrd)),
      all_same _ _ _ (by is (λ r. r.vcl_hrd)),
    )) h)

pub ruleset bounds = (AtMost-at)

-- ---- table 3

-- all of table 3 is written by its two parts
pub hrd_written : (common : Bool) (max_sub_layers_minus1 : ℕ) (before x : PlainHrdParams)
    (old mid new : List Bool)
    → WritesIf common (Writes common_parameters own.common_parameters_of x) old mid
    → Writes (sub_layers max_sub_layers_minus1) own.sub_layers_with_inputs_of x mid new
    → WritesTable (hrd_parameters common max_sub_layers_minus1 before) x old new
unfolding hrd_parameters when common_of
hrd_written true m before x old mid new h g = record {
  written = λ w. then_filled
      (part_written common_parameters own.common_parameters_of common_parameters_keep _ (h.there refl) refl (λ v1 b1 h1.
      part_written (sub_layers m) own.sub_layers_of (sub_layers_keep m) _ g refl
      (λ v2 b2 h2 e at. h2 _ e refl (h1 _ e refl at))));
}
hrd_written false m before x old mid new h g = record {
  written = λ w. then_filled
      (done_filled (part_written (sub_layers m) own.sub_layers_of (sub_layers_keep m) _ g refl
      (λ v2 b2 h2 e at. h2 _ e refl (at ∙ sym (h.absent refl)))));
}

-- there are always lines of hrd parameters to write
pub hrd_fillable : (common : Bool) (max_sub_layers_minus1 : ℕ) (before : PlainHrdParams)
    → IsFillable (hrd_parameters common max_sub_layers_minus1 before)
unfolding hrd_parameters when common_of
hrd_fillable true m before = record {
  fill = λ w. then_filled (part_kept common_parameters own.common_parameters_of common_parameters_keep _
      (λ z b. part_kept (sub_layers m) own.sub_layers_of (sub_layers_keep m) _ (λ u d. tt)));
}
hrd_fillable false m before = record {
  fill = λ w. then_filled (done_filled (part_kept (sub_layers m) own.sub_layers_of (sub_layers_keep m) _ (λ u d. tt)));
}
