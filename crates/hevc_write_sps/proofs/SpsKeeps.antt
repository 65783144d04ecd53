-- What the parts of table 5 leave, and their loops.
use Rattle.std.proofs.Common.{◌≡◌, ℕ, zero, suc, ◌+◌, ◌-◌, ◌<◌, ◌^◌, Bool, true, false, List, []}
use Rattle.std.proofs.Common.{◌∷◌, ◌++◌, length, take, get_or, set, map, replicate, refl, sym, ap}
use Rattle.std.proofs.Common.{ap₂, subst, ◌∙◌, arith}
use Rattle.std.specs.Prelude.{ℤ}
use Rattle.hevc_spec.specs.Rows.{row, repeat, when, bits_row}
use Rattle.hevc_records.specs.ShortTermRefPicSet.{PlainShortTermRefPicSet}
use Rattle.hevc_records.specs.Sps.{PlainSps}
use Rattle.hevc_tables.specs.ShortTermTable.{short_term_ref_pic_set}
use Rattle.hevc_tables.specs.SpsSccExtensionTable.{SampleFormat}
use Rattle.hevc_tables.specs.SpsTable.{blocks, coding, common_ordering, cropping, depths}
use Rattle.hevc_tables.specs.SpsTable.{extension_data, extension_flags, extensions, format}
use Rattle.hevc_tables.specs.SpsTable.{identity, long_term, long_term_picture, long_term_pictures}
use Rattle.hevc_tables.specs.SpsTable.{orderings, own_ordering, own_orderings}
use Rattle.hevc_tables.specs.SpsTable.{pulse_code_modulation, range_extension, sample_format}
use Rattle.hevc_tables.specs.SpsTable.{samples, scaling, scaling_lists, scc_extension, short_term}
use Rattle.hevc_tables.specs.SpsTable.{short_term_set, short_term_sets, tools, usability}
use Rattle.hevc_tables.specs.SpsTable.{usability_information, window, with_block_sizes}
use Rattle.hevc_tables.specs.SpsTable.{with_half_ranges, with_picture_size}
use Rattle.hevc_tables.specs.VpsTable.{up_to_highest}
use Rattle.hevc_write_elements.specs.Filling.{EachFilling, Keeps, Writes, WritesTable, WritesTurn}
use Rattle.hevc_write_elements.specs.Filling.{WritesTurns, are_first}
use Rattle.hevc_write_elements.proofs.Steps.{IsDecided, IsFillable, bits_fillable, bits_table, by}
use Rattle.hevc_write_elements.proofs.Steps.{check_fillable, counted_part_written, decided_by}
use Rattle.hevc_write_elements.proofs.Steps.{done_filled, either_kept, filled, flag_fillable, flags}
use Rattle.hevc_write_elements.proofs.Steps.{integers, joined_filled, lists_decided, numbers}
use Rattle.hevc_write_elements.proofs.Steps.{one_table_written, pairs, part_kept, then_filled}
use Rattle.hevc_write_elements.proofs.Steps.{ue_fillable, when_fillable, when_filled, when_kept}
use Rattle.hevc_write_elements.proofs.Steps.{zero_fillable, zeros_fillable}
use Rattle.hevc_write_elements.proofs.Loops.{turns_keep, all_turns, all_same}
use Rattle.hevc_write_elements.proofs.Growing.{item_written, items_written, items_fillable}
use Rattle.hevc_write_set_parts.proofs.ProfileKeeps.{profile_tier_level_fillable}
use Rattle.hevc_write_set_parts.proofs.VuiKeeps.{vui_fillable}
use Rattle.hevc_write_scaling.proofs.Coded.{scaling_lists_fillable}
use Rattle.hevc_write_extensions.proofs.Extensions.{sps_range_fillable, sps_scc_fillable}
use Rattle.hevc_write_short_term.proofs.Tables.{short_term_set_fillable}
use Rattle.hevc_write_sps.specs.SpsParts as own

-- ---- decisions

-- two formats of samples are the same or not
pub formats : (f g : SampleFormat) → IsDecided f g
formats f g =
    decided_by (λ (h : SampleFormat). (
      h.chroma_format_idc,
      (h.bit_depth_luma_minus8, h.bit_depth_chroma_minus8),
    )) (λ k. record {
      chroma_format_idc = k.0;
      bit_depth_luma_minus8 = k.1.0;
      bit_depth_chroma_minus8 =
          k.1.1;
    }) (λ h. refl)
    (pairs (numbers f.chroma_format_idc g.chroma_format_idc)
    (pairs (numbers f.bit_depth_luma_minus8 g.bit_depth_luma_minus8)
    (numbers f.bit_depth_chroma_minus8 g.bit_depth_chroma_minus8)))

-- so are two short-term sets
sets_decided : (s t : PlainShortTermRefPicSet) → IsDecided s t
sets_decided s t =
    decided_by (λ
    (r : PlainShortTermRefPicSet). (
      (
        r.inter_ref_pic_set_prediction_flag,
        (r.delta_idx_minus1, (r.delta_rps_sign, r.abs_delta_rps_minus1)),
      ),
      (
        (r.num_negative_pics, (r.num_positive_pics, r.num_delta_pocs)),
        ((r.delta_poc_s0, r.used_by_curr_pic_s0), (r.delta_poc_s1, r.used_by_curr_pic_s1)),
      ),
    ))
    (λ k. record {
      inter_ref_pic_set_prediction_flag = k.0.0;
      delta_idx_minus1 = k.0.1.0;
      delta_rps_sign = k.0.1.1.0;
      abs_delta_rps_minus1 = k.0.1.1.1;
      num_negative_pics = k.1.0.0;
      num_positive_pics = k.1.0.1.0;
      num_delta_pocs = k.1.0.1.1;
      delta_poc_s0 = k.1.1.0.0;
      used_by_curr_pic_s0 = k.1.1.0.1;
      delta_poc_s1 = k.1.1.1.0;
      used_by_curr_pic_s1 = k.1.1.1.1;
    }) (λ r. refl)
    (pairs (pairs (flags s.inter_ref_pic_set_prediction_flag t.inter_ref_pic_set_prediction_flag)
    (pairs (numbers s.delta_idx_minus1 t.delta_idx_minus1)
    (pairs (flags s.delta_rps_sign t.delta_rps_sign) (numbers s.abs_delta_rps_minus1 t.abs_delta_rps_minus1))))
    (pairs (pairs (numbers s.num_negative_pics t.num_negative_pics)
    (pairs (numbers s.num_positive_pics t.num_positive_pics) (numbers s.num_delta_pocs t.num_delta_pocs)))
    (pairs (pairs (lists_decided integers s.delta_poc_s0 t.delta_poc_s0)
    (lists_decided flags s.used_by_curr_pic_s0 t.used_by_curr_pic_s0))
    (pairs (lists_decided integers s.delta_poc_s1 t.delta_poc_s1)
    (lists_decided flags s.used_by_curr_pic_s1 t.used_by_curr_pic_s1)))))

-- ---- short-term sets

module _ (count most : ℕ) where
  -- one short-term set is written
  pub set_written : (xs : List PlainShortTermRefPicSet) (i : ℕ)
      (d : PlainShortTermRefPicSet) {old new : List Bool} → i < length xs
      → WritesTable (short_term_ref_pic_set (take i xs) count most i) (get_or xs i d) old new
      → WritesTurn (short_term_set count most) (are_first xs) i old new
  unfolding short_term_set
  set_written xs i d lt writes = item_written (λ i sets. short_term_ref_pic_set sets count most i)
      (λ i sets. short_term_set_fillable sets count most i) xs i d (lists_decided sets_decided) lt writes

  -- the whole of it is written once all its turns are
  pub sets_written : (xs : List PlainShortTermRefPicSet) (n : ℕ) {old new : List Bool}
      → WritesTurns (short_term_set count most) (are_first xs) n old new → n ≡ length xs
      → WritesTable (short_term_sets count most) xs old new
  unfolding short_term_sets short_term_set
  sets_written xs n turns e = items_written (λ i sets. short_term_ref_pic_set sets count most i)
      (λ i sets. short_term_set_fillable sets count most i) xs n count turns e

  -- there are always lines of short term sets to write
  pub short_term_sets_fillable : IsFillable (short_term_sets count most)
  unfolding short_term_sets short_term_set
  short_term_sets_fillable = items_fillable (λ i sets. short_term_ref_pic_set sets count most i)
      (λ i sets. short_term_set_fillable sets count most i) count

-- ---- parts

-- sets no elements but those of rows 1 to 5
pub identity_keeps : Keeps identity own.identity_of
unfolding identity
identity_keeps = record {
  same = λ y. refl;
  last = λ x y z. refl;
  kept = λ y w. then_filled (filled (bits_fillable _ refl _ _ _)
      (λ v1 b1. then_filled (filled (bits_fillable _ refl _ _ _)
      (λ v2 b2. then_filled
      (filled (flag_fillable _ refl)
      (λ v3 b3. then_filled (filled (profile_tier_level_fillable _)
      (λ v4 b4. then_filled (filled (ue_fillable _ refl _ _) (λ v5 b5. done_filled refl))))))))));
}

-- sets no elements but those of rows 11 and 12, and what follows from them
pub window_keeps : Keeps window own.window_of
unfolding window
window_keeps = record {
  same = λ y. refl;
  last = λ x y z. refl;
  kept = λ y w. then_filled
      (filled (ue_fillable _ refl _ _)
      (λ v1 b1. then_filled
      (filled (ue_fillable _ refl _ _)
      (λ v2 b2. then_filled
      (filled (ue_fillable _ refl _ _)
      (λ v3 b3. then_filled
      (filled (ue_fillable _ refl _ _)
      (λ v4 b4. then_filled (filled (check_fillable _ _) (λ v5 b5. done_filled refl))))))))));
}

-- sets no elements but those of rows 6 to 12, and what follows from them
pub framing_keeps : Keeps own.framing_rows own.framing_of
unfolding samples with_picture_size cropping
framing_keeps = record {
  same = λ y. refl;
  last = λ x y z. refl;
  kept = λ y w.
      then_filled (then_filled
      (filled (ue_fillable _ refl _ _)
      (λ v1 b1. then_filled (filled (when_fillable _ _ (flag_fillable _ refl))
      (λ v2 b2. then_filled
      (filled (ue_fillable _ refl _ _) (λ v3 b3. then_filled (filled (ue_fillable _ refl _ _) (λ v4 b4. done_filled (
      then_filled (filled (flag_fillable _ refl)
      (λ v5 b5. when_kept window own.window_of window_keeps _ _ (λ z6 b6. refl)))))))))))));
}

-- a window is told of exactly where it is read
pub window_told : (c : Bool) (y : PlainSps) (w : List Bool) → y.conformance_window_flag ≡ false
    → EachFilling (when c y (window y)) w (λ z _. c ≡ z.conformance_window_flag)
unfolding window
window_told c y w none =
    when_filled (λ is. then_filled
    (filled (ue_fillable _ refl _ _)
    (λ v1 b1. then_filled
    (filled (ue_fillable _ refl _ _)
    (λ v2 b2. then_filled
    (filled (ue_fillable _ refl _ _)
    (λ v3 b3. then_filled
    (filled (ue_fillable _ refl _ _)
    (λ v4 b4. then_filled (filled (check_fillable _ _) (λ v5 b5. done_filled is))))))))))) (λ is. is ∙ sym none)

-- sets no elements but those of rows 13 to 15, and what follows from them
pub depths_keeps : Keeps depths own.depths_of
unfolding depths with_half_ranges
depths_keeps = record {
  same = λ y. refl;
  last = λ x y z. refl;
  kept = λ y w. then_filled
      (filled (ue_fillable _ refl _ _)
      (λ v1 b1. then_filled
      (filled (ue_fillable _ refl _ _)
      (λ v2 b2. then_filled (filled (ue_fillable _ refl _ _) (λ v3 b3. done_filled refl))))));
}

-- sets no elements but those of rows 17 to 19
own_ordering_keeps : (i : ℕ) → Keeps (own_ordering i) own.own_orderings_of
unfolding own_ordering
own_ordering_keeps i = record {
  same = λ y. refl;
  last = λ x y z. refl;
  kept = λ y w. then_filled
      (filled (ue_fillable _ refl _ _)
      (λ v1 b1. then_filled
      (filled (ue_fillable _ refl _ _)
      (λ v2 b2. then_filled (filled (ue_fillable _ refl _ _) (λ v3 b3. done_filled refl))))));
}

-- sets no elements but those of rows 17 to 19
pub counted_orderings_keep : (n : ℕ) → Keeps (repeat own_ordering 0 n) own.own_orderings_of
counted_orderings_keep n = turns_keep own_ordering own.own_orderings_of own_ordering_keeps n

-- sets no elements but those of rows 17 to 19
pub own_orderings_keeps : Keeps own_orderings own.own_orderings_of
unfolding own_orderings
own_orderings_keeps = record {
  same = λ y. refl;
  last = λ x y z. refl;
  kept = λ y w. (counted_orderings_keep (y.max_sub_layers_minus1 + 1)).kept y w;
}

-- the whole of it is written once all its turns are
pub orderings_written : (x : PlainSps) (n : ℕ) {old new : List Bool}
    → WritesTurns own_ordering (own.same_orderings x) n old new → n ≡ x.max_sub_layers_minus1 + 1
    → Writes own_orderings own.own_orderings_with_inputs_of x old new
unfolding own_orderings
orderings_written x n {old = old} {new = new} turns e =
    let all : Writes (repeat own_ordering 0 (x.max_sub_layers_minus1 + 1)) own.own_orderings_of x old new =
    subst (λ (k : ℕ). Writes (repeat own_ordering 0 k) own.own_orderings_of x old new) e
    (all_turns own_ordering (own.same_orderings x)
    (λ z is. (
      all_same _ _ _ (by is (λ r. r.max_dec_pic_buffering_minus1)),
      all_same _ _ _ (by is (λ r. r.max_num_reorder_pics)),
      all_same _ _ _ (by is (λ r. r.max_latency_increase_plus1)),
    )) turns) in
    record {
      written = λ y w. counted_part_written
          (repeat own_ordering 0) own.own_orderings_of counted_orderings_keep
          (y.max_sub_layers_minus1 + 1) y all refl
          (λ z b h e at. h (by e (λ r. r.max_sub_layers_minus1 + 1)) _ e refl at);
    }

-- sets no elements but those of rows 17 to 19
pub common_ordering_keeps : Keeps common_ordering own.own_orderings_of
unfolding common_ordering
common_ordering_keeps = record {
  same = λ y. refl;
  last = λ x y z. refl;
  kept = λ y w. then_filled
      (filled (ue_fillable _ refl _ _)
      (λ v1 b1. then_filled
      (filled (ue_fillable _ refl _ _)
      (λ v2 b2. then_filled (filled (ue_fillable _ refl _ _) (λ v3 b3. done_filled refl))))));
}

-- sets no elements but those of rows 16 to 19
pub orderings_keeps : Keeps orderings own.orderings_of
unfolding orderings
orderings_keeps = record {
  same = λ y. refl;
  last = λ x y z. refl;
  kept = λ y w. then_filled
      (filled (flag_fillable _ refl)
      (λ v1 b1. either_kept own_orderings common_ordering own.own_orderings_of own_orderings_keeps
      common_ordering_keeps _ _ (λ z2 b2. refl)));
}

-- sets no elements but those of rows 20 to 24, and what follows from them
pub blocks_keeps : Keeps blocks own.blocks_of
unfolding blocks with_block_sizes with_picture_size
blocks_keeps = record {
  same = λ y. refl;
  last = λ x y z. refl;
  kept = λ y w. then_filled
      (filled (ue_fillable _ refl _ _)
      (λ v1 b1. then_filled
      (filled (ue_fillable _ refl _ _)
      (λ v2 b2. then_filled
      (filled (ue_fillable _ refl _ _)
      (λ v3 b3. then_filled
      (filled (ue_fillable _ refl _ _)
      (λ v4 b4. then_filled (filled (check_fillable _ _) (λ v5 b5. done_filled refl))))))))));
}

-- sets no elements but those of row 29
pub scaling_lists_keeps : Keeps scaling_lists own.scaling_lists_of
unfolding scaling_lists
scaling_lists_keeps = record {
  same = λ y. refl;
  last = λ x y z. refl;
  kept = λ y w. then_filled (filled (scaling_lists_fillable) (λ v1 b1. done_filled refl));
}

-- sets no elements but those of rows 25 to 29
pub scaling_keeps : Keeps scaling own.scaling_of
unfolding scaling
scaling_keeps = record {
  same = λ y. refl;
  last = λ x y z. refl;
  kept = λ y w. then_filled
      (filled (ue_fillable _ refl _ _)
      (λ v1 b1. then_filled
      (filled (ue_fillable _ refl _ _)
      (λ v2 b2. then_filled
      (filled (flag_fillable _ refl)
      (λ v3 b3. then_filled (filled (when_fillable _ _ (flag_fillable _ refl))
      (λ v4 b4. when_kept scaling_lists own.scaling_lists_of scaling_lists_keeps _ _ (λ z5 b5. refl)))))))));
}

-- sets no elements but those of rows 31 to 34
pub pulse_code_modulation_keeps : Keeps pulse_code_modulation own.pulse_code_modulation_of
unfolding pulse_code_modulation
pulse_code_modulation_keeps = record {
  same = λ y. refl;
  last = λ x y z. refl;
  kept = λ y w. then_filled (filled (bits_fillable _ refl _ _ _)
      (λ v1 b1. then_filled (filled (bits_fillable _ refl _ _ _)
      (λ v2 b2. then_filled
      (filled (ue_fillable _ refl _ _)
      (λ v3 b3. then_filled
      (filled (ue_fillable _ refl _ _)
      (λ v4 b4. then_filled (filled (flag_fillable _ refl) (λ v5 b5. done_filled refl))))))))));
}

-- sets no elements but those of rows 30 to 34
pub tools_keeps : Keeps tools own.tools_of
unfolding tools
tools_keeps = record {
  same = λ y. refl;
  last = λ x y z. refl;
  kept = λ y w. then_filled
      (filled (flag_fillable _ refl)
      (λ v1 b1. then_filled
      (filled (flag_fillable _ refl)
      (λ v2 b2. then_filled
      (filled (flag_fillable _ refl)
      (λ v3 b3. when_kept pulse_code_modulation own.pulse_code_modulation_of pulse_code_modulation_keeps _ _
      (λ z4 b4. refl)))))));
}

-- sets no elements but those of rows 35 and 36
pub short_term_keeps : Keeps short_term own.short_term_of
unfolding short_term
short_term_keeps = record {
  same = λ y. refl;
  last = λ x y z. refl;
  kept = λ y w. then_filled
      (filled (ue_fillable _ refl _ _)
      (λ v1 b1. then_filled (filled (short_term_sets_fillable _ _) (λ v2 b2. done_filled refl))));
}

-- sets no elements but those of rows 39 and 40
long_term_picture_keeps : (i : ℕ) → Keeps (long_term_picture i) own.long_term_pictures_of
unfolding long_term_picture
long_term_picture_keeps i = record {
  same = λ y. refl;
  last = λ x y z. refl;
  kept = λ y w. then_filled (filled (bits_fillable _ refl _ _ _)
      (λ v1 b1. then_filled (filled (flag_fillable _ refl) (λ v2 b2. done_filled refl))));
}

-- sets no elements but those of rows 39 and 40
pub counted_pictures_keep : (n : ℕ) → Keeps (repeat long_term_picture 0 n) own.long_term_pictures_of
counted_pictures_keep n = turns_keep long_term_picture own.long_term_pictures_of long_term_picture_keeps n

-- sets no elements but those of rows 39 and 40
pub long_term_pictures_keeps : Keeps long_term_pictures own.long_term_pictures_of
unfolding long_term_pictures
long_term_pictures_keeps = record {
  same = λ y. refl;
  last = λ x y z. refl;
  kept = λ y w. (counted_pictures_keep y.num_long_term_ref_pics_sps).kept y w;
}

-- the whole of it is written once all its turns are
pub pictures_written : (x : PlainSps) (n : ℕ) {old new : List Bool}
    → WritesTurns long_term_picture (own.same_pictures x) n old new → n ≡ x.num_long_term_ref_pics_sps
    → Writes long_term_pictures own.long_term_pictures_with_inputs_of x old new
unfolding long_term_pictures
pictures_written x n {old = old} {new = new} turns e =
    let all : Writes (repeat long_term_picture 0 x.num_long_term_ref_pics_sps)
    own.long_term_pictures_with_inputs_of x old new =
    subst (λ (k : ℕ). Writes (repeat long_term_picture 0 k) own.long_term_pictures_with_inputs_of x old new) e
    (all_turns long_term_picture (own.same_pictures x)
    (λ z is. (
      by is (λ r. r.log2_max_pic_order_cnt_lsb_minus4),
      all_same _ _ _ (by is (λ r. r.lt_ref_pic_poc_lsb_sps)),
      all_same _ _ _ (by is (λ r. r.used_by_curr_pic_lt_sps_flag)),
    )) turns) in
    record {
      written = λ y w. counted_part_written (repeat long_term_picture 0) own.long_term_pictures_of
          counted_pictures_keep y.num_long_term_ref_pics_sps y all refl
          (λ z b h e at. h (by e (λ r. r.num_long_term_ref_pics_sps)) _ e refl at);
    }

-- sets no elements but those of rows 37 to 40
pub long_term_keeps : Keeps long_term own.long_term_of
unfolding long_term
long_term_keeps = record {
  same = λ y. refl;
  last = λ x y z. refl;
  kept = λ y w. then_filled
      (filled (flag_fillable _ refl)
      (λ v1 b1. then_filled (filled (when_fillable _ _ (ue_fillable _ refl _ _))
      (λ v2 b2. part_kept long_term_pictures own.long_term_pictures_of long_term_pictures_keeps _ (λ z3 b3. refl)))));
}

-- sets no elements but those of row 42
pub usability_information_keeps : Keeps usability_information own.usability_information_of
unfolding usability_information
usability_information_keeps = record {
  same = λ y. refl;
  last = λ x y z. refl;
  kept = λ y w. then_filled (filled (vui_fillable _) (λ v1 b1. done_filled refl));
}

-- sets no elements but those of rows 41 and 42
pub usability_keeps : Keeps usability own.usability_of
unfolding usability
usability_keeps = record {
  same = λ y. refl;
  last = λ x y z. refl;
  kept = λ y w. then_filled
      (filled (flag_fillable _ refl)
      (λ v1 b1. then_filled
      (filled (flag_fillable _ refl)
      (λ v2 b2. then_filled
      (filled (flag_fillable _ refl)
      (λ v3 b3. when_kept usability_information own.usability_information_of usability_information_keeps _ _
      (λ z4 b4. refl)))))));
}

-- sets no elements but those of rows 44 to 48
pub extension_flags_keeps : Keeps extension_flags own.extension_flags_of
unfolding extension_flags
extension_flags_keeps = record {
  same = λ y. refl;
  last = λ x y z. refl;
  kept = λ y w. then_filled
      (filled (flag_fillable _ refl)
      (λ v1 b1. then_filled
      (filled (zero_fillable _ refl)
      (λ v2 b2. then_filled
      (filled (zero_fillable _ refl)
      (λ v3 b3. then_filled
      (filled (flag_fillable _ refl)
      (λ v4 b4. then_filled (filled (zeros_fillable _ 4 refl) (λ v5 b5. done_filled refl))))))))));
}

-- sets no elements but those of row 49, and the half ranges that follow from it
pub range_extension_keeps : Keeps range_extension own.range_extension_of
unfolding range_extension with_half_ranges
range_extension_keeps = record {
  same = λ y. refl;
  last = λ x y z. refl;
  kept = λ y w. then_filled (filled (sps_range_fillable) (λ v1 b1. done_filled refl));
}

-- sets no elements but those of row 50
pub scc_extension_keeps : Keeps scc_extension own.scc_extension_of
unfolding scc_extension
scc_extension_keeps = record {
  same = λ y. refl;
  last = λ x y z. refl;
  kept = λ y w. then_filled (filled (sps_scc_fillable _) (λ v1 b1. done_filled refl));
}

-- sets no elements but those of rows 44 to 50, and what follows from them
pub extension_data_keeps : Keeps extension_data own.extension_data_of
unfolding extension_data
extension_data_keeps = record {
  same = λ y. refl;
  last = λ x y z. refl;
  kept = λ y w. then_filled (part_kept extension_flags own.extension_flags_of extension_flags_keeps _
      (λ z1 b1. then_filled (when_kept range_extension own.range_extension_of range_extension_keeps _ _
      (λ z2 b2. when_kept scc_extension own.scc_extension_of scc_extension_keeps _ _ (λ z3 b3. refl)))));
}

-- sets no elements but those of rows 43 to 50, and what follows from them
pub extensions_keeps : Keeps extensions own.extensions_of
unfolding extensions
extensions_keeps = record {
  same = λ y. refl;
  last = λ x y z. refl;
  kept = λ y w. then_filled
      (filled (flag_fillable _ refl)
      (λ v1 b1. when_kept extension_data own.extension_data_of extension_data_keeps _ _ (λ z2 b2. refl)));
}

-- sets no elements but those of rows 1 to 24, and what follows from them
pub format_keeps : Keeps format own.format_of
unfolding format
format_keeps = record {
  same = λ y. refl;
  last = λ x y z. refl;
  kept = λ y w. then_filled (part_kept identity own.identity_of identity_keeps _ (λ z1 b1.
      joined_filled (then_filled (part_kept own.framing_rows own.framing_of framing_keeps _ (λ z2 b2.
      then_filled (part_kept depths own.depths_of depths_keeps _ (λ z3 b3.
      then_filled (part_kept orderings own.orderings_of orderings_keeps _ (λ z4 b4.
      part_kept blocks own.blocks_of blocks_keeps _ (λ z5 b5. refl))))))))));
}

-- sets no elements but those of rows 25 to 50, and what follows from them
pub coding_keeps : Keeps coding own.coding_of
unfolding coding
coding_keeps = record {
  same = λ y. refl;
  last = λ x y z. refl;
  kept = λ y w. then_filled (part_kept scaling own.scaling_of scaling_keeps _
      (λ z1 b1. then_filled (part_kept tools own.tools_of tools_keeps _
      (λ z2 b2. then_filled (part_kept short_term own.short_term_of short_term_keeps _
      (λ z3 b3. then_filled (part_kept long_term own.long_term_of long_term_keeps _
      (λ z4 b4. then_filled (part_kept usability own.usability_of usability_keeps _
      (λ z5 b5. part_kept extensions own.extensions_of extensions_keeps _ (λ z6 b6. refl)))))))))));
}
