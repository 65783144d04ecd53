-- What the parts of table 11 leave.
use Rattle.std.proofs.Common.{◌≡◌, ℕ, ◌+◌, ◌-◌, ◌<◌, Bool, List, length, get_or, set, replicate}
use Rattle.std.proofs.Common.{refl, sym, ap, subst, ◌∙◌, arith}
use Rattle.std.specs.Prelude.{None}
use Rattle.std.proofs.lemmas.List.{length-set, get_or-set_other}
use Rattle.hevc_spec.specs.declared.Row.{Row}
use Rattle.hevc_spec.specs.Rows.{row, repeat}
use Rattle.hevc_records.specs.Sps.{PlainSps}
use Rattle.hevc_tables.specs.PpsTable.{Parts, coding, deblocking, extension_data, extension_flags}
use Rattle.hevc_tables.specs.PpsTable.{extensions, filter_offsets, filters, ids, merging}
use Rattle.hevc_tables.specs.PpsTable.{picture_set_of, presence, quantiser, range_extension}
use Rattle.hevc_tables.specs.PpsTable.{scaling, scc_extension, tile_counts, tiles, told_parts}
use Rattle.hevc_tables.specs.PpsTable.{told_size, told_sizes, told_tiles, tools, with_even_tiles}
use Rattle.hevc_write_elements.specs.Choices.{chosen_value}
use Rattle.hevc_write_elements.specs.Filling.{EachFilling, Keeps, SameBelow, WritesTable}
use Rattle.hevc_write_elements.specs.Filling.{WritesTurn, WritesTurns, WritesUe}
use Rattle.hevc_write_elements.proofs.Fillings.{weakened}
use Rattle.hevc_write_elements.proofs.Steps.{IsFillable, bits_fillable, done_filled}
use Rattle.hevc_write_elements.proofs.Steps.{either_done_kept, filled, flag_fillable, part_kept}
use Rattle.hevc_write_elements.proofs.Steps.{se_fillable, then_filled, ue_fillable, ue_then}
use Rattle.hevc_write_elements.proofs.Steps.{when_fillable, when_kept, zero_fillable}
use Rattle.hevc_write_elements.proofs.Steps.{zeros_fillable}
use Rattle.hevc_write_elements.proofs.Loops.{one_less, turns_fillable}
use Rattle.hevc_write_scaling.proofs.Coded.{scaling_lists_fillable}
use Rattle.hevc_write_extensions.proofs.Extensions.{pps_range_fillable, pps_scc_fillable}
use Rattle.hevc_write_pps.specs.PpsParts as own

-- ---- told sizes

-- the first sizes are these, so many
abbrev pub same_sizes : List ℕ → ℕ → Parts → Type 0
same_sizes xs n parts = SameBelow n parts.sizes xs

-- a list is the same below the item that is set
before_set : (l xs : List ℕ) (n v : ℕ) → set l n v ≡ xs → SameBelow n l xs
before_set l xs n v e = record {
  long = sym (length-set l n v) ∙ ap length e;
  same = λ k d lt. sym (get_or-set_other l n k v d (omega arith)) ∙ ap (λ (ys : List ℕ). get_or ys k d) e;
}

module _ (r : Row) (kept : chosen_value r ≡ None) where
  -- there are always lines of told size to write
  told_size_fillable : (i : ℕ) (parts : Parts) → IsFillable (told_size r i parts)
  unfolding told_size
  told_size_fillable i parts = record {
    fill = λ w. then_filled (filled (ue_fillable r kept _ _) (λ v b. done_filled tt));
  }

  -- there are always lines of told sizes to write
  pub told_sizes_fillable : (places blocks last : ℕ) → IsFillable (told_sizes r places blocks last)
  unfolding told_sizes told_parts
  told_sizes_fillable places blocks last = record {
    fill = λ w. then_filled (filled (turns_fillable (told_size r) told_size_fillable last _)
        (λ parts b. done_filled tt));
  }

  -- one size is written
  pub told_size_written : (xs : List ℕ) (i : ℕ) {old new : List Bool} → i < length xs
      → WritesUe (get_or xs i 0) old new → WritesTurn (told_size r) (same_sizes xs) i old new
  unfolding told_size
  told_size_written xs i lt writes = record {
    written = λ y w. ue_then r kept _ _ writes (λ v _ b h. done_filled (λ a.
        let p = one_less i y.sizes xs v 0 lt a in
        (p.0, λ at. h p.1 at)));
  }

  -- the whole of it is written once all its turns are
  pub told_sizes_written : (xs : List ℕ) (n last : ℕ) {old new : List Bool}
      → WritesTurns (told_size r) (same_sizes xs) n old new → n ≡ last → (places blocks : ℕ)
      → WritesTable (told_sizes r places blocks last) xs old new
  unfolding told_sizes told_parts
  told_sizes_written xs n last {old = old} {new = new} turns e places blocks =
      let start : Parts = record { sizes = replicate places 0; left = blocks } in
      let all : (w : List Bool)
      → EachFilling (repeat (told_size r) 0 last start) w (λ z all. same_sizes xs last z → w ≡ old → all ≡ new) =
      λ w. subst (λ (k : ℕ). EachFilling (repeat (told_size r) 0 k start) w (λ z all. same_sizes xs k z
      → w ≡ old → all ≡ new)) e (turns.written start w) in
      record {
        written = λ w. then_filled
            (weakened (all w) (λ parts b p. done_filled (λ is at. p (before_set parts.sizes xs last _ is) at)));
      }

-- ---- parts

-- sets no elements but those of rows 1 and 2
pub ids_keeps : Keeps ids own.ids_of
unfolding ids
ids_keeps = record {
  same = λ y. refl;
  last = λ x y z. refl;
  kept = λ y w. then_filled
      (filled (ue_fillable _ refl _ _)
      (λ v1 b1. then_filled (filled (ue_fillable _ refl _ _) (λ v2 b2. done_filled refl))));
}

-- sets no elements but those of rows 3 to 7
pub presence_keeps : Keeps presence own.presence_of
unfolding presence
presence_keeps = record {
  same = λ y. refl;
  last = λ x y z. refl;
  kept = λ y w. then_filled
      (filled (flag_fillable _ refl)
      (λ v1 b1. then_filled
      (filled (flag_fillable _ refl)
      (λ v2 b2. then_filled (filled (bits_fillable _ refl _ _ _)
      (λ v3 b3. then_filled
      (filled (flag_fillable _ refl)
      (λ v4 b4. then_filled
      (filled (flag_fillable _ refl)
      (λ v5 b5. then_filled
      (filled (ue_fillable _ refl _ _)
      (λ v6 b6. then_filled (filled (ue_fillable _ refl _ _) (λ v7 b7. done_filled refl))))))))))))));
}

-- sets no elements but those of rows 8 to 12, and QpBdOffsetY
pub quantiser_keeps : (sps : PlainSps) → Keeps (quantiser sps) own.quantiser_of
unfolding quantiser
quantiser_keeps sps = record {
  same = λ y. refl;
  last = λ x y z. refl;
  kept = λ y w. then_filled
      (filled (se_fillable _ refl _ _)
      (λ v1 b1. then_filled
      (filled (flag_fillable _ refl)
      (λ v2 b2. then_filled
      (filled (flag_fillable _ refl)
      (λ v3 b3. then_filled
      (filled (flag_fillable _ refl)
      (λ v4 b4. then_filled (filled (when_fillable _ _ (ue_fillable _ refl _ _))
      (λ v5 b5. then_filled
      (filled (se_fillable _ refl _ _)
      (λ v6 b6. then_filled (filled (se_fillable _ refl _ _) (λ v7 b7. done_filled refl))))))))))))));
}

-- sets no elements but those of row 13
pub tools_keeps : Keeps tools own.tools_of
unfolding tools
tools_keeps = record {
  same = λ y. refl;
  last = λ x y z. refl;
  kept = λ y w. then_filled
      (filled (flag_fillable _ refl)
      (λ v1 b1. then_filled
      (filled (flag_fillable _ refl)
      (λ v2 b2. then_filled
      (filled (flag_fillable _ refl)
      (λ v3 b3. then_filled
      (filled (flag_fillable _ refl)
      (λ v4 b4. then_filled
      (filled (flag_fillable _ refl)
      (λ v5 b5. then_filled (filled (flag_fillable _ refl) (λ v6 b6. done_filled refl))))))))))));
}

-- sets no elements but those of rows 14 to 16
pub tile_counts_keeps : (sps : PlainSps) → Keeps (tile_counts sps) own.tile_counts_of
unfolding tile_counts
tile_counts_keeps sps = record {
  same = λ y. refl;
  last = λ x y z. refl;
  kept = λ y w. then_filled
      (filled (ue_fillable _ refl _ _)
      (λ v1 b1. then_filled
      (filled (ue_fillable _ refl _ _)
      (λ v2 b2. then_filled (filled (flag_fillable _ refl) (λ v3 b3. done_filled refl))))));
}

-- sets no elements but those of rows 17 and 18
pub told_tiles_keeps : (sps : PlainSps) → Keeps (told_tiles sps) own.told_tiles_of
unfolding told_tiles
told_tiles_keeps sps = record {
  same = λ y. refl;
  last = λ x y z. refl;
  kept = λ y w. then_filled (filled (told_sizes_fillable _ refl 20 _ _)
      (λ v1 b1. then_filled (filled (told_sizes_fillable _ refl 22 _ _) (λ v2 b2. done_filled refl))));
}

-- sets no elements but those of rows 22 and 23
pub filter_offsets_keeps : Keeps filter_offsets own.filter_offsets_of
unfolding filter_offsets
filter_offsets_keeps = record {
  same = λ y. refl;
  last = λ x y z. refl;
  kept = λ y w. then_filled
      (filled (se_fillable _ refl _ _)
      (λ v1 b1. then_filled (filled (se_fillable _ refl _ _) (λ v2 b2. done_filled refl))));
}

-- sets no elements but those of rows 21 to 23
pub deblocking_keeps : Keeps deblocking own.deblocking_of
unfolding deblocking
deblocking_keeps = record {
  same = λ y. refl;
  last = λ x y z. refl;
  kept = λ y w. then_filled
      (filled (flag_fillable _ refl)
      (λ v1 b1. then_filled
      (filled (flag_fillable _ refl)
      (λ v2 b2. when_kept filter_offsets own.filter_offsets_of filter_offsets_keeps _ _ (λ z3 b3. refl)))));
}

-- sets no elements but those of rows 20 to 23
pub filters_keeps : Keeps filters own.filters_of
unfolding filters
filters_keeps = record {
  same = λ y. refl;
  last = λ x y z. refl;
  kept = λ y w. then_filled
      (filled (flag_fillable _ refl)
      (λ v1 b1. then_filled
      (filled (flag_fillable _ refl)
      (λ v2 b2. when_kept deblocking own.deblocking_of deblocking_keeps _ _ (λ z3 b3. refl)))));
}

-- sets no elements but those of rows 24 and 25
pub scaling_keeps : Keeps scaling own.scaling_of
unfolding scaling
scaling_keeps = record {
  same = λ y. refl;
  last = λ x y z. refl;
  kept = λ y w. then_filled
      (filled (flag_fillable _ refl)
      (λ v1 b1. then_filled (filled (when_fillable _ _ scaling_lists_fillable) (λ v2 b2. done_filled refl))));
}

-- sets no elements but those of rows 26 to 28, but for the last flag
pub merging_keeps : (sps : PlainSps) → Keeps (merging sps) own.merging_of
unfolding merging
merging_keeps sps = record {
  same = λ y. refl;
  last = λ x y z. refl;
  kept = λ y w. then_filled
      (filled (flag_fillable _ refl)
      (λ v1 b1. then_filled
      (filled (ue_fillable _ refl _ _)
      (λ v2 b2. then_filled (filled (flag_fillable _ refl) (λ v3 b3. done_filled refl))))));
}

-- sets no elements but those of rows 29 to 33
pub extension_flags_keeps : Keeps extension_flags own.extension_flags_of
unfolding extension_flags
extension_flags_keeps = record {
  same = λ y. refl;
  last = λ x y z. refl;
  kept = λ y w. then_filled
      (filled (flag_fillable _ refl)
      (λ v1 b1. then_filled
      (filled (zero_fillable _ refl)
      (λ v2 b2. then_filled
      (filled (zero_fillable _ refl)
      (λ v3 b3. then_filled
      (filled (flag_fillable _ refl)
      (λ v4 b4. then_filled (filled (zeros_fillable _ 4 refl) (λ v5 b5. done_filled refl))))))))));
}

-- sets no elements but those of row 34
pub range_extension_keeps : (sps : PlainSps) → Keeps (range_extension sps) own.range_extension_of
unfolding range_extension
range_extension_keeps sps = record {
  same = λ y. refl;
  last = λ x y z. refl;
  kept = λ y w. then_filled (filled (pps_range_fillable _ _) (λ v1 b1. done_filled refl));
}

-- sets no elements but those of row 35
pub scc_extension_keeps : (sps : PlainSps) → Keeps (scc_extension sps) own.scc_extension_of
unfolding scc_extension
scc_extension_keeps sps = record {
  same = λ y. refl;
  last = λ x y z. refl;
  kept = λ y w. then_filled (filled (pps_scc_fillable _ _) (λ v1 b1. done_filled refl));
}

-- sets no elements but those of rows 29 to 35
pub extension_data_keeps : (sps : PlainSps) → Keeps (extension_data sps) own.extension_data_of
unfolding extension_data
extension_data_keeps sps = record {
  same = λ y. refl;
  last = λ x y z. refl;
  kept = λ y w. then_filled (part_kept extension_flags own.extension_flags_of extension_flags_keeps _
      (λ z1 b1. then_filled
      (when_kept (range_extension sps) own.range_extension_of (range_extension_keeps sps) _ _
      (λ z2 b2. when_kept (scc_extension sps) own.scc_extension_of (scc_extension_keeps sps) _ _ (λ z3 b3. refl)))));
}

-- sets no elements but the last flag of row 28, and those of rows 29 to 35
pub extensions_keeps : (sps : PlainSps) → Keeps (extensions sps) own.extensions_of
unfolding extensions
extensions_keeps sps = record {
  same = λ y. refl;
  last = λ x y z. refl;
  kept = λ y w. then_filled
      (filled (flag_fillable _ refl)
      (λ v1 b1. when_kept (extension_data sps) own.extension_data_of (extension_data_keeps sps) _ _ (λ z2 b2. refl)));
}

-- sets no elements but those of rows 14 to 19
pub tiles_keeps : (sps : PlainSps) → Keeps (tiles sps) own.tiles_of
unfolding tiles with_even_tiles
tiles_keeps sps = record {
  same = λ y. refl;
  last = λ x y z. refl;
  kept = λ y w. then_filled (part_kept (tile_counts sps) own.tile_counts_of (tile_counts_keeps sps) _ (λ z1 b1.
      then_filled (either_done_kept (told_tiles sps) own.told_tiles_of (told_tiles_keeps sps) _ _ _ refl (λ z2 b2.
      then_filled (filled (flag_fillable _ refl) (λ v3 b3. done_filled refl))))));
}

-- sets no elements but those of rows 3 to 19, and QpBdOffsetY
pub coding_keeps : (sps : PlainSps) → Keeps (coding sps) own.coding_of
unfolding coding
coding_keeps sps = record {
  same = λ y. refl;
  last = λ x y z. refl;
  kept = λ y w. then_filled (part_kept presence own.presence_of presence_keeps _
      (λ z1 b1. then_filled (part_kept (quantiser sps) own.quantiser_of (quantiser_keeps sps) _
      (λ z2 b2. then_filled (part_kept tools own.tools_of tools_keeps _
      (λ z3 b3. when_kept (tiles sps) own.tiles_of (tiles_keeps sps) _ _ (λ z4 b4. refl)))))));
}

-- sets no elements but those of rows 3 to 35, and QpBdOffsetY
pub picture_set_of_keeps : (sps : PlainSps) → Keeps (picture_set_of sps) own.body_of
unfolding picture_set_of
picture_set_of_keeps sps = record {
  same = λ y. refl;
  last = λ x y z. refl;
  kept = λ y w. then_filled (part_kept (coding sps) own.coding_of (coding_keeps sps) _
      (λ z1 b1. then_filled (part_kept filters own.filters_of filters_keeps _
      (λ z2 b2. then_filled (part_kept scaling own.scaling_of scaling_keeps _
      (λ z3 b3. then_filled (part_kept (merging sps) own.merging_of (merging_keeps sps) _
      (λ z4 b4. part_kept (extensions sps) own.extensions_of (extensions_keeps sps) _ (λ z5 b5. refl)))))))));
}
