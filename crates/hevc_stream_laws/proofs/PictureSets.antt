-- Picture parameter sets that are read (7.3.2.3.1).
use Rattle.std.proofs.Common.{◌≡◌, ℕ, ◌≤◌, Some, None, refl}
use Rattle.std.specs.Prelude.{Option}
use Rattle.hevc_spec.specs.declared.Row.{Row}
use Rattle.hevc_spec.specs.Rows.{row}
use Rattle.hevc_records.specs.Sps.{PlainSps}
use Rattle.hevc_records.specs.Pps.{PlainPps}
use Rattle.hevc_tables.specs.PpsTable.{named, presence, quantiser, tools, tile_counts}
use Rattle.hevc_tables.specs.PpsTable.{with_even_tiles, told_tiles, tiles, filter_offsets}
use Rattle.hevc_tables.specs.PpsTable.{deblocking, filters, scaling, merging, extension_flags}
use Rattle.hevc_tables.specs.PpsTable.{range_extension, scc_extension, extension_data, extensions}
use Rattle.hevc_tables.specs.PpsTable.{coding, picture_set_of, picture_parameter_set}
use Rattle.hevc_stream_laws.proofs.Gives.{Gives, free, of_done, of_missing, of_part, of_ue, of_when, of_either}

-- the active places of lists are at most 15, and the sequence set that is named is kept
pub record PictureFacts (kept : ℕ → Option PlainSps) (l0 l1 sequence_set : ℕ) : Type 0 where
  pub list0 : l0 ≤ 14
  pub list1 : l1 ≤ 14
  pub sps : PlainSps
  pub names : kept sequence_set ≡ Some sps

abbrev pub IsPictureSet : (ℕ → Option PlainSps) → PlainPps → Type 0
IsPictureSet kept p =
    PictureFacts kept p.num_ref_idx_l0_default_active_minus1 p.num_ref_idx_l1_default_active_minus1
    p.seq_parameter_set_id

pub of_named : {A : Type 0} (r : Row) (id : ℕ) (set : Option A) → Gives (named r id set) (λ x. set ≡ Some x)
unfolding named
of_named r id (Some x) = of_done (λ y. Some x ≡ Some y) x refl
of_named {A} r id None = of_missing (λ (y : A). None ≡ Some y) r id

module _ (kept : ℕ → Option PlainSps) where
  abbrev P : PlainPps → Type 0
  P p = IsPictureSet kept p

  -- before the lists' lengths are read
  abbrev Begins : PlainSps → PlainPps → Type 0
  Begins s p = kept p.seq_parameter_set_id ≡ Some s

  presence_gives : (s : PlainSps) (p : PlainPps) → Begins s p → Gives (presence p) P
  unfolding presence
  presence_gives s p h =
      free P (λ a. free P (λ b. free P (λ c. free P (λ d. free P (λ e.
      of_part _ P (of_ue (row 11 6) 0 14)
      (λ l0 m. of_part _ P (of_ue (row 11 7) 0 14)
      (λ l1 n. of_done P _ (record { list0 = m.1; list1 = n.1; sps = s; names = h }))))))))

  quantiser_gives : (s : PlainSps) (p : PlainPps) → P p → Gives (quantiser s p) P
  unfolding quantiser
  quantiser_gives s p h =
      free P (λ a. free P (λ b. free P (λ c. free P (λ d. free P (λ e. free P (λ f. free P (λ g. of_done P _ h)))))))

  tools_give : (p : PlainPps) → P p → Gives (tools p) P
  unfolding tools
  tools_give p h = free P (λ a. free P (λ b. free P (λ c. free P (λ d. free P (λ e. free P (λ f. of_done P _ h))))))

  counts_give : (s : PlainSps) (p : PlainPps) → P p → Gives (tile_counts s p) P
  unfolding tile_counts
  counts_give s p h = free P (λ a. free P (λ b. free P (λ c. of_done P _ h)))

  told_gives : (s : PlainSps) (p : PlainPps) → P p → Gives (told_tiles s p) P
  unfolding told_tiles
  told_gives s p h = free P (λ a. free P (λ b. of_done P _ h))

  even_is : (s : PlainSps) (p : PlainPps) → P p → P (with_even_tiles s p)
  unfolding with_even_tiles
  even_is s p h = h

  tiles_give : (s : PlainSps) (p : PlainPps) → P p → Gives (tiles s p) P
  unfolding tiles
  tiles_give s p h =
      of_part _ P (counts_give s p h)
      (λ a q. of_part _ P (of_either P a.uniform_spacing_flag _ _
      (λ _. of_done P (with_even_tiles s a) (even_is s a q)) (λ _. told_gives s a q))
      (λ b r. free P (λ c. of_done P _ r)))

  coding_gives : (s : PlainSps) (p : PlainPps) → Begins s p → Gives (coding s p) P
  unfolding coding
  coding_gives s p h =
      of_part _ P (presence_gives s p h)
      (λ a q. of_part _ P (quantiser_gives s a q) (λ b r. of_part _ P (tools_give b r) (λ c t.
      of_when P c.tiles_enabled_flag c (tiles s c) (λ _. tiles_give s c t) (λ _. t))))

  offsets_give : (p : PlainPps) → P p → Gives (filter_offsets p) P
  unfolding filter_offsets
  offsets_give p h = free P (λ a. free P (λ b. of_done P _ h))

  deblocking_gives : (p : PlainPps) → P p → Gives (deblocking p) P
  unfolding deblocking
  deblocking_gives p h = free P (λ a. free P (λ b. of_when P _ _ _ (λ _. offsets_give _ h) (λ _. h)))

  filters_give : (p : PlainPps) → P p → Gives (filters p) P
  unfolding filters
  filters_give p h = free P (λ a. free P (λ b. of_when P _ _ _ (λ _. deblocking_gives _ h) (λ _. h)))

  scaling_gives : (p : PlainPps) → P p → Gives (scaling p) P
  unfolding scaling
  scaling_gives p h = free P (λ a. free P (λ b. of_done P _ h))

  merging_gives : (s : PlainSps) (p : PlainPps) → P p → Gives (merging s p) P
  unfolding merging
  merging_gives s p h = free P (λ a. free P (λ b. free P (λ c. of_done P _ h)))

  flags_give : (p : PlainPps) → P p → Gives (extension_flags p) P
  unfolding extension_flags
  flags_give p h = free P (λ a. free P (λ b. free P (λ c. free P (λ d. free P (λ e. of_done P _ h)))))

  range_gives : (s : PlainSps) (p : PlainPps) → P p → Gives (range_extension s p) P
  unfolding range_extension
  range_gives s p h = free P (λ a. of_done P _ h)

  scc_gives : (s : PlainSps) (p : PlainPps) → P p → Gives (scc_extension s p) P
  unfolding scc_extension
  scc_gives s p h = free P (λ a. of_done P _ h)

  data_gives : (s : PlainSps) (p : PlainPps) → P p → Gives (extension_data s p) P
  unfolding extension_data
  data_gives s p h =
      of_part _ P (flags_give p h)
      (λ a q. of_part _ P (of_when P a.range_extension_flag a (range_extension s a) (λ _. range_gives s a q)
      (λ _. q)) (λ b r.
      of_when P b.scc_extension_flag b (scc_extension s b) (λ _. scc_gives s b r) (λ _. r)))

  extensions_give : (s : PlainSps) (p : PlainPps) → P p → Gives (extensions s p) P
  unfolding extensions
  extensions_give s p h = free P (λ a. of_when P a _ _ (λ _. data_gives s _ h) (λ _. h))

  set_of_gives : (s : PlainSps) (p : PlainPps) → Begins s p → Gives (picture_set_of s p) P
  unfolding picture_set_of
  set_of_gives s p h =
      of_part _ P (coding_gives s p h)
      (λ a q. of_part _ P (filters_give a q)
      (λ b r. of_part _ P (scaling_gives b r)
      (λ c t. of_part _ P (merging_gives s c t) (λ d u. extensions_give s d u))))

  -- table 11
  pub picture_set_gives : (temporal_id : ℕ) → Gives (picture_parameter_set temporal_id kept) P
  unfolding picture_parameter_set
  picture_set_gives temporal_id =
      free P (λ p. of_part _ P (of_named (row 11 2) p.seq_parameter_set_id (kept p.seq_parameter_set_id))
      (λ s h. set_of_gives s p h))
