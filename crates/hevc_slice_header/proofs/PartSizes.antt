-- How many bits the parts take that stand alone: list modification and weighted prediction.
use Rattle.std.proofs.Common.{◌≡◌, ℕ, ◌+◌, ◌-◌, ◌*◌, ◌≤◌, ◌^◌, Bool, true, false, List, [], ◌∷◌}
use Rattle.std.proofs.Common.{◌++◌, length, IsTrue, refl, sym, ◌∙◌, slice_index_or, pos, arith}
use Rattle.std.specs.Prelude.{nat_lt}
use Rattle.std.specs.List.{range_with_len}
use mathlib.Core.Bool.{true≢false}
use Rattle.std.proofs.lemmas.List.{length-append}
use Rattle.std.proofs.lemmas.List.FromFn.{length-range_with_len}
use Rattle.std.proofs.lemmas.List.Sums.{count_by-le-length}
use Rattle.hevc_records.specs.Bounds.{AtMost}
use Rattle.hevc_records.specs.PredWeightTable.{PlainPredWeightTable, default_pred_weight_table}
use Rattle.hevc_records.specs.Sps.{PlainSps}
use Rattle.hevc_spec.specs.declared.Row.{Row}
use Rattle.hevc_spec.specs.Rows.{row, bits_row, when}
use Rattle.hevc_tables.specs.MathFunctions.{ceil_log2}
use Rattle.hevc_tables.specs.RefPicListModificationTable.{list_entry, list_entries, modification_l0}
use Rattle.hevc_tables.specs.RefPicListModificationTable.{modification_l1}
use Rattle.hevc_tables.specs.RefPicListModificationTable.{ref_pic_list_modification}
use Rattle.hevc_tables.specs.WeightedPredictionTable.{ListWeights, no_weights, has_chroma}
use Rattle.hevc_tables.specs.WeightedPredictionTable.{luma_flag, chroma_flag, luma_flags}
use Rattle.hevc_tables.specs.WeightedPredictionTable.{chroma_flags, flags, luma_weight}
use Rattle.hevc_tables.specs.WeightedPredictionTable.{chroma_component, chroma_weight}
use Rattle.hevc_tables.specs.WeightedPredictionTable.{place_weights, weights, list_weights}
use Rattle.hevc_tables.specs.WeightedPredictionTable.{denominators, pred_weight_table}
use Rattle.hevc_slice_parts.specs.Entries.{HasEntries}
use Rattle.hevc_slice_parts.proofs.Ranges.{AtMost-more}
use Rattle.hevc_slice_header.specs.Lists.{IsOrdered}
use Rattle.hevc_slice_references.proofs.Sizes.{Takes, Any, takes_done, takes_part, takes_any}
use Rattle.hevc_slice_references.proofs.Sizes.{takes_more, takes_when, takes_repeat}
use Rattle.hevc_slice_references.proofs.Sizes.{takes_repeat_to, takes_flag, takes_bits, takes_ue}
use Rattle.hevc_slice_references.proofs.Sizes.{takes_se}

-- an index takes at most 32 bits
pub few_index_bits : (n : ℕ) → ceil_log2 n ≤ 32
unfolding ceil_log2
few_index_bits n =
    grind (arith, count_by-le-length (λ (k : ℕ). nat_lt (2 ^ k) n) (range_with_len 0 32), length-range_with_len 0 32)

pub index_takes : (r : Row) (n min max : ℕ) → Takes 32 Any (bits_row r (ceil_log2 n) min max)
index_takes r n min max = takes_any 32 (few_index_bits n) (takes_bits r (ceil_log2 n) min max)

-- ---- table 15

-- so many entries, each one of the pictures
pub record AreEntries (total count : ℕ) (entries : List ℕ) : Type 0 where
  pub all : length entries ≡ count
  pub fit : AtMost (total - 1) entries

entries_more : (total count entry : ℕ) (entries : List ℕ) → AreEntries total count entries
    → entry ≤ total - 1 → AreEntries total (count + 1) (entries ++ entry ∷ [])
entries_more total count entry entries are le = record {
  all = grind (arith, are.all, length-append);
  fit = AtMost-more (total - 1) entries entry are.fit le;
}

entries_take : (r : Row) (total count : ℕ) → Takes (count * 32) (AreEntries total count) (list_entries r total count)
unfolding list_entries list_entry
entries_take r total count =
    takes_more (count * 32) (grind arith) (λ x q. record { all = grind (arith, q.all); fit = q.fit })
    (takes_repeat_to 32 {P = AreEntries total}
    (λ i s p. takes_part 32 0 (takes_more 32 (few_index_bits total)
    (λ x q. q) (takes_bits r (ceil_log2 total) 0 (total - 1)))
    (λ e q. takes_done (entries_more total i e s p q))) 0 count [] (record { all = refl; fit = refl }))

-- the entries of a list, where its order is signalled
abbrev pub AreTold : Bool → ℕ → ℕ → List ℕ → Type 0
AreTold told total active entries = IsTrue told → HasEntries total active entries

told_take : (told : Bool) (r : Row) (total active : ℕ) → active ≤ 14
    → Takes 480 (AreTold told total active) (when told [] (list_entries r total (active + 1)))
unfolding when
told_take true r total active le =
    takes_more 480 (grind (arith, le)) (λ x p t. record { all = p.all; fit = p.fit })
    (entries_take r total (active + 1))
told_take false r total active le =
    takes_more 480 (grind arith) (λ x q. q) (takes_done (λ t. absurd (true≢false (sym t))))

pub modification_takes : (b : Bool) (total l0 l1 : ℕ) → l0 ≤ 14 → l1 ≤ 14
    → Takes 962 (IsOrdered total l0 l1) (ref_pic_list_modification b total l0 l1)
unfolding ref_pic_list_modification modification_l0 modification_l1
modification_takes b total l0 l1 le0 le1 =
    takes_part 481 481 {P = λ m. AreTold m.ref_pic_list_modification_flag_l0 total l0 m.list_entry_l0
    × (m.ref_pic_list_modification_flag_l1 ≡ false)}
    (takes_part 1 480 (takes_flag (row 15 1))
    (λ a p. takes_part 480 0 (told_take a (row 15 2) total l0 le0) (λ e q. takes_done (q, refl))))
    (λ m p. takes_when b m (record { l0 = p.0; l1 = λ t. absurd (true≢false (sym t ∙ p.1)) })
    (takes_part 1 480 (takes_flag (row 15 3))
    (λ a q. takes_part 480 0 (told_take a (row 15 4) total l1 le1) (λ e r. takes_done (record { l0 = p.0; l1 = r })))))

-- ---- table 16

flags_take : (sps : PlainSps) (list count : ℕ) → count ≤ 15 → Takes 30 Any (flags sps list count)
unfolding flags luma_flags chroma_flags luma_flag chroma_flag
flags_take sps list count le =
    takes_part 15 15
    (takes_any 15 (grind (arith, le))
    (takes_repeat 1 {P = Any}
    (λ i s p. takes_part 1 0 (takes_flag (row 16 (6 * list + 3))) (λ f q. takes_done tt)) 0 count no_weights tt))
    (λ w p. takes_when (has_chroma sps) w tt
    (takes_any 15 (grind (arith, le))
    (takes_repeat 1 {P = Any}
    (λ i s p. takes_part 1 0 (takes_flag (row 16 (6 * list + 4))) (λ f q. takes_done tt)) 0 count w tt)))

luma_takes : (sps : PlainSps) (list i : ℕ) (w : ListWeights) → Takes 126 Any (luma_weight sps list i w)
unfolding luma_weight
luma_takes sps list i w =
    takes_part 63 63 (takes_se _ _ _) (λ a p. takes_part 63 0 (takes_se _ _ _) (λ b q. takes_done tt))

component_takes : (sps : PlainSps) (list i j : ℕ) (w : ListWeights) → Takes 126 Any (chroma_component sps list i j w)
unfolding chroma_component
component_takes sps list i j w =
    takes_part 63 63 (takes_se _ _ _) (λ a p. takes_part 63 0 (takes_se _ _ _) (λ b q. takes_done tt))

chroma_takes : (sps : PlainSps) (list i : ℕ) (w : ListWeights) → Takes 252 Any (chroma_weight sps list i w)
unfolding chroma_weight
chroma_takes sps list i w = takes_part 126 126 (component_takes sps list i 0 w) (λ v p. component_takes sps list i 1 v)

place_takes : (sps : PlainSps) (list i : ℕ) (w : ListWeights) → Takes 378 Any (place_weights sps list i w)
unfolding place_weights
place_takes sps list i w =
    takes_part 126 252 (takes_when (slice_index_or w.luma_weight_flag i false) w tt (luma_takes sps list i w))
    (λ v p. takes_when (slice_index_or v.chroma_weight_flag i false) v tt (chroma_takes sps list i v))

list_takes : (sps : PlainSps) (list count : ℕ) → count ≤ 15 → Takes 5700 Any (list_weights sps list count)
unfolding list_weights weights
list_takes sps list count le =
    takes_part 30 5670 (flags_take sps list count le)
    (λ w p. takes_any 5670 (grind (arith, le)) (takes_repeat 378 (λ i s q. place_takes sps list i s) 0 count w tt))

denominators_take : (sps : PlainSps) (t : PlainPredWeightTable) → Takes 126 Any (denominators sps t)
unfolding denominators
denominators_take sps t =
    takes_part 63 63 (takes_ue (row 16 1) 0 7)
    (λ a p. takes_part 63 0 (takes_when (has_chroma sps) (pos 0) tt (takes_se _ _ _)) (λ b q. takes_done tt))

pub weights_take : (sps : PlainSps) (b : Bool) (l0 l1 : ℕ) → l0 ≤ 14 → l1 ≤ 14
    → Takes 11526 Any (pred_weight_table sps b l0 l1)
unfolding pred_weight_table
weights_take sps b l0 l1 le0 le1 =
    takes_part 126 11400 (denominators_take sps default_pred_weight_table)
    (λ t p. takes_part 5700 5700 (list_takes sps 0 (l0 + 1) (grind (arith, le0)))
    (λ w q. takes_part 5700 0 (takes_when b no_weights tt (list_takes sps 1 (l1 + 1) (grind (arith, le1))))
    (λ v r. takes_done tt)))
