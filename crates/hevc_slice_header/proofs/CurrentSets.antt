-- The short-term set that a header makes the current one, and the order of its own.
use Rattle.std.proofs.Common.{◌≡◌, ℕ, List, Option, Some, ap, sym, subst, ◌∙◌}
use Rattle.std.specs.Prelude.{IfSome, option_map, option_and_then}
use Rattle.std.specs.Ordering.{nat_cmp}
use Rattle.std.specs.BTreeMap.{BTreeMap, get}
use Rattle.hevc_records.specs.SetsById.{sets_by_id}
use Rattle.hevc_records.specs.SliceHeader.{PlainSliceSegmentHeader}
use Rattle.hevc_records.specs.Sps.{PlainSps}
use Rattle.hevc_tables.specs.SliceHeaderTable.{ActiveSets, with_named_sequence_set, with_sizes}
use Rattle.hevc_sequence_set.specs.declared.sps.Sps.{Sps}
use Rattle.hevc_sequence_set.specs.Sps.{plain_sps}
use Rattle.hevc_picture_slice.specs.declared.pps.Pps.{Pps}
use Rattle.hevc_picture_slice.specs.Pps.{plain_pps}
use Rattle.hevc_picture_slice.specs.declared.slice_header.SliceHeader.{SliceHeader}
use Rattle.hevc_short_term.specs.Predictions.{IsInOrder}
use Rattle.hevc_slice_header.specs.CurrentSet.{IsCurrent, HasCurrentSet}
use Rattle.hevc_slice_header.specs.Kept.{kept_active_sets}
use Rattle.hevc_slice_header.proofs.HeaderSize.{IsNamed}

-- the sets that an id makes active, where they are found
pub active_found : (picture_sets : BTreeMap ℕ Pps) (sequence_sets : BTreeMap ℕ Sps) (id : ℕ) (pps : Pps)
    (sps : Sps) → get nat_cmp picture_sets id ≡ Some pps
    → get nat_cmp sequence_sets pps.seq_parameter_set_id ≡ Some sps
    → kept_active_sets picture_sets sequence_sets id ≡ Some (record { sps = plain_sps sps; pps = plain_pps pps })
active_found picture_sets sequence_sets id pps sps at_pps at_sps =
    ap (λ (o : Option Pps). option_and_then (with_named_sequence_set (sets_by_id plain_sps sequence_sets))
    (option_map plain_pps o)) at_pps
    ∙ ap (λ (o : Option Sps). option_map (λ (s : PlainSps). record { sps = s; pps = plain_pps pps })
    (option_map plain_sps o)) at_sps

-- of the sets that the id makes active
pub named_current : (kept : ℕ → Option ActiveSets) (sets : ActiveSets) (id : ℕ)
    (h : PlainSliceSegmentHeader) → kept id ≡ Some sets
    → IsNamed id sets.sps.num_short_term_ref_pic_sets h.pic_parameter_set_id
    h.short_term_ref_pic_set_sps_flag h.curr_rps_idx → HasCurrentSet kept h
named_current kept sets id h is named =
    let current : IfSome (kept id)
    (λ sets. IsCurrent sets.sps.num_short_term_ref_pic_sets h.short_term_ref_pic_set_sps_flag
    h.curr_rps_idx) = subst
    (λ (o : Option ActiveSets). IfSome o
    (λ sets. IsCurrent sets.sps.num_short_term_ref_pic_sets h.short_term_ref_pic_set_sps_flag
    h.curr_rps_idx)) (sym is) named.current in
    subst (λ (k : ℕ). IfSome (kept k)
    (λ sets. IsCurrent sets.sps.num_short_term_ref_pic_sets h.short_term_ref_pic_set_sps_flag
    h.curr_rps_idx)) (sym named.same) current

-- the sizes change nothing of it
pub sized_current : (kept : ℕ → Option ActiveSets) (payload : List ℕ) (size : ℕ)
    (old new : PlainSliceSegmentHeader) → new ≡ with_sizes payload old size → HasCurrentSet kept old
    → HasCurrentSet kept new
unfolding with_sizes
sized_current kept payload size old new is current =
    subst (λ (h : PlainSliceSegmentHeader). HasCurrentSet kept h) (sym is) current

-- the order of the members is an invariant of each set
pub in_order : (h : SliceHeader) → IsInOrder h.short_term_ref_pic_set
in_order h = (h.short_term_ref_pic_set.negatives, h.short_term_ref_pic_set.positives)
