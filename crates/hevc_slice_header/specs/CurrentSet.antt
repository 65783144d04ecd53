-- Which short-term set of its pictures a header makes the current one (7.4.7.1).
use Rattle.std.specs.Prelude.{◌≡◌, ℕ, ◌≤◌, ◌↔◌, Bool, IsFalse, Option, IfSome}
use Rattle.hevc_records.specs.SliceHeader.{PlainSliceSegmentHeader}
use Rattle.hevc_tables.specs.SliceHeaderTable.{ActiveSets}

-- CurrRpsIdx is at most the number of the sequence set's short-term sets, and that number exactly
-- where the header names none of them.
pub record IsCurrent (num_short_term_ref_pic_sets : ℕ) (names_one : Bool) (curr_rps_idx : ℕ)
    : Type 0 where
  pub at_most : curr_rps_idx ≤ num_short_term_ref_pic_sets
  pub own : (curr_rps_idx ≡ num_short_term_ref_pic_sets) ↔ IsFalse names_one

-- So is the header's, with the sequence set that it makes active.
abbrev pub HasCurrentSet : (ℕ → Option ActiveSets) → PlainSliceSegmentHeader → Type 0
HasCurrentSet kept h =
    IfSome (kept h.pic_parameter_set_id)
    (λ sets. IsCurrent sets.sps.num_short_term_ref_pic_sets h.short_term_ref_pic_set_sps_flag
    h.curr_rps_idx)
