-- The entries of a reference picture list whose order is signalled (7.4.7.2).
use Rattle.std.specs.Prelude.{◌≡◌, ℕ, ◌+◌, ◌-◌, List, length}
use Rattle.hevc_records.specs.Bounds.{AtMost}

-- There is one for each active place, and each is below the number of pictures.
pub record HasEntries (num_pic_total_curr num_ref_idx_active_minus1 : ℕ) (entries : List ℕ)
    : Type 0 where
  pub all : length entries ≡ num_ref_idx_active_minus1 + 1
  pub fit : AtMost (num_pic_total_curr - 1) entries
