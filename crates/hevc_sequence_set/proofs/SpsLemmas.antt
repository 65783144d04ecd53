-- What follows from the fields that hold of every sequence parameter set.
use Rattle.std.proofs.Common.{◌≤◌, subst, sym, arith}
use Rattle.std.proofs.Math.Nat.{one-le-mul}
use Rattle.hevc_sequence_set.specs.declared.sps.Sps.{Sps}

-- a picture is at least one coding tree block wide and high
pub has_a_column : (s : Sps) → 1 ≤ s.pic_width_in_ctbs_y
has_a_column s = grind (arith, s.width_range, s.width_in_ctbs, s.coding_tree_block)

pub has_a_row : (s : Sps) → 1 ≤ s.pic_height_in_ctbs_y
has_a_row s = grind (arith, s.height_range, s.height_in_ctbs, s.coding_tree_block)

pub has_a_block : (s : Sps) → 1 ≤ s.pic_size_in_ctbs_y
has_a_block s = subst (λ n. 1 ≤ n) (sym s.size_in_ctbs) (one-le-mul (has_a_column s) (has_a_row s))
