use Rattle.std.proofs.Common.{◌≡◌, ◌-◌, ◌++◌, ℕ, List, length}
use Rattle.hevc_index.proofs.Spliced.{Copied}
use Rattle.hevc_index.proofs.splicing.append_spliced.Given as goal

-- of the units so far, the sets before the point and the units from it on were added
abbrev pub invariant-loop-nalu : goal.invariant-loop-nalu
invariant-loop-nalu l = record {
  grows : (added : List ℕ) × (l.out.items ≡ l.fn.out.items ++ added);
  copied : Copied l.stream l.position l.unit l.first l.fn.out.items l.out.items;
}

abbrev pub decreases-loop-nalu : goal.decreases-loop-nalu
decreases-loop-nalu l = length l.stream - l.position
