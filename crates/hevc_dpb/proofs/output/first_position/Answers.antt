use Rattle.std.proofs.Common.{◌≡◌, ℕ, ◌<◌, List, get_or, length, subst, sym}
use Rattle.std.specs.List.{slice_get}
use Rattle.hevc_dpb.specs.Output.{first_in, in_output_order}
use Rattle.hevc_dpb.proofs.PositionLaws.{first_waits, not_empty}
use Rattle.hevc_dpb.proofs.output.first_position.Goals as goal

pub returns : goal.returns
returns g c = subst (λ (l : List ℕ). (get_or l 0 0 < length c.args.entries.now.items) × (slice_get c.args.entries.now.items (get_or l 0 0) ≡ first_in (in_output_order c.args.entries.now.items))) (sym c.deref.ensures.0) (first_waits c.args.entries.now.items c.args.waiting.now.items c.requires.distinct c.requires.ordered (not_empty (length c.args.waiting.now.items) c.if-is_empty.ensures))
