use Rattle.std.proofs.Common.{◌≡◌, drop}
use Rattle.hevc_walk.specs.ReferenceSets.{first_number}
use Rattle.hevc_dpb.specs.Plain.{plain_entries}
use Rattle.hevc_dpb.specs.Sought.{fits}
use Rattle.hevc_dpb.proofs.finds.first_number_of.Given as goal

abbrev pub invariant-loop-entry : goal.invariant-loop-entry
invariant-loop-entry g l =
    first_number (fits l.sought) (plain_entries l.entries) ≡ first_number (fits l.sought)
    (plain_entries (drop l.entry-index l.entries))
