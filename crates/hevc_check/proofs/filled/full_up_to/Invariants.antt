use Rattle.std.proofs.Common.{◌≡◌, ℤ, ◌+◌, take}
use Rattle.std.specs.List.{list_any}
use Rattle.hevc_dpb.specs.Plain.{plain_entry, plain_entries}
use Rattle.hevc_check.specs.Filled.{is_up_to}
use Rattle.hevc_check.proofs.Needing.{fills_at}
use Rattle.hevc_check.proofs.filled.full_up_to.Given as goal

-- the counts of the entries so far
abbrev pub invariant-loop-entry : goal.invariant-loop-entry
invariant-loop-entry l =
    (c : ℤ)
    → is_up_to c l.highest
    ≡ list_any (λ e. fills_at (l.buffering + 1) c (plain_entries l.entries) (plain_entry e))
    (take l.entry-index l.entries)
