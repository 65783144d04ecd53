use Rattle.std.proofs.Common.{◌≡◌, ◌-◌, length}
use Rattle.hevc_kept_sets.specs.Kept.{kept_of, options_in}
use Rattle.hevc_kept_sets.proofs.Waiting.{IsUnderway}
use Rattle.hevc_kept_sets.proofs.kept_sets.KeptSets.try_all.Given as goal

abbrev pub invariant-loop-tried : goal.invariant-loop-tried
invariant-loop-tried l = record {
  underway : IsUnderway (options_in l.initial.self) (kept_of l.initial.self) (kept_of l.self)
      (length l.initial.self.waiting.items - l.tried);
  options : options_in l.self ≡ options_in l.initial.self;
}
