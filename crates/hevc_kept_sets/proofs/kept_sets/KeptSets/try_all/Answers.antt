use Rattle.std.proofs.Common.{◌≡◌, ◌+◌, ◌-◌, suc, length, subst, ◌∙◌, rules}
use Rattle.hevc_stream.specs.Options.{Options}
use Rattle.hevc_kept_sets.specs.Kept.{kept_of, options_in}
use Rattle.hevc_kept_sets.specs.Takes.{first_waited}
use Rattle.hevc_kept_sets.proofs.Waiting.{moved_on}
use Rattle.hevc_kept_sets.proofs.kept_sets.KeptSets.try_all.Goals as goal

pub loop-tried-preserved : goal.loop-tried-preserved
loop-tried-preserved c =
    let old = kept_of c.args.self.now in
    let now = kept_of c.loop-tried.self in
    let new = kept_of c.try_first.new.self in
    let step : new ≡ first_waited (options_in c.loop-tried.self) now.waiting now = search rules in
    let more : length old.waiting - c.loop-tried.tried ≡ suc
    (length old.waiting - (c.loop-tried.tried + 1)) = search rules in
    record {
      underway = moved_on (options_in c.args.self.now) old now new (length old.waiting - c.loop-tried.tried)
          (length old.waiting - (c.loop-tried.tried + 1)) more c.loop-tried.invariant.underway
          (subst (λ (o : Options). new ≡ first_waited o now.waiting now) c.loop-tried.invariant.options step);
      options = c.try_first.ensures.options ∙ c.loop-tried.invariant.options;
    }
