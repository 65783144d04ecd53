use Rattle.std.proofs.Common.{rules, ◌≡◌, ℤ, ◌+◌, ap, ◌∙◌, to_z, of_z, w32, count_by}
use Rattle.std.specs.Prelude.{nat_le}
use Rattle.hevc_dpb.specs.Plain.{plain_entry}
use Rattle.hevc_check.specs.Filled.{stays_up_to}
use Rattle.hevc_check.proofs.Needing.{count-needed, lt-is_le}
use Rattle.hevc_check.proofs.filled.is_full_up_to.Goals as goal

pub returns : goal.returns
returns c =
    let is : to_z w32 (of_z w32 c.args.count) ≡ c.args.count = search rules in
    lt-is_le c.args.buffering c.num_staying.result
    ∙ ap (nat_le (c.args.buffering + 1))
    (c.num_staying.ensures
    ∙ ap (λ (k : ℤ). count_by (λ e. stays_up_to k (plain_entry e)) c.args.entries.now) is
    ∙ count-needed c.args.count c.args.entries.now)
