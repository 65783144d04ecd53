use Rattle.std.proofs.Common.{◌≡◌, ℤ, ◌+◌, ◌≤ℤ◌, ℕ, pos, ap, ◌∙◌, sym, arith, rules, take, length, ◌≤◌}
use Rattle.std.proofs.lemmas.Int.{ints}
use Rattle.std.proofs.lemmas.List.{take_all}
use Rattle.std.specs.List.{list_any}
use Rattle.hevc_walk.specs.Buffer.{Buffer}
use Rattle.hevc_dpb.specs.Plain.{plain_entry, plain_entries}
use Rattle.hevc_check.proofs.Needing.{fills-all, fills-any, fills_at, le-up, any-plain}
use Rattle.hevc_check.proofs.filled.full_up_to.Goals as goal

pub returns-then-is_full_up_to : goal.returns-then-is_full_up_to
returns-then-is_full_up_to c count fits =
    let n : ℕ = c.args.buffering + 1 in
    let m : ℤ = pos 2147483647 in
    let all : Buffer = plain_entries c.args.entries.now in
    let low : count ≤ℤ m = omega (arith, ints, fits) in
    le-up count m low ∙ fills-all n count m all low (sym c.is_full_up_to.ensures ∙ c.if-is_full_up_to.true)

pub returns : goal.returns
returns c count fits =
    let n : ℕ = c.args.buffering + 1 in
    let m : ℤ = pos 2147483647 in
    let es = c.args.entries.now in
    let all : Buffer = plain_entries es in
    let low : count ≤ℤ m = omega (arith, ints, fits) in
    let end : length es ≤ c.loop-entry.entry-index = search rules in
    let whole : take c.loop-entry.entry-index es ≡ es = take_all c.loop-entry.entry-index es end in
    c.loop-entry.invariant count ∙ ap (list_any (λ e. fills_at n count all (plain_entry e))) whole
    ∙ any-plain (fills_at n count all) es
    ∙ fills-any n count m all low (sym c.is_full_up_to.ensures ∙ c.if-is_full_up_to.false)
