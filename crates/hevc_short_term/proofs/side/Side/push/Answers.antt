use Rattle.std.proofs.Common.{◌≡◌, ◌+◌, ◌<◌, ◌∷◌, [], ◌++◌, ℤ, pos, Bool, false, List, length, set}
use Rattle.std.proofs.Common.{ap, sym, ◌∙◌, arith, rules, w32, to_z, of_z}
use Rattle.std.proofs.lemmas.List.{length-append}
use Rattle.hevc_short_term_laws.proofs.Listed.{last_of_push}
use Rattle.hevc_short_term.proofs.SideLaws.{seen_more}
use Rattle.hevc_short_term.proofs.side.Side.push.Goals as goal

pub invariant_of-self : goal.invariant_of-self
invariant_of-self c =
    let ms = c.self.inside.members.items in
    let m = c.args.member in
    let i = c.self.invariant in
    let long : c.self.inside.count + 1 ≡ length (ms ++ m ∷ []) = omega (arith, i.0, length-append ms (m ∷ [])) in
    let value : to_z w32 (of_z w32 c.difference-self-inside.result) ≡ c.difference-self-inside.result = search rules in
    let room : c.self.inside.count < 16 = omega (arith, c.requires.room, ap length c.self.view_is, i.0) in
    let differences = ap (λ (l : List ℤ). set l c.self.inside.count m.delta_poc) i.3 ∙ seen_more
    (λ n. n.delta_poc) (pos 0) ms m c.self.inside.count i.0 room in
    let used = ap (λ (l : List Bool). set l c.self.inside.count m.used_by_curr_pic) i.4 ∙ seen_more
    (λ n. n.used_by_curr_pic) false ms m c.self.inside.count i.0 room in
    rw (value, value, c.difference-self-inside.ensures, c.from-place.ensures, c.and-self-inside.ensures)
    (long, omega arith, sym (last_of_push ms m), differences, used)
