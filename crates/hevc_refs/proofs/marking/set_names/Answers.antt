use Rattle.std.proofs.Common.{◌≡◌, Bool, List, ◌++◌, ◌||◌, sym, ap, ◌∙◌}
use Rattle.std.specs.Prelude.{ℕ, Option}
use Rattle.hevc_walk.specs.ReferenceSets.{names}
use Rattle.hevc_refs.specs.Sets.{plain_set}
use Rattle.hevc_walk_marks.proofs.Names.{names_append}
use Rattle.hevc_refs.proofs.MarkingLaws.{names_members}
use Rattle.hevc_refs.proofs.marking.set_names.Goals as goal

either_by : (n : ℕ) (b : Bool) (xs ys vs ws : List (Option ℕ)) → b ≡ names n (xs ++ ys) → xs ≡ vs → ys ≡ ws
    → b ≡ (names n vs || names n ws)
either_by n b xs ys vs ws is first second = is ∙ names_append n xs ys
    ∙ ap (λ l. names n l || names n ys) first ∙ ap (λ l. names n vs || names n l) second

pub returns : goal.returns
returns c =
    let s = plain_set c.args.set.now in
    let curr = either_by c.args.number _ _ _ s.st_curr_before s.st_curr_after c.either_names.ensures
    c.st_curr_before.ensures.value c.st_curr_after.ensures.value in
    let foll = c.names.ensures ∙ ap (names c.args.number) c.st_foll.ensures.value in
    let long_term =
    either_by c.args.number _ _ _ s.lt_curr s.lt_foll c.either_names-2.ensures c.lt_curr.ensures.value
    c.lt_foll.ensures.value in
    c.any_of.ensures
    ∙ ap (λ b. b || c.names.result || c.either_names-2.result) curr
    ∙ ap (λ b. (names c.args.number s.st_curr_before || names c.args.number s.st_curr_after) || b
    || c.either_names-2.result) foll
    ∙ ap (λ b. (names c.args.number s.st_curr_before || names c.args.number s.st_curr_after)
    || names c.args.number s.st_foll || b) long_term
    ∙ sym (names_members c.args.number s)
