-- What is told of the ends of pictures.
use Rattle.std.proofs.Common.{◌≡◌, ℕ, suc, Bool, true, false, not, cond, eqb, List, [], ◌∷◌}
use Rattle.std.proofs.Common.{refl, sym, ◌∙◌, ap, subst, arith, Some, None}
use Rattle.std.specs.Prelude.{All, Contains}
use Rattle.std.specs.List.{AllByRecursion as Each, find}
use Rattle.std.proofs.lemmas.List.Elements.{All-from_recursion}
use Rattle.hevc_bumping.specs.declared.frame.Frame.{Frame}
use Rattle.hevc_walk_frames.specs.Coming.{is_coming}
use Rattle.hevc_walk_units.specs.Units.{Standing}
use Rattle.hevc_pull.specs.declared.counted.Counted.{Counted}
use Rattle.hevc_pull.specs.declared.pulled.Pulled.TheVariants.{Dropped, Output, Skipped}
use Rattle.hevc_pull.specs.Counting.{has_ended, has_number, without}
use Rattle.hevc_pull.specs.Ends.{IsOver, IsToldOnce}
use Rattle.hevc_pull.specs.Pulling.{Ends, PullsNext, Telling}

none_ended : (s : Standing) (cs : List Counted) → find (has_ended s) cs ≡ None
    → Each (λ c. is_coming s c.number ≡ true) cs
none_ended s [] h = tt
none_ended s (c ∷ cs) h = by_test (is_coming s c.number) refl h (none_ended s cs)
  where
    by_test : (b : Bool) → is_coming s c.number ≡ b → cond (not b) (Some c) (find (has_ended s) cs) ≡ None
        → (find (has_ended s) cs ≡ None → Each (λ x. is_coming s x.number ≡ true) cs)
        → (is_coming s c.number ≡ true) × Each (λ x. is_coming s x.number ≡ true) cs
    by_test true is h further = (is, further h)
    by_test false is h further = absurd (cc h)

pub all_told : (before now : Telling) → PullsNext None before now
    → All (λ c. is_coming before.view.standing c.number ≡ true) now.counted
all_told before now h =
    subst (λ (t : Telling). All (λ c. is_coming before.view.standing c.number ≡ true) t.counted) (sym h.3)
    (All-from_recursion (λ c. is_coming before.view.standing c.number ≡ true) before.counted
    (none_ended before.view.standing before.counted h.1))

record IsFirst (s : Standing) (cs : List Counted) (c : Counted) : Type 0 where
  among : Contains cs c
  over : is_coming s c.number ≡ false

first_is : (s : Standing) (cs : List Counted) (c : Counted) → find (has_ended s) cs ≡ Some c → IsFirst s cs c
first_is s [] c h = absurd (cc h)
first_is s (x ∷ cs) c h = by_test (is_coming s x.number) refl h (first_is s cs c)
  where
    by_test : (b : Bool) → is_coming s x.number ≡ b → cond (not b) (Some x) (find (has_ended s) cs) ≡ Some c
        → (find (has_ended s) cs ≡ Some c → IsFirst s cs c) → IsFirst s (x ∷ cs) c
    by_test true is h further =
        let rest = further h in
        record { among = (suc rest.among.0, (let l = rest.among.1 in omega (arith, l)), rest.among.2); over = rest.over }
    by_test false is h further =
        let same : x ≡ c = cc h in
        subst (λ (y : Counted). IsFirst s (x ∷ cs) y) same
        (record { among = (0, omega arith, refl); over = is })

-- a number that was taken out isn't found
pub none_left : (n : ℕ) (cs : List Counted) → find (has_number n) (without n cs) ≡ None
none_left n [] = refl
none_left n (c ∷ cs) = by_test (eqb c.number n) refl (none_left n cs)
  where
    by_test : (b : Bool) → eqb c.number n ≡ b → find (has_number n) (without n cs) ≡ None
        → find (has_number n) (cond (not b) (c ∷ without n cs) (without n cs)) ≡ None
    by_test true is rest = rest
    by_test false is rest = ap (λ (b : Bool). cond b (Some c) (find (has_number n) (without n cs))) is ∙ rest

over_by : (c : Counted) (before now : Telling) → Ends c before now → IsOver c before now
over_by c before now h =
    let first = first_is before.view.standing before.counted c h.first in
    record {
      counted = first.among;
      over = first.over;
      once = subst (λ (t : Telling). IsToldOnce c.number t) (sym h.others) (none_left c.number before.counted);
    }

pub dropped_is : (c : Counted) (before now : Telling) → PullsNext (Some (Dropped c)) before now → IsOver c before now
dropped_is c before now h = over_by c before now h.1

pub skipped_is : (c : Counted) (before now : Telling) → PullsNext (Some (Skipped c)) before now → IsOver c before now
skipped_is c before now h = over_by c before now h.1

pub output_is : (frame : Frame ℕ) (c : Counted) (before now : Telling)
    → PullsNext (Some (Output frame c)) before now → IsToldOnce frame.number now
output_is frame c before now h =
    subst (λ (t : Telling). IsToldOnce frame.number t) (sym h.3) (none_left frame.number before.counted)
