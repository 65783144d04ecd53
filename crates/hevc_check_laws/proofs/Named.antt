-- The lowest picture that breaks something, and the first of what it breaks.
use Rattle.std.proofs.Common.{◌≡◌, ℕ, Bool, true, false, cond, List, [], ◌∷◌, ◌++◌, refl, sym, ◌∙◌}
use Rattle.std.proofs.Common.{ap, subst, Option, Some, None, All}
use Rattle.std.specs.List.{AllByRecursion as Each}
use Rattle.std.proofs.lemmas.List.Elements.{All-from_recursion, recursion_from_All}
use Rattle.hevc_walk.specs.Meanings.{Meaning}
use Rattle.hevc_walk.specs.Pictures.{Picture}
use Rattle.hevc_walk_order.specs.Sequences.{Sequence, IsSequence, sequences}
use Rattle.hevc_walk_order.proofs.Each.{each-weaker}
use Rattle.hevc_walk_order.proofs.Cut.{each_sequence}
use Rattle.hevc_check_laws.specs.Breaches.{Breach, all_breaches}
use Rattle.hevc_check_laws.specs.Checks.{BrokenAt, BreaksNothing, IsLowest, first_breach, broken_at}
use Rattle.hevc_check_laws.specs.Checks.{earlier_broken, lowest_broken}
use Rattle.hevc_check_laws.proofs.Places.{Sound, sound-back}
use Rattle.hevc_check_laws.proofs.Lowest.{Unbroken, lowest-none, none-lowest}

-- The place of the first one in a list that holds.
record FirstAt (f : Breach → Bool) (bs : List Breach) (b : Breach) : Type 0 where
  front : List Breach
  back : List Breach
  parts : bs ≡ front ++ b ∷ back
  holds : f b ≡ true
  none : Each (λ c. f c ≡ false) front

first-at : (f : Breach → Bool) (bs : List Breach) (b : Breach) → first_breach f bs ≡ Some b → FirstAt f bs b
first-at f [] b h = absurd (cc h)
first-at f (c ∷ bs) b h = by_test (f c) refl h (first-at f bs b)
  where
    own : Some c ≡ Some b → c ≡ b
    own e = cc e

    by_test : (t : Bool) → f c ≡ t → cond t (Some c) (first_breach f bs) ≡ Some b
        → (first_breach f bs ≡ Some b → FirstAt f bs b) → FirstAt f (c ∷ bs) b
    by_test true e h further =
        record {
          front = [];
          back = bs;
          parts = ap (λ (x : Breach). x ∷ bs) (own h);
          holds = ap f (sym (own h)) ∙ e;
          none = tt;
        }
    by_test false e h further =
        let k = further h in
        record {
          front = c ∷ k.front;
          back = k.back;
          parts = ap (λ (l : List Breach). c ∷ l) k.parts;
          holds = k.holds;
          none = (e, k.none);
        }

at-first : (f : Breach → Bool) (front : List Breach) (b : Breach) (back : List Breach) → f b ≡ true
    → Each (λ c. f c ≡ false) front → first_breach f (front ++ b ∷ back) ≡ Some b
at-first f [] b back h none = ap (λ (t : Bool). cond t (Some b) (first_breach f back)) h
at-first f (c ∷ front) b back h none =
    ap (λ (t : Bool). cond t (Some c) (first_breach f (front ++ b ∷ back))) none.0 ∙ at-first f front b back h none.1

pub each-sound : (breaks : Picture → List Picture → Breach → Bool) (ps : List Picture) → Sound (Unbroken breaks) ps
    → BreaksNothing breaks ps
each-sound breaks ps s between p earlier parts =
    (sound-back (Unbroken breaks) between (p ∷ earlier) (subst (Sound (Unbroken breaks)) parts s)).0

pub sound-each : (breaks : Picture → List Picture → Breach → Bool) (ps : List Picture) → BreaksNothing breaks ps
    → Sound (Unbroken breaks) ps
sound-each breaks [] h = tt
sound-each breaks (p ∷ ps) h = (
  h [] p ps refl,
  sound-each breaks ps
      (λ between q earlier parts. h (p ∷ between) q earlier (ap (λ (l : List Picture). p ∷ l) parts)),
)

pub lowest-is : (breaks : Picture → List Picture → Breach → Bool) (ps : List Picture) (broken : BrokenAt)
    → lowest_broken breaks ps ≡ Some broken → IsLowest breaks ps broken
lowest-is breaks [] broken h = absurd (cc h)
lowest-is breaks (p ∷ before) broken h = by_before (lowest_broken breaks before) refl h (lowest-is breaks before broken)
  where
    by_breach : (o : Option Breach) → first_breach (breaks p before) all_breaches ≡ o → broken_at p o ≡ Some broken
        → lowest_broken breaks before ≡ None → IsLowest breaks (p ∷ before) broken
    by_breach None e h none = absurd (cc h)
    by_breach (Some b) e h none =
        let k = first-at (breaks p before) all_breaches b e in
        let is : record { number = p.number; unit = p.unit; breach = b } ≡ broken = own h in
        subst (λ (x : BrokenAt). IsLowest breaks (p ∷ before) x) is (record {
          later = [];
          picture = p;
          before = before;
          parts = refl;
          number = refl;
          unit = refl;
          breaks_it = k.holds;
          above = k.front;
          below = k.back;
          table = k.parts;
          first = All-from_recursion (λ c. breaks p before c ≡ false) k.front k.none;
          lowest = each-sound breaks before (lowest-none breaks before none);
        })
      where
        own : {x y : BrokenAt} → Some x ≡ Some y → x ≡ y
        own e = cc e

    by_before : (o : Option BrokenAt) → lowest_broken breaks before ≡ o
        → earlier_broken o (broken_at p (first_breach (breaks p before) all_breaches)) ≡ Some broken
        → (lowest_broken breaks before ≡ Some broken → IsLowest breaks before broken)
        → IsLowest breaks (p ∷ before) broken
    by_before None e h further = by_breach (first_breach (breaks p before) all_breaches) refl h e
    by_before (Some x) e h further =
        let k = further (e ∙ h) in
        record {
          later = p ∷ k.later;
          picture = k.picture;
          before = k.before;
          parts = ap (λ (l : List Picture). p ∷ l) k.parts;
          number = k.number;
          unit = k.unit;
          breaks_it = k.breaks_it;
          above = k.above;
          below = k.below;
          table = k.table;
          first = k.first;
          lowest = k.lowest;
        }

lowest-later : (breaks : Picture → List Picture → Breach → Bool) (later ps : List Picture) (broken : BrokenAt)
    → lowest_broken breaks ps ≡ Some broken → lowest_broken breaks (later ++ ps) ≡ Some broken
lowest-later breaks [] ps broken h = h
lowest-later breaks (p ∷ later) ps broken h =
    ap (λ (o : Option BrokenAt). earlier_broken o (broken_at p (first_breach (breaks p (later ++ ps)) all_breaches)))
    (lowest-later breaks later ps broken h)

broken-of : ℕ → ℕ → Breach → BrokenAt
broken-of m k b = record { number = m; unit = k; breach = b }

pub is-lowest : (breaks : Picture → List Picture → Breach → Bool) (ps : List Picture) (broken : BrokenAt)
    → IsLowest breaks ps broken → lowest_broken breaks ps ≡ Some broken
unfolding broken-of
is-lowest breaks ps broken h =
    let none = none-lowest breaks h.before (sound-each breaks h.before h.lowest) in
    let first =
    ap (first_breach (breaks h.picture h.before)) h.table
    ∙ at-first (breaks h.picture h.before) h.above broken.breach h.below h.breaks_it
    (recursion_from_All (λ c. breaks h.picture h.before c ≡ false) h.above h.first) in
    let own : lowest_broken breaks (h.picture ∷ h.before) ≡ Some broken =
    ap (λ (o : Option BrokenAt). earlier_broken o
    (broken_at h.picture (first_breach (breaks h.picture h.before) all_breaches))) none
    ∙ ap (broken_at h.picture) first
    ∙ ap (λ (m : ℕ). Some (broken-of m h.picture.unit broken.breach)) h.number
    ∙ ap (λ (k : ℕ). Some (broken-of broken.number k broken.breach)) h.unit in
    ap (lowest_broken breaks) h.parts ∙ lowest-later breaks h.later (h.picture ∷ h.before) broken own

pub none-is : (breaks : Picture → List Picture → Breach → Bool) (ps : List Picture) → lowest_broken breaks ps ≡ None
    → BreaksNothing breaks ps
none-is breaks ps h = each-sound breaks ps (lowest-none breaks ps h)

pub is-none : (breaks : Picture → List Picture → Breach → Bool) (ps : List Picture) → BreaksNothing breaks ps
    → lowest_broken breaks ps ≡ None
is-none breaks ps h = none-lowest breaks ps (sound-each breaks ps h)

-- what holds of each sequence of some units holds of the list of them
pub all-sequences : (us : List Meaning) (Keeps : Sequence → Type 0) → ((q : Sequence) → IsSequence us q → Keeps q)
    → All Keeps (sequences us)
all-sequences us Keeps h =
    All-from_recursion Keeps (sequences us)
    (each-weaker (IsSequence us) Keeps h (sequences us)
    (recursion_from_All (IsSequence us) (sequences us) (each_sequence us)))
