-- No picture breaks anything exactly where none is the lowest that does.
use Rattle.std.proofs.Common.{◌≡◌, ℕ, Bool, true, false, cond, List, [], ◌∷◌, refl, ◌∙◌, ap, Option, Some, None}
use Rattle.hevc_walk.specs.Meanings.{Meaning}
use Rattle.hevc_walk.specs.Pictures.{Picture}
use Rattle.hevc_check_laws.specs.Breaches.{Breach, Changed, Latency, SameCount, Full, Discards, Reorder, all_breaches}
use Rattle.hevc_check_laws.specs.Checks.{BrokenAt, first_breach, broken_at, earlier_broken}
use Rattle.hevc_check_laws.specs.Checks.{lowest_broken, Yes, checked_with}
use Rattle.hevc_check_laws.proofs.Places.{Sound}

abbrev pub Unbroken : (Picture → List Picture → Breach → Bool) → Picture → List Picture → Type 0
Unbroken breaks p before = (b : Breach) → breaks p before b ≡ false

peel : (f : Breach → Bool) (b : Breach) (bs : List Breach) → first_breach f (b ∷ bs) ≡ None
    → (f b ≡ false) × (first_breach f bs ≡ None)
peel f b bs h = by_test (f b) h
  where
    by_test : (t : Bool) → cond t (Some b) (first_breach f bs) ≡ None → (t ≡ false) × (first_breach f bs ≡ None)
    by_test true h = absurd (cc h)
    by_test false h = (refl, h)

none-holds : (f : Breach → Bool) → first_breach f all_breaches ≡ None → (b : Breach) → f b ≡ false
none-holds f h =
    let a = peel f Changed (Latency ∷ SameCount ∷ Full ∷ Discards ∷ Reorder ∷ []) h in
    let b = peel f Latency (SameCount ∷ Full ∷ Discards ∷ Reorder ∷ []) a.1 in
    let c = peel f SameCount (Full ∷ Discards ∷ Reorder ∷ []) b.1 in
    let d = peel f Full (Discards ∷ Reorder ∷ []) c.1 in
    let e = peel f Discards (Reorder ∷ []) d.1 in
    let g = peel f Reorder [] e.1 in
    by_breach a.0 b.0 c.0 d.0 e.0 g.0
  where
    by_breach : f Changed ≡ false → f Latency ≡ false → f SameCount ≡ false → f Full ≡ false → f Discards ≡ false
        → f Reorder ≡ false → (b : Breach) → f b ≡ false
    by_breach a b c d e g Changed = a
    by_breach a b c d e g Latency = b
    by_breach a b c d e g SameCount = c
    by_breach a b c d e g Full = d
    by_breach a b c d e g Discards = e
    by_breach a b c d e g Reorder = g

none-first : (f : Breach → Bool) (bs : List Breach) → ((b : Breach) → f b ≡ false) → first_breach f bs ≡ None
none-first f [] h = refl
none-first f (b ∷ bs) h = by_test (f b) (h b) (none-first f bs h)
  where
    by_test : (t : Bool) → t ≡ false → first_breach f bs ≡ None → cond t (Some b) (first_breach f bs) ≡ None
    by_test true e k = absurd (cc e)
    by_test false e k = k

pub lowest-none : (breaks : Picture → List Picture → Breach → Bool) (ps : List Picture)
    → lowest_broken breaks ps ≡ None → Sound (Unbroken breaks) ps
lowest-none breaks [] h = tt
lowest-none breaks (p ∷ before) h =
    let k = both (lowest_broken breaks before) (first_breach (breaks p before) all_breaches) h in
    (none-holds (breaks p before) k.1, lowest-none breaks before k.0)
  where
    both : (o : Option BrokenAt) (b : Option Breach) → earlier_broken o (broken_at p b) ≡ None → (o ≡ None) × (b ≡ None)
    both (Some o) b h = absurd (cc h)
    both None (Some b) h = absurd (cc h)
    both None None h = (refl, refl)

pub none-lowest : (breaks : Picture → List Picture → Breach → Bool) (ps : List Picture) → Sound (Unbroken breaks) ps
    → lowest_broken breaks ps ≡ None
none-lowest breaks [] h = refl
none-lowest breaks (p ∷ before) h =
    both (lowest_broken breaks before) (first_breach (breaks p before) all_breaches) (none-lowest breaks before h.1)
    (none-first (breaks p before) all_breaches h.0)
  where
    both : (o : Option BrokenAt) (b : Option Breach) → o ≡ None → b ≡ None → earlier_broken o (broken_at p b) ≡ None
    both o b h k = ap (λ (x : Option BrokenAt). earlier_broken x (broken_at p b)) h ∙ ap (broken_at p) k

pub yes-none : (us : List Meaning) (o : Option BrokenAt) (m n : ℕ) → checked_with o us ≡ Yes m n → o ≡ None
yes-none us None m n h = refl
yes-none us (Some b) m n h = absurd (cc h)
