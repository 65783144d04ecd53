-- From each sequence to all pictures.
use Rattle.std.proofs.Common.{◌≡◌, ◌≢◌, ℕ, suc, Bool, true, false, cond, List, [], ◌∷◌, ◌++◌}
use Rattle.std.proofs.Common.{length, refl, sym, ◌∙◌, ap, subst, arith, Option, Some, IfSome}
use Rattle.std.proofs.Common.{append_assoc}
use Rattle.std.specs.List.{AllByRecursion as Each}
use Rattle.hevc_walk.specs.Pictures.{Picture}
use Rattle.hevc_walk_fates.proofs.Numbers.{Numbered, numbered-length}
use Rattle.hevc_walk_order.specs.Sequences.{Sequence, begins, earliest, sequences_from}
use Rattle.hevc_walk_order.proofs.Each.{each-append}
use Rattle.hevc_walk_order.proofs.Heads.{numbered-right}
use Rattle.hevc_check_laws.proofs.Places.{earliest-push, Within, Sound, sound-join, InPlace, Along}
use Rattle.hevc_check_laws.proofs.Places.{of-along, earlier-first}
use Rattle.hevc_check_laws.proofs.Discarding.{Discarding}

-- no picture but the first of all discards
abbrev pub Keeping : Picture → List Picture → Type 0
Keeping p before = p.number ≢ 0 → p.no_output_of_prior_pics ≡ false

pub numbered-first : (p : Picture) → Numbered (p ∷ []) → p.number ≡ 0
numbered-first p h = h.0

pub numbered-later : (p q : Picture) (before : List Picture) → Numbered (p ∷ q ∷ before) → p.number ≢ 0
numbered-later p q before h e = above p.number (length before) (h.0 ∙ numbered-length (q ∷ before) h.1) e
  where
    above : (m n : ℕ) → m ≡ suc n → m ≡ 0 → ⊥
    above m n h e = omega (arith, h, e)

-- the earliest of later pictures discards nothing
pub next-keeps : (later : List Picture) (p : Picture) (before : List Picture) → Numbered (later ++ p ∷ before)
    → Sound Keeping (later ++ p ∷ before) → IfSome (earliest later) (λ n. n.no_output_of_prior_pics ≡ false)
next-keeps [] p before n h = tt
next-keeps (q ∷ []) p before n h = h.0 (numbered-later q p before n)
next-keeps (q ∷ r ∷ later) p before n h = next-keeps (r ∷ later) p before n.1 h.1

abbrev Next : List Picture → Type 0
Next later = IfSome (earliest later) (λ n. n.no_output_of_prior_pics ≡ false)

-- What a sequence that keeps something tells of its pictures, in their places, and of the next one.
pub record Tells (F : Picture → List Picture → List Picture → Type 0) (Keeps : Sequence → Type 0) : Type 1 where
  pub along : (q : Sequence) → begins q.first q.before ≡ true → Within q.rest → Numbered (q.rest ++ q.first ∷ q.before)
      → Keeps q → Along F q.first q.before q.rest × F q.first q.before []
  pub next : (q : Sequence) → Keeps q → Next q.later

record Found (F : Picture → List Picture → List Picture → Type 0) (later rest : List Picture) (p : Picture)
    (before : List Picture) : Type 0 where
  sound : Sound (InPlace F) (rest ++ p ∷ before)
  keeping : Sound Keeping (p ∷ before)
  next : Next later

first-of : (F : Picture → List Picture → List Picture → Type 0) (Keeps : Sequence → Type 0) → Tells F Keeps
    → (q : Sequence) → begins q.first q.before ≡ true → Within q.rest → Numbered (q.rest ++ q.first ∷ q.before)
    → Keeps q → Sound (InPlace F) q.before → Sound (InPlace F) (q.rest ++ q.first ∷ q.before)
first-of F Keeps tells q b w n keeps behind =
    let a = tells.along q b w n keeps in
    sound-join (InPlace F) q.rest (q.first ∷ q.before) (of-along F q.rest q.first q.before b w a.0)
    (subst (λ (es : List Picture). F q.first q.before es) (sym (earlier-first q.first q.before b)) a.1, behind)

found : (F : Picture → List Picture → List Picture → Type 0) (Keeps : Sequence → Type 0) → Tells F Keeps
    → (later rest : List Picture) (p : Picture) (before : List Picture) → Within rest → Numbered (rest ++ p ∷ before)
    → Sound Discarding (p ∷ before) → Each Keeps (sequences_from later rest (p ∷ before))
    → Found F later rest p before
found F Keeps tells later rest p [] w n d keeps =
    let q : Sequence = record { later = later; rest = rest; first = p; before = [] } in
    record {
      sound = first-of F Keeps tells q refl w n keeps.0 tt;
      keeping =
          (λ m. absurd (m (numbered-first p (numbered-right rest (p ∷ []) n))), tt);
      next = tells.next q keeps.0;
    }
found F Keeps tells later rest p (r ∷ before) w n d keeps = by_test p.starts_sequence refl keeps
    (λ k. found F Keeps tells (later ++ (rest ++ p ∷ [])) [] r before tt (numbered-right rest (p ∷ r ∷ before) n).1 d.1
    k)
    (λ e k. found F Keeps tells later (rest ++ p ∷ []) r before
    (each-append (λ p. p.starts_sequence ≡ false) rest (p ∷ []) w (e, tt)) (subst Numbered pushed n) d.1 k)
  where
    pushed : rest ++ p ∷ r ∷ before ≡ (rest ++ p ∷ []) ++ r ∷ before
    pushed = sym (append_assoc rest (p ∷ []) (r ∷ before))

    last : earliest (later ++ (rest ++ p ∷ [])) ≡ Some p
    last = ap earliest (sym (append_assoc later rest (p ∷ []))) ∙ earliest-push (later ++ rest) p

    q : Sequence
    q = record { later = later; rest = rest; first = p; before = r ∷ before }

    by_test : (b : Bool) → p.starts_sequence ≡ b
        → Each Keeps
        (cond b (q ∷ sequences_from (later ++ (rest ++ p ∷ [])) [] (r ∷ before))
        (sequences_from later (rest ++ p ∷ []) (r ∷ before)))
        → (Each Keeps (sequences_from (later ++ (rest ++ p ∷ [])) [] (r ∷ before))
        → Found F (later ++ (rest ++ p ∷ [])) [] r before)
        → (p.starts_sequence ≡ false → Each Keeps (sequences_from later (rest ++ p ∷ []) (r ∷ before))
        → Found F later (rest ++ p ∷ []) r before)
        → Found F later rest p (r ∷ before)
    by_test true e keeps behind goes_on =
        let f = behind keeps.1 in
        record {
          sound = first-of F Keeps tells q e w n keeps.0 f.sound;
          keeping = (
            λ m. subst (λ (o : Option Picture). IfSome o (λ n. n.no_output_of_prior_pics ≡ false)) last f.next,
            f.keeping,
          );
          next = tells.next q keeps.0;
        }
    by_test false e keeps behind goes_on =
        let f = goes_on e keeps in
        record {
          sound = subst (Sound (InPlace F)) (sym pushed) f.sound;
          keeping = (λ m. d.0 e, f.keeping);
          next = f.next;
        }

pub whole : (F : Picture → List Picture → List Picture → Type 0) (Keeps : Sequence → Type 0) → Tells F Keeps
    → (ps : List Picture) → Numbered ps → Sound Discarding ps → Each Keeps (sequences_from [] [] ps)
    → Sound (InPlace F) ps × Sound Keeping ps
whole F Keeps tells [] n d keeps = (tt, tt)
whole F Keeps tells (p ∷ before) n d keeps =
    let f = found F Keeps tells [] [] p before tt n d keeps in
    (f.sound, f.keeping)
