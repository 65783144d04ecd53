-- The places of pictures in their sequences.
use Rattle.std.proofs.Common.{◌≡◌, Bool, true, false, cond, List, [], ◌∷◌, ◌++◌, refl, sym, ◌∙◌, ap, subst, Some}
use Rattle.std.specs.List.{AllByRecursion as Each}
use Rattle.hevc_walk.specs.Pictures.{Picture}
use Rattle.hevc_walk_order.specs.Sequences.{begins, earliest}
use Rattle.hevc_check_laws.specs.Breaches.{latest_sequence, earlier_in}

pub earliest-push : (ps : List Picture) (p : Picture) → earliest (ps ++ p ∷ []) ≡ Some p
earliest-push [] p = refl
earliest-push (q ∷ []) p = refl
earliest-push (q ∷ r ∷ ps) p = earliest-push (r ∷ ps) p

abbrev pub Within : List Picture → Type 0
Within ps = Each (λ p. p.starts_sequence ≡ false) ps

pub begins-within : (p : Picture) (rest : List Picture) (first : Picture) (before : List Picture)
    → begins p (rest ++ first ∷ before) ≡ p.starts_sequence
begins-within p [] first before = refl
begins-within p (r ∷ rest) first before = refl

latest-is : (rest : List Picture) (first : Picture) (before : List Picture) → begins first before ≡ true → Within rest
    → latest_sequence (rest ++ first ∷ before) ≡ rest ++ first ∷ []
latest-is [] first before b w = ap (λ (t : Bool). first ∷ cond t [] (latest_sequence before)) b
latest-is (p ∷ rest) first before b w =
    ap (λ (t : Bool). p ∷ cond t [] (latest_sequence (rest ++ first ∷ before)))
    (begins-within p rest first before ∙ w.0) ∙ ap (λ (l : List Picture). p ∷ l) (latest-is rest first before b w.1)

pub earlier-is : (p : Picture) (rest : List Picture) (first : Picture) (before : List Picture)
    → begins first before ≡ true → p.starts_sequence ≡ false → Within rest
    → earlier_in p (rest ++ first ∷ before) ≡ rest ++ first ∷ []
earlier-is p rest first before b s w =
    ap (λ (t : Bool). cond t [] (latest_sequence (rest ++ first ∷ before))) (begins-within p rest first before ∙ s)
    ∙ latest-is rest first before b w

pub earlier-first : (first : Picture) (before : List Picture) → begins first before ≡ true
    → earlier_in first before ≡ []
earlier-first first before b = ap (λ (t : Bool). cond t [] (latest_sequence before)) b

-- what holds of each of some pictures after those before it
abbrev pub Sound : (Picture → List Picture → Type 0) → List Picture → Type 0
Sound P [] = Unit {0}
Sound P (p ∷ before) = P p before × Sound P before

abbrev pub SoundFrom : (Picture → List Picture → Type 0) → List Picture → List Picture → Type 0
SoundFrom P [] before = Unit {0}
SoundFrom P (p ∷ ps) before = P p (ps ++ before) × SoundFrom P ps before

pub sound-join : (P : Picture → List Picture → Type 0) (ps before : List Picture) → SoundFrom P ps before
    → Sound P before → Sound P (ps ++ before)
sound-join P [] before h k = k
sound-join P (p ∷ ps) before h k = (h.0, sound-join P ps before h.1 k)

pub sound-front : (P : Picture → List Picture → Type 0) (ps before : List Picture) → Sound P (ps ++ before)
    → SoundFrom P ps before
sound-front P [] before h = tt
sound-front P (p ∷ ps) before h = (h.0, sound-front P ps before h.1)

pub sound-back : (P : Picture → List Picture → Type 0) (ps before : List Picture) → Sound P (ps ++ before)
    → Sound P before
sound-back P [] before h = h
sound-back P (p ∷ ps) before h = sound-back P ps before h.1

pub sound-weaker : (P Q : Picture → List Picture → Type 0)
    → ((p : Picture) (before : List Picture) → P p before → Q p before) → (ps : List Picture) → Sound P ps → Sound Q ps
sound-weaker P Q f [] h = tt
sound-weaker P Q f (p ∷ before) h = (f p before h.0, sound-weaker P Q f before h.1)

pub sound-both : (P Q R : Picture → List Picture → Type 0)
    → ((p : Picture) (before : List Picture) → P p before → Q p before → R p before) → (ps : List Picture) → Sound P ps
    → Sound Q ps → Sound R ps
sound-both P Q R f [] h k = tt
sound-both P Q R f (p ∷ before) h k = (f p before h.0 k.0, sound-both P Q R f before h.1 k.1)

-- a fact of a picture, those before it, and those of them in its sequence
abbrev pub InPlace : (Picture → List Picture → List Picture → Type 0) → Picture → List Picture → Type 0
InPlace F p before = F p before (earlier_in p before)

-- the same along a sequence
abbrev pub Along : (Picture → List Picture → List Picture → Type 0) → Picture → List Picture → List Picture → Type 0
Along F first before [] = Unit {0}
Along F first before (p ∷ ps) = F p (ps ++ first ∷ before) (ps ++ first ∷ []) × Along F first before ps

pub along-of : (F : Picture → List Picture → List Picture → Type 0) (rest : List Picture) (first : Picture)
    (before : List Picture) → begins first before ≡ true → Within rest → SoundFrom (InPlace F) rest (first ∷ before)
    → Along F first before rest
along-of F [] first before b w h = tt
along-of F (p ∷ rest) first before b w h = (
  subst (λ (es : List Picture). F p (rest ++ first ∷ before) es) (earlier-is p rest first before b w.0 w.1) h.0,
  along-of F rest first before b w.1 h.1,
)

pub of-along : (F : Picture → List Picture → List Picture → Type 0) (rest : List Picture) (first : Picture)
    (before : List Picture) → begins first before ≡ true → Within rest → Along F first before rest
    → SoundFrom (InPlace F) rest (first ∷ before)
of-along F [] first before b w h = tt
of-along F (p ∷ rest) first before b w h = (
  subst (λ (es : List Picture). F p (rest ++ first ∷ before) es) (sym (earlier-is p rest first before b w.0 w.1))
      h.0,
  of-along F rest first before b w.1 h.1,
)
