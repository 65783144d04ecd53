-- Exp-Golomb numbers (9.2): what is read is spelled, what is spelled is read, and no spelling is a prefix of another.
use Rattle.std.proofs.Common.{◌≡◌, ℕ, ◌≤◌, Bool, true, false, cond, List, [], ◌++◌, refl, sym, ap, ◌∙◌, arith}
use Rattle.std.specs.Prelude.{nat_le}
use Rattle.std.proofs.lemmas.List.{append-nil}
use Rattle.hevc_spec.specs.Bits.{ue, IsSpelled, IsAtFront, Found, found, out_of_bounds, ended}
use Rattle.hevc_spec.specs.Bits.{golomb_at, ue_at, within, in_range}
use Rattle.hevc_reading_laws.proofs.FormLaws.{form_front, form_spelled}

within-found : (f : Found) (v : ℕ) (rest : List Bool) → within (in_range 0 2147483647) f ≡ found v rest
    → f ≡ found v rest
within-found out_of_bounds v rest e = absurd cc
within-found ended v rest e = absurd cc
within-found (found w behind) v rest e = by_test (in_range 0 2147483647 w) e
  where
    by_test : (t : Bool) → cond t (found w behind) out_of_bounds ≡ found v rest → found w behind ≡ found v rest
    by_test true h = h
    by_test false h = absurd cc

pub ue_at-front : (bits : List Bool) (v : ℕ) (rest : List Bool) → ue_at bits ≡ found v rest → IsAtFront ue v bits rest
unfolding ue_at
ue_at-front bits v rest e =
    let f = form_front ue bits v rest (within-found (golomb_at bits) v rest e) in
    record { front = f.front; spelled = f.spelled; parts = f.parts }

golomb_at-spelled : (bits : List Bool) (v : ℕ) (rest : List Bool) → IsAtFront ue v bits rest
    → golomb_at bits ≡ found v rest
golomb_at-spelled bits v rest s = ap golomb_at s.parts ∙ form_spelled ue v s.front rest s.spelled

pub ue_at-spelled : (bits : List Bool) (v : ℕ) (rest : List Bool) → IsAtFront ue v bits rest
    → v ≤ 2147483647 → ue_at bits ≡ found v rest
unfolding ue_at
ue_at-spelled bits v rest s small =
    let low : nat_le 0 v ≡ true = grind arith in
    let high : nat_le v 2147483647 ≡ true = grind arith in
    rw (golomb_at-spelled bits v rest s, low, high) refl

pub prefix_free : (v w : ℕ) (spelling more : List Bool) → IsSpelled ue v spelling
    → IsSpelled ue w (spelling ++ more) → (v ≡ w) × (more ≡ [])
prefix_free v w spelling more s t =
    let a : golomb_at (spelling ++ more) ≡ found v more = form_spelled ue v spelling more s in
    let b : golomb_at (spelling ++ more) ≡ found w [] = ap golomb_at (sym (append-nil (spelling ++ more)))
    ∙ form_spelled ue w (spelling ++ more) [] t in
    (cc, cc)
