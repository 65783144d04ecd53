-- Each picture has one end.
use Rattle.std.proofs.Common.{◌≡◌, ℕ, suc, ◌+◌, Bool, true, false, not, ◌&&◌, cond, eqb, List, [], ◌∷◌, ◌++◌}
use Rattle.std.proofs.Common.{length, map, filter, refl, sym, ◌∙◌, subst, arith, Option, None}
use Rattle.std.specs.Prelude.{nat_lt}
use Rattle.std.proofs.lemmas.Bool.Decides.{nat_tests}
use Rattle.hevc_walk.specs.Meanings.{Meaning}
use Rattle.hevc_walk.specs.Pictures.{Picture, Stream, stream_from, nothing_yet, pictures}
use Rattle.hevc_walk.specs.Walk.{closing, latest_head, store, at_unit, picture_events}
use Rattle.hevc_walk.specs.Refusals.{Refusal, stop, covered_stream}
use Rattle.hevc_walk.specs.Results.{events, ending}
use Rattle.hevc_walk.specs.Fates.{one, times, discarded_in, discarded_numbers, output_numbers}
use Rattle.hevc_walk_fates.proofs.Counts.{for_output}
use Rattle.hevc_walk_fates.proofs.Fates.{given_in, given_in-append, given_in-at, given_in-numbers, all}
use Rattle.hevc_walk_fates.proofs.Fates.{over-all, all-once, balance, closing-balanced}
use Rattle.hevc_walk_fates.proofs.Numbers.{Numbered, numbered-length, covered-numbered, covered_all}
use Rattle.hevc_walk_frames.specs.Ends.{numbers_where, is_skipped, is_hidden}

-- those that are output, and those that are discarded, are those that are to be output
pub whole : (n k : ℕ) (v : Stream) → Numbered v.pictures
    → given_in n (picture_events v.first_set v.pictures ++ ending None k v)
    + times n (discarded_in v.first_set v.pictures) ≡ all n v.pictures
whole n k v h =
    let b = balance n v.first_set v.pictures h in
    let once = all-once n v.pictures h in
    let sum = over-all n v.pictures in
    let s = store v.first_set v.pictures in
    let c = closing (latest_head v.pictures) s in
    let e = closing-balanced n (latest_head v.pictures) s (omega (arith, b, once, sum)) in
    let g1 = given_in-append n (picture_events v.first_set v.pictures) (at_unit k c.events) in
    let g2 = given_in-at n k c.events in
    omega (arith, b, sum, e, g1, g2)

if_first : (n : ℕ) (test : Picture → Bool) (p : Picture) (ps : List Picture)
    → times n (numbers_where test (p ∷ ps)) ≡ one (test p && eqb p.number n) + times n (numbers_where test ps)
if_first n test p ps = by_test (test p)
  where
    by_test : (b : Bool)
        → times n (map (λ q. q.number) (cond b (p ∷ filter test ps) (filter test ps)))
        ≡ one (b && eqb p.number n) + times n (numbers_where test ps)
    by_test true = refl
    by_test false = omega arith

-- one picture has one of three
one_of_three : (skipped output is : Bool)
    → one (skipped && is) + one ((not skipped && not output) && is) + one (not skipped && output && is) ≡ one is
one_of_three true output true = refl
one_of_three true output false = refl
one_of_three false true true = refl
one_of_three false true false = refl
one_of_three false false true = refl
one_of_three false false false = refl

next_below : (n m : ℕ) → one (eqb m n) + one (nat_lt n m) ≡ one (nat_lt n (suc m))
next_below n m = by_tests (eqb m n) (nat_lt n m) (nat_lt n (suc m)) refl refl refl
  where
    by_tests : (a b c : Bool) → eqb m n ≡ a → nat_lt n m ≡ b → nat_lt n (suc m) ≡ c → one a + one b ≡ one c
    by_tests true true c x y z = absurd (grind (arith, nat_tests, x, y))
    by_tests true false true x y z = refl
    by_tests true false false x y z = absurd (grind (arith, nat_tests, x, z))
    by_tests false true true x y z = refl
    by_tests false true false x y z = absurd (grind (arith, nat_tests, y, z))
    by_tests false false true x y z = absurd (grind (arith, nat_tests, x, y, z))
    by_tests false false false x y z = refl

three : (n : ℕ) (ps : List Picture) → Numbered ps
    → times n (numbers_where is_skipped ps) + times n (numbers_where is_hidden ps) + all n ps
    ≡ one (nat_lt n (length ps))
three n [] h = by_test (nat_lt n 0) refl
  where
    by_test : (b : Bool) → nat_lt n 0 ≡ b → 0 ≡ one b
    by_test true is = absurd (grind (arith, nat_tests, is))
    by_test false is = refl
three n (p ∷ before) h =
    let number : p.number ≡ length before = h.0 ∙ numbered-length before h.1 in
    let first : one (p.skipped && eqb p.number n) + one (not p.skipped && not p.pic_output_flag && eqb p.number n)
    + for_output n p.head ≡ one (eqb p.number n) =
    one_of_three p.skipped p.pic_output_flag (eqb p.number n) in
    let a : times n (numbers_where is_skipped (p ∷ before))
    ≡ one (p.skipped && eqb p.number n) + times n (numbers_where is_skipped before) = if_first n is_skipped p before in
    let b : times n (numbers_where is_hidden (p ∷ before))
    ≡ one (not p.skipped && not p.pic_output_flag && eqb p.number n) + times n (numbers_where is_hidden before) =
    if_first n is_hidden p before in
    let rest = three n before h.1 in
    let below : one (eqb p.number n) + one (nat_lt n (length before)) ≡ one (nat_lt n (suc (length before))) =
    subst (λ (m : ℕ). one (eqb m n) + one (nat_lt n (length before)) ≡ one (nat_lt n (suc (length before))))
    (sym number) (next_below n (length before)) in
    omega (arith, first, a, b, rest, below)

pub one_end : (us : List Meaning) → stop us ≡ None → (n : ℕ)
    → times n (numbers_where is_skipped (pictures us)) + times n (numbers_where is_hidden (pictures us))
    + times n (discarded_numbers us) + times n (output_numbers us)
    ≡ one (nat_lt n (length (pictures us)))
one_end us none n =
    let numbered = covered-numbered 0 nothing_yet us tt in
    let is : covered_stream us ≡ stream_from 0 nothing_yet us = covered_all 0 nothing_yet us none in
    let all_given : given_in n (events us) + times n (discarded_numbers us) ≡ all n (covered_stream us).pictures =
    subst (λ (s : Option Refusal). given_in n
    (picture_events (covered_stream us).first_set (covered_stream us).pictures
    ++ ending s (length us) (covered_stream us)) + times n (discarded_numbers us) ≡ all n (covered_stream us).pictures)
    (sym none) (whole n (length us) (covered_stream us) numbered) in
    let outputs = given_in-numbers n (events us) in
    let sum : times n (numbers_where is_skipped (covered_stream us).pictures)
    + times n (numbers_where is_hidden (covered_stream us).pictures)
    + times n (discarded_numbers us) + times n (output_numbers us) ≡ one (nat_lt n (length (covered_stream us).pictures)) =
    (let t = three n (covered_stream us).pictures numbered in omega (arith, t, all_given, outputs)) in
    subst (λ (v : Stream). times n (numbers_where is_skipped v.pictures) + times n (numbers_where is_hidden v.pictures)
    + times n (discarded_numbers us) + times n (output_numbers us) ≡ one (nat_lt n (length v.pictures))) is sum
