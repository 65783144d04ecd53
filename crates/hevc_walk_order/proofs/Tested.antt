-- The tests tell what they are to tell.
use Rattle.std.proofs.Common.{◌≡◌, ◌≢◌, ℕ, ℤ, ◌+◌, ◌<◌, ◌≤◌, ◌<ℤ◌, Bool, true, false, not, ◌&&◌}
use Rattle.std.proofs.Common.{◌||◌, eqb, int_eq, List, [], ◌∷◌, ◌++◌, length, refl, ◌∙◌, ap, subst}
use Rattle.std.proofs.Common.{arith, Option, Some, None, IfSome, All, AllPairs}
use Rattle.std.specs.Prelude.{Decides, nat_lt, nat_le, int_lt, count_by}
use Rattle.std.specs.List.{list_all}
use Rattle.std.proofs.lemmas.Int.{ints}
use Rattle.std.proofs.lemmas.Bool.Decides.{nat_tests, Decides-and, Decides-not, Decides-like}
use Rattle.std.proofs.lemmas.Bool.Decides.{Decides-by_and, Decides-eqb, Decides-int_eq}
use Rattle.std.proofs.lemmas.List.Elements.{All-from_recursion, recursion_from_All}
use Rattle.hevc_walk.specs.Meanings.{Format, Limits, Meaning, same_format}
use Rattle.hevc_walk.specs.Pictures.{Picture, stream}
use Rattle.hevc_walk_fates.proofs.Accepted.{same_format-equal}
use Rattle.hevc_walk_order.specs.Sequences.{Sequence, earliest, pictures_of, is_for_output, pictures_for_output}
use Rattle.hevc_walk_order.specs.DisplayOrder.{FewPrecede, latency_pictures, decoded_between}
use Rattle.hevc_walk_order.specs.DisplayOrder.{entries_before, needed_behind, HasRoom, HaveRoom}
use Rattle.hevc_walk_order.specs.DisplayOrder.{KeepsOrder}
use Rattle.hevc_walk_order.specs.Bounds.{NeverFull, KeepsBounds}
use Rattle.hevc_walk_order.specs.Tests.{same_limits, pairs_pass, other_counts, few_precede}
use Rattle.hevc_walk_order.specs.Tests.{comes_soon, keeps_latency, has_room, have_room, never_full}
use Rattle.hevc_walk_order.specs.Tests.{keeps_prior, is_uniform, keeps_order, keeps_bounds}
use Rattle.hevc_walk_order.proofs.Each.{Pairs, pairs_all, all_pairs}
use Rattle.hevc_walk_order.proofs.Parts.{same_format-own}

le-tells : (m n : ℕ) → Decides (nat_le m n) (m ≤ n)
le-tells m n = (passes m n, holds m n)
  where
    passes : (m n : ℕ) → nat_le m n ≡ true → m ≤ n
    passes m n h = grind (arith, nat_tests)

    holds : (m n : ℕ) → m ≤ n → nat_le m n ≡ true
    holds m n h = grind (arith, nat_tests)

lt-tells : (m n : ℕ) → Decides (nat_lt m n) (m < n)
lt-tells m n = (passes m n, holds m n)
  where
    passes : (m n : ℕ) → nat_lt m n ≡ true → m < n
    passes m n h = grind (arith, nat_tests)

    holds : (m n : ℕ) → m < n → nat_lt m n ≡ true
    holds m n h = grind (arith, nat_tests)

below-tells : (a b : ℤ) → Decides (int_lt a b) (a <ℤ b)
below-tells a b = (passes a b, holds a b)
  where
    passes : (a b : ℤ) → int_lt a b ≡ true → a <ℤ b
    passes a b h = grind (arith, ints)

    holds : (a b : ℤ) → a <ℤ b → int_lt a b ≡ true
    holds a b h = grind (arith, ints)

-- a fact that is asked where a test passes, or where it doesn't
if-tells : {P : Type 0} (b t : Bool) → Decides t P → Decides (not b || t) (b ≡ true → P)
if-tells true t d = (λ h is. d.0 h, λ h. d.1 (h refl))
if-tells false t d = (λ h is. absurd (cc is), λ h. refl)

unless-tells : {P : Type 0} (b t : Bool) → Decides t P → Decides (b || t) (b ≡ false → P)
unless-tells true t d = (λ h is. absurd (cc is), λ h. refl)
unless-tells false t d = (λ h is. d.0 h, λ h. d.1 (h refl))

where-tells : {P Q : Type 0} (b t : Bool) → Decides b P → Decides t Q → Decides (not b || t) (P → Q)
where-tells b t d k = Decides-like (not b || t) (λ h p. h (d.1 p)) (λ h is. h (d.0 is)) (if-tells b t k)

all-tells : {X : Type 0} (test : X → Bool) (P : X → Type 0) → ((x : X) → Decides (test x) (P x))
    → (xs : List X) → Decides (list_all test xs) (All P xs)
all-tells test P each xs = Decides-by_and test P (list_all test) each refl (λ x xs. refl) xs

pairs-tell : {X : Type 0} (test : X → X → Bool) (R : X → X → Type 0)
    → ((x y : X) → Decides (test x y) (R x y)) → (xs : List X) → Decides (pairs_pass test xs) (AllPairs R xs)
pairs-tell {X = X} test R each xs =
    Decides-like (pairs_pass test xs) (pairs_all R xs) (all_pairs R xs) (by_recursion xs)
  where
    by_recursion : (xs : List X) → Decides (pairs_pass test xs) (Pairs R xs)
    by_recursion [] = (λ h. tt, λ h. refl)
    by_recursion (x ∷ xs) =
        Decides-and (list_all (test x) xs) (pairs_pass test xs)
        (Decides-like (list_all (test x) xs) (recursion_from_All (R x) xs) (All-from_recursion (R x) xs)
        (all-tells (test x) (R x) (each x) xs)) (by_recursion xs)

limits_of : ℕ → ℕ → ℕ → Limits
limits_of m n k = record { max_num_reorder_pics = m; max_latency_increase_plus1 = n; max_dec_pic_buffering_minus1 = k }

limits-tell : (a b : Limits) → Decides (same_limits a b) (a ≡ b)
unfolding limits_of
limits-tell a b = Decides-like (same_limits a b)
    (λ h. ap (λ m. limits_of m a.max_latency_increase_plus1 a.max_dec_pic_buffering_minus1) h.0.0
    ∙ ap (λ n. limits_of b.max_num_reorder_pics n a.max_dec_pic_buffering_minus1) h.0.1
    ∙ ap (λ k. limits_of b.max_num_reorder_pics b.max_latency_increase_plus1 k) h.1)
    (λ h. (
      (
        ap (λ (l : Limits). l.max_num_reorder_pics) h,
        ap (λ (l : Limits). l.max_latency_increase_plus1) h,
      ),
      ap (λ (l : Limits). l.max_dec_pic_buffering_minus1) h,
    ))
    (Decides-and
    (eqb a.max_num_reorder_pics b.max_num_reorder_pics
    && eqb a.max_latency_increase_plus1 b.max_latency_increase_plus1)
    (eqb a.max_dec_pic_buffering_minus1 b.max_dec_pic_buffering_minus1)
    (Decides-and (eqb a.max_num_reorder_pics b.max_num_reorder_pics)
    (eqb a.max_latency_increase_plus1 b.max_latency_increase_plus1)
    (Decides-eqb a.max_num_reorder_pics b.max_num_reorder_pics)
    (Decides-eqb a.max_latency_increase_plus1 b.max_latency_increase_plus1))
    (Decides-eqb a.max_dec_pic_buffering_minus1 b.max_dec_pic_buffering_minus1))

format-tells : (a b : Format) → Decides (same_format a b) (a ≡ b)
format-tells a b = (same_format-equal a b, λ h. subst (λ (f : Format). same_format a f ≡ true) h (same_format-own a))

counts-tell : (a b : Picture) → Decides (other_counts a b) (a.order_count ≢ b.order_count)
counts-tell a b = Decides-not (int_eq a.order_count b.order_count) (Decides-int_eq a.order_count b.order_count)

few-tells : (n : ℕ) (ps : List Picture) → Decides (few_precede n ps) (FewPrecede n ps)
few-tells n [] = (λ h. tt, λ h. refl)
few-tells n (p ∷ before) =
    Decides-and (nat_le (count_by (λ b. int_lt p.order_count b.order_count) before) n)
    (few_precede n before) (le-tells (count_by (λ b. int_lt p.order_count b.order_count) before) n) (few-tells n before)

soon-tells : (limits : Limits) (all : List Picture) (a b : Picture)
    → Decides (comes_soon limits all a b) (a.order_count <ℤ b.order_count
    → decoded_between b.number a.number all < latency_pictures limits)
soon-tells limits all a b =
    where-tells (int_lt a.order_count b.order_count)
    (nat_lt (decoded_between b.number a.number all) (latency_pictures limits))
    (below-tells a.order_count b.order_count)
    (lt-tells (decoded_between b.number a.number all) (latency_pictures limits))

abbrev KeepsLatency : Sequence → Type 0
KeepsLatency q = 0 < q.first.limits.max_latency_increase_plus1
    → AllPairs (λ a b. a.order_count <ℤ b.order_count
    → decoded_between b.number a.number (pictures_of q) < latency_pictures q.first.limits) (pictures_for_output q)

latency-tells : (q : Sequence) → Decides (keeps_latency q) (KeepsLatency q)
latency-tells q =
    where-tells (nat_lt 0 q.first.limits.max_latency_increase_plus1)
    (pairs_pass (comes_soon q.first.limits (pictures_of q)) (pictures_for_output q))
    (lt-tells 0 q.first.limits.max_latency_increase_plus1)
    (pairs-tell (comes_soon q.first.limits (pictures_of q)) (λ a b. a.order_count <ℤ b.order_count
    → decoded_between b.number a.number (pictures_of q) < latency_pictures q.first.limits)
    (soon-tells q.first.limits (pictures_of q)) (pictures_for_output q))

room-tells : (set : Option (ℕ × Format)) (c : ℤ) (ps before : List Picture)
    → Decides (has_room set c ps before) (HasRoom set c ps before)
room-tells set c [] before = (λ h. tt, λ h. refl)
room-tells set c (p ∷ ps) before =
    let n : ℕ = length (needed_behind c (entries_before set p (ps ++ before))) in
    let t : Bool = nat_lt n (p.limits.max_dec_pic_buffering_minus1 + 1) in
    Decides-and (p.skipped || t) (has_room set c ps before)
    (unless-tells p.skipped t (lt-tells n (p.limits.max_dec_pic_buffering_minus1 + 1))) (room-tells set c ps before)

rooms-tell : (set : Option (ℕ × Format)) (ps before : List Picture)
    → Decides (have_room set ps before) (HaveRoom set ps before)
rooms-tell set [] before = (λ h. tt, λ h. refl)
rooms-tell set (p ∷ ps) before =
    Decides-and (not (is_for_output p) || has_room set p.order_count (p ∷ ps) before)
    (have_room set ps before)
    (if-tells (is_for_output p) (has_room set p.order_count (p ∷ ps) before)
    (room-tells set p.order_count (p ∷ ps) before)) (rooms-tell set ps before)

never-tells : (set : Option (ℕ × Format)) (ps before : List Picture)
    → Decides (never_full set ps before) (NeverFull set ps before)
never-tells set [] before = (λ h. tt, λ h. refl)
never-tells set (p ∷ ps) before =
    let n : ℕ = length (entries_before set p (ps ++ before)) in
    let t : Bool = nat_lt n (p.limits.max_dec_pic_buffering_minus1 + 1) in
    Decides-and (p.skipped || t) (never_full set ps before)
    (unless-tells p.skipped t (lt-tells n (p.limits.max_dec_pic_buffering_minus1 + 1))) (never-tells set ps before)

prior-tells : (o : Option Picture) → Decides (keeps_prior o) (IfSome o (λ p. p.no_output_of_prior_pics ≡ false))
prior-tells None = (λ h. tt, λ h. refl)
prior-tells (Some p) = by_flag p.no_output_of_prior_pics
  where
    by_flag : (b : Bool) → Decides (not b) (b ≡ false)
    by_flag true = (λ h. absurd (cc h), λ h. absurd (cc h))
    by_flag false = (λ h. refl, λ h. refl)

abbrev IsUniform : Sequence → Type 0
IsUniform q = All (λ p. p.limits ≡ q.first.limits) q.rest × All (λ p. p.format ≡ q.first.format) q.rest

uniform-tells : (q : Sequence) → Decides (is_uniform q) (IsUniform q)
uniform-tells q =
    Decides-and (list_all (λ p. same_limits p.limits q.first.limits) q.rest)
    (list_all (λ p. same_format p.format q.first.format) q.rest)
    (all-tells (λ (p : Picture). same_limits p.limits q.first.limits) (λ p. p.limits ≡ q.first.limits)
    (λ p. limits-tell p.limits q.first.limits) q.rest)
    (all-tells (λ (p : Picture). same_format p.format q.first.format) (λ p. p.format ≡ q.first.format)
    (λ p. format-tells p.format q.first.format) q.rest)

six-tell : {A B C D E F : Type 0} (a b c d e f : Bool) → Decides a A → Decides b B → Decides c C
    → Decides d D → Decides e E → Decides f F → Decides (a && b && c && d && e && f) (((((A × B) × C) × D) × E) × F)
six-tell a b c d e f ta tb tc td te tf =
    Decides-and (a && b && c && d && e) f
    (Decides-and (a && b && c && d) e
    (Decides-and (a && b && c) d (Decides-and (a && b) c (Decides-and a b ta tb) tc) td) te) tf

pub order-tells : (us : List Meaning) (q : Sequence) → Decides (keeps_order us q) (KeepsOrder us q)
order-tells us q = Decides-like (keeps_order us q)
    (λ h. record {
      limits = h.0.0.0.0.0.0;
      format = h.0.0.0.0.0.1;
      latency = h.0.0.0.0.1;
      room = h.0.0.0.1;
      next = h.0.0.1;
      distinct = h.0.1;
      few_precede = h.1;
    })
    (λ k. ((((((k.limits, k.format), k.latency), k.room), k.next), k.distinct), k.few_precede))
    (six-tell (is_uniform q) (keeps_latency q) (have_room (stream us).first_set q.rest (q.first ∷ q.before))
    (keeps_prior (earliest q.later)) (pairs_pass other_counts (pictures_for_output q))
    (few_precede q.first.limits.max_num_reorder_pics (pictures_for_output q))
    (uniform-tells q) (latency-tells q) (rooms-tell (stream us).first_set q.rest (q.first ∷ q.before))
    (prior-tells (earliest q.later))
    (pairs-tell other_counts (λ a b. a.order_count ≢ b.order_count) counts-tell (pictures_for_output q))
    (few-tells q.first.limits.max_num_reorder_pics (pictures_for_output q)))

pub bounds-tell : (us : List Meaning) (q : Sequence) → Decides (keeps_bounds us q) (KeepsBounds us q)
bounds-tell us q = Decides-like (keeps_bounds us q)
    (λ h. record {
      limits = h.0.0.0.0.0.0;
      format = h.0.0.0.0.0.1;
      latency = h.0.0.0.0.1;
      room = h.0.0.0.1;
      next = h.0.0.1;
      distinct = h.0.1;
      few_precede = h.1;
    })
    (λ k. ((((((k.limits, k.format), k.latency), k.room), k.next), k.distinct), k.few_precede))
    (six-tell (is_uniform q) (eqb q.first.limits.max_latency_increase_plus1 0)
    (never_full (stream us).first_set q.rest (q.first ∷ q.before)) (keeps_prior (earliest q.later))
    (pairs_pass other_counts (pictures_of q)) (few_precede q.first.limits.max_num_reorder_pics (pictures_for_output q))
    (uniform-tells q) (Decides-eqb q.first.limits.max_latency_increase_plus1 0)
    (never-tells (stream us).first_set q.rest (q.first ∷ q.before)) (prior-tells (earliest q.later))
    (pairs-tell other_counts (λ a b. a.order_count ≢ b.order_count) counts-tell (pictures_of q))
    (few-tells q.first.limits.max_num_reorder_pics (pictures_for_output q)))
