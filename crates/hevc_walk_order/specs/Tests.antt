-- Whether a sequence keeps the order that it declares, computed.
use Rattle.std.specs.Prelude.{ℕ, ℤ, ◌+◌, Bool, true, not, ◌&&◌, ◌||◌, ◌==◌, nat_lt, nat_le, int_lt}
use Rattle.std.specs.Prelude.{List, [], ◌∷◌, ◌++◌, length, count_by, Option, Some, None}
use Rattle.std.specs.Ordering.{int_eq}
use Rattle.std.specs.List.{list_all}
use Rattle.hevc_walk.specs.Meanings.{Format, Limits, Meaning, same_format}
use Rattle.hevc_walk.specs.Pictures.{Picture, stream}
use Rattle.hevc_walk_order.specs.Sequences.{Sequence, earliest, pictures_of, is_for_output}
use Rattle.hevc_walk_order.specs.Sequences.{pictures_for_output}
use Rattle.hevc_walk_order.specs.DisplayOrder.{latency_pictures, decoded_between, entries_before}
use Rattle.hevc_walk_order.specs.DisplayOrder.{needed_behind}

abbrev pub same_limits : Limits → Limits → Bool
same_limits a b =
    a.max_num_reorder_pics == b.max_num_reorder_pics
    && a.max_latency_increase_plus1 == b.max_latency_increase_plus1
    && a.max_dec_pic_buffering_minus1 == b.max_dec_pic_buffering_minus1

-- a test of each element and each later one
abbrev pub pairs_pass : {X : Type 0} → (X → X → Bool) → List X → Bool
pairs_pass test [] = true
pairs_pass test (x ∷ xs) = list_all (test x) xs && pairs_pass test xs

abbrev pub other_counts : Picture → Picture → Bool
other_counts a b = not (int_eq a.order_count b.order_count)

abbrev pub few_precede : ℕ → List Picture → Bool
few_precede n [] = true
few_precede n (p ∷ before) =
    nat_le (count_by (λ b. int_lt p.order_count b.order_count) before) n && few_precede n before

abbrev pub comes_soon : Limits → List Picture → Picture → Picture → Bool
comes_soon limits all a b =
    not (int_lt a.order_count b.order_count)
    || nat_lt (decoded_between b.number a.number all) (latency_pictures limits)

abbrev pub keeps_latency : Sequence → Bool
keeps_latency q =
    not (nat_lt 0 q.first.limits.max_latency_increase_plus1)
    || pairs_pass (comes_soon q.first.limits (pictures_of q)) (pictures_for_output q)

abbrev pub has_room : Option (ℕ × Format) → ℤ → List Picture → List Picture → Bool
has_room set c [] before = true
has_room set c (p ∷ ps) before =
    (p.skipped || nat_lt (length (needed_behind c (entries_before set p (ps ++ before))))
    (p.limits.max_dec_pic_buffering_minus1 + 1))
    && has_room set c ps before

abbrev pub have_room : Option (ℕ × Format) → List Picture → List Picture → Bool
have_room set [] before = true
have_room set (p ∷ ps) before =
    (not (is_for_output p) || has_room set p.order_count (p ∷ ps) before) && have_room set ps before

abbrev pub never_full : Option (ℕ × Format) → List Picture → List Picture → Bool
never_full set [] before = true
never_full set (p ∷ ps) before =
    (p.skipped || nat_lt (length (entries_before set p (ps ++ before)))
    (p.limits.max_dec_pic_buffering_minus1 + 1))
    && never_full set ps before

-- the next sequence, if there is one, doesn't discard what is needed for output
abbrev pub keeps_prior : Option Picture → Bool
keeps_prior None = true
keeps_prior (Some p) = not p.no_output_of_prior_pics

-- one set of limits and one format
abbrev pub is_uniform : Sequence → Bool
is_uniform q =
    list_all (λ p. same_limits p.limits q.first.limits) q.rest
    && list_all (λ p. same_format p.format q.first.format) q.rest

-- the test of KeepsOrder
abbrev pub keeps_order : List Meaning → Sequence → Bool
keeps_order us q =
    is_uniform q
    && keeps_latency q
    && have_room (stream us).first_set q.rest (q.first ∷ q.before)
    && keeps_prior (earliest q.later)
    && pairs_pass other_counts (pictures_for_output q)
    && few_precede q.first.limits.max_num_reorder_pics (pictures_for_output q)

-- the test of KeepsBounds
abbrev pub keeps_bounds : List Meaning → Sequence → Bool
keeps_bounds us q =
    is_uniform q
    && q.first.limits.max_latency_increase_plus1 == 0
    && never_full (stream us).first_set q.rest (q.first ∷ q.before)
    && keeps_prior (earliest q.later)
    && pairs_pass other_counts (pictures_of q)
    && few_precede q.first.limits.max_num_reorder_pics (pictures_for_output q)
