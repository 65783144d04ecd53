-- No rule sees that latency counts stop.
use Rattle.std.proofs.Common.{◌≡◌, ℕ, ◌+◌, ◌-◌, ◌^◌, ◌<◌, min, Bool, true, false, not, cond, ◌&&◌}
use Rattle.std.proofs.Common.{◌||◌, eqb, [], ◌∷◌, ◌++◌, length, map, refl, sym, ◌∙◌, ap, arith}
use Rattle.std.specs.Prelude.{int_lt, nat_le, nat_lt, count_by}
use Rattle.std.specs.List.{list_any, fold}
use Rattle.std.proofs.lemmas.List.{length-map}
use Rattle.std.proofs.lemmas.Bool.Decides.{nat_tests}
use Rattle.hevc_walk.specs.Meanings.{Limits}
use Rattle.hevc_walk.specs.Pictures.{Head}
use Rattle.hevc_walk.specs.Buffer.{Entry, Buffer, is_reference, placed, in_output_order, has_number}
use Rattle.hevc_walk.specs.Buffer.{left_of, after_output, shortest_front, due_outputs, bumping}
use Rattle.hevc_walk.specs.Buffer.{is_late, needs_additional_bumping, needs_bumping, entry_of}
use Rattle.hevc_walk.specs.Buffer.{with_latency, with_stored}
use Rattle.hevc_walk.specs.Premises.{IsLimits}
use Rattle.hevc_walk_bound.specs.Capped.{capped, capped_bumped, with_uncapped_latency, with_stored_uncapped}

raised : (n : ℕ) → min (min n (2 ^ 31 - 1) + 1) (2 ^ 31 - 1) ≡ min (n + 1) (2 ^ 31 - 1)
raised n = omega arith

stored_entries : (p : Head) (es : Buffer)
    → map with_latency (map capped es) ++ entry_of p ∷ [] ≡ map capped (map with_uncapped_latency es ++ entry_of p ∷ [])
stored_entries p [] = refl
stored_entries p (e ∷ es) =
    ap (λ n. record e { latency_count = n } ∷ (map with_latency (map capped es) ++ entry_of p ∷ []))
    (raised e.latency_count)
    ∙ ap (λ (l : Buffer). record e { latency_count = min (e.latency_count + 1) (2 ^ 31 - 1) } ∷ l) (stored_entries p es)

pub stored_capped : (p : Head) (es : Buffer) → with_stored p (map capped es) ≡ map capped (with_stored_uncapped p es)
unfolding with_stored
stored_capped p es = stored_entries p es

-- ---- the rules

late_at : (t n : ℕ) → t < 2 ^ 9 → nat_le t (min n (2 ^ 31 - 1)) ≡ nat_le t n
late_at t n h = grind (arith, nat_tests)

some_late : (limits : Limits) (es : Buffer)
    → limits.max_num_reorder_pics + limits.max_latency_increase_plus1 - 1 < 2 ^ 9
    → list_any (is_late limits) (map capped es) ≡ list_any (is_late limits) es
some_late limits [] h = refl
some_late limits (e ∷ es) h =
    ap (λ b. (e.needed_for_output && b) || list_any (is_late limits) (map capped es)) (late_at _ e.latency_count h)
    ∙ ap (λ b. is_late limits e || b) (some_late limits es h)

num_from : (n : ℕ) (es : Buffer) → fold (λ a x. a + cond x.needed_for_output 1 0) n (map capped es) ≡ fold
    (λ a x. a + cond x.needed_for_output 1 0) n es
num_from n [] = refl
num_from n (e ∷ es) = num_from (n + cond e.needed_for_output 1 0) es

pub additional_capped : (limits : Limits) (es : Buffer) → IsLimits limits
    → needs_additional_bumping limits (map capped es) ≡ needs_additional_bumping limits es
unfolding needs_additional_bumping
additional_capped limits es h =
    ap (λ n. nat_lt limits.max_num_reorder_pics n ||
    (nat_lt 0 limits.max_latency_increase_plus1 && list_any (is_late limits) (map capped es))) (num_from 0 es)
    ∙ ap (λ b. nat_lt limits.max_num_reorder_pics (count_by (λ e. e.needed_for_output) es) ||
    (nat_lt 0 limits.max_latency_increase_plus1 && b))
    (some_late limits es (omega (arith, h.max_num_reorder_pics, h.max_latency_increase_plus1)))

pub bumping_capped : (limits : Limits) (es : Buffer) → IsLimits limits
    → needs_bumping limits (map capped es) ≡ needs_bumping limits es
unfolding needs_bumping
bumping_capped limits es h =
    ap (λ b. b || nat_le (limits.max_dec_pic_buffering_minus1 + 1) (length (map capped es)))
    (additional_capped limits es h)
    ∙ ap (λ n. needs_additional_bumping limits es || nat_le (limits.max_dec_pic_buffering_minus1 + 1) n)
    (length-map es capped)

-- ---- what is output and what is left

by_placed : (b : Bool) (e f : Entry) (fs gs : Buffer) (hs : Buffer) → map capped gs ≡ hs
    → map capped (cond b (f ∷ gs) (e ∷ f ∷ fs)) ≡ cond b (capped f ∷ hs) (capped e ∷ capped f ∷ map capped fs)
by_placed true e f fs gs hs same = ap (λ (l : Buffer). capped f ∷ l) same
by_placed false e f fs gs hs same = refl

placed_capped : (e : Entry) (fs : Buffer) → map capped (placed e fs) ≡ placed (capped e) (map capped fs)
placed_capped e [] = refl
placed_capped e (f ∷ fs) =
    by_placed (int_lt f.order_count e.order_count) e f fs (placed e fs) (placed (capped e) (map capped fs))
    (placed_capped e fs)

by_wait : (b : Bool) (e : Entry) (fs gs : Buffer) → map capped fs ≡ gs
    → map capped (cond b (placed e fs) fs) ≡ cond b (placed (capped e) gs) gs
by_wait true e fs gs same = placed_capped e fs ∙ ap (placed (capped e)) same
by_wait false e fs gs same = same

order_capped : (es : Buffer) → map capped (in_output_order es) ≡ in_output_order (map capped es)
order_capped [] = refl
order_capped (e ∷ es) = by_wait e.needed_for_output e (in_output_order es) (in_output_order (map capped es))
    (order_capped es)

has_capped : (n : ℕ) (es : Buffer) → has_number n (map capped es) ≡ has_number n es
has_capped n [] = refl
has_capped n (e ∷ es) = ap (λ b. eqb e.number n || b) (has_capped n es)

by_left : (b r : Bool) (e : Entry) (fs gs : Buffer) → map capped fs ≡ gs
    → map capped (cond b (cond r (record e { needed_for_output = false } ∷ []) []) (e ∷ []) ++ fs) ≡ cond b
    (cond r (record (capped e) { needed_for_output = false } ∷ []) []) (capped e ∷ []) ++ gs
by_left true true e fs gs same = ap (λ (l : Buffer). capped (record e { needed_for_output = false }) ∷ l) same
by_left true false e fs gs same = same
by_left false r e fs gs same = ap (λ (l : Buffer). capped e ∷ l) same

left_capped : (outputs es : Buffer)
    → map capped (after_output outputs es) ≡ after_output (map capped outputs) (map capped es)
left_capped outputs [] = refl
left_capped outputs (e ∷ es) =
    by_left (has_number e.number outputs) (is_reference e.mark) e (after_output outputs es)
    (after_output (map capped outputs) (map capped es)) (left_capped outputs es)
    ∙ ap (λ b. left_of b (capped e) ++ after_output (map capped outputs) (map capped es))
    (sym (has_capped e.number outputs))

front_capped : (passes behind : Buffer → Bool) (xs : Buffer)
    → ((ys : Buffer) → passes (map capped ys) ≡ behind ys)
    → shortest_front passes (map capped xs) ≡ map capped (shortest_front behind xs)
front_capped passes behind [] same = refl
front_capped passes behind (x ∷ xs) same =
    ap (λ b. cond b [] (capped x ∷ shortest_front (λ front. passes (capped x ∷ front)) (map capped xs))) (same [])
    ∙ by_test (behind []) _ _ (front_capped (λ front. passes (capped x ∷ front))
    (λ front. behind (x ∷ front)) xs (λ ys. same (x ∷ ys)))
  where
    by_test : (b : Bool) (ys zs : Buffer) → ys ≡ map capped zs
        → cond b [] (capped x ∷ ys) ≡ map capped (cond b [] (x ∷ zs))
    by_test true ys zs e = refl
    by_test false ys zs e = ap (λ (l : Buffer). capped x ∷ l) e

due_capped : (rule : Buffer → Bool) (es : Buffer) → ((fs : Buffer) → rule (map capped fs) ≡ rule fs)
    → due_outputs rule (map capped es) ≡ map capped (due_outputs rule es)
unfolding due_outputs
due_capped rule es blind =
    ap (λ (l : Buffer). shortest_front (λ outputs. not (rule (after_output outputs (map capped es)))) l)
    (sym (order_capped es))
    ∙ front_capped _ _ (in_output_order es)
    (λ outputs. ap not (ap rule (sym (left_capped outputs es)) ∙ blind (after_output outputs es)))

pub bumped_capped : (rule : Buffer → Bool) (es : Buffer) → ((fs : Buffer) → rule (map capped fs) ≡ rule fs)
    → bumping rule (map capped es) ≡ capped_bumped (bumping rule es)
bumped_capped rule es blind =
    ap (λ (l : Buffer). record { outputs = l; left = after_output l (map capped es) }) (due_capped rule es blind)
    ∙ ap (λ (l : Buffer). record { outputs = map capped (due_outputs rule es); left = l })
    (sym (left_capped (due_outputs rule es) es))
