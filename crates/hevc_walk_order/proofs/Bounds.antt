-- The plainer bounds do.
use Rattle.std.proofs.Common.{◌≡◌, ◌≢◌, ℕ, ℤ, ◌+◌, ◌<◌, ◌≤◌, Bool, true, false, cond, ◌&&◌, ◌||◌}
use Rattle.std.proofs.Common.{List, [], ◌∷◌, ◌++◌, length, arith, Option}
use Rattle.std.specs.Prelude.{int_le}
use Rattle.hevc_walk.specs.Meanings.{Format, Meaning}
use Rattle.hevc_walk.specs.Pictures.{Picture}
use Rattle.hevc_walk.specs.Buffer.{Buffer, is_reference}
use Rattle.hevc_walk_order.specs.Sequences.{Sequence, pictures_of, is_for_output, pictures_for_output}
use Rattle.hevc_walk_order.specs.DisplayOrder.{entries_before, needed_behind, HasRoom, HaveRoom, KeepsOrder}
use Rattle.hevc_walk_order.specs.Bounds.{NeverFull, KeepsBounds}
use Rattle.hevc_walk_order.proofs.Each.{pairs-filter, pairs_all, all_pairs}

needed_behind-few : (c : ℤ) (es : Buffer) → length (needed_behind c es) ≤ length es
needed_behind-few c [] = omega arith
needed_behind-few c (e ∷ es) =
    by_test (is_reference e.mark || (e.needed_for_output && int_le c e.order_count)) (needed_behind-few c es)
  where
    by_test : (b : Bool) → length (needed_behind c es) ≤ length es
        → length (cond b (e ∷ needed_behind c es) (needed_behind c es)) ≤ length (e ∷ es)
    by_test true h = omega (arith, h)
    by_test false h = omega (arith, h)

has_room : (set : Option (ℕ × Format)) (c : ℤ) (ps before : List Picture) → NeverFull set ps before
    → HasRoom set c ps before
has_room set c [] before h = tt
has_room set c (p ∷ ps) before h = (
  λ e. fewer (length (needed_behind c (entries_before set p (ps ++ before))))
      (length (entries_before set p (ps ++ before)))
      (needed_behind-few c (entries_before set p (ps ++ before))) (h.0 e),
  has_room set c ps before h.1,
)
  where
    fewer : (m n : ℕ) → m ≤ n → n < p.limits.max_dec_pic_buffering_minus1 + 1
        → m < p.limits.max_dec_pic_buffering_minus1 + 1
    fewer m n h k = omega (arith, h, k)

have_room : (set : Option (ℕ × Format)) (ps before : List Picture) → NeverFull set ps before → HaveRoom set ps before
have_room set [] before h = tt
have_room set (p ∷ ps) before h = (λ e. has_room set p.order_count (p ∷ ps) before h, have_room set ps before h.1)

pub order-by_bounds : (us : List Meaning) (q : Sequence) → KeepsBounds us q → KeepsOrder us q
order-by_bounds us q h = record {
  limits = h.limits;
  format = h.format;
  latency = λ some. absurd (none q.first.limits.max_latency_increase_plus1 h.latency some);
  room = have_room _ q.rest (q.first ∷ q.before) h.room;
  next = h.next;
  distinct = pairs_all (λ a b. a.order_count ≢ b.order_count) (pictures_for_output q)
      (pairs-filter (λ a b. a.order_count ≢ b.order_count) is_for_output (pictures_of q)
      (all_pairs (λ a b. a.order_count ≢ b.order_count) (pictures_of q) h.distinct));
  few_precede = h.few_precede;
}
  where
    none : (n : ℕ) → n ≡ 0 → 0 < n → ⊥
    none n e k = omega (arith, e, k)
