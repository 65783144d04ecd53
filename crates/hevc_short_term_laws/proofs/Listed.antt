-- Members that are written out, one after the other.
use Rattle.std.proofs.Common.{◌≡◌, ℕ, zero, suc, ◌+◌, ◌*◌, ◌<◌, length, get_or, ℤ, pos, negsuc}
use Rattle.std.proofs.Common.{neg_ℤ, ◌+ℤ◌, ◌-ℤ◌, ◌<ℤ◌, ◌≤ℤ◌, Bool, List, [], ◌∷◌, ◌++◌, refl, arith}
use Rattle.std.proofs.Common.{rules, IsTrue}
use Rattle.std.specs.List.{list_all}
use Rattle.std.proofs.lemmas.List.{map-append, length-append}
use Rattle.std.proofs.lemmas.Int.{ints}
use Rattle.std.proofs.lemmas.Grind.{common_steps}
use Rattle.hevc_tables.specs.declared.short_term_member.ShortTermMember.{ShortTermMember}
use Rattle.hevc_tables.specs.ShortTermTable.{deltas, last_delta, is_i32}
use Rattle.hevc_short_term_laws.specs.Orders.{AllAbove, AllBelow}
use Rattle.hevc_short_term_laws.specs.Sides.{LieBefore, LieAfter}
use Rattle.hevc_short_term_laws.proofs.OrderLaws.{AllAbove-weaken, AllBelow-weaken, AllAbove-append}
use Rattle.hevc_short_term_laws.proofs.OrderLaws.{AllBelow-append, Rises-append, Falls-append}

pub last_of_push : (ms : List ShortTermMember) (m : ShortTermMember) → last_delta (ms ++ m ∷ []) ≡ m.delta_poc
last_of_push [] m = refl
last_of_push (x ∷ []) m = refl
last_of_push (x ∷ y ∷ ms) m = last_of_push (y ∷ ms) m

pub list_all-append : {X : Type 0} (p : X → Bool) (xs ys : List X) → IsTrue (list_all p xs)
    → IsTrue (list_all p ys) → IsTrue (list_all p (xs ++ ys))
list_all-append p [] ys h k = k
list_all-append p (x ∷ xs) ys h k = grind (arith, common_steps, h, list_all-append p xs ys)

pub last_is : (ms : List ShortTermMember) (i : ℕ) (d : ShortTermMember) → i + 1 ≡ length ms
    → (get_or ms i d).delta_poc ≡ last_delta ms
last_is [] i d e = absurd (omega arith)
last_is (m ∷ []) zero d e = refl
last_is (m ∷ []) (suc i) d e = absurd (omega arith)
last_is (m ∷ n ∷ ms) zero d e = absurd (omega arith)
last_is (m ∷ n ∷ ms) (suc i) d e = last_is (n ∷ ms) i d (omega arith)

-- members before the current picture, each at most 32768 after the one before
pub record DownTo (ms : List ShortTermMember) : Type 0 where
  pub before : LieBefore ms
  pub above : AllAbove (last_delta ms -ℤ pos 1) (deltas ms)
  pub low : neg_ℤ (pos (32768 * length ms)) ≤ℤ last_delta ms
  pub most : last_delta ms ≤ℤ pos 0

-- members after the current picture, each at most 32768 after the one before
pub record UpTo (ms : List ShortTermMember) : Type 0 where
  pub after : LieAfter ms
  pub below : AllBelow (last_delta ms +ℤ pos 1) (deltas ms)
  pub least : pos 0 ≤ℤ last_delta ms
  pub high : last_delta ms ≤ℤ pos (32768 * length ms)

pub down_none : DownTo []
down_none = record {
  before = record { negative = tt; falling = tt; fit = search rules };
  above = tt;
  low = grind arith;
  most = grind arith;
}

pub up_none : UpTo []
up_none = record {
  after = record { positive = tt; rising = tt; fit = search rules };
  below = tt;
  least = grind arith;
  high = grind arith;
}

fits : (d : ℤ) → negsuc 2147483647 ≤ℤ d → d ≤ℤ pos 2147483647 → IsTrue (list_all is_i32 (d ∷ []))
fits d least most = grind (arith, least, most)

pub down_more : (ms : List ShortTermMember) (m : ShortTermMember) → length ms < 16
    → m.delta_poc <ℤ last_delta ms → (last_delta ms -ℤ pos 32768) ≤ℤ m.delta_poc → DownTo ms → DownTo (ms ++ m ∷ [])
down_more ms m room next near h =
    let of_push = map-append (λ (n : ShortTermMember). n.delta_poc) ms (m ∷ []) in
    let last = last_delta ms in
    let low = h.low in
    let most = h.most in
    record {
      before = record {
        negative = rw of_push
            (AllBelow-append (pos 0) (deltas ms) (m.delta_poc ∷ []) h.before.negative (grind arith, tt));
        falling = rw of_push
            (Falls-append (last -ℤ pos 1) (deltas ms) (m.delta_poc ∷ []) h.before.falling h.above (tt, tt)
            (grind arith, tt));
        fit = rw of_push
            (list_all-append is_i32 (deltas ms) (m.delta_poc ∷ []) h.before.fit
            (fits m.delta_poc (grind (arith, ints)) (grind arith)));
      };
      above = rw (of_push, last_of_push ms m)
          (AllAbove-append (m.delta_poc -ℤ pos 1) (deltas ms) (m.delta_poc ∷ [])
          (AllAbove-weaken (last -ℤ pos 1) (m.delta_poc -ℤ pos 1) (deltas ms) (grind arith) h.above) (grind arith, tt));
      low = rw (last_of_push ms m, length-append ms (m ∷ [])) (grind (arith, ints));
      most = rw (last_of_push ms m) (grind arith);
    }

pub up_more : (ms : List ShortTermMember) (m : ShortTermMember) → length ms < 16
    → last_delta ms <ℤ m.delta_poc → m.delta_poc ≤ℤ (last_delta ms +ℤ pos 32768) → UpTo ms → UpTo (ms ++ m ∷ [])
up_more ms m room next near h =
    let of_push = map-append (λ (n : ShortTermMember). n.delta_poc) ms (m ∷ []) in
    let last = last_delta ms in
    let least = h.least in
    let high = h.high in
    record {
      after = record {
        positive = rw of_push
            (AllAbove-append (pos 0) (deltas ms) (m.delta_poc ∷ []) h.after.positive (grind arith, tt));
        rising = rw of_push
            (Rises-append (last +ℤ pos 1) (deltas ms) (m.delta_poc ∷ []) h.after.rising h.below (tt, tt)
            (grind arith, tt));
        fit = rw of_push
            (list_all-append is_i32 (deltas ms) (m.delta_poc ∷ []) h.after.fit
            (fits m.delta_poc (grind arith) (grind (arith, ints))));
      };
      below = rw (of_push, last_of_push ms m)
          (AllBelow-append (m.delta_poc +ℤ pos 1) (deltas ms) (m.delta_poc ∷ [])
          (AllBelow-weaken (last +ℤ pos 1) (m.delta_poc +ℤ pos 1) (deltas ms) (grind arith) h.below) (grind arith, tt));
      least = rw (last_of_push ms m) (grind arith);
      high = rw (last_of_push ms m, length-append ms (m ∷ [])) (grind (arith, ints));
    }

pub ruleset listed = (down_none, up_none, down_more, up_more)
