-- Short-term reference picture sets that are read (7.3.7, 7.4.8).
use Rattle.std.proofs.Common.{◌≡◌, ℕ, zero, suc, ◌+◌, ◌-◌, ◌≤◌, ◌<◌, ℤ, pos, ◌+ℤ◌, ◌-ℤ◌, ◌≤ℤ◌, ◌<ℤ◌}
use Rattle.std.proofs.Common.{false, List, [], ◌∷◌, ◌++◌, length, refl, arith}
use Rattle.std.specs.Prelude.{All, slice_index_or, ◌==◌, not}
use Rattle.std.proofs.lemmas.List.{length-append, length-map}
use Rattle.std.proofs.lemmas.Int.{ints}
use Rattle.hevc_spec.specs.Rows.{row, flag_row, when}
use Rattle.hevc_records.specs.ShortTermRefPicSet.{PlainShortTermRefPicSet, default_short_term_ref_pic_set, Fall, Rise}
use Rattle.hevc_tables.specs.declared.member_flags.MemberFlags.{MemberFlags}
use Rattle.hevc_tables.specs.declared.short_term_member.ShortTermMember.{ShortTermMember}
use Rattle.hevc_tables.specs.ShortTermTable.{last_delta, with_members, predicted_members}
use Rattle.hevc_tables.specs.ShortTermTable.{members_before, members_after, has_room, prediction}
use Rattle.hevc_tables.specs.ShortTermTable.{reference_index, shift_of, member_flags}
use Rattle.hevc_tables.specs.ShortTermTable.{next_member_flags, all_member_flags, fitting_set}
use Rattle.hevc_tables.specs.ShortTermTable.{predicted_set, member_before, next_member_before}
use Rattle.hevc_tables.specs.ShortTermTable.{member_after, next_member_after, listed_before}
use Rattle.hevc_tables.specs.ShortTermTable.{listed_after, listed_set, short_term_ref_pic_set}
use Rattle.hevc_short_term_laws.specs.Sides.{LieBefore, LieAfter}
use Rattle.hevc_short_term_laws.proofs.Listed.{DownTo, UpTo, down_none, up_none, down_more, up_more}
use Rattle.hevc_short_term_laws.proofs.FilledArrays.{before_falls, after_rises}
use Rattle.hevc_short_term_laws.proofs.LinedUp.{predicted_rises}
use Rattle.hevc_short_term_laws.proofs.Parts.{lie_before, lie_after, sides_fit, room_few, room_fit}
use Rattle.hevc_stream_laws.proofs.Gives.{Gives, any, of_done, of_part, of_ue, of_check, of_either, of_repeat}

-- differences in order, at most 16, and their number
pub record IsSet (s : PlainShortTermRefPicSet) : Type 0 where
  pub falls : Fall s.num_negative_pics s.delta_poc_s0
  pub rises : Rise s.num_positive_pics s.delta_poc_s1
  pub in_before : s.num_negative_pics ≤ length s.delta_poc_s0
  pub in_after : s.num_positive_pics ≤ length s.delta_poc_s1
  pub few : s.num_negative_pics + s.num_positive_pics ≤ 16
  pub total : s.num_delta_pocs ≡ s.num_negative_pics + s.num_positive_pics

pub default_is_set : IsSet default_short_term_ref_pic_set
default_is_set = record {
  falls = record { below_zero = λ k h. absurd (omega arith); falling = λ k h. absurd (omega arith) };
  rises = record { above_zero = λ k h. absurd (omega arith); rising = λ k h. absurd (omega arith) };
  in_before = omega arith;
  in_after = omega arith;
  few = omega arith;
  total = refl;
}

members_are_set : (set : PlainShortTermRefPicSet) (before after : List ShortTermMember) → LieBefore before
    → LieAfter after → length before + length after ≤ 16 → IsSet (with_members set before after)
unfolding with_members
members_are_set set before after b a few = record {
  falls = before_falls before (length before) refl b;
  rises = after_rises after (length after) refl a;
  in_before = simp (length-append, length-map) (omega arith);
  in_after = simp (length-append, length-map) (omega arith);
  few = few;
  total = refl;
}

-- ---- predicted sets

flags_give : (n : ℕ) → Gives (all_member_flags n) (λ flags. length flags ≡ n + 1)
unfolding all_member_flags next_member_flags
flags_give n =
    of_repeat (λ k (flags : List MemberFlags). length flags ≡ k) next_member_flags (n + 1) [] refl
    (λ k flags below is. of_part _ (λ (fs : List MemberFlags). length fs ≡ k + 1) (any member_flags)
    (λ f _. of_done (λ (fs : List MemberFlags). length fs ≡ k + 1) (flags ++ f ∷ [])
    (simp length-append (omega arith))))

fitting_gives : (other set : PlainShortTermRefPicSet) (shift : ℤ) (flags : List MemberFlags) → IsSet other
    → length flags ≡ other.num_delta_pocs + 1
    → Gives (fitting_set (predicted_members other shift flags) set) IsSet
unfolding fitting_set
fitting_gives other set shift flags is long =
    let ms = predicted_members other shift flags in
    of_part _ IsSet (of_check (row 7 6) (has_room ms)) (λ v fits.
    let rises = predicted_rises other shift flags (record {
      used_by_curr_pic_flag = false;
      use_delta_flag = false;
    }) is.falls is.rises is.in_before is.in_after (omega (arith, long, is.total)) in
    of_done IsSet _
    (members_are_set set (members_before ms) (members_after ms) (lie_before ms rises (room_fit ms fits))
    (lie_after ms rises (room_fit ms fits)) (omega (arith, sides_fit ms, room_few ms fits))))

pub at_or : {X : Type 0} (P : X → Type 0) (xs : List X) (i : ℕ) (d : X) → All P xs → P d → P (slice_index_or xs i d)
at_or P [] i d h p = p
at_or P (x ∷ xs) zero d h p = h 0 x (omega arith)
at_or P (x ∷ xs) (suc i) d h p = at_or P xs i d (λ k e b. h (suc k) e (omega arith)) p

predicted_gives : (sets : List PlainShortTermRefPicSet) (count idx : ℕ) (set : PlainShortTermRefPicSet)
    → All IsSet sets → Gives (predicted_set sets count idx set) IsSet
unfolding predicted_set
predicted_gives sets count idx set are =
    of_part _ IsSet (any (prediction count idx set)) (λ set _.
    let other = slice_index_or sets (reference_index idx set) default_short_term_ref_pic_set in
    of_part _ IsSet (flags_give other.num_delta_pocs) (λ flags long.
    fitting_gives other set (shift_of set) flags
    (at_or IsSet sets (reference_index idx set) default_short_term_ref_pic_set are default_is_set) long))

-- ---- sets that are written out

record Before (k : ℕ) (ms : List ShortTermMember) : Type 0 where
  down : DownTo ms
  long : length ms ≡ k

record After (k : ℕ) (ms : List ShortTermMember) : Type 0 where
  up : UpTo ms
  long : length ms ≡ k

before_step : (k : ℕ) (ms : List ShortTermMember) → k < 16 → Before k ms
    → Gives (next_member_before k ms) (Before (k + 1))
unfolding next_member_before member_before
before_step k ms room b =
    of_part _ (Before (k + 1))
    (of_part _ (λ (m : ShortTermMember). (m.delta_poc <ℤ last_delta ms)
    × ((last_delta ms -ℤ pos 32768) ≤ℤ m.delta_poc)) (of_ue (row 7 9) 0 32767)
    (λ v near. of_part _
    (λ (m : ShortTermMember). (m.delta_poc <ℤ last_delta ms)
    × ((last_delta ms -ℤ pos 32768) ≤ℤ m.delta_poc)) (any (flag_row (row 7 10)))
    (λ used _. of_done _ _ (grind (arith, ints, near.1), grind (arith, ints, near.1)))))
    (λ m next. of_done (Before (k + 1)) (ms ++ m ∷ []) (record {
      down = down_more ms m (omega (arith, b.long)) next.0 next.1 b.down;
      long = simp length-append (omega (arith, b.long));
    }))

after_step : (k : ℕ) (ms : List ShortTermMember) → k < 16 → After k ms → Gives (next_member_after k ms) (After (k + 1))
unfolding next_member_after member_after
after_step k ms room a =
    of_part _ (After (k + 1))
    (of_part _ (λ (m : ShortTermMember). (last_delta ms <ℤ m.delta_poc)
    × (m.delta_poc ≤ℤ (last_delta ms +ℤ pos 32768))) (of_ue (row 7 11) 0 32767)
    (λ v near. of_part _
    (λ (m : ShortTermMember). (last_delta ms <ℤ m.delta_poc)
    × (m.delta_poc ≤ℤ (last_delta ms +ℤ pos 32768))) (any (flag_row (row 7 12)))
    (λ used _. of_done _ _ (grind (arith, ints, near.1), grind (arith, ints, near.1)))))
    (λ m next. of_done (After (k + 1)) (ms ++ m ∷ []) (record {
      up = up_more ms m (omega (arith, a.long)) next.0 next.1 a.up;
      long = simp length-append (omega (arith, a.long));
    }))

before_give : (n : ℕ) → n ≤ 16 → Gives (listed_before n) (Before n)
unfolding listed_before
before_give n few = of_repeat Before next_member_before n [] (record { down = down_none; long = refl })
    (λ k ms below b. before_step k ms (omega arith) b)

after_give : (n : ℕ) → n ≤ 16 → Gives (listed_after n) (After n)
unfolding listed_after
after_give n few = of_repeat After next_member_after n [] (record { up = up_none; long = refl })
    (λ k ms below a. after_step k ms (omega arith) a)

listed_gives : (buffering : ℕ) (set : PlainShortTermRefPicSet) → buffering ≤ 16 → Gives (listed_set buffering set) IsSet
unfolding listed_set
listed_gives buffering set bound =
    of_part _ IsSet (of_ue (row 7 7) 0 buffering)
    (λ n low. of_part _ IsSet (of_ue (row 7 8) 0 (buffering - n)) (λ p high.
    of_part _ IsSet (before_give n (omega (arith, low.1)))
    (λ before b. of_part _ IsSet (after_give p (omega (arith, low.1, high.1))) (λ after a.
    of_done IsSet _
    (members_are_set set before after b.down.before a.up.after (omega (arith, low.1, high.1, b.long, a.long)))))))

-- table 7
pub set_gives : (sets : List PlainShortTermRefPicSet) (count buffering idx : ℕ) → All IsSet sets
    → buffering ≤ 16 → Gives (short_term_ref_pic_set sets count buffering idx) IsSet
unfolding short_term_ref_pic_set
set_gives sets count buffering idx are bound =
    of_part _ IsSet (any (when (not (idx == 0)) false (flag_row (row 7 1)))) (λ flag _.
    of_either IsSet flag _ _ (λ _. predicted_gives sets count idx _ are) (λ _. listed_gives buffering _ bound))
