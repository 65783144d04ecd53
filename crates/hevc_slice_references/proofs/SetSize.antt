-- How many bits a short-term set takes.
use Rattle.std.proofs.Common.{◌≡◌, ℕ, zero, suc, true, false, ◌+◌, ◌-◌, ◌*◌, ◌≤◌, ◌<◌, ◌^◌, Bool}
use Rattle.std.proofs.Common.{List, [], ◌∷◌, length, map, slice_index_or, ℤ, arith}
use Rattle.std.specs.Prelude.{◌==◌, not}
use Rattle.hevc_records.proofs.BoundLemmas.{AtMost-at}
use Rattle.hevc_records.specs.ShortTermRefPicSet.{PlainShortTermRefPicSet, default_short_term_ref_pic_set}
use Rattle.hevc_spec.specs.Rows.{row}
use Rattle.hevc_spec.specs.Table.{gives, read}
use Rattle.hevc_tables.specs.declared.short_term_member.ShortTermMember.{ShortTermMember}
use Rattle.hevc_tables.specs.ShortTermTable.{has_room, reference_index, last_delta, prediction}
use Rattle.hevc_tables.specs.ShortTermTable.{member_flags, next_member_flags, all_member_flags}
use Rattle.hevc_tables.specs.ShortTermTable.{fitting_set, predicted_set, member_before}
use Rattle.hevc_tables.specs.ShortTermTable.{next_member_before, listed_before, member_after}
use Rattle.hevc_tables.specs.ShortTermTable.{next_member_after, listed_after, listed_set}
use Rattle.hevc_tables.specs.ShortTermTable.{short_term_ref_pic_set}
use Rattle.hevc_set_parts.specs.declared.short_term_ref_pic_set.ShortTermRefPicSet.{ShortTermRefPicSet}
use Rattle.hevc_set_parts.specs.ShortTermRefPicSet.{plain_short_term_ref_pic_set}
use Rattle.hevc_slice_references.proofs.Sizes.{Takes, Any, takes_done, takes_part, takes_any}
use Rattle.hevc_slice_references.proofs.Sizes.{takes_when, takes_either, takes_repeat, takes_flag}
use Rattle.hevc_slice_references.proofs.Sizes.{takes_ue, takes_check}

pub ruleset bounds = (AtMost-at)

-- each set has at most 16 members
abbrev pub HaveFew : List PlainShortTermRefPicSet → Type 0
HaveFew sets = (i : ℕ) → (slice_index_or sets i default_short_term_ref_pic_set).num_delta_pocs ≤ 16

pub have_few : (sets : List ShortTermRefPicSet) → HaveFew (map plain_short_term_ref_pic_set sets)
have_few [] i = grind arith
have_few (x ∷ sets) zero = grind (arith, x.at_most_16, x.sum)
have_few (x ∷ sets) (suc i) = have_few sets i

-- rows 2 to 4
prediction_takes : (count idx : ℕ) (set : PlainShortTermRefPicSet) → Takes 127 Any (prediction count idx set)
unfolding prediction
prediction_takes count idx set =
    takes_part 63 64 (takes_when (idx == count) 0 tt (takes_any 63 (grind arith) (takes_ue (row 7 2) 0 (idx - 1))))
    (λ a p. takes_part 1 63 (takes_flag (row 7 3))
    (λ b q. takes_part 63 0 (takes_ue (row 7 4) 0 32767)
    (λ c r. takes_done tt)))

-- row 5 of one member
member_takes : Takes 2 Any member_flags
unfolding member_flags
member_takes = takes_part 1 1 (takes_flag (row 7 5))
    (λ a p. takes_part 1 0 (takes_when (not a) true tt (takes_flag (row 7 5))) (λ b q. takes_done tt))

-- row 5
members_take : (count : ℕ) → Takes ((count + 1) * 2) Any (all_member_flags count)
unfolding all_member_flags next_member_flags
members_take count = takes_repeat 2 (λ i s p. takes_part 2 0 member_takes (λ f q. takes_done tt)) 0 (count + 1) [] tt

fitting_takes : (members : List ShortTermMember) (set : PlainShortTermRefPicSet) → Takes 0 Any (fitting_set members set)
unfolding fitting_set
fitting_takes members set = takes_part 0 0 (takes_check (row 7 6) (has_room members)) (λ a p. takes_done tt)

-- rows 2 to 6
predicted_takes : (sets : List PlainShortTermRefPicSet) (count idx : ℕ) (set : PlainShortTermRefPicSet)
    → HaveFew sets → Takes 161 Any (predicted_set sets count idx set)
unfolding predicted_set
predicted_takes sets count idx set few =
    takes_part 127 34 (prediction_takes count idx set)
    (λ s p. takes_part 34 0
    (takes_any 34 (grind (arith, few (reference_index idx s)))
    (members_take (slice_index_or sets (reference_index idx s) default_short_term_ref_pic_set).num_delta_pocs))
    (λ flags q. fitting_takes _ s))

-- rows 9 and 10 of one member
before_takes : (last : ℤ) → Takes 64 Any (member_before last)
unfolding member_before
before_takes last = takes_part 63 1 (takes_ue (row 7 9) 0 32767)
    (λ a p. takes_part 1 0 (takes_flag (row 7 10)) (λ b q. takes_done tt))

listed_before_takes : (count : ℕ) → Takes (count * 64) Any (listed_before count)
unfolding listed_before next_member_before
listed_before_takes count =
    takes_repeat 64 (λ i s p. takes_part 64 0 (before_takes (last_delta s)) (λ m q. takes_done tt)) 0 count [] tt

-- rows 11 and 12 of one member
after_takes : (last : ℤ) → Takes 64 Any (member_after last)
unfolding member_after
after_takes last = takes_part 63 1 (takes_ue (row 7 11) 0 32767)
    (λ a p. takes_part 1 0 (takes_flag (row 7 12)) (λ b q. takes_done tt))

listed_after_takes : (count : ℕ) → Takes (count * 64) Any (listed_after count)
unfolding listed_after next_member_after
listed_after_takes count =
    takes_repeat 64 (λ i s p. takes_part 64 0 (after_takes (last_delta s)) (λ m q. takes_done tt)) 0 count [] tt

-- rows 7 to 12
listed_takes : (buffering : ℕ) (set : PlainShortTermRefPicSet) → buffering ≤ 16
    → Takes 2174 Any (listed_set buffering set)
unfolding listed_set
listed_takes buffering set le =
    takes_part 63 2111 (takes_ue (row 7 7) 0 buffering)
    (λ n p. takes_part 63 2048 (takes_ue (row 7 8) 0 (buffering - n))
    (λ m q. takes_part 1024 1024 (takes_any 1024 (grind (arith, p, le)) (listed_before_takes n))
    (λ before r. takes_part 1024 0 (takes_any 1024 (grind (arith, q, le)) (listed_after_takes m))
    (λ after s. takes_done tt))))

-- table 7
pub set_takes : (sets : List PlainShortTermRefPicSet) (count buffering idx : ℕ) → HaveFew sets
    → buffering ≤ 16 → Takes 2175 Any (short_term_ref_pic_set sets count buffering idx)
unfolding short_term_ref_pic_set
set_takes sets count buffering idx few le =
    takes_part 1 2174 (takes_when (not (idx == 0)) false tt (takes_flag (row 7 1)))
    (λ a p. takes_either a (takes_any 2174 (grind arith) (predicted_takes sets count idx _ few))
    (listed_takes buffering _ le))

pub set_size : (sets : List ShortTermRefPicSet) (count buffering idx : ℕ) (set : PlainShortTermRefPicSet)
    (bits rest : List Bool) → buffering ≤ 16
    → read (short_term_ref_pic_set (map plain_short_term_ref_pic_set sets) count buffering idx) bits
    ≡ gives set rest → length bits < 2 ^ 32 + length rest
set_size sets count buffering idx set bits rest le e =
    let one = (set_takes (map plain_short_term_ref_pic_set sets) count buffering idx
    (have_few sets) le).taken bits set rest e in
    grind (arith, one.0)
