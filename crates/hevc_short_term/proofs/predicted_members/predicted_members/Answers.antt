use Rattle.std.proofs.Common.{◌≡◌, pos, ◌+◌, false, ◌++◌, take, drop, reverse, get_or, arith, w32, SFits, ◌∙◌, sym}
use Rattle.std.proofs.lemmas.Int.{to_z-of_z}
use Rattle.std.proofs.lemmas.List.{take_rest}
use Rattle.hevc_tables.specs.ShortTermTable.{shifted, shifted_one}
use Rattle.hevc_set_parts.specs.ShortTermRefPicSet.{plain_short_term_ref_pic_set}
use Rattle.hevc_short_term_laws.proofs.LinedUp.{predicted_is, predicted_rises}
use Rattle.hevc_short_term.proofs.predicted_members.predicted_members.Goals as goal

pub returns-clause-members : goal.returns-clause-members
returns-clause-members c =
    let shift : SFits w32 c.args.shift = c.ranges.shift in
    let s = c.args.other.now in
    let all : c.push_forwards.new.members.items
    ≡ (reverse (shifted c.args.shift (take s.num_negative_pics s.delta_poc_s0) c.args.flags.now)
    ++ shifted_one c.args.shift (pos 0)
    (get_or c.args.flags.now (s.num_negative_pics + s.num_positive_pics) (record {
      used_by_curr_pic_flag = false;
      use_delta_flag = false;
    }))) ++ shifted c.args.shift (take s.num_positive_pics s.delta_poc_s1) (drop s.num_negative_pics c.args.flags.now) =
    simp (
      to_z-of_z,
      take_rest,
      c.from-num_before.ensures,
      c.from-num_after.ensures,
      c.new-members.ensures,
      c.push_backwards.ensures.items,
      c.push_shifted.ensures.items,
    ) at c.push_forwards.ensures in
    all ∙ sym (predicted_is (plain_short_term_ref_pic_set s) c.args.shift c.args.flags.now _ s.negatives
    s.positives (omega arith) (omega arith) (omega arith))

pub returns-clause-rises : goal.returns-clause-rises
returns-clause-rises c =
    let s = c.args.other.now in
    rw (returns-clause-members c)
    (predicted_rises (plain_short_term_ref_pic_set s) c.args.shift c.args.flags.now (record {
      used_by_curr_pic_flag = false;
      use_delta_flag = false;
    }) s.negatives s.positives (omega arith) (omega arith) (omega arith))
