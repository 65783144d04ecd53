use Rattle.std.proofs.Common.{◌∷◌, [], length, ap, arith, rules}
use Rattle.std.proofs.lemmas.List.{length-append}
use Rattle.hevc_elements.proofs.Loops.{loops}
use Rattle.hevc_tables.specs.ShortTermTable.{next_member_after}
use Rattle.hevc_short_term_laws.proofs.Listed.{up_more}
use Rattle.hevc_short_term.proofs.listed_members.read_listed_after.Goals as goal

pub loop-preserved : goal.loop-preserved
unfolding next_member_after
loop-preserved c =
    record {
      same = grind (arith, loops);
      count = omega (arith, ap length c.push.ensures, length-append c.loop.members (c.in_ok-member.member ∷ []));
      order = rw c.push.ensures
          (up_more c.loop.members c.in_ok-member.member
          (omega arith) c.in_ok-member.ensures.above c.in_ok-member.ensures.near c.loop.invariant.order);
      ahead = search rules;
    }
