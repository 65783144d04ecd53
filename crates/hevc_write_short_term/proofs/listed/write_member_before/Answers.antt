use Rattle.std.proofs.Common.{◌<◌, ◌^◌, refl, sym, arith}
use Rattle.std.proofs.lemmas.Int.{ints}
use Rattle.std.proofs.lemmas.Bool.Decides.{nat_tests}
use Rattle.hevc_tables.specs.ShortTermTable.{member_before}
use Rattle.hevc_write_elements.proofs.Steps.{by, done_filled, flag_then, ue_then}
use Rattle.hevc_write_short_term.proofs.listed.write_member_before.Goals as goal

pub returns : goal.returns
unfolding member_before
returns c = record {
  written = λ w.
      ue_then _ refl _ _ c.in_ok-ue.ensures (λ v1 within b1 ue_row.
      flag_then _ refl c.in_ok-flag.ensures (λ v2 b2 used_by_curr_pic_row.
      done_filled (λ e at.
      let small : v1 < 2 ^ 32 = grind (arith, nat_tests, within) in
      let delta = by e (λ r. r.delta_poc) in
      used_by_curr_pic_row (by e (λ r. r.used_by_curr_pic))
      (ue_row (sym (c.gap_minus1.ensures v1 small (omega (arith, ints, delta)))) at))));
}
