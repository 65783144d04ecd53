use Rattle.std.proofs.Common.{ap, arith, rules}
use Rattle.hevc_walk_units.specs.Units.{Standing}
use Rattle.hevc_driver.specs.declared.head.Context.{Context}
use Rattle.hevc_driver.proofs.Doing.{no_given}
use Rattle.hevc_driver.proofs.Closing.{close_refused, close_done}
use Rattle.hevc_driver.proofs.Soundness.{left_sound}
use Rattle.hevc_driver.proofs.driver.Driver.close.Goals as goal

pub returns-in_err-finish-clause-part : goal.returns-in_err-finish-clause-part
returns-in_err-finish-clause-part g c t =
    close_refused _ _ t _ _ _ _ c.from_residual.ensures.1 (c.in_err-finish.ensures.part t)

pub returns-clause-part : goal.returns-clause-part
returns-clause-part g c t = close_done t _ _ _ _ _ _ (c.in_ok-finish.ensures.part t) (c.output_all.ensures.part _ _ _ t)

pub returns-clause-stays : goal.returns-clause-stays
returns-clause-stays g c =
    let number = ap (λ (n : Context). n.number) c.output_all.ensures.next in
    record {
      sound = left_sound _ _ _ _ c.in_ok-finish.ensures.stays.sound
          (ap (λ (s : Standing). s.current) (c.in_ok-finish.ensures.part no_given).1.next)
          c.output_all.ensures.leaves (omega (arith, number));
      grows = search rules;
      kept = search rules;
    }
