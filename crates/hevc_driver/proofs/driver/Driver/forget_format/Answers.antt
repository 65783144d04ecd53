use Rattle.std.proofs.Common.{refl, sym, subst, arith}
use Rattle.hevc_dpb.specs.Plain.{HaveLatency}
use Rattle.hevc_backend.proofs.ToldLaws.{told_same}
use Rattle.hevc_backend.proofs.HandedLaws.{announced_same}
use Rattle.hevc_driver.proofs.Soundness.{none_announced, same_pictures, none_newest, none_latest, below_part, part_same}
use Rattle.hevc_driver.proofs.driver.Driver.forget_format.Goals as goal

pub returns-clause-sound : goal.returns-clause-sound
returns-clause-sound g c =
    let s = c.requires.sound in
    let entries = c.set_max_num_pics.ensures.entries in
    record {
      sized = c.set_max_num_pics.ensures.size;
      latency = subst HaveLatency (sym entries) s.latency;
      below = below_part _ _ _ _ s.below (omega arith) (part_same _ _ entries);
      newest = none_newest _ _ _ c.requires.none;
      announced = record {
        stored = announced_same _ _ _ _ refl (same_pictures _ _ entries) s.announced.stored;
        current = none_announced _ _ _ c.requires.none;
      };
      told = told_same refl s.told (λ t h. record {
        handles = λ x k. h.handles x (part_same _ _ entries x k);
        sequence = tt;
        picture = none_latest _ _ _ c.requires.none;
      });
    }
