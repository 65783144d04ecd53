use Rattle.std.proofs.Common.{refl, arith, rules}
use Rattle.hevc_driver.specs.Standings.{standing}
use Rattle.hevc_backend.proofs.HandedLaws.{stored_part}
use Rattle.hevc_driver.proofs.Soundness.{bumped_total}
use Rattle.hevc_driver.proofs.PictureBegins.{drains_first}
use Rattle.hevc_driver.proofs.standing.Standing.output_all.Goals as goal

pub returns-clause-part : goal.returns-clause-part
returns-clause-part g c log handed asked t = drains_first t _ _ (standing c.args.self.now) c.args.self.now.dpb c.output_all.new.dpb c.args.self.now.queue c.output_all.new.queue refl c.output_all.ensures refl refl refl refl refl refl refl

pub returns-clause-leaves : goal.returns-clause-leaves
returns-clause-leaves g c = record {
  handles = search rules;
  pictures = stored_part _ _ c.output_all.ensures.entries;
  size = search rules;
  latency = search rules;
  grows = record { few = (let t = bumped_total _ _ _ _ _ c.output_all.ensures in omega (arith, t)); capacity = c.output_all.ensures.capacity; stored = c.output_all.ensures.room };
  accepted = refl;
  current = refl;
  kept = refl;
}
