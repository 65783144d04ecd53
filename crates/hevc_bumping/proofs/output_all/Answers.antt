use Rattle.hevc_bumping.proofs.Steps.{drained}
use Rattle.hevc_bumping.proofs.output_all.Goals as goal

pub returns : goal.returns
returns g c = drained c.args.dpb.now c.bump_while.new.dpb c.clear.new.self c.args.queue.now c.bump_while.new.queue c.bump_while.ensures c.clear.ensures.entries c.clear.ensures.size c.clear.ensures.room
