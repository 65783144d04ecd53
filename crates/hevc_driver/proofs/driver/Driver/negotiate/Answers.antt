use Rattle.std.proofs.Common.{ap, ◌∙◌, arith}
use Rattle.hevc_sequence_set.specs.Sps.{plain_sps}
use Rattle.hevc_walk_inputs.specs.Sequences.{format_of_set}
use Rattle.hevc_walk.specs.Buffer.{draining}
use Rattle.hevc_walk.specs.Walk.{output_by, open_sequence}
use Rattle.hevc_walk_units.specs.Units.{on_store}
use Rattle.hevc_driver.specs.Standings.{standing}
use Rattle.hevc_driver.specs.declared.head.Context.{Context}
use Rattle.hevc_driver.proofs.Doing.{runs_behind}
use Rattle.hevc_driver.proofs.Soundness.{left_sound}
use Rattle.hevc_driver.proofs.driver.Driver.negotiate.Goals as goal

pub returns-clause-part : goal.returns-clause-part
returns-clause-part g c t is =
    let drains = c.output_all.ensures.part (g.B.StatelessH265DecoderBackend.log c.args.self.now.backend)
    (g.B.StatelessH265DecoderBackend.handed c.args.self.now.backend)
    (g.B.StatelessH265DecoderBackend.frames c.args.self.now.backend).asked t in
    runs_behind _ t _ _ _ (on_store (output_by draining) (standing c.args.self.now.standing))
    (on_store (open_sequence (format_of_set (plain_sps c.args.sps.now)))) _ _ _ _ drains
    (λ call h. (h.0, h.1 ∙ drains.next)) (c.open_sequence.ensures.part t is)

pub open_sequence-requires-clause-sound : goal.open_sequence-requires-clause-sound
open_sequence-requires-clause-sound g c =
    let number = ap (λ (n : Context). n.number) c.output_all.ensures.next in
    left_sound _ _ _ _ c.requires.sound c.requires.none c.output_all.ensures.leaves (omega (arith, number))
