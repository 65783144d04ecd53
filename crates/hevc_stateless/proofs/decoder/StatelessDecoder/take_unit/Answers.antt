use Rattle.std.proofs.Common.{◌∙◌, ap, arith}
use Rattle.std.proofs.lemmas.Bool.Decides.{nat_tests}
use Rattle.hevc_bits.specs.FoundUnit.{bytes_of}
use Rattle.hevc_spec.specs.UnitHeader.{UnitHeader}
use Rattle.hevc_stream.specs.Options.{Options}
use Rattle.hevc_kept_sets.specs.Kept.{kept_of, options_in}
use Rattle.hevc_stateless.proofs.Coding.{unwanted_step}
use Rattle.hevc_stateless.proofs.decoder.StatelessDecoder.take_unit.Goals as goal

pub returns-then-not-wants-clause-step : goal.returns-then-not-wants-clause-step
returns-then-not-wants-clause-step g c =
    unwanted_step (options_in c.args.self.now.kept) (kept_of c.args.self.now.kept)
    (bytes_of c.args.nalu.now) c.args.nalu.now.header c.requires.parsed tt _
    (g.B.StatelessH265DecoderBackend.log c.args.self.now.session.backend)
    (g.B.StatelessH265DecoderBackend.handed c.args.self.now.session.backend)
    (g.B.StatelessH265DecoderBackend.frames c.args.self.now.session.backend).asked c.args.self.now.session
    (grind (arith, c.wants.ensures, c.options.ensures, c.header-header.ensures.value, c.if-not-wants.true))

pub returns-in-VpsNut-clause-step : goal.returns-in-VpsNut-clause-step
returns-in-VpsNut-clause-step g c = c.take_video_set.ensures.step _

pub returns-in-SpsNut-clause-step : goal.returns-in-SpsNut-clause-step
returns-in-SpsNut-clause-step g c = c.take_sequence_set.ensures.step _

pub returns-in-PpsNut-clause-step : goal.returns-in-PpsNut-clause-step
returns-in-PpsNut-clause-step g c = c.take_picture_set.ensures.step _
