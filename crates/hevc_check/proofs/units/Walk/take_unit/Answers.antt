use Rattle.std.proofs.Common.{◌∙◌, ap, arith, rules}
use Rattle.std.proofs.lemmas.Bool.Decides.{nat_tests}
use Rattle.hevc_bits.specs.FoundUnit.{bytes_of}
use Rattle.hevc_spec.specs.UnitHeader.{UnitHeader}
use Rattle.hevc_stream.specs.Options.{Options}
use Rattle.hevc_kept_sets.specs.Kept.{options_in}
use Rattle.hevc_check.proofs.Meant.{set_taken, unwanted_taken, coded_taken}
use Rattle.hevc_check.proofs.units.Walk.take_unit.Goals as goal

pub returns-then-not-wants-clause-takes : goal.returns-then-not-wants-clause-takes
returns-then-not-wants-clause-takes c =
    unwanted_taken (bytes_of c.args.nalu) c.args.self.now c.args.nalu.header c.requires.parsed c.requires.started
    (grind (arith, c.wants.ensures, c.options.ensures, c.header-header.ensures.value, c.if-not-wants.true))

pub returns-in_default : goal.returns-in_default
returns-in_default c = record {
  takes =
      coded_taken c.take_coded.result (bytes_of c.args.nalu) c.args.self.now c.take_coded.new.self c.args.nalu.header
      c.requires.parsed (search rules) (search rules) c.requires.started c.take_coded.ensures.takes
      c.take_coded.ensures.sets;
  options = ap options_in c.take_coded.ensures.sets;
}

pub returns-in_ok-take_video_set-in-VpsNut-clause-takes : goal.returns-in_ok-take_video_set-in-VpsNut-clause-takes
returns-in_ok-take_video_set-in-VpsNut-clause-takes c =
    set_taken (bytes_of c.args.nalu) c.args.self.now c.take_video_set.new.self c.args.nalu.header c.requires.parsed
    c.requires.started c.in_ok-take_video_set-in-VpsNut.ensures.takes

pub returns-in_ok-take_sequence_set-in-SpsNut-clause-takes : goal.returns-in_ok-take_sequence_set-in-SpsNut-clause-takes
returns-in_ok-take_sequence_set-in-SpsNut-clause-takes c =
    set_taken (bytes_of c.args.nalu) c.args.self.now c.take_sequence_set.new.self c.args.nalu.header c.requires.parsed
    c.requires.started c.in_ok-take_sequence_set-in-SpsNut.ensures.takes

pub returns-in_ok-take_picture_set-in-PpsNut-clause-takes : goal.returns-in_ok-take_picture_set-in-PpsNut-clause-takes
returns-in_ok-take_picture_set-in-PpsNut-clause-takes c =
    set_taken (bytes_of c.args.nalu) c.args.self.now c.take_picture_set.new.self c.args.nalu.header c.requires.parsed
    c.requires.started c.in_ok-take_picture_set-in-PpsNut.ensures.takes
