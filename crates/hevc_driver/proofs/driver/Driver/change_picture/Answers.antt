use Rattle.std.proofs.Common.{ap, subst, inl}
use Rattle.hevc_walk_units.specs.Units.{Standing, finish_current}
use Rattle.hevc_backend.specs.Handed.{segment_of}
use Rattle.hevc_driver.specs.Given.{given_first}
use Rattle.hevc_driver.proofs.Doing.{no_given}
use Rattle.hevc_driver.specs.Slices.{slice_of}
use Rattle.hevc_driver.specs.Standings.{standing, traces}
use Rattle.hevc_driver.specs.Takes.{Begins}
use Rattle.hevc_driver.proofs.driver.Driver.change_picture.Goals as goal

pub begin-requires-clause-none : goal.begin-requires-clause-none
begin-requires-clause-none g c = ap (λ (s : Standing). s.current) (c.in_ok-finish.ensures.part no_given).1.next

pub returns-clause-part : goal.returns-clause-part
returns-clause-part g c =
    let w = slice_of c.args.options c.args.slice.now c.args.sps.now c.args.pps.now in
    let segment = segment_of c.args.slice.now c.args.sps.now c.args.pps.now in
    let f = c.in_ok-finish.ensures.part
    (given_first c.args.timestamp w segment (finish_current (standing c.args.self.now.standing)).next) in
    inl (record {
      mid = traces (g.B.StatelessH265DecoderBackend.log c.finish.new.self.backend)
          (g.B.StatelessH265DecoderBackend.handed c.finish.new.self.backend)
          (g.B.StatelessH265DecoderBackend.frames c.finish.new.self.backend).asked c.finish.new.self.standing;
      room = f.0;
      finishes = f.1.does;
      begins = subst
          (λ (s : Standing). Begins c.begin.result (given_first c.args.timestamp w segment s)
          (traces (g.B.StatelessH265DecoderBackend.log c.finish.new.self.backend)
          (g.B.StatelessH265DecoderBackend.handed c.finish.new.self.backend)
          (g.B.StatelessH265DecoderBackend.frames c.finish.new.self.backend).asked
          c.finish.new.self.standing)
          (traces (g.B.StatelessH265DecoderBackend.log c.begin.new.self.backend)
          (g.B.StatelessH265DecoderBackend.handed c.begin.new.self.backend)
          (g.B.StatelessH265DecoderBackend.frames c.begin.new.self.backend).asked c.begin.new.self.standing)
          w s (standing c.begin.new.self.standing)) f.1.next c.begin.ensures.part;
    })
