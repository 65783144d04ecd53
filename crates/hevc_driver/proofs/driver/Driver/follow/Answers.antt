use Rattle.std.proofs.Common.{sym, ◌∙◌, subst}
use Rattle.hevc_walk_units.specs.Units.{Standing}
use Rattle.hevc_driver.specs.Slices.{slice_of}
use Rattle.hevc_driver.specs.Standings.{standing, traces}
use Rattle.hevc_driver.specs.Takes.{Follows}
use Rattle.hevc_driver.proofs.Following.{left_refused, left_taken}
use Rattle.hevc_driver.proofs.driver.Driver.follow.Goals as goal

pub returns-then-is_err-clause-part : goal.returns-then-is_err-clause-part
returns-then-is_err-clause-part g c t o segment dpb =
    let h = c.hand_slice-result in
    subst (λ (s : Standing). Follows h.result t
    (traces (g.B.StatelessH265DecoderBackend.log c.args.self.now.backend)
    (g.B.StatelessH265DecoderBackend.handed c.args.self.now.backend)
    (g.B.StatelessH265DecoderBackend.frames c.args.self.now.backend).asked c.args.self.now.standing)
    (traces (g.B.StatelessH265DecoderBackend.log h.new.self.backend)
    (g.B.StatelessH265DecoderBackend.handed h.new.self.backend)
    (g.B.StatelessH265DecoderBackend.frames h.new.self.backend).asked h.new.self.standing)
    (slice_of o c.args.slice.now c.args.sps.now c.args.pps.now) (standing c.args.self.now.standing) s)
    (left_refused h.result (standing h.new.self.standing) (sym c.is_err.ensures.value ∙ c.if-is_err.true))
    (h.ensures.part t o segment dpb)

pub returns-else-is_err-clause-part : goal.returns-else-is_err-clause-part
returns-else-is_err-clause-part g c t o segment dpb =
    let h = c.hand_slice-result in
    subst (λ (s : Standing). Follows h.result t
    (traces (g.B.StatelessH265DecoderBackend.log c.args.self.now.backend)
    (g.B.StatelessH265DecoderBackend.handed c.args.self.now.backend)
    (g.B.StatelessH265DecoderBackend.frames c.args.self.now.backend).asked c.args.self.now.standing)
    (traces (g.B.StatelessH265DecoderBackend.log h.new.self.backend)
    (g.B.StatelessH265DecoderBackend.handed h.new.self.backend)
    (g.B.StatelessH265DecoderBackend.frames h.new.self.backend).asked h.new.self.standing)
    (slice_of o c.args.slice.now c.args.sps.now c.args.pps.now) (standing c.args.self.now.standing) s)
    (left_taken h.result (standing h.new.self.standing) (sym c.is_err.ensures.value ∙ c.if-is_err.false))
    (h.ensures.part t o segment dpb)
