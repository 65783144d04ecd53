use Rattle.std.proofs.Common.{subst, refl, sym, ap, ◌∙◌}
use Rattle.hevc_walk_units.specs.Units.{Current, NoPicture, SkippedPicture}
use Rattle.hevc_driver.specs.Standings.{standing, traces, current_of}
use Rattle.hevc_driver.specs.Takes.{Finishes}
use Rattle.hevc_driver.specs.declared.current.Current as code
use Rattle.hevc_driver.proofs.Storing.{nothing_over}
use Rattle.hevc_driver.proofs.driver.Driver.finish.Goals as goal

pub returns-in-OpenPicture-clause-part : goal.returns-in-OpenPicture-clause-part
returns-in-OpenPicture-clause-part g c t =
    subst (λ (v : Current). Finishes c.store.result t
    (traces (g.B.StatelessH265DecoderBackend.log c.args.self.now.backend)
    (g.B.StatelessH265DecoderBackend.handed c.args.self.now.backend)
    (g.B.StatelessH265DecoderBackend.frames c.args.self.now.backend).asked c.args.self.now.standing)
    (traces (g.B.StatelessH265DecoderBackend.log c.store.new.self.backend)
    (g.B.StatelessH265DecoderBackend.handed c.store.new.self.backend)
    (g.B.StatelessH265DecoderBackend.frames c.store.new.self.backend).asked c.store.new.self.standing)
    (record (standing c.args.self.now.standing) { current = v }) (standing c.store.new.self.standing))
    (sym (ap (current_of c.args.self.now.standing.set) (sym c.replace.ensures.value ∙ c.in-OpenPicture.is)))
    (c.store.ensures.part t)

pub returns-in-SkippedPicture-clause-part : goal.returns-in-SkippedPicture-clause-part
returns-in-SkippedPicture-clause-part g c t =
    nothing_over _ _ _ _ _ SkippedPicture
    (ap (current_of c.args.self.now.standing.set) (sym c.replace.ensures.value ∙ c.in-SkippedPicture.is))
    refl refl refl refl refl refl
    (ap (λ (v : code.Current _). record
    (standing c.args.self.now.standing) { current = current_of c.args.self.now.standing.set v })
    c.replace.ensures.after)

pub returns-in-NoPicture-clause-part : goal.returns-in-NoPicture-clause-part
returns-in-NoPicture-clause-part g c t =
    nothing_over _ _ _ _ _ NoPicture
    (ap (current_of c.args.self.now.standing.set) (sym c.replace.ensures.value ∙ c.in-NoPicture.is)) refl
    refl refl refl refl refl
    (ap (λ (v : code.Current _). record
    (standing c.args.self.now.standing) { current = current_of c.args.self.now.standing.set v })
    c.replace.ensures.after)
