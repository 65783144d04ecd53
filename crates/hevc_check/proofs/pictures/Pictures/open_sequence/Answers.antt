use Rattle.std.proofs.Common.{ap, sym, refl, Some}
use Rattle.hevc_dpb.specs.Plain.{HaveLatency}
use Rattle.hevc_dpb.specs.Entries.{tickets}
use Rattle.hevc_dpb.specs.Views.{stored_entries}
use Rattle.std.proofs.Common.{subst}
use Rattle.hevc_driver.proofs.Doing.{keeps_all}
use Rattle.hevc_check.proofs.Sounds.{left_sound}
use Rattle.hevc_check.proofs.pictures.Pictures.open_sequence.Goals as goal

pub invariant_of-self : goal.invariant_of-self
invariant_of-self c =
    let same = c.set_max_num_pics.ensures.entries in
    left_sound c.self.inside.accepted (Some c.from-format.result) c.self.inside.dpb c.set_max_num_pics.new.self
    c.self.inside.out c.self.inside.out c.self.inside.latest c.self.inside.next c.self.invariant
    c.set_max_num_pics.ensures.size (subst HaveLatency (sym same) c.self.invariant.latency)
    c.set_max_num_pics.ensures.room refl
    (keeps_all (tickets (stored_entries c.self.inside.dpb))
    (tickets (stored_entries c.set_max_num_pics.new.self)) (ap tickets same))
