use Rattle.std.proofs.Common.{refl, arith, ap}
use Rattle.std.proofs.lemmas.List.{length-map}
use Rattle.hevc_dpb.specs.Plain.{plain_entry, plain_entries}
use Rattle.hevc_dpb.specs.Views.{stored_entries, buffer_of}
use Rattle.hevc_bumping.specs.Bumps.{num_waiting}
use Rattle.hevc_bumping.proofs.Steps.{few_wait}
use Rattle.hevc_driver.proofs.Soundness.{kept_sound}
use Rattle.hevc_driver.proofs.driver.Driver.reserve.Goals as goal

pub returns-clause-sound : goal.returns-clause-sound
returns-clause-sound g c =
    kept_sound _ _ _ _ c.requires.sound refl c.in_ok-reserve-2.ensures.entries
    c.in_ok-reserve-2.ensures.size refl refl refl

pub returns-in_err-reserve-2-clause-sound : goal.returns-in_err-reserve-2-clause-sound
returns-in_err-reserve-2-clause-sound g c =
    kept_sound _ _ _ _ c.requires.sound refl c.in_err-reserve-2.ensures.entries
    c.in_err-reserve-2.ensures.size refl refl refl

pub returns-clause-room : goal.returns-clause-room
returns-clause-room g c =
    let few = few_wait (buffer_of c.args.self.now.standing.dpb) in
    let many = length-map (stored_entries c.args.self.now.standing.dpb) plain_entry in
    let same = ap (λ es. num_waiting (plain_entries es)) c.in_ok-reserve-2.ensures.entries in
    record {
      queue = omega (
        arith,
        few,
        many,
        same,
        c.args.self.now.standing.dpb.few,
        c.in_ok-reserve.ensures.ok,
      );
      stored = c.in_ok-reserve-2.ensures.room;
    }
