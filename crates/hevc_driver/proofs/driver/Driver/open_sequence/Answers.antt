use Rattle.std.proofs.Common.{refl, sym, ap, ◌∙◌, subst, arith, [], Some, rules}
use Rattle.hevc_sequence_set.specs.Sps.{plain_sps}
use Rattle.hevc_walk_inputs.specs.Sequences.{format_of_set}
use Rattle.hevc_walk.specs.Buffer.{Buffer}
use Rattle.hevc_walk.specs.Meanings.{Format}
use Rattle.hevc_walk.specs.Walk as walk
use Rattle.hevc_dpb.specs.Plain.{HaveLatency, plain_entries}
use Rattle.hevc_dpb.specs.Entries.{tickets}
use Rattle.hevc_backend.specs.Calls.{new_sequence_call}
use Rattle.hevc_backend.specs.Negotiation.{format_of}
use Rattle.hevc_backend.proofs.ToldLaws.{told_call}
use Rattle.hevc_driver.specs.Standings.{standing}
use Rattle.hevc_driver.proofs.Doing.{sequence_handed, does_call, stops_at, runs_stop, keeps_all, keeps_more}
use Rattle.hevc_backend.proofs.HandedLaws.{announced_more, announced_same}
use Rattle.hevc_backend.specs.Trait.{Frames}
use Rattle.hevc_driver.proofs.Soundness.{none_announced, same_pictures, none_newest, none_latest, below_part, part_same}
use Rattle.hevc_driver.proofs.driver.Driver.open_sequence.Goals as goal

pub returns-in_err-new_sequence-clause-part : goal.returns-in_err-new_sequence-clause-part
returns-in_err-new_sequence-clause-part g c t is =
    runs_stop _ _ t _ _ _ _ _ c.from_residual.ensures.1
    (stops_at t _ _ (walk.NewSequence (format_of_set (plain_sps c.args.sps.now))) [] _
    c.in_err-new_sequence.ensures.log c.in_err-new_sequence.ensures.handed
    (ap (λ (f : Frames). f.asked) c.in_err-new_sequence.ensures.frames) refl (keeps_all _ _ refl) (tt, refl))

pub returns-clause-part : goal.returns-clause-part
returns-clause-part g c t is = record {
  does = does_call t _ _ (new_sequence_call c.args.sps.now) c.in_ok-new_sequence.ensures.log
      (sequence_handed t _ _ _ is c.in_ok-new_sequence.ensures.handed)
      (ap (λ (f : Frames). f.asked) c.in_ok-new_sequence.ensures.frames) refl
      (keeps_more _ _ _ (ap tickets c.set_max_num_pics.ensures.entries)) tt;
  next = ap (λ (es : Buffer). record (standing c.args.self.now.standing) {
    store = record {
      accepted = Some (format_of c.from-format.result);
      buffer = es;
    };
  }) (ap plain_entries c.set_max_num_pics.ensures.entries)
      ∙ ap (λ (f : Format). record (standing c.args.self.now.standing) {
        store = record {
          accepted = Some f;
          buffer = (standing c.args.self.now.standing).store.buffer;
        };
      }) (ap format_of c.from-format.ensures);
}

pub returns-clause-stays : goal.returns-clause-stays
returns-clause-stays g c =
    let s = c.requires.sound in
    let entries = c.set_max_num_pics.ensures.entries in
    record {
      sound = record {
        sized = c.set_max_num_pics.ensures.size;
        latency = subst HaveLatency (sym entries) s.latency;
        below = below_part _ _ _ _ s.below (omega arith) (part_same _ _ entries);
        newest = none_newest _ _ _ c.requires.none;
        announced = record {
          stored = announced_more _ _ _ _ c.in_ok-new_sequence.ensures.handed
              (announced_same _ _ _ _ refl (same_pictures _ _ entries) s.announced.stored);
          current = none_announced _ _ _ c.requires.none;
        };
        told = told_call (new_sequence_call c.args.sps.now) c.in_ok-new_sequence.ensures.log s.told (λ t h. record {
          handles = λ x k. h.handles x (part_same _ _ entries x k);
          sequence = ap (λ i. Some (format_of i)) (sym c.from-format.ensures);
          picture = none_latest _ _ _ c.requires.none;
        });
      };
      grows = search rules;
      kept = refl;
    }
