-- By what a proof tells queues apart.
use Rattle.std.specs.Prelude.{ℕ, Bool, List, Option, refl}
use Rattle.std.specs.Coded.{Coded, code_by, coded×, coded_ℕ, coded_bool, coded_list, coded_option}
use Rattle.hevc_events.specs.declared.event.Event.{Event}
use Rattle.hevc_queue.specs.declared.given.Given.{Given}
use Rattle.hevc_events.specs.contracts.event.Event as event_type
use Rattle.hevc_queue.specs.contracts.given.Given as given_type
use Rattle.hevc_queue.specs.Queue.{Queue}

-- its fields, one after another
abbrev pub Fields : Type 0
Fields = List Given × (List Event × (ℕ × ((ℕ × ℕ) × ((Option ℕ × ℕ) × (Option ℕ × Bool)))))

fields_code : Coded Fields
fields_code =
    coded× (coded_list given_type.the_row.coded)
    (coded× (coded_list event_type.the_row.coded)
    (coded× coded_ℕ
    (coded× (coded× coded_ℕ coded_ℕ)
    (coded× (coded× (coded_option coded_ℕ) coded_ℕ)
    (coded× (coded_option coded_ℕ) coded_bool)))))

fields_of : Queue → Fields
fields_of q = (
  q.given,
  (
    q.waiting,
    (
      q.free_frames,
      (
        (q.counts.faults, q.counts.empty_answers),
        ((q.counts.set_after, q.counts.taken), (q.frames.asked, q.frames.found)),
      ),
    ),
  ),
)

of_fields : Fields → Queue
of_fields f = record {
  given = f.0;
  waiting = f.1.0;
  free_frames = f.1.1.0;
  counts = record {
    faults = f.1.1.1.0.0;
    empty_answers = f.1.1.1.0.1;
    set_after = f.1.1.1.1.0.0;
    taken = f.1.1.1.1.0.1;
  };
  frames = record { asked = f.1.1.1.1.1.0; found = f.1.1.1.1.1.1 };
}

pub queue_code : Coded Queue
unfolding of_fields fields_of
queue_code = code_by Fields fields_code fields_of of_fields (λ _. refl)
