use Rattle.std.proofs.Common.{◌∙◌, sym, subst, arith}
use Rattle.std.proofs.lemmas.List.{length-map}
use Rattle.hevc_dpb.specs.Plain.{HaveLatency, plain_entry}
use Rattle.hevc_dpb.specs.Views.{stored_entries, buffer_of}
use Rattle.hevc_bumping.proofs.Steps.{few_wait}
use Rattle.hevc_pictures_tests.proofs.tests.bumping.what_is_due_is_output_in_order.Goals as goal

pub bump_additionally-requires-clause-latency : goal.bump_additionally-requires-clause-latency
bump_additionally-requires-clause-latency g c =
    let none = c.set_max_num_pics.ensures.entries ∙ c.reserve.ensures.entries ∙ c.new-dpb.ensures.entries in
    c.store_picture-3.ensures.keeps.latency
    (c.store_picture-2.ensures.keeps.latency
    (c.store_picture.ensures.keeps.latency (subst HaveLatency (sym none) (λ k d lt. absurd (omega (arith, lt))))))

pub bump_additionally-requires-clause-room : goal.bump_additionally-requires-clause-room
bump_additionally-requires-clause-room g c =
    let few = few_wait (buffer_of c.store_picture-3.new.self) in
    let many = length-map (stored_entries c.store_picture-3.new.self) plain_entry in
    omega (arith, few, many, c.store_picture-3.new.self.few, c.in_ok-reserve-2.ensures.ok)

pub bump_for_room-requires-clause-room : goal.bump_for_room-requires-clause-room
bump_for_room-requires-clause-room g c =
    let few = few_wait (buffer_of c.bump_additionally.new.dpb) in
    let many = length-map (stored_entries c.bump_additionally.new.dpb) plain_entry in
    omega (arith, few, many, c.bump_additionally.new.dpb.few, c.in_ok-reserve-3.ensures.ok)
