use Rattle.std.proofs.Common.{[], ap, sym, ◌∙◌, refl, Some}
use Rattle.std.specs.Prelude.{option_map}
use Rattle.hevc_sequence_set.specs.Sps.{plain_sps}
use Rattle.hevc_walk.specs.Meanings.{Format}
use Rattle.hevc_walk.specs.Walk.{Store, is_accepted}
use Rattle.hevc_walk_inputs.specs.Sequences.{format_of_set}
use Rattle.hevc_dpb.specs.Plain.{plain_entries}
use Rattle.hevc_dpb.specs.Entries.{tickets}
use Rattle.hevc_dpb.specs.Views.{stored_entries, buffer_of}
use Rattle.hevc_backend.specs.Negotiation.{format_of}
use Rattle.hevc_check.specs.Places.{Place}
use Rattle.hevc_check.proofs.Places.{with_store, same_next, other_next}
use Rattle.hevc_check.proofs.Sounds.{left_sound, none_part, none_latency}
use Rattle.hevc_check.proofs.pictures.Pictures.change_format.Goals as goal

pub returns-then-is_accepted : goal.returns-then-is_accepted
returns-then-is_accepted c =
    let v = c.args.self.now in
    let f = format_of_set (plain_sps c.args.sps.now) in
    let acc = ap (λ (w : Place). w.store.accepted) c.self.view_is in
    let form = ap format_of c.from-format.ensures in
    let is =
    ap (is_accepted f) (sym acc)
    ∙ ap (λ (x : Format). is_accepted x (option_map format_of c.self.inside.accepted)) (sym form)
    ∙ sym c.is_accepted.ensures ∙ c.if-is_accepted.true in
    ap (λ (s : Store). record v { store = s }) (sym (same_next f v.store is))

pub invariant_of-self : goal.invariant_of-self
invariant_of-self c =
    let none = c.set_max_num_pics.ensures.entries ∙ c.clear.ensures.entries in
    left_sound c.self.inside.accepted (Some c.from-format.result) c.self.inside.dpb c.set_max_num_pics.new.self
    c.self.inside.out c.self.inside.out c.self.inside.latest c.self.inside.next c.self.invariant
    c.set_max_num_pics.ensures.size (none_latency _ none) (c.set_max_num_pics.ensures.room ∙ c.clear.ensures.room) refl
    (none_part (tickets (stored_entries c.self.inside.dpb)) (stored_entries c.set_max_num_pics.new.self) none)

pub returns : goal.returns
returns c =
    let v = c.args.self.now in
    let f = format_of_set (plain_sps c.args.sps.now) in
    let acc = ap (λ (w : Place). w.store.accepted) c.self.view_is in
    let form = ap format_of c.from-format.ensures in
    let isnt =
    ap (is_accepted f) (sym acc)
    ∙ ap (λ (x : Format). is_accepted x (option_map format_of c.self.inside.accepted)) (sym form)
    ∙ sym c.is_accepted.ensures ∙ c.if-is_accepted.false in
    let none = ap plain_entries (c.set_max_num_pics.ensures.entries ∙ c.clear.ensures.entries) in
    let s : Path Store
    (record { accepted = Some (format_of c.from-format.result); buffer = buffer_of c.set_max_num_pics.new.self })
    (record { accepted = Some f; buffer = [] }) =
    ap (λ (x : Format). record { accepted = Some x; buffer = buffer_of c.set_max_num_pics.new.self }) form
    ∙ ap (λ b. record { accepted = Some f; buffer = b }) none in
    with_store _ v _ _ c.self.view_is (s ∙ sym (other_next f v.store isnt))
