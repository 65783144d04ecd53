use Rattle.std.proofs.Common.{ap, sym, ◌∙◌, refl, subst, arith, Some, None, Option}
use Rattle.std.specs.Prelude.{option_map}
use Rattle.hevc_walk.specs.Buffer.{Buffer, bumping, needs_additional_bumping}
use Rattle.hevc_walk.specs.Walk.{Store, finish}
use Rattle.hevc_walk.specs.Pictures as walk
use Rattle.hevc_dpb.specs.declared.dpb.Dpb.{Dpb}
use Rattle.hevc_dpb.specs.Views.{stored_entries, buffer_of}
use Rattle.hevc_backend.specs.Negotiation.{format_of}
use Rattle.hevc_driver.specs.declared.head.Head.{Head}
use Rattle.hevc_driver.specs.Heads.{head_of}
use Rattle.hevc_driver.proofs.Soundness.{below_absent}
use Rattle.hevc_check.specs.Places.{Place, IsSound}
use Rattle.hevc_check.proofs.Places.{finished_by, none_next, passed_next, stored_next}
use Rattle.hevc_check.proofs.Sounds.{left_sound, ended_sound, newest_some, stored_sound, few_waiting}
use Rattle.hevc_check.proofs.pictures.Pictures.finish.Goals as goal

pub returns-in_default-clause-after_picture : goal.returns-in_default-clause-after_picture
returns-in_default-clause-after_picture c =
    let v = c.args.self.now in
    let none = sym c.take.ensures.value ∙ c.in_default.is in
    let latest = sym (ap (λ (w : Place). w.latest) c.self.view_is) ∙ ap (option_map head_of) none in
    let store = ap (λ (w : Place). w.store) c.self.view_is in
    finished_by _ v _ _ c.self.view_is (ap (option_map head_of) c.take.ensures.after)
    (store ∙ sym (ap (λ (l : Option walk.Head). (finish l v.store).next) latest ∙ none_next v.store))

pub returns-then-head-clause-after_picture : goal.returns-then-head-clause-after_picture
returns-then-head-clause-after_picture c =
    let v = c.args.self.now in
    let p = c.in-Some.head in
    let some = sym c.take.ensures.value ∙ c.in-Some.is in
    let latest = sym (ap (λ (w : Place). w.latest) c.self.view_is) ∙ ap (option_map head_of) some in
    let store = ap (λ (w : Place). w.store) c.self.view_is in
    finished_by _ v _ _ c.self.view_is (ap (option_map head_of) c.take.ensures.after)
    (store ∙ sym
    (ap (λ (l : Option walk.Head). (finish l v.store).next) latest
    ∙ passed_next (head_of p) v.store c.if-head.true))

pub store_picture-requires-clause-other : goal.store_picture-requires-clause-other
store_picture-requires-clause-other c =
    let w = c.self.inside in
    below_absent c.in-Some.head.number (stored_entries w.dpb)
    (newest_some w.accepted w.dpb w.out w.latest w.next c.in-Some.head c.self.invariant
    (sym c.take.ensures.value ∙ c.in-Some.is)).0

pub invariant_of-self-in_err-store_picture : goal.invariant_of-self-in_err-store_picture
invariant_of-self-in_err-store_picture c =
    let w = c.self.inside in
    subst (λ (l : Option Head). IsSound w.accepted c.store_picture.new.self w.out l w.next) (sym c.take.ensures.after)
    (subst (λ (d : Dpb (Unit {0})). IsSound w.accepted d w.out None w.next) (sym c.in_err-store_picture.ensures.stays)
    (ended_sound w.accepted w.dpb w.out w.latest w.next c.self.invariant))

pub bump_additionally-requires-clause-room : goal.bump_additionally-requires-clause-room
bump_additionally-requires-clause-room c =
    let few = few_waiting c.store_picture.new.self in
    omega (arith, few, c.clear.ensures.len, c.clear.ensures.capacity, c.self.invariant.queue)

pub invariant_of-self-2 : goal.invariant_of-self-2
invariant_of-self-2 c =
    let w = c.self.inside in
    let s = c.in_ok-store_picture.ensures in
    let b = c.bump_additionally.ensures in
    let stored =
    stored_sound w.accepted w.dpb c.store_picture.new.self w.out w.latest w.next c.in-Some.head c.self.invariant
    (sym c.take.ensures.value ∙ c.in-Some.is) s.keeps.size (s.keeps.latency c.self.invariant.latency)
    s.keeps.room s.stored.handles in
    subst (λ (l : Option Head). IsSound w.accepted c.bump_additionally.new.dpb c.bump_additionally.new.queue l w.next)
    (sym c.take.ensures.after)
    (left_sound w.accepted w.accepted c.store_picture.new.self c.bump_additionally.new.dpb w.out
    c.bump_additionally.new.queue None w.next stored (b.size ∙ stored.sized) b.latency b.room
    (b.capacity ∙ c.clear.ensures.capacity) b.handles)

pub returns-clause-after_picture : goal.returns-clause-after_picture
returns-clause-after_picture c =
    let v = c.args.self.now in
    let w = c.self.inside in
    let p = c.in-Some.head in
    let some = sym c.take.ensures.value ∙ c.in-Some.is in
    let latest = sym (ap (λ (w : Place). w.latest) c.self.view_is) ∙ ap (option_map head_of) some in
    let store = ap (λ (w : Place). w.store) c.self.view_is in
    let there =
    c.in_ok-store_picture.ensures.buffer (head_of p)
    (record { same_number = refl; order_count = refl; pic_output_flag = refl }) c.self.invariant.latency in
    let left =
    c.bump_additionally.ensures.left
    ∙ ap (λ (es : Buffer). (bumping (needs_additional_bumping (head_of p).limits) es).left) there in
    let same = ap (λ (s : Store). (finish (Some (head_of p)) s).next) store in
    let here =
    stored_next (head_of p) (record { accepted = option_map format_of w.accepted; buffer = buffer_of w.dpb })
    c.if-head.false in
    finished_by _ v _ _ c.self.view_is (ap (option_map head_of) c.take.ensures.after)
    (ap (λ (es : Buffer). record { accepted = option_map format_of w.accepted; buffer = es }) left ∙ sym here ∙ same
    ∙ sym (ap (λ (l : Option walk.Head). (finish l v.store).next) latest))
