use Rattle.std.proofs.Common.{rules, ap, ◌∙◌, ◌∷◌, ◌++◌, [], map, sym, subst}
use Rattle.hevc_dpb.specs.Numbers.{Distinct}
use Rattle.hevc_dpb.specs.Entries.{numbers, tickets, with_latency, stored_entry}
use Rattle.hevc_dpb.proofs.EntryLaws.{distinct_push, numbers_stored, tickets_stored}
use Rattle.hevc_dpb.specs.declared.entry.DpbEntry.{DpbEntry}
use Rattle.std.proofs.Common.{◌≡◌, ℕ, List}
use Rattle.hevc_pictures.specs.declared.picture_data.PictureData.{PictureData}
use Rattle.hevc_dpb.specs.Plain.{plain_entries, HaveLatency}
use Rattle.hevc_dpb.proofs.PlainLaws.{plain_stored}
use Rattle.hevc_dpb.proofs.LatencyLaws.{latency_stored}
use Rattle.hevc_dpb.proofs.dpb.Dpb.store_picture.Goals as goal

stored_behind : {T : Type 0} (es now : List (DpbEntry T)) (number : ℕ) (picture : PictureData) (handle : T)
    (e : DpbEntry T) → now ≡ map with_latency es ++ e ∷ [] → e ≡ stored_entry number picture handle
    → now ≡ map with_latency es ++ stored_entry number picture handle ∷ []
stored_behind es now number picture handle e is same = is ∙ ap (λ (x : DpbEntry _). map with_latency es ++ x ∷ []) same

pub invariant_of-self-clause-distinct : goal.invariant_of-self-clause-distinct
invariant_of-self-clause-distinct g c =
    let es = c.args.self.now.entries.items in
    let is = stored_behind es _ c.args.number c.args.picture c.args.handle _ c.store_behind.ensures.stored
    c.stored.ensures in
    subst Distinct (sym (ap numbers is ∙ numbers_stored es _))
    (distinct_push c.args.number (numbers es) c.args.self.now.distinct c.requires.other)

pub returns-clause-stored : goal.returns-clause-stored
returns-clause-stored g c =
    let es = c.args.self.now.entries.items in
    let is = stored_behind es _ c.args.number c.args.picture c.args.handle _ c.store_behind.ensures.stored
    c.stored.ensures in
    record {
      entries = c.order_waiting.ensures.entries ∙ is;
      handles = ap tickets (c.order_waiting.ensures.entries ∙ is) ∙ tickets_stored es _;
      fresh = search rules;
    }

pub returns-clause-buffer : goal.returns-clause-buffer
returns-clause-buffer g c p is_stored h =
    let es = c.args.self.now.entries.items in
    let is = stored_behind es _ c.args.number c.args.picture c.args.handle _ c.store_behind.ensures.stored
    c.stored.ensures in
    ap plain_entries (c.order_waiting.ensures.entries ∙ is)
    ∙ plain_stored p c.args.number c.args.picture c.args.handle es is_stored h

pub returns-clause-keeps : goal.returns-clause-keeps
returns-clause-keeps g c = record {
  size = search rules;
  room = search rules;
  latency = λ h. let es = c.args.self.now.entries.items in
      let is = stored_behind es _ c.args.number c.args.picture c.args.handle _ c.store_behind.ensures.stored
      c.stored.ensures in
      subst HaveLatency (sym (c.order_waiting.ensures.entries ∙ is))
      (latency_stored c.args.number c.args.picture c.args.handle es h);
}
