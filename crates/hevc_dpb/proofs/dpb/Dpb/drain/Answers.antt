use Rattle.std.proofs.Common.{rules, ap, refl, ◌∙◌, sym, subst, length, arith}
use Rattle.hevc_dpb.specs.Numbers.{Distinct}
use Rattle.hevc_dpb.specs.Entries.{numbers, ticket, tickets, waits_not}
use Rattle.hevc_dpb.specs.Sublists.{IsSublist}
use Rattle.hevc_dpb.proofs.Sublists.{filter_sublist, sublist_all}
use Rattle.hevc_dpb.proofs.EntryLaws.{filter_few, distinct_filter}
use Rattle.hevc_dpb.proofs.PositionLaws.{positions_few}
use Rattle.hevc_dpb.proofs.LatencyLaws.{latency_filter}
use Rattle.hevc_dpb.specs.Plain.{HaveLatency}
use Rattle.hevc_dpb.proofs.PlainLaws.{plain_order}
use Rattle.hevc_dpb.proofs.dpb.Dpb.drain.Goals as goal

pub invariant_of-self-clause-few : goal.invariant_of-self-clause-few
invariant_of-self-clause-few g c =
    omega (
      arith,
      ap length c.keep_not_waiting.ensures.kept,
      filter_few waits_not c.order_if_stale.new.self.entries.items,
      c.order_if_stale.new.self.few,
    )

pub invariant_of-self-clause-distinct : goal.invariant_of-self-clause-distinct
invariant_of-self-clause-distinct g c =
    subst (λ l. Distinct (numbers l)) (sym c.keep_not_waiting.ensures.kept)
    (distinct_filter
    (λ e. e.number) waits_not c.order_if_stale.new.self.entries.items c.order_if_stale.new.self.distinct)

pub returns-in_err-reserve-clause-leaves : goal.returns-in_err-reserve-clause-leaves
returns-in_err-reserve-clause-leaves g c = record {
  keeps = record { size = refl; room = refl; latency = λ h. h };
  handles = sublist_all _;
}

pub append_in_order-requires-clause-room : goal.append_in_order-requires-clause-room
append_in_order-requires-clause-room g c = let l =
    positions_few c.order_if_stale.new.self.entries.items c.order_if_stale.new.self.waiting.items
    (c.order_if_stale.new.self.in_order c.order_if_stale.ensures.fresh) in
    omega (arith, l, c.order_if_stale.new.self.few, c.in_ok-reserve.ensures.ok)

pub returns-clause-drained : goal.returns-clause-drained
returns-clause-drained g c = plain_order c.args.self.now.entries.items

pub returns-in_err-reserve-clause-drained : goal.returns-in_err-reserve-clause-drained
returns-in_err-reserve-clause-drained g c = plain_order c.args.self.now.entries.items

pub returns-clause-leaves : goal.returns-clause-leaves
returns-clause-leaves g c = record {
  keeps = record {
    size = search rules;
    room = search rules;
    latency = λ h. subst HaveLatency (sym (c.order_waiting.ensures.entries ∙ c.keep_not_waiting.ensures.kept))
        (latency_filter waits_not c.order_if_stale.new.self.entries.items
        (subst HaveLatency (sym c.order_if_stale.ensures.entries) h));
  };
  handles = subst (λ l. IsSublist (tickets c.order_waiting.new.self.entries.items) (tickets l))
      c.order_if_stale.ensures.entries
      (subst (λ l. IsSublist (tickets l) (tickets c.order_if_stale.new.self.entries.items))
      (sym (c.order_waiting.ensures.entries ∙ c.keep_not_waiting.ensures.kept))
      (filter_sublist ticket waits_not c.order_if_stale.new.self.entries.items));
}
