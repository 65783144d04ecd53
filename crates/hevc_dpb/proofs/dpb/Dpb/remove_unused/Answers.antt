use Rattle.std.proofs.Common.{rules, ap, ◌∙◌, sym, subst, length, arith}
use Rattle.hevc_dpb.specs.Numbers.{Distinct}
use Rattle.hevc_dpb.specs.Entries.{numbers, ticket, tickets, is_needed, reference_numbers}
use Rattle.hevc_dpb.specs.Sublists.{IsSublist}
use Rattle.hevc_dpb.proofs.Sublists.{filter_sublist}
use Rattle.hevc_dpb.proofs.EntryLaws.{filter_few, distinct_filter, references_needed}
use Rattle.hevc_dpb.proofs.LatencyLaws.{latency_filter}
use Rattle.hevc_dpb.specs.Plain.{plain_entries, HaveLatency}
use Rattle.hevc_dpb.proofs.PlainLaws.{plain_needed}
use Rattle.hevc_dpb.proofs.dpb.Dpb.remove_unused.Goals as goal

pub invariant_of-self-clause-distinct : goal.invariant_of-self-clause-distinct
invariant_of-self-clause-distinct g c =
    subst (λ l. Distinct (numbers l)) (sym c.keep_needed.ensures.kept)
    (distinct_filter (λ e. e.number) is_needed c.args.self.now.entries.items c.args.self.now.distinct)

pub invariant_of-self-clause-few : goal.invariant_of-self-clause-few
invariant_of-self-clause-few g c =
    omega (
      arith,
      ap length c.keep_needed.ensures.kept,
      filter_few is_needed c.args.self.now.entries.items,
      c.args.self.now.few,
    )

pub returns-clause-references : goal.returns-clause-references
returns-clause-references g c =
    ap reference_numbers (c.order_waiting.ensures.entries ∙ c.keep_needed.ensures.kept)
    ∙ ap numbers (references_needed c.args.self.now.entries.items)

pub returns-clause-buffer : goal.returns-clause-buffer
returns-clause-buffer g c = ap plain_entries (c.order_waiting.ensures.entries ∙ c.keep_needed.ensures.kept)
    ∙ plain_needed c.args.self.now.entries.items

pub returns-clause-leaves : goal.returns-clause-leaves
returns-clause-leaves g c = record {
  keeps = record {
    size = search rules;
    room = search rules;
    latency = λ h. subst HaveLatency (sym (c.order_waiting.ensures.entries ∙ c.keep_needed.ensures.kept))
        (latency_filter is_needed c.args.self.now.entries.items h);
  };
  handles = subst (λ l. IsSublist (tickets l) (tickets c.args.self.now.entries.items))
      (sym (c.order_waiting.ensures.entries ∙ c.keep_needed.ensures.kept))
      (filter_sublist ticket is_needed c.args.self.now.entries.items);
}
