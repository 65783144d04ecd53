use Rattle.std.proofs.Common.{rules, length, ap, sym, subst, ◌∙◌, arith}
use Rattle.hevc_dpb.specs.Numbers.{Distinct}
use Rattle.hevc_dpb.specs.Entries.{numbers, tickets, reference_numbers}
use Rattle.hevc_dpb.specs.Output.{behind_output, first_in, in_output_order, as_output}
use Rattle.hevc_dpb.specs.Sublists.{IsSublist}
use Rattle.hevc_dpb.proofs.OutputLaws.{behind_sublist, behind_references, behind_few, behind_distinct}
use Rattle.std.proofs.Common.{List}
use Rattle.hevc_dpb.specs.declared.entry.DpbEntry.{DpbEntry}
use Rattle.hevc_dpb.specs.Plain.{plain_entry, plain_entries, HaveLatency}
use Rattle.std.specs.Option.{option_map}
use Rattle.hevc_dpb.proofs.PlainLaws.{plain_behind, plain_first}
use Rattle.hevc_dpb.proofs.LatencyLaws.{latency_behind}
use Rattle.hevc_dpb.proofs.dpb.Dpb.bump.Goals as goal

pub invariant_of-self-clause-few : goal.invariant_of-self-clause-few
invariant_of-self-clause-few g c = let l =
    behind_few c.args.flush (first_in (in_output_order c.order_if_stale.new.self.entries.items))
    c.order_if_stale.new.self.entries.items in
    omega (arith, l, ap length c.output_first-output.ensures.left, c.order_if_stale.new.self.few)

pub invariant_of-self-clause-distinct : goal.invariant_of-self-clause-distinct
invariant_of-self-clause-distinct g c =
    subst (λ l. Distinct (numbers l)) (sym c.output_first-output.ensures.left)
    (behind_distinct c.args.flush (first_in (in_output_order c.order_if_stale.new.self.entries.items))
    c.order_if_stale.new.self.entries.items c.order_if_stale.new.self.distinct)

pub returns-clause-references : goal.returns-clause-references
returns-clause-references g c flush =
    ap reference_numbers (c.order_waiting.ensures.entries ∙ c.output_first-output.ensures.left)
    ∙ behind_references c.args.flush _ c.order_if_stale.new.self.entries.items flush
    ∙ ap reference_numbers c.order_if_stale.ensures.entries

pub returns-clause-buffer : goal.returns-clause-buffer
returns-clause-buffer g c flush =
    ap plain_entries (c.order_waiting.ensures.entries ∙ c.output_first-output.ensures.left)
    ∙ ap (λ (l : List (DpbEntry g.row.T.Denot)). plain_entries
    (behind_output c.args.flush (first_in (in_output_order l)) l)) c.order_if_stale.ensures.entries
    ∙ plain_behind c.args.flush c.args.self.now.entries.items flush

pub returns-clause-leaves : goal.returns-clause-leaves
returns-clause-leaves g c = record {
  keeps = record {
    size = search rules;
    room = search rules;
    latency = λ h. subst HaveLatency
        (sym (c.order_waiting.ensures.entries ∙ c.output_first-output.ensures.left))
        (latency_behind c.args.flush _ _ (subst HaveLatency (sym c.order_if_stale.ensures.entries) h));
  };
  handles = subst (λ l. IsSublist (tickets c.order_waiting.new.self.entries.items) (tickets l))
      c.order_if_stale.ensures.entries
      (subst (λ l. IsSublist (tickets l) (tickets c.order_if_stale.new.self.entries.items))
      (sym (c.order_waiting.ensures.entries ∙ c.output_first-output.ensures.left))
      (behind_sublist c.args.flush _ c.order_if_stale.new.self.entries.items));
}

pub returns-clause-first : goal.returns-clause-first
returns-clause-first g c =
    ap (option_map plain_entry) (c.output_first-output.ensures.output
    ∙ ap (λ (l : List (DpbEntry g.row.T.Denot)). option_map as_output (first_in (in_output_order l)))
    c.order_if_stale.ensures.entries)
    ∙ plain_first c.args.self.now.entries.items
