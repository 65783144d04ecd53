use Rattle.std.proofs.Common.{rules, map}
use Rattle.std.proofs.Common.{length, ap, sym, subst, ◌∙◌, arith}
use Rattle.std.proofs.lemmas.List.{length-map}
use Rattle.hevc_dpb.specs.Numbers.{Distinct}
use Rattle.hevc_dpb.specs.Entries.{numbers, tickets, unmarked}
use Rattle.hevc_dpb.specs.Output.{output_positions}
use Rattle.hevc_pictures.specs.declared.reference.Reference.TheVariants.{None}
use Rattle.hevc_dpb.proofs.MarkLaws.{output_positions_map, tickets_map, numbers_map, unmarked_keeps, unmarked_twice}
use Rattle.hevc_dpb.specs.Plain.{plain_entries, HaveLatency}
use Rattle.hevc_dpb.proofs.PlainLaws.{plain_unmarked}
use Rattle.hevc_dpb.proofs.LatencyLaws.{latency_map}
use Rattle.hevc_dpb.proofs.dpb.Dpb.mark_all_as_unused_for_ref.Goals as goal

pub invariant_of-self-clause-few : goal.invariant_of-self-clause-few
invariant_of-self-clause-few g c =
    omega (
      arith,
      ap length c.unmark_all.ensures.unmarked,
      length-map c.args.self.now.entries.items unmarked,
      c.args.self.now.few,
    )

pub invariant_of-self-clause-distinct : goal.invariant_of-self-clause-distinct
invariant_of-self-clause-distinct g c =
    subst Distinct
    (sym (ap numbers c.unmark_all.ensures.unmarked
    ∙ numbers_map unmarked (unmarked_keeps None) c.args.self.now.entries.items)) c.args.self.now.distinct

pub invariant_of-self-clause-in_order : goal.invariant_of-self-clause-in_order
invariant_of-self-clause-in_order g c fresh = c.args.self.now.in_order fresh
    ∙ sym (ap output_positions c.unmark_all.ensures.unmarked
    ∙ output_positions_map unmarked (unmarked_keeps None) c.args.self.now.entries.items)

pub returns-clause-handles : goal.returns-clause-handles
returns-clause-handles g c = ap tickets c.unmark_all.ensures.unmarked
    ∙ tickets_map unmarked (unmarked_keeps None) c.args.self.now.entries.items

pub returns-clause-buffer : goal.returns-clause-buffer
returns-clause-buffer g c = ap plain_entries c.unmark_all.ensures.unmarked
    ∙ plain_unmarked c.args.self.now.entries.items

pub returns-clause-keeps : goal.returns-clause-keeps
returns-clause-keeps g c = record {
  size = search rules;
  room = search rules;
  latency = λ h. subst HaveLatency (sym c.unmark_all.ensures.unmarked)
      (latency_map unmarked (λ e k. k) c.args.self.now.entries.items h);
}

pub returns-clause-others : goal.returns-clause-others
returns-clause-others g c = ap (map unmarked) c.unmark_all.ensures.unmarked
    ∙ unmarked_twice c.args.self.now.entries.items
