use Rattle.std.proofs.Common.{rules, subst, sym, ◌∙◌, arith}
use Rattle.hevc_dpb.specs.Numbers.{Distinct}
use Rattle.hevc_dpb.proofs.MarkLaws.{marks_at}
use Rattle.hevc_dpb.proofs.PlainLaws.{plain_marked}
use Rattle.hevc_dpb.proofs.LatencyLaws.{latency_marked}
use Rattle.hevc_dpb.proofs.dpb.Dpb.set_reference_at.Goals as goal

pub invariant_of-self-clause-few : goal.invariant_of-self-clause-few
invariant_of-self-clause-few g c = let m =
    marks_at c.args.reference c.args.self.now.entries.items _ c.args.position c.requires
    c.args.self.now.distinct c.mark_at.ensures.marked in omega (arith, m.few, c.args.self.now.few)

pub invariant_of-self-clause-distinct : goal.invariant_of-self-clause-distinct
invariant_of-self-clause-distinct g c =
    subst Distinct
    (sym (marks_at c.args.reference c.args.self.now.entries.items _ c.args.position c.requires
    c.args.self.now.distinct c.mark_at.ensures.marked).same_numbers) c.args.self.now.distinct

pub invariant_of-self-clause-in_order : goal.invariant_of-self-clause-in_order
invariant_of-self-clause-in_order g c fresh = c.args.self.now.in_order fresh
    ∙ sym (marks_at c.args.reference c.args.self.now.entries.items _ c.args.position c.requires
    c.args.self.now.distinct c.mark_at.ensures.marked).same_order

pub returns-clause-handles : goal.returns-clause-handles
returns-clause-handles g c =
    (marks_at c.args.reference c.args.self.now.entries.items _ c.args.position c.requires
    c.args.self.now.distinct c.mark_at.ensures.marked).same_tickets

pub returns-clause-keeps : goal.returns-clause-keeps
returns-clause-keeps g c = record {
  size = search rules;
  room = search rules;
  latency = λ h. latency_marked c.args.reference c.args.self.now.entries.items _ c.args.position c.requires
      c.mark_at.ensures.marked h;
}

pub returns-clause-buffer : goal.returns-clause-buffer
returns-clause-buffer g c d =
    plain_marked c.args.reference c.args.self.now.entries.items _ c.args.position c.requires c.mark_at.ensures.marked d

pub returns-clause-others : goal.returns-clause-others
returns-clause-others g c =
    (marks_at c.args.reference c.args.self.now.entries.items _ c.args.position c.requires
    c.args.self.now.distinct c.mark_at.ensures.marked).others
