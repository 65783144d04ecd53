use Rattle.std.proofs.Common.{refl, ap, ◌∙◌}
use Rattle.std.proofs.lemmas.List.{get_or_default}
use Rattle.hevc_dpb.specs.declared.entry.DpbEntry.{DpbEntry}
use Rattle.hevc_dpb.specs.Lending.{never}
use Rattle.hevc_dpb.proofs.LendingLaws.{lent_same, lent_few, lent_distinct}
use Rattle.hevc_dpb.proofs.dpb.Dpb.picture_mut.Goals as goal

pub invariant_of-self-lent : goal.invariant_of-self-lent
invariant_of-self-lent g c w = (
  lent_few c.args.self.now c.args.position w c.index_mut.result.now,
  (
    c.args.self.now.size,
    (
      lent_distinct c.args.self.now c.args.position w c.index_mut.result.now c.requires
          c.index_mut.ensures.value,
      (never, tt),
    ),
  ),
)

pub returns : goal.returns
returns g c = (
  (
    refl,
    λ w. lent_same c.args.self.now c.args.position w c.index_mut.result.now c.requires
        c.index_mut.ensures.value _ _ _ _,
  ),
  record {
    writes_back = tt;
    value = λ d. ap (λ (x : DpbEntry g.row.T.Denot). x.picture) (c.index_mut.ensures.value
        ∙ get_or_default c.args.self.now.entries.items c.args.position c.index_mut.result.now d c.requires);
  },
)
