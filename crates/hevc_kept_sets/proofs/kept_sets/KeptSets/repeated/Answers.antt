use Rattle.std.proofs.Common.{◌≡◌, Some, refl, ap, sym, ◌∙◌, rules}
use Rattle.hevc_sequence_set.specs.Sps.{plain_sps}
use Rattle.hevc_parser.specs.Kept.{kept_by}
use Rattle.hevc_kept_sets.specs.ReadUnits.{set_read}
use Rattle.hevc_kept_sets.proofs.ReadUnits.{read_last}
use Rattle.hevc_kept_sets.proofs.kept_sets.KeptSets.repeated.Goals as goal

pub returns : goal.returns
returns c =
    let last = c.in_ok-last.last.now in
    let kept = kept_by c.args.self.now.parser in
    let set = plain_sps c.in_ok-set.set.now in
    let is : c.args.self.now.last_read ≡ Some last = search rules in
    let same : last.bytes.items ≡ c.args.bytes.now = search rules in
    let found : kept.sequence_sets last.id ≡ Some set = sym c.in_ok-set.ensures.found in (
      set,
      (
        ap set_read (sym same)
            ∙ read_last kept c.args.self.now.last_read last is c.args.self.now.repeated ∙ found,
        ap kept.sequence_sets c.in_ok-set.ensures.own_id ∙ found,
        refl,
      ),
    )
