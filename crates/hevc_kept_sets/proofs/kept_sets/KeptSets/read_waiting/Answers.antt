use Rattle.std.proofs.Common.{◌≡◌, true, refl, sym, subst}
use Rattle.std.specs.List.{list_all}
use Rattle.hevc_stream.specs.Options.{Options}
use Rattle.hevc_kept_sets.specs.Kept.{kept_of, options_in}
use Rattle.hevc_parser.specs.Kept.{kept_by}
use Rattle.hevc_kept_sets.specs.Settled.{is_settled}
use Rattle.hevc_kept_sets.proofs.Again.{settled_by_sets, settled_apart, all_stay_where_none_changed}
use Rattle.hevc_kept_sets.proofs.Again.{all_settled, covered_by_names}
use Rattle.hevc_kept_sets.proofs.kept_sets.KeptSets.read_waiting.Goals as goal
use Rattle.hevc_kept_sets.proofs.kept_sets.KeptSets.read_waiting.Goals.{then-self-ne0+in_ok-try_all, else-self-ne0}

pub invariant_of-self : goal.invariant_of-self
invariant_of-self c =
    let old = c.args.self.now in
    let options = options_in old in
    elim c.if-self-ne0.branch [
      | then-self-ne0+in_ok-try_all w ↦
          let new = w.try_all.new.self in
          let all = all_settled options 0 (kept_of old) (kept_of new) w.in_ok-try_all.ensures.tried in
          rw w.self-is (record {
            repeated = new.repeated;
            wanted = new.wanted;
            covered = covered_by_names w.named_by-self.result new.waiting.items w.named_by-self.ensures;
            settled = subst
                (λ (o : Options). list_all (is_settled 0 o (kept_by new.parser)) new.waiting.items ≡ true)
                (sym w.try_all.ensures.options)
                (settled_by_sets options 0 (kept_of new) (kept_by new.parser) refl new.waiting.items all);
          })
      | else-self-ne0 w ↦ rw w.self-is (record {
        repeated = old.repeated;
        wanted = old.wanted;
        covered = old.covered;
        settled = settled_apart options old.changed old.named w.if-self-ne0.false
            (kept_by old.parser) old.waiting.items old.settled old.covered;
      })
    ]

pub returns-clause-read : goal.returns-clause-read
returns-clause-read c =
    let old = c.args.self.now in
    let options = options_in old in
    elim c.if-self-ne0.branch [
      | then-self-ne0+in_ok-try_all w ↦ rw w.self-is w.in_ok-try_all.ensures.tried
      | else-self-ne0 w ↦ rw w.self-is (all_stay_where_none_changed options (kept_by old.parser) old.waiting.items
          (settled_apart options old.changed old.named w.if-self-ne0.false
          (kept_by old.parser) old.waiting.items old.settled old.covered))
    ]
