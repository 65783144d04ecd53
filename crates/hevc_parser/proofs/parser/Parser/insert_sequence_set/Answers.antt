use Rattle.std.proofs.Common.{ap, sym, subst, ◌∙◌, ℕ, Some, Bool, Option, List, length, not, ◌==◌}
use Rattle.hevc_sequence_set.specs.declared.sps.Sps.{Sps}
use Rattle.std.specs.BTreeMap.{btree_map_len, Updates}
use Rattle.std.specs.Ordering.{nat_cmp}
use Rattle.hevc_records.specs.Sps.{PlainSps}
use Rattle.hevc_sequence_set.specs.Sps.{plain_sps}
use Rattle.hevc_stream.specs.Kept.{with_sequence_set}
use Rattle.hevc_parser.specs.Kept.{kept_by}
use Rattle.hevc_parser.proofs.Keeping.{kept_behind, own_after, named_after, some_kept, found_in, if_err}
use Rattle.hevc_parser.proofs.parser.Parser.insert_sequence_set.Goals as goal

pub invariant_of-self : goal.invariant_of-self
invariant_of-self c = record {
  video_ids = c.args.self.now.video_ids;
  sequence_ids =
      own_after c.args.set
      (λ set. set.seq_parameter_set_id) c.args.self.now.sequence_sets c.insert.new.self
      c.get.result.now.seq_parameter_set_id c.insert.result
      (ap (λ (set : Sps). set.seq_parameter_set_id) (sym c.get.ensures)) c.insert.ensures.updates
      c.insert.ensures.err c.args.self.now.sequence_ids;
  picture_ids = c.args.self.now.picture_ids;
  named = named_after c.args.set c.args.self.now.sequence_sets c.insert.new.self
      c.args.self.now.picture_sets c.get.result.now.seq_parameter_set_id c.insert.result
      c.insert.ensures.updates c.insert.ensures.err c.args.self.now.named;
}

pub returns-clause-kept : goal.returns-clause-kept
returns-clause-kept c =
    let updates =
    subst (λ (set : Sps). Updates nat_cmp c.args.self.now.sequence_sets c.insert.new.self
    set.seq_parameter_set_id (Some c.args.set)) c.get.ensures c.in_ok-insert.ensures.updates in
    ap (λ (sets : ℕ → Option PlainSps). record (kept_by c.args.self.now) {
      sequence_sets = sets;
      has_sequence_set = not (btree_map_len c.insert.new.self == 0);
    })
    (kept_behind c.args.set plain_sps c.args.self.now.sequence_sets c.insert.new.self
    c.args.set.seq_parameter_set_id updates)
    ∙ ap (λ (is : Bool). record (with_sequence_set (plain_sps c.args.set) (kept_by c.args.self.now))
    { has_sequence_set = is })
    (some_kept c.args.self.now.sequence_sets c.insert.new.self c.args.set.seq_parameter_set_id c.args.set updates)

pub returns-in_err-insert-clause-stays : goal.returns-in_err-insert-clause-stays
returns-in_err-insert-clause-stays c =
    if_err c.from_residual.result
    (ap (λ (sets : List (ℕ × Sps)). record
    (kept_by c.args.self.now) {
      sequence_sets = found_in plain_sps sets;
      has_sequence_set = not (length sets == 0);
    }) c.in_err-insert.ensures.err)
