use Rattle.std.proofs.Common.{◌≡◌, ◌==◌, ◌||◌, ℕ, true, Some, Err, List, refl, ap, sym, subst, rules}
use Rattle.std.specs.Prelude.{IfSome}
use Rattle.std.specs.List.{list_all}
use Rattle.hevc_spec.specs.Payload.{payload}
use Rattle.hevc_bits.specs.FoundUnit.{bytes_of}
use Rattle.hevc_sequence_set.specs.declared.sps.Sps.{Sps}
use Rattle.hevc_sequence_set.specs.Sps.{plain_sps}
use Rattle.std.specs.Prelude.{option_map}
use Rattle.hevc_options.specs.Options.{options_of}
use Rattle.hevc_stream.specs.Kept.{Kept}
use Rattle.hevc_parser.specs.Kept.{kept_by, sequence_set_by}
use Rattle.hevc_kept_sets.specs.Kept.{options_in}
use Rattle.hevc_kept_sets.specs.Settled.{has_id, is_settled}
use Rattle.hevc_kept_sets.proofs.Again.{settled_behind_set, settled_again}
use Rattle.hevc_kept_sets.proofs.ReadUnits.{reads_it, read_now}
use Rattle.hevc_kept_sets.proofs.SetIds.{sequence_set_id}
use Rattle.hevc_kept_sets.proofs.Sets.{sequence_set_kept, sequence_set_refused}
use Rattle.hevc_kept_sets.proofs.kept_sets.KeptSets.read_sequence_set.Goals as goal
use Rattle.hevc_kept_sets.proofs.kept_sets.KeptSets.read_sequence_set.Goals.{then-branch, else-branch}

pub with_id-self-requires : goal.with_id-self-requires
with_id-self-requires c =
    let reads = c.in_ok-set.ensures.unit.read c.requires.typed in
    rw c.get.ensures (sequence_set_id (payload (bytes_of c.args.nalu.now)) reads.0 (plain_sps c.in_ok-set.set) reads.1)

pub invariant_of-self-2 : goal.invariant_of-self-2
invariant_of-self-2 c =
    let self = c.args.self.now in
    let set = c.in_ok-set.set in
    let options = options_of self.options in
    let items = self.waiting.items in
    let reads = c.in_ok-set.ensures.unit.read c.requires.typed in
    let now = read_now (kept_by self.parser) (kept_by c.keep_sequence_set.new.self) (plain_sps set)
    (bytes_of c.args.nalu.now) c.copy_of.result
    (reads_it (bytes_of c.args.nalu.now) (plain_sps set) reads.0 reads.1) c.in_ok-keep_sequence_set.ensures.kept
    (subst (λ (bs : List ℕ). IfSome c.copy_of.result (λ u. u.bytes.items ≡ bs)) c.as_ref.ensures.value
    c.copy_of.ensures.bytes)
    (subst (λ (s : Sps). IfSome c.copy_of.result (λ u. u.id ≡ s.seq_parameter_set_id)) c.get.ensures
    c.copy_of.ensures.id) in
    elim c.if-branch.branch [
      | then-branch w ↦ rw w.self-is (record {
        repeated = now;
        wanted = self.wanted;
        covered = self.covered;
        settled = subst (λ (k : Kept). list_all (is_settled w.with_id-self.result options k) items ≡ true)
            (sym c.in_ok-keep_sequence_set.ensures.kept)
            (settled_behind_set options (plain_sps set) self.changed w.with_id-self.result
            (subst (λ (s : Sps). (k : ℕ)
            → has_id w.with_id-self.result k ≡ (k == s.seq_parameter_set_id || has_id self.changed k))
            c.get.ensures w.with_id-self.ensures) (kept_by self.parser) items self.settled);
      })
      | else-branch w ↦
          let same : sequence_set_by self.parser set.seq_parameter_set_id ≡ Some set = search rules in
          rw w.self-is (record {
            repeated = now;
            wanted = self.wanted;
            covered = self.covered;
            settled = settled_again options self.changed (plain_sps set) (kept_by self.parser)
                (kept_by c.keep_sequence_set.new.self)
                (ap (option_map plain_sps) same) c.in_ok-keep_sequence_set.ensures.kept items self.settled;
          })
    ]

pub returns-clause-keeps : goal.returns-clause-keeps
returns-clause-keeps c =
    let header = c.requires.parsed in
    rw c.get.ensures
    (sequence_set_kept (options_in c.args.self.now) (bytes_of c.args.nalu.now) c.args.nalu.now.header header
    c.requires.wanted c.args.self.now.waiting.items (kept_by c.args.self.now.parser)
    (kept_by c.keep_sequence_set.new.self) (plain_sps c.in_ok-set.set)
    (c.in_ok-set.ensures.unit.read c.requires.typed) c.requires.typed c.in_ok-keep_sequence_set.ensures.kept)

pub returns-in_err-set-clause-keeps : goal.returns-in_err-set-clause-keeps
returns-in_err-set-clause-keeps c =
    let header = c.requires.parsed in
    let is : c.from_residual.result ≡ Err c.in_err-set.field-0.0 = search rules in
    rw is (sequence_set_refused (options_in c.args.self.now)
    (bytes_of c.args.nalu.now) c.args.nalu.now.header header c.requires.wanted c.args.self.now.waiting.items
    (kept_by c.args.self.now.parser) (kept_by c.args.self.now.parser) c.in_err-set.field-0.0
    c.requires.typed (c.in_err-set.ensures.unit.read c.requires.typed) c.in_err-set.ensures.names_no_set refl)
