use Rattle.std.proofs.Common.{ℕ, List, ap, ◌∙◌, Option, None}
use Rattle.std.specs.BTreeMap.{get, is_at}
use Rattle.std.specs.Map.{lookup}
use Rattle.std.specs.Ordering.{nat_cmp}
use Rattle.std.specs.Prelude.{option_map}
use Rattle.hevc_records.specs.Sps.{PlainSps}
use Rattle.hevc_stream.specs.Kept.{with_set}
use Rattle.hevc_parser.proofs.Keeping.{kept_behind}
use Rattle.hevc_sequence_set.specs.declared.sps.Sps.{Sps}
use Rattle.hevc_sequence_set.specs.Sps.{plain_sps}
use Rattle.hevc_write.proofs.picture_unit.alone.Goals as goal

pub returns : goal.returns
returns c =
    let id = c.args.sps.now.seq_parameter_set_id in
    let none : Path (ℕ → Option PlainSps) (λ k. option_map plain_sps (get nat_cmp c.new-sets.result k))
    (λ k. None) =
    ap (λ (es : List (ℕ × Sps)). λ (k : ℕ). option_map plain_sps (lookup (is_at (nat_cmp k)) es))
    c.new-sets.ensures.empty in
    kept_behind c.in_ok-set.set plain_sps c.new-sets.result c.insert.new.self id c.in_ok-insert.ensures.updates
    ∙ ap (λ (s : Sps). with_set id (plain_sps s)
    (λ k. option_map plain_sps (get nat_cmp c.new-sets.result k))) (c.in_ok-set.ensures ∙ c.in_ok-try_clone.ensures)
    ∙ ap (λ (kept : ℕ → Option PlainSps). with_set id (plain_sps c.args.sps.now) kept) none
