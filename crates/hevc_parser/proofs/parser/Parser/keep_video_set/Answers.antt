use Rattle.std.proofs.Common.{ap, ℕ, Option}
use Rattle.hevc_records.specs.Vps.{PlainVps}
use Rattle.hevc_video_set.specs.Vps.{plain_vps}
use Rattle.hevc_parser.specs.Kept.{kept_by}
use Rattle.hevc_parser.proofs.Keeping.{kept_behind}
use Rattle.hevc_parser.proofs.parser.Parser.keep_video_set.Goals as goal

pub returns-clause-kept : goal.returns-clause-kept
returns-clause-kept c =
    ap (λ (sets : ℕ → Option PlainVps). record (kept_by c.args.self.now) { video_sets = sets })
    (kept_behind c.args.set plain_vps c.args.self.now.video_sets c.insert.new.self
    c.args.set.video_parameter_set_id c.in_ok-insert.ensures.updates)
