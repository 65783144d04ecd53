use Rattle.std.proofs.Common.{ap, ℕ, Option}
use Rattle.hevc_records.specs.Pps.{PlainPps}
use Rattle.hevc_picture_slice.specs.Pps.{plain_pps}
use Rattle.hevc_parser.specs.Kept.{kept_by}
use Rattle.hevc_parser.proofs.Keeping.{kept_behind}
use Rattle.hevc_parser.proofs.parser.Parser.keep_picture_set.Goals as goal

pub returns-clause-kept : goal.returns-clause-kept
returns-clause-kept c =
    ap (λ (sets : ℕ → Option PlainPps). record (kept_by c.args.self.now) { picture_sets = sets })
    (kept_behind c.args.set plain_pps c.args.self.now.picture_sets c.insert.new.self
    c.args.set.pic_parameter_set_id c.in_ok-insert.ensures.updates)
