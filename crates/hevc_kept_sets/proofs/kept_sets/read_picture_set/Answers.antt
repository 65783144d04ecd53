use Rattle.std.proofs.Common.{ap}
use Rattle.hevc_picture_slice.specs.Pps.{plain_pps}
use Rattle.hevc_stream.specs.Kept.{with_picture_set}
use Rattle.hevc_stream.specs.Contents.{picture_set_read}
use Rattle.hevc_kept_sets.proofs.Sets.{kept_where_ok}
use Rattle.hevc_kept_sets.proofs.kept_sets.read_picture_set.Goals as goal

pub returns-in-Ok : goal.returns-in-Ok
returns-in-Ok c =
    let reads = c.in-Ok.ensures.unit.read c.requires.typed in (
      plain_pps c.in-Ok.field-0.now,
      ap picture_set_read reads.1,
      kept_where_ok
          (λ set. with_picture_set (plain_pps set.now)) c.parse_pps.result c.in-Ok.field-0 c.args.parser.now
          c.parse_pps.follows.lender-at-none c.in-Ok.is c.parse_pps.follows.holds-at-none,
    )
