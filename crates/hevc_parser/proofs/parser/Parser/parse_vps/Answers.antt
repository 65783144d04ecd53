use Rattle.std.proofs.Common.{refl}
use Rattle.hevc_spec.specs.Payload.{payload}
use Rattle.hevc_spec.specs.Table.{read}
use Rattle.hevc_bits.specs.FoundUnit.{bytes_of}
use Rattle.hevc_tables.specs.VpsTable.{video_parameter_set}
use Rattle.hevc_video_set.specs.Vps.{plain_vps}
use Rattle.hevc_parser.proofs.Lent.{lent_reads, lent_type, lent_names, means_by}
use Rattle.hevc_parser.proofs.parser.Parser.parse_vps.Goals as goal

pub returns : goal.returns
returns c = (
  (refl, (λ _. tt), c.lend_video_set.follows.holds-at-none),
  record {
    keeps = tt;
    unit = record {
      wrong_type =
          lent_type c.in_ok-set.set c.lend_video_set.result c.lend_video_set.ensures.refused
          c.in_ok-set.ensures.unit.wrong_type;
      read = λ is. lent_reads plain_vps c.in_ok-set.set c.lend_video_set.result
          (read video_parameter_set (payload (bytes_of c.args.nalu.now))) c.lend_video_set.ensures.same
          c.lend_video_set.ensures.refused (c.in_ok-set.ensures.unit.read is);
      means = λ is. means_by _ video_parameter_set
          (payload (bytes_of c.args.nalu.now)) c.lend_video_set.result
          (lent_reads plain_vps c.in_ok-set.set c.lend_video_set.result
          (read video_parameter_set (payload (bytes_of c.args.nalu.now))) c.lend_video_set.ensures.same
          c.lend_video_set.ensures.refused (c.in_ok-set.ensures.unit.read is));
    };
    names_no_set = lent_names c.lend_video_set.result c.lend_video_set.ensures.refused;
  },
)
