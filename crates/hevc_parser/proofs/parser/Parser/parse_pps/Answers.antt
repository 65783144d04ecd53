use Rattle.std.proofs.Common.{refl, ◌-◌}
use Rattle.hevc_spec.specs.Payload.{payload}
use Rattle.hevc_bits.specs.FoundUnit.{bytes_of}
use Rattle.hevc_records.specs.SetsById.{sets_by_id}
use Rattle.hevc_tables.specs.PpsTable.{picture_parameter_set}
use Rattle.hevc_sequence_set.specs.Sps.{plain_sps}
use Rattle.hevc_picture_slice.specs.Pps.{plain_pps}
use Rattle.hevc_parser.specs.Kept.{TilesCoverKept}
use Rattle.hevc_parser.proofs.Lent.{lent_reads, lent_type, lent_names_no_picture_set, lent_fact, means_by, is_type}
use Rattle.hevc_parser.proofs.Named.{named}
use Rattle.hevc_parser.proofs.parser.Parser.parse_pps.Goals as goal

pub lend_picture_set-requires : goal.lend_picture_set-requires
lend_picture_set-requires c =
    let h = c.in_ok-set.ensures.unit.read
    (is_type c.in_ok-set.set c.args.nalu.now.header.nal_unit_type 34 c.in_ok-set.ensures.unit.wrong_type) in
    named (sets_by_id plain_sps c.args.self.now.sequence_sets)
    (c.args.nalu.now.header.nuh_temporal_id_plus1 - 1) (payload (bytes_of c.args.nalu.now)) h.0
    (plain_pps c.in_ok-set.set) h.1

pub returns : goal.returns
returns c = (
  (refl, (λ _. tt), c.lend_picture_set.follows.holds-at-none),
  record {
    keeps = tt;
    unit = record {
      wrong_type =
          lent_type c.in_ok-set.set c.lend_picture_set.result c.lend_picture_set.ensures.refused
          c.in_ok-set.ensures.unit.wrong_type;
      read = λ is. lent_reads plain_pps c.in_ok-set.set c.lend_picture_set.result _
          c.lend_picture_set.ensures.same c.lend_picture_set.ensures.refused (c.in_ok-set.ensures.unit.read is);
      means = λ is. means_by _
          (picture_parameter_set (c.args.nalu.now.header.nuh_temporal_id_plus1 - 1)
          (sets_by_id plain_sps c.args.self.now.sequence_sets))
          (payload (bytes_of c.args.nalu.now)) c.lend_picture_set.result
          (lent_reads plain_pps c.in_ok-set.set c.lend_picture_set.result _ c.lend_picture_set.ensures.same
          c.lend_picture_set.ensures.refused (c.in_ok-set.ensures.unit.read is));
    };
    names = lent_names_no_picture_set c.lend_picture_set.result c.lend_picture_set.ensures.refused;
    tiles = lent_fact
        (λ set. TilesCoverKept c.args.self.now (plain_pps set)) c.in_ok-set.set c.lend_picture_set.result
        c.lend_picture_set.ensures.same c.in_ok-set.ensures.tiles;
  },
)
