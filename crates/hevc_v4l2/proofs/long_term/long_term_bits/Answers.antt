use Rattle.std.proofs.Common.{arith, ◌+◌}
use Rattle.hevc_sequence_set.specs.Sps.{plain_sps}
use Rattle.hevc_picture_slice.specs.SliceHeader.{plain_slice_header}
use Rattle.hevc_v4l2.specs.LongTerm.{picture_bits}
use Rattle.hevc_v4l2.proofs.Sums.{sum_more}
use Rattle.hevc_v4l2.proofs.long_term.long_term_bits.Goals as goal

pub loop-i-preserved : goal.loop-i-preserved
loop-i-preserved c = record {
  counted =
      sum_more (picture_bits (plain_sps c.args.sps.now) (plain_slice_header c.args.header.now))
      c.loop-i.i c.loop-i.bits (c.candidate_count_bits.result + c.ue_bits.result)
      c.picture_bits-bits.result c.loop-i.invariant.counted c.picture_bits-bits.ensures.value;
  few = omega arith;
}
