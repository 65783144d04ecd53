use Rattle.std.proofs.Common.{◌≡◌, ◌+◌, ◌*◌, ◌≤◌, map, sum}
use Rattle.std.specs.List.{range_with_len}
use Rattle.hevc_sequence_set.specs.Sps.{plain_sps}
use Rattle.hevc_picture_slice.specs.SliceHeader.{plain_slice_header}
use Rattle.hevc_v4l2.specs.LongTerm.{picture_bits}
use Rattle.hevc_v4l2.proofs.long_term.long_term_bits.Given as goal

abbrev pub invariant-loop-i : goal.invariant-loop-i
invariant-loop-i l = record {
  counted : l.bits ≡ l.initial.bits + sum
      (map (picture_bits (plain_sps l.sps) (plain_slice_header l.header)) (range_with_len 0 l.i));
  few : l.bits ≤ l.initial.bits + 96 * l.i;
}
