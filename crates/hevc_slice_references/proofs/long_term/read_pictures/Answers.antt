use Rattle.std.proofs.Common.{◌+◌, ◌*◌, ◌^◌, arith, rules}
use Rattle.hevc_elements.specs.Scan.{left, scanned}
use Rattle.hevc_elements.proofs.Loops.{repeat_more, repeat_done}
use Rattle.hevc_tables.specs.SliceHeaderTable.{long_term_picture, long_term_pictures}
use Rattle.hevc_sequence_set.specs.Sps.{plain_sps}
use Rattle.hevc_picture_slice.specs.SliceHeader.{plain_slice_header}
use Rattle.hevc_slice_references.proofs.Cycles.{cycles_fit}
use Rattle.hevc_slice_references.proofs.long_term.read_pictures.Goals as goal

pub loop-i-preserved : goal.loop-i-preserved
loop-i-preserved c =
    let body = long_term_picture (plain_sps c.args.sps.now) in
    let total = scanned (long_term_pictures (plain_sps c.args.sps.now) (plain_slice_header c.args.h.now))
    c.args.r.now in
    record {
      same = repeat_more body c.loop-i.i c.from-count.result
          (plain_slice_header c.loop-i.h) c.loop-i.r.telling (left c.loop-i.r) total c.loop-i.invariant.same
          (plain_slice_header c.read_picture.new.h) c.read_picture.new.r.telling (left c.read_picture.new.r)
          (grind arith) c.in_ok-read_picture.ensures.fills.reads;
      few = cycles_fit c.loop-i.i (plain_slice_header c.read_picture.new.h)
          ((c.loop-i.i + 1) * 2 ^ 28) c.in_ok-read_picture.ensures.few;
      ahead = search rules;
    }

pub returns : goal.returns
returns c =
    let body = long_term_picture (plain_sps c.args.sps.now) in
    let total = scanned (long_term_pictures (plain_sps c.args.sps.now) (plain_slice_header c.args.h.now))
    c.args.r.now in
    record {
      reads = repeat_done body c.loop-i.i c.from-count.result
          (plain_slice_header c.loop-i.h) c.loop-i.r.telling (left c.loop-i.r) total c.loop-i.invariant.same
          (grind arith);
      moves = c.loop-i.invariant.ahead;
    }
