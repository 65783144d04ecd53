use Rattle.hevc_sequence_set.specs.Sps.{plain_sps}
use Rattle.hevc_picture_slice.specs.SliceHeader.{plain_slice_header}
use Rattle.hevc_write_slice_header.proofs.LongTerm.{picture_written}
use Rattle.hevc_write_slice_header.proofs.long_term.write_long_term_picture.Goals as goal

pub returns : goal.returns
returns c = picture_written (plain_sps c.args.sps.now)
    (plain_slice_header c.args.x.now) c.args.i c.in_ok-write_place.ensures c.in_ok-write_cycles.ensures
