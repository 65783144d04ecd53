use Rattle.hevc_slice_header.proofs.PictureSizes.{few_parts}
use Rattle.hevc_slice_header.proofs.entry_points.most_entry_points.Goals as goal

pub returns-clause-few : goal.returns-clause-few
returns-clause-few c =
    rw (c.parts_across.ensures.value, c.parts_down.ensures.value) (few_parts c.args.sps.now c.args.pps.now)
