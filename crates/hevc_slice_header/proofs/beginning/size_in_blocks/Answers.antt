use Rattle.hevc_slice_header.proofs.PictureSizes.{size_range}
use Rattle.hevc_slice_header.proofs.beginning.size_in_blocks.Goals as goal

pub returns-clause-range : goal.returns-clause-range
returns-clause-range c = size_range c.args.sps.now
