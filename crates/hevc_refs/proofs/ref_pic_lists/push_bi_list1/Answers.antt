use Rattle.std.proofs.Common.{rules}
use Rattle.hevc_refs.proofs.ref_pic_lists.push_bi_list1.Goals as goal

pub returns : goal.returns
returns c = search rules
