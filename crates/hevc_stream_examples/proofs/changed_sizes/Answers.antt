use Rattle.std.proofs.Common.{ap}
use Rattle.hevc_walk.specs.OrderCounts.{nearest}
use Rattle.hevc_walk.specs.Pictures.{head, order_count_in_range}
use Rattle.hevc_walk.specs.Buffer.{due_outputs, needs_additional_bumping, needs_bumping, with_stored}
use Rattle.hevc_walk.specs.ReferenceSets.{reference_set, with_marks}
use Rattle.hevc_walk.specs.ReferenceLists.{ref_pic_list0, ref_pic_list1}
use Rattle.hevc_walk.specs.Walk.{finish, store_picture, change_format, begin_picture, make_room, start_decoding}
use Rattle.hevc_walk.specs.Results.{verdict}
use Rattle.hevc_walk_examples.specs.Streams.{told_outputs}
use Rattle.hevc_stream_examples.proofs.Computed.{computed}
use Rattle.hevc_stream_examples.proofs.changed_sizes.Goals as goal

pub returns-clause-resized : goal.returns-clause-resized
returns-clause-resized c = computed.resized

pub returns-clause-mid_picture : goal.returns-clause-mid_picture
returns-clause-mid_picture c = computed.mid_picture

pub returns-clause-outputs : goal.returns-clause-outputs
unfolding head order_count_in_range nearest due_outputs needs_additional_bumping needs_bumping with_stored
    reference_set with_marks ref_pic_list0 ref_pic_list1 finish store_picture change_format begin_picture
    make_room start_decoding
returns-clause-outputs c = ap told_outputs computed.resized

pub returns-clause-mid_picture_verdict : goal.returns-clause-mid_picture_verdict
unfolding head order_count_in_range nearest due_outputs needs_additional_bumping needs_bumping with_stored
    reference_set with_marks ref_pic_list0 ref_pic_list1 finish store_picture change_format begin_picture
    make_room start_decoding
returns-clause-mid_picture_verdict c = ap verdict computed.mid_picture
