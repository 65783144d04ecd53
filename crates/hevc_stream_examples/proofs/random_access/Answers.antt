use Rattle.std.proofs.Common.{ap}
use Rattle.hevc_walk.specs.OrderCounts.{nearest}
use Rattle.hevc_walk.specs.Pictures.{head, order_count_in_range}
use Rattle.hevc_walk.specs.Buffer.{due_outputs, needs_additional_bumping, needs_bumping, with_stored}
use Rattle.hevc_walk.specs.ReferenceSets.{reference_set, with_marks}
use Rattle.hevc_walk.specs.ReferenceLists.{ref_pic_list0, ref_pic_list1}
use Rattle.hevc_walk.specs.Walk.{finish, store_picture, change_format, begin_picture, make_room, start_decoding}
use Rattle.hevc_walk_examples.specs.Streams.{told_outputs}
use Rattle.hevc_stream_examples.proofs.Computed.{computed}
use Rattle.hevc_stream_examples.proofs.random_access.Goals as goal

pub returns-clause-leading : goal.returns-clause-leading
returns-clause-leading c = computed.leading

pub returns-clause-sequence_ends : goal.returns-clause-sequence_ends
returns-clause-sequence_ends c = computed.sequence_ends

pub returns-clause-bitstream_ends : goal.returns-clause-bitstream_ends
returns-clause-bitstream_ends c = computed.bitstream_ends

pub returns-clause-outputs : goal.returns-clause-outputs
unfolding head order_count_in_range nearest due_outputs needs_additional_bumping needs_bumping with_stored
    reference_set with_marks ref_pic_list0 ref_pic_list1 finish store_picture change_format begin_picture
    make_room start_decoding
returns-clause-outputs c = ap told_outputs computed.leading
