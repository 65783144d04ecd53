use Rattle.std.proofs.Common.{ap}
use Rattle.hevc_walk.specs.OrderCounts.{nearest}
use Rattle.hevc_walk.specs.Pictures.{head, order_count_in_range}
use Rattle.hevc_walk.specs.Buffer.{due_outputs, needs_additional_bumping, needs_bumping, with_stored}
use Rattle.hevc_walk.specs.ReferenceSets.{reference_set, with_marks}
use Rattle.hevc_walk.specs.ReferenceLists.{ref_pic_list0, ref_pic_list1}
use Rattle.hevc_walk.specs.Walk.{finish, store_picture, change_format, begin_picture, make_room, start_decoding}
use Rattle.hevc_walk.specs.Results.{verdict}
use Rattle.hevc_walk_examples.specs.Streams.{new_pictures, told_outputs}
use Rattle.hevc_stream_examples.proofs.Computed.{computed}
use Rattle.hevc_stream_examples.proofs.options.Goals as goal

pub returns-clause-as_cra : goal.returns-clause-as_cra
returns-clause-as_cra c = computed.as_cra

pub returns-clause-as_bla : goal.returns-clause-as_bla
returns-clause-as_bla c = computed.as_bla

pub returns-clause-lowest : goal.returns-clause-lowest
returns-clause-lowest c = computed.lowest

pub returns-clause-with_sub_layer : goal.returns-clause-with_sub_layer
returns-clause-with_sub_layer c = computed.with_sub_layer

pub returns-clause-as_cra_outputs : goal.returns-clause-as_cra_outputs
unfolding head order_count_in_range nearest due_outputs needs_additional_bumping needs_bumping with_stored
    reference_set with_marks ref_pic_list0 ref_pic_list1 finish store_picture change_format begin_picture
    make_room start_decoding
returns-clause-as_cra_outputs c = ap told_outputs computed.as_cra

pub returns-clause-as_bla_outputs : goal.returns-clause-as_bla_outputs
unfolding head order_count_in_range nearest due_outputs needs_additional_bumping needs_bumping with_stored
    reference_set with_marks ref_pic_list0 ref_pic_list1 finish store_picture change_format begin_picture
    make_room start_decoding
returns-clause-as_bla_outputs c = ap told_outputs computed.as_bla

pub returns-clause-as_bla_verdict : goal.returns-clause-as_bla_verdict
unfolding head order_count_in_range nearest due_outputs needs_additional_bumping needs_bumping with_stored
    reference_set with_marks ref_pic_list0 ref_pic_list1 finish store_picture change_format begin_picture
    make_room start_decoding
returns-clause-as_bla_verdict c = ap verdict computed.as_bla

pub returns-clause-lowest_outputs : goal.returns-clause-lowest_outputs
unfolding head order_count_in_range nearest due_outputs needs_additional_bumping needs_bumping with_stored
    reference_set with_marks ref_pic_list0 ref_pic_list1 finish store_picture change_format begin_picture
    make_room start_decoding
returns-clause-lowest_outputs c = ap told_outputs computed.lowest

pub returns-clause-lowest_verdict : goal.returns-clause-lowest_verdict
unfolding head order_count_in_range nearest due_outputs needs_additional_bumping needs_bumping with_stored
    reference_set with_marks ref_pic_list0 ref_pic_list1 finish store_picture change_format begin_picture
    make_room start_decoding
returns-clause-lowest_verdict c = ap verdict computed.lowest

pub returns-clause-with_sub_layer_pictures : goal.returns-clause-with_sub_layer_pictures
unfolding head order_count_in_range nearest due_outputs needs_additional_bumping needs_bumping with_stored
    reference_set with_marks ref_pic_list0 ref_pic_list1 finish store_picture change_format begin_picture
    make_room start_decoding
returns-clause-with_sub_layer_pictures c = ap new_pictures computed.with_sub_layer
