use Rattle.std.proofs.Common.{refl}
use Rattle.hevc_walk.specs.OrderCounts.{nearest}
use Rattle.hevc_walk.specs.Pictures.{head, order_count_in_range}
use Rattle.hevc_walk.specs.Buffer.{due_outputs, needs_additional_bumping, needs_bumping, with_stored}
use Rattle.hevc_walk.specs.ReferenceSets.{reference_set, with_marks}
use Rattle.hevc_walk.specs.ReferenceLists.{ref_pic_list0, ref_pic_list1}
use Rattle.hevc_walk.specs.Walk.{finish, store_picture, change_format, begin_picture, make_room, start_decoding}
use Rattle.hevc_check_laws.proofs.rows.first_is_named.Goals as goal

pub returns-clause-changed_and_latency : goal.returns-clause-changed_and_latency
unfolding head order_count_in_range nearest due_outputs needs_additional_bumping needs_bumping with_stored
    reference_set with_marks ref_pic_list0 ref_pic_list1 finish store_picture change_format begin_picture make_room
    start_decoding
returns-clause-changed_and_latency c = refl

pub returns-clause-latency_and_count : goal.returns-clause-latency_and_count
unfolding head order_count_in_range nearest due_outputs needs_additional_bumping needs_bumping with_stored
    reference_set with_marks ref_pic_list0 ref_pic_list1 finish store_picture change_format begin_picture make_room
    start_decoding
returns-clause-latency_and_count c = refl

pub returns-clause-latency_and_discards : goal.returns-clause-latency_and_discards
unfolding head order_count_in_range nearest due_outputs needs_additional_bumping needs_bumping with_stored
    reference_set with_marks ref_pic_list0 ref_pic_list1 finish store_picture change_format begin_picture make_room
    start_decoding
returns-clause-latency_and_discards c = refl

pub returns-clause-count_at_latency : goal.returns-clause-count_at_latency
unfolding head order_count_in_range nearest due_outputs needs_additional_bumping needs_bumping with_stored
    reference_set with_marks ref_pic_list0 ref_pic_list1 finish store_picture change_format begin_picture make_room
    start_decoding
returns-clause-count_at_latency c = refl

pub returns-clause-full_and_reorder : goal.returns-clause-full_and_reorder
unfolding head order_count_in_range nearest due_outputs needs_additional_bumping needs_bumping with_stored
    reference_set with_marks ref_pic_list0 ref_pic_list1 finish store_picture change_format begin_picture make_room
    start_decoding
returns-clause-full_and_reorder c = refl

pub returns-clause-full_and_reorder_order : goal.returns-clause-full_and_reorder_order
unfolding head order_count_in_range nearest due_outputs needs_additional_bumping needs_bumping with_stored
    reference_set with_marks ref_pic_list0 ref_pic_list1 finish store_picture change_format begin_picture make_room
    start_decoding
returns-clause-full_and_reorder_order c = refl

pub returns-clause-count_and_full : goal.returns-clause-count_and_full
unfolding head order_count_in_range nearest due_outputs needs_additional_bumping needs_bumping with_stored
    reference_set with_marks ref_pic_list0 ref_pic_list1 finish store_picture change_format begin_picture make_room
    start_decoding
returns-clause-count_and_full c = refl
