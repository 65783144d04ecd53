use Rattle.std.proofs.Common.{refl}
use Rattle.hevc_walk.specs.OrderCounts.{nearest}
use Rattle.hevc_walk.specs.Pictures.{head, order_count_in_range}
use Rattle.hevc_walk.specs.Buffer.{due_outputs, needs_additional_bumping, needs_bumping, with_stored}
use Rattle.hevc_walk.specs.ReferenceSets.{reference_set, with_marks}
use Rattle.hevc_walk.specs.ReferenceLists.{ref_pic_list0, ref_pic_list1}
use Rattle.hevc_walk.specs.Walk.{finish, store_picture, change_format, begin_picture, make_room, start_decoding}
use Rattle.hevc_check_laws.proofs.rows.broken_bounds.Goals as goal

pub returns-clause-changed_format : goal.returns-clause-changed_format
unfolding head order_count_in_range nearest due_outputs needs_additional_bumping needs_bumping with_stored
    reference_set with_marks ref_pic_list0 ref_pic_list1 finish store_picture change_format begin_picture make_room
    start_decoding
returns-clause-changed_format c = refl

pub returns-clause-latency : goal.returns-clause-latency
unfolding head order_count_in_range nearest due_outputs needs_additional_bumping needs_bumping with_stored
    reference_set with_marks ref_pic_list0 ref_pic_list1 finish store_picture change_format begin_picture make_room
    start_decoding
returns-clause-latency c = refl

pub returns-clause-same_count : goal.returns-clause-same_count
unfolding head order_count_in_range nearest due_outputs needs_additional_bumping needs_bumping with_stored
    reference_set with_marks ref_pic_list0 ref_pic_list1 finish store_picture change_format begin_picture make_room
    start_decoding
returns-clause-same_count c = refl

pub returns-clause-full : goal.returns-clause-full
unfolding head order_count_in_range nearest due_outputs needs_additional_bumping needs_bumping with_stored
    reference_set with_marks ref_pic_list0 ref_pic_list1 finish store_picture change_format begin_picture make_room
    start_decoding
returns-clause-full c = refl

pub returns-clause-discards : goal.returns-clause-discards
unfolding head order_count_in_range nearest due_outputs needs_additional_bumping needs_bumping with_stored
    reference_set with_marks ref_pic_list0 ref_pic_list1 finish store_picture change_format begin_picture make_room
    start_decoding
returns-clause-discards c = refl

pub returns-clause-discards_by_flag : goal.returns-clause-discards_by_flag
unfolding head order_count_in_range nearest due_outputs needs_additional_bumping needs_bumping with_stored
    reference_set with_marks ref_pic_list0 ref_pic_list1 finish store_picture change_format begin_picture make_room
    start_decoding
returns-clause-discards_by_flag c = refl

pub returns-clause-reorder : goal.returns-clause-reorder
unfolding head order_count_in_range nearest due_outputs needs_additional_bumping needs_bumping with_stored
    reference_set with_marks ref_pic_list0 ref_pic_list1 finish store_picture change_format begin_picture make_room
    start_decoding
returns-clause-reorder c = refl
