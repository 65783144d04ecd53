use Rattle.std.proofs.Common.{refl}
use Rattle.hevc_walk.specs.OrderCounts.{nearest}
use Rattle.hevc_walk.specs.Pictures.{head, order_count_in_range}
use Rattle.hevc_walk.specs.Buffer.{due_outputs, needs_additional_bumping, needs_bumping, with_stored}
use Rattle.hevc_walk.specs.ReferenceSets.{reference_set, with_marks}
use Rattle.hevc_walk.specs.ReferenceLists.{ref_pic_list0, ref_pic_list1}
use Rattle.hevc_walk.specs.Walk.{finish, store_picture, change_format, begin_picture, make_room, start_decoding}
use Rattle.hevc_check_laws.proofs.rows.skipped_pictures.Goals as goal

pub returns-clause-skipped : goal.returns-clause-skipped
unfolding head order_count_in_range nearest due_outputs needs_additional_bumping needs_bumping with_stored
    reference_set with_marks ref_pic_list0 ref_pic_list1 finish store_picture change_format begin_picture make_room
    start_decoding
returns-clause-skipped c = refl

pub returns-clause-changed : goal.returns-clause-changed
unfolding head order_count_in_range nearest due_outputs needs_additional_bumping needs_bumping with_stored
    reference_set with_marks ref_pic_list0 ref_pic_list1 finish store_picture change_format begin_picture make_room
    start_decoding
returns-clause-changed c = refl

pub returns-clause-changed_order : goal.returns-clause-changed_order
unfolding head order_count_in_range nearest due_outputs needs_additional_bumping needs_bumping with_stored
    reference_set with_marks ref_pic_list0 ref_pic_list1 finish store_picture change_format begin_picture make_room
    start_decoding
returns-clause-changed_order c = refl

pub returns-clause-same_count : goal.returns-clause-same_count
unfolding head order_count_in_range nearest due_outputs needs_additional_bumping needs_bumping with_stored
    reference_set with_marks ref_pic_list0 ref_pic_list1 finish store_picture change_format begin_picture make_room
    start_decoding
returns-clause-same_count c = refl

pub returns-clause-same_count_order : goal.returns-clause-same_count_order
unfolding head order_count_in_range nearest due_outputs needs_additional_bumping needs_bumping with_stored
    reference_set with_marks ref_pic_list0 ref_pic_list1 finish store_picture change_format begin_picture make_room
    start_decoding
returns-clause-same_count_order c = refl

pub returns-clause-full_and_reorder : goal.returns-clause-full_and_reorder
unfolding head order_count_in_range nearest due_outputs needs_additional_bumping needs_bumping with_stored
    reference_set with_marks ref_pic_list0 ref_pic_list1 finish store_picture change_format begin_picture make_room
    start_decoding
returns-clause-full_and_reorder c = refl

pub returns-clause-full : goal.returns-clause-full
unfolding head order_count_in_range nearest due_outputs needs_additional_bumping needs_bumping with_stored
    reference_set with_marks ref_pic_list0 ref_pic_list1 finish store_picture change_format begin_picture make_room
    start_decoding
returns-clause-full c = refl

pub returns-clause-full_order : goal.returns-clause-full_order
unfolding head order_count_in_range nearest due_outputs needs_additional_bumping needs_bumping with_stored
    reference_set with_marks ref_pic_list0 ref_pic_list1 finish store_picture change_format begin_picture make_room
    start_decoding
returns-clause-full_order c = refl
