use Rattle.std.proofs.Common.{refl}
use Rattle.hevc_walk.specs.OrderCounts.{nearest}
use Rattle.hevc_walk.specs.Pictures.{head, order_count_in_range}
use Rattle.hevc_walk.specs.Buffer.{due_outputs, needs_additional_bumping, needs_bumping, with_stored}
use Rattle.hevc_walk.specs.ReferenceSets.{reference_set, with_marks}
use Rattle.hevc_walk.specs.ReferenceLists.{ref_pic_list0, ref_pic_list1}
use Rattle.hevc_walk.specs.Walk.{finish, store_picture, change_format, begin_picture, make_room, start_decoding}
use Rattle.hevc_check_laws.proofs.rows.hidden_pictures.Goals as goal

pub returns-clause-hidden_full : goal.returns-clause-hidden_full
unfolding head order_count_in_range nearest due_outputs needs_additional_bumping needs_bumping with_stored
    reference_set with_marks ref_pic_list0 ref_pic_list1 finish store_picture change_format begin_picture make_room
    start_decoding
returns-clause-hidden_full c = refl

pub returns-clause-hidden : goal.returns-clause-hidden
unfolding head order_count_in_range nearest due_outputs needs_additional_bumping needs_bumping with_stored
    reference_set with_marks ref_pic_list0 ref_pic_list1 finish store_picture change_format begin_picture make_room
    start_decoding
returns-clause-hidden c = refl

pub returns-clause-hidden_order : goal.returns-clause-hidden_order
unfolding head order_count_in_range nearest due_outputs needs_additional_bumping needs_bumping with_stored
    reference_set with_marks ref_pic_list0 ref_pic_list1 finish store_picture change_format begin_picture make_room
    start_decoding
returns-clause-hidden_order c = refl

pub returns-clause-hidden_count : goal.returns-clause-hidden_count
unfolding head order_count_in_range nearest due_outputs needs_additional_bumping needs_bumping with_stored
    reference_set with_marks ref_pic_list0 ref_pic_list1 finish store_picture change_format begin_picture make_room
    start_decoding
returns-clause-hidden_count c = refl

pub returns-clause-hidden_count_order : goal.returns-clause-hidden_count_order
unfolding head order_count_in_range nearest due_outputs needs_additional_bumping needs_bumping with_stored
    reference_set with_marks ref_pic_list0 ref_pic_list1 finish store_picture change_format begin_picture make_room
    start_decoding
returns-clause-hidden_count_order c = refl
