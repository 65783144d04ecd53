use Rattle.std.proofs.Common.{refl, arith}
use Rattle.hevc_walk.specs.OrderCounts.{nearest}
use Rattle.hevc_walk.specs.Pictures.{head, order_count_in_range}
use Rattle.hevc_walk.specs.Buffer.{due_outputs, needs_additional_bumping, needs_bumping, with_stored}
use Rattle.hevc_walk.specs.ReferenceSets.{reference_set, with_marks}
use Rattle.hevc_walk.specs.ReferenceLists.{ref_pic_list0, ref_pic_list1}
use Rattle.hevc_walk.specs.Walk.{finish, store_picture, change_format, begin_picture, make_room, start_decoding}
use Rattle.hevc_walk_splice.proofs.Points as points
use Rattle.hevc_walk_splice.proofs.second_point.Goals as goal

pub returns-clause-real : goal.returns-clause-real
returns-clause-real c = points.real

pub returns-clause-sets : goal.returns-clause-sets
returns-clause-sets c = points.sets

pub returns-clause-verdict : goal.returns-clause-verdict
unfolding head order_count_in_range nearest due_outputs needs_additional_bumping needs_bumping with_stored
    reference_set with_marks ref_pic_list0 ref_pic_list1 finish store_picture change_format begin_picture
    make_room start_decoding
returns-clause-verdict c = refl

pub returns-clause-point : goal.returns-clause-point
unfolding head order_count_in_range nearest due_outputs needs_additional_bumping needs_bumping with_stored
    reference_set with_marks ref_pic_list0 ref_pic_list1 finish store_picture change_format begin_picture
    make_room start_decoding
returns-clause-point c =
    (_, record { among = (1, omega arith, refl); nal_unit_type = refl; temporal_id = refl }, refl, refl, refl)

pub returns-clause-whole : goal.returns-clause-whole
unfolding head order_count_in_range nearest due_outputs needs_additional_bumping needs_bumping with_stored
    reference_set with_marks ref_pic_list0 ref_pic_list1 finish store_picture change_format begin_picture
    make_room start_decoding
returns-clause-whole c = refl
