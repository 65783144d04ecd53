use Rattle.std.proofs.Common.{refl}
use Rattle.hevc_walk.specs.OrderCounts.{nearest}
use Rattle.hevc_walk.specs.Pictures.{head, order_count_in_range}
use Rattle.hevc_walk.specs.Buffer.{due_outputs, needs_additional_bumping, needs_bumping, with_stored}
use Rattle.hevc_walk.specs.ReferenceSets.{reference_set, with_marks}
use Rattle.hevc_walk.specs.ReferenceLists.{ref_pic_list0, ref_pic_list1}
use Rattle.hevc_walk.specs.Walk.{finish, store_picture, change_format, begin_picture, make_room, start_decoding}
use Rattle.hevc_decoder_examples.proofs.parts.what_comes.Goals as goal

pub returns-clause-handed : goal.returns-clause-handed
unfolding head order_count_in_range nearest due_outputs needs_additional_bumping needs_bumping with_stored
    reference_set with_marks ref_pic_list0 ref_pic_list1 finish store_picture change_format begin_picture
    make_room start_decoding
returns-clause-handed c = refl

pub returns-clause-unhanded : goal.returns-clause-unhanded
unfolding head order_count_in_range nearest due_outputs needs_additional_bumping needs_bumping with_stored
    reference_set with_marks ref_pic_list0 ref_pic_list1 finish store_picture change_format begin_picture
    make_room start_decoding
returns-clause-unhanded c = λ is. cc is

pub returns-clause-one_to_one : goal.returns-clause-one_to_one
returns-clause-one_to_one c = refl

pub returns-clause-none_to_one : goal.returns-clause-none_to_one
returns-clause-none_to_one c = λ is. cc is

pub returns-clause-timed : goal.returns-clause-timed
returns-clause-timed c = (refl, (tt, tt))

pub returns-clause-late : goal.returns-clause-late
returns-clause-late c = λ h. absurd (cc h.0)
