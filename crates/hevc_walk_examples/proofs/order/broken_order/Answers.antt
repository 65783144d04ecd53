use Rattle.std.proofs.Common.{refl}
use Rattle.hevc_walk.specs.OrderCounts.{nearest}
use Rattle.hevc_walk.specs.Pictures.{head, order_count_in_range}
use Rattle.hevc_walk.specs.Buffer.{due_outputs, needs_additional_bumping, needs_bumping, with_stored}
use Rattle.hevc_walk.specs.ReferenceSets.{reference_set, with_marks}
use Rattle.hevc_walk.specs.ReferenceLists.{ref_pic_list0, ref_pic_list1}
use Rattle.hevc_walk.specs.Walk.{finish, store_picture, change_format, begin_picture, make_room, start_decoding}
use Rattle.std.proofs.lemmas.List.Elements.{All-from_recursion}
use Rattle.hevc_walk_order.specs.Sequences.{sequences, pictures_for_output}
use Rattle.hevc_walk_order.specs.DisplayOrder.{FewPrecede}
use Rattle.hevc_walk_examples.specs.OrderStreams.{reordered_too_far}
use Rattle.hevc_walk_examples.proofs.Small.{not_few}
use Rattle.hevc_walk_examples.proofs.order.broken_order.Goals as goal

pub returns-clause-breaks : goal.returns-clause-breaks
unfolding head order_count_in_range nearest due_outputs needs_additional_bumping needs_bumping with_stored
    reference_set with_marks ref_pic_list0 ref_pic_list1 finish store_picture change_format begin_picture
    make_room start_decoding
returns-clause-breaks c =
    All-from_recursion (λ q. FewPrecede q.first.limits.max_num_reorder_pics (pictures_for_output q)
    → ⊥) (sequences reordered_too_far) (λ h. not_few _ _ refl h.0, tt)
