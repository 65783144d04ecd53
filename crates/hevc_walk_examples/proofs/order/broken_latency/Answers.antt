use Rattle.std.proofs.Common.{refl}
use Rattle.std.proofs.lemmas.List.Elements.{All-from_recursion}
use Rattle.hevc_walk.specs.OrderCounts.{nearest}
use Rattle.hevc_walk.specs.Pictures.{head, order_count_in_range}
use Rattle.hevc_walk.specs.Buffer.{due_outputs, needs_additional_bumping, needs_bumping, with_stored}
use Rattle.hevc_walk.specs.ReferenceSets.{reference_set, with_marks}
use Rattle.hevc_walk.specs.ReferenceLists.{ref_pic_list0, ref_pic_list1}
use Rattle.hevc_walk.specs.Walk.{finish, store_picture, change_format, begin_picture, make_room, start_decoding}
use Rattle.hevc_walk_order.specs.Sequences.{sequences, pictures_for_output}
use Rattle.hevc_walk_order.specs.DisplayOrder.{KeepsOrder, FewPrecede}
use Rattle.hevc_walk_examples.specs.OrderStreams.{late_stream}
use Rattle.hevc_walk_examples.proofs.Small.{few, not_few, latency_of, below}
use Rattle.hevc_walk_examples.proofs.order.broken_latency.Goals as goal

pub returns-clause-few_precede : goal.returns-clause-few_precede
unfolding head order_count_in_range nearest due_outputs needs_additional_bumping needs_bumping with_stored
    reference_set with_marks ref_pic_list0 ref_pic_list1 finish store_picture change_format begin_picture
    make_room start_decoding
returns-clause-few_precede c =
    All-from_recursion (λ q. FewPrecede q.first.limits.max_num_reorder_pics (pictures_for_output q))
    (sequences (late_stream 1)) ((few _ _ refl, (few _ _ refl, (few _ _ refl, (few _ _ refl, (few _ _ refl, tt))))), tt)

pub returns-clause-breaks : goal.returns-clause-breaks
unfolding head order_count_in_range nearest due_outputs needs_additional_bumping needs_bumping with_stored
    reference_set with_marks ref_pic_list0 ref_pic_list1 finish store_picture change_format begin_picture
    make_room start_decoding
returns-clause-breaks c = All-from_recursion (λ q. KeepsOrder (late_stream 1) q
    → ⊥) (sequences (late_stream 1))
    (λ keeps. not_few _ _ refl ((latency_of (late_stream 1) _ keeps (few _ _ refl)).0.1.1.0 (below _ _ refl)), tt)
