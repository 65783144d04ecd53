use Rattle.std.proofs.Common.{refl}
use Rattle.std.proofs.lemmas.List.Elements.{All-from_recursion}
use Rattle.hevc_walk.specs.OrderCounts.{nearest}
use Rattle.hevc_walk.specs.Pictures.{head, order_count_in_range}
use Rattle.hevc_walk.specs.Buffer.{due_outputs, needs_additional_bumping, needs_bumping, with_stored}
use Rattle.hevc_walk.specs.ReferenceSets.{reference_set, with_marks}
use Rattle.hevc_walk.specs.ReferenceLists.{ref_pic_list0, ref_pic_list1}
use Rattle.hevc_walk.specs.Walk.{finish, store_picture, change_format, begin_picture, make_room, start_decoding}
use Rattle.hevc_walk_order.specs.Sequences.{sequences}
use Rattle.hevc_walk_order.specs.DisplayOrder.{KeepsOrder}
use Rattle.hevc_walk_examples.specs.OrderStreams.{late_stream}
use Rattle.hevc_walk_examples.proofs.Small.{keeps_by, unequal, few, not_below}
use Rattle.hevc_walk_examples.proofs.order.kept_latency.Goals as goal

pub returns-clause-keeps : goal.returns-clause-keeps
unfolding head order_count_in_range nearest due_outputs needs_additional_bumping needs_bumping with_stored
    reference_set with_marks ref_pic_list0 ref_pic_list1 finish store_picture change_format begin_picture
    make_room start_decoding
returns-clause-keeps c = All-from_recursion (KeepsOrder (late_stream 3)) (sequences (late_stream 3)) (
  keeps_by (late_stream 3) _ (refl, (refl, (refl, (refl, tt)))) (refl, (refl, (refl, (refl, tt))))
      (λ some. (
        (
          (λ b. not_below _ _ refl b),
          ((λ b. few _ _ refl), ((λ b. few _ _ refl), ((λ b. not_below _ _ refl b), tt))),
        ),
        (
          ((λ b. few _ _ refl), ((λ b. few _ _ refl), ((λ b. not_below _ _ refl b), tt))),
          (
            ((λ b. not_below _ _ refl b), ((λ b. not_below _ _ refl b), tt)),
            (((λ b. not_below _ _ refl b), tt), (tt, tt)),
          ),
        ),
      )) (
        (λ e. (
          (λ d. few _ _ refl),
          ((λ d. few _ _ refl), ((λ d. few _ _ refl), ((λ d. few _ _ refl), tt))),
        )),
        (
          (λ e. ((λ d. few _ _ refl), ((λ d. few _ _ refl), ((λ d. few _ _ refl), tt)))),
          ((λ e. ((λ d. few _ _ refl), ((λ d. few _ _ refl), tt))), ((λ e. ((λ d. few _ _ refl), tt)), tt)),
        ),
      ) tt (
        (unequal _ _ refl, (unequal _ _ refl, (unequal _ _ refl, (unequal _ _ refl, tt)))),
        (
          (unequal _ _ refl, (unequal _ _ refl, (unequal _ _ refl, tt))),
          ((unequal _ _ refl, (unequal _ _ refl, tt)), ((unequal _ _ refl, tt), (tt, tt))),
        ),
      ) (few _ _ refl, (few _ _ refl, (few _ _ refl, (few _ _ refl, (few _ _ refl, tt))))),
  tt,
)
