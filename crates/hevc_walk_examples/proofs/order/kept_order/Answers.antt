use Rattle.std.proofs.Common.{refl}
use Rattle.hevc_walk.specs.OrderCounts.{nearest}
use Rattle.hevc_walk.specs.Pictures.{head, order_count_in_range}
use Rattle.hevc_walk.specs.Buffer.{due_outputs, needs_additional_bumping, needs_bumping, with_stored}
use Rattle.hevc_walk.specs.ReferenceSets.{reference_set, with_marks}
use Rattle.hevc_walk.specs.ReferenceLists.{ref_pic_list0, ref_pic_list1}
use Rattle.hevc_walk.specs.Walk.{finish, store_picture, change_format, begin_picture, make_room, start_decoding}
use Rattle.std.proofs.lemmas.List.Elements.{All-from_recursion}
use Rattle.hevc_walk_order.specs.Sequences.{sequences}
use Rattle.hevc_walk_order.specs.DisplayOrder.{KeepsOrder}
use Rattle.hevc_walk_order.specs.Bounds.{KeepsBounds}
use Rattle.hevc_walk_examples.specs.OrderStreams.{two_sequences}
use Rattle.hevc_walk_examples.proofs.Small.{bounds_by, keeps_by, unequal, few, never}
use Rattle.hevc_walk_examples.proofs.order.kept_order.Goals as goal

pub returns-clause-keeps : goal.returns-clause-keeps
unfolding head order_count_in_range nearest due_outputs needs_additional_bumping needs_bumping with_stored
    reference_set with_marks ref_pic_list0 ref_pic_list1 finish store_picture change_format begin_picture
    make_room start_decoding
returns-clause-keeps c =
    All-from_recursion (KeepsOrder two_sequences) (sequences two_sequences) (
      keeps_by two_sequences _ (refl, (refl, tt)) (refl, (refl, tt))
          (λ some. never _ refl some) (
            (λ e. ((λ d. few _ _ refl), ((λ d. few _ _ refl), tt))),
            ((λ e. ((λ d. few _ _ refl), tt)), tt),
          ) tt ((unequal _ _ refl, (unequal _ _ refl, tt)), ((unequal _ _ refl, tt), (tt, tt)))
          (few _ _ refl, (few _ _ refl, (few _ _ refl, tt))),
      (
        keeps_by two_sequences _ (refl, tt) (refl, tt)
            (λ some. never _ refl some) ((λ e. ((λ d. few _ _ refl), tt)), tt) refl (
              (unequal _ _ refl, tt),
              (tt, tt),
            ) (few _ _ refl, (few _ _ refl, tt)),
        tt,
      ),
    )

pub returns-clause-bounds : goal.returns-clause-bounds
unfolding head order_count_in_range nearest due_outputs needs_additional_bumping needs_bumping with_stored
    reference_set with_marks ref_pic_list0 ref_pic_list1 finish store_picture change_format begin_picture
    make_room start_decoding
returns-clause-bounds c =
    All-from_recursion (KeepsBounds two_sequences) (sequences two_sequences) (
      bounds_by two_sequences _ (refl, (refl, tt)) (refl, (refl, tt)) refl
          ((λ e. few _ _ refl), ((λ e. few _ _ refl), tt)) tt (
            (unequal _ _ refl, (unequal _ _ refl, tt)),
            ((unequal _ _ refl, tt), (tt, tt)),
          ) (few _ _ refl, (few _ _ refl, (few _ _ refl, tt))),
      (
        bounds_by two_sequences _ (refl, tt) (refl, tt) refl ((λ e. few _ _ refl), tt) refl
            ((unequal _ _ refl, tt), (tt, tt)) (few _ _ refl, (few _ _ refl, tt)),
        tt,
      ),
    )
