use Rattle.std.proofs.Common.{[], refl}
use Rattle.hevc_walk.specs.OrderCounts.{nearest}
use Rattle.hevc_walk.specs.Pictures.{head, order_count_in_range}
use Rattle.hevc_walk.specs.Buffer.{due_outputs, needs_additional_bumping, needs_bumping, with_stored}
use Rattle.hevc_walk.specs.ReferenceSets.{reference_set, with_marks}
use Rattle.hevc_walk.specs.ReferenceLists.{ref_pic_list0, ref_pic_list1}
use Rattle.hevc_walk.specs.Walk.{finish, store_picture, change_format, begin_picture, make_room, start_decoding}
use Rattle.hevc_walk_order.specs.Sequences.{sequences}
use Rattle.hevc_walk_examples.specs.OrderStreams.{two_sequences, last_first}
use Rattle.hevc_walk_examples.proofs.Small.{keeps_by, unequal, few, not_few, never, not_below}
use Rattle.hevc_walk_examples.proofs.Small.{sequence_by, order_of_each, turn_of_each, rising_of}
use Rattle.hevc_walk_examples.proofs.Small.{exactly_of}
use Rattle.hevc_walk_examples.proofs.order.wrong_orders.Goals as goal

pub returns-clause-falling : goal.returns-clause-falling
unfolding head order_count_in_range nearest due_outputs needs_additional_bumping needs_bumping with_stored
    reference_set with_marks ref_pic_list0 ref_pic_list1 finish store_picture change_format begin_picture
    make_room start_decoding
returns-clause-falling c = λ order. not_below _ _ refl (rising_of _ _ order).0.0

pub returns-clause-lacking : goal.returns-clause-lacking
unfolding head order_count_in_range nearest due_outputs needs_additional_bumping needs_bumping with_stored
    reference_set with_marks ref_pic_list0 ref_pic_list1 finish store_picture change_format begin_picture
    make_room start_decoding
returns-clause-lacking c = λ order. absurd (cc (exactly_of _ _ order))

pub returns-clause-nothing : goal.returns-clause-nothing
unfolding head order_count_in_range nearest due_outputs needs_additional_bumping needs_bumping with_stored
    reference_set with_marks ref_pic_list0 ref_pic_list1 finish store_picture change_format begin_picture
    make_room start_decoding
returns-clause-nothing c =
    λ come. absurd
    (cc (exactly_of _ _
    (order_of_each two_sequences [] (sequences two_sequences) (
      sequence_by two_sequences _ refl refl (refl, (refl, tt)) tt,
      (sequence_by two_sequences _ refl refl (refl, tt) refl, tt),
    ) (
      keeps_by two_sequences _ (refl, (refl, tt)) (refl, (refl, tt))
          (λ some. never _ refl some) (
            (λ e. ((λ d. few _ _ refl), ((λ d. few _ _ refl), tt))),
            ((λ e. ((λ d. few _ _ refl), tt)), tt),
          ) tt ((unequal _ _ refl, (unequal _ _ refl, tt)), ((unequal _ _ refl, tt), (tt, tt)))
          (few _ _ refl, (few _ _ refl, (few _ _ refl, tt))),
      (
        keeps_by two_sequences _ (refl, tt) (refl, tt)
            (λ some. never _ refl some) ((λ e. ((λ d. few _ _ refl), tt)), tt) refl (
              (unequal _ _ refl, tt),
              (tt, tt),
            ) (few _ _ refl, (few _ _ refl, tt)),
        tt,
      ),
    ) come).0))

pub returns-clause-turns : goal.returns-clause-turns
unfolding head order_count_in_range nearest due_outputs needs_additional_bumping needs_bumping with_stored
    reference_set with_marks ref_pic_list0 ref_pic_list1 finish store_picture change_format begin_picture
    make_room start_decoding
returns-clause-turns c =
    λ come. not_few _ _ refl
    ((turn_of_each two_sequences (last_first two_sequences) (sequences two_sequences) (
      sequence_by two_sequences _ refl refl (refl, (refl, tt)) tt,
      (sequence_by two_sequences _ refl refl (refl, tt) refl, tt),
    ) come).0.0.1.1.0 (few _ _ refl))
