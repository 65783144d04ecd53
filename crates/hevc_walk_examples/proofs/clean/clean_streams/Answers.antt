use Rattle.std.proofs.Common.{refl}
use Rattle.hevc_walk.specs.OrderCounts.{nearest}
use Rattle.hevc_walk.specs.Pictures.{head, order_count_in_range}
use Rattle.hevc_walk.specs.Buffer.{due_outputs, needs_additional_bumping, needs_bumping, with_stored}
use Rattle.hevc_walk.specs.ReferenceSets.{reference_set, with_marks}
use Rattle.hevc_walk.specs.ReferenceLists.{ref_pic_list0, ref_pic_list1}
use Rattle.hevc_walk.specs.Walk.{finish, store_picture, change_format, begin_picture, make_room, start_decoding}
use Rattle.hevc_walk_examples.proofs.Small.{few, not_few}
use Rattle.hevc_walk_examples.proofs.clean.clean_streams.Goals as goal

pub returns-clause-plain : goal.returns-clause-plain
unfolding head order_count_in_range nearest due_outputs needs_additional_bumping needs_bumping with_stored
    reference_set with_marks ref_pic_list0 ref_pic_list1 finish store_picture change_format begin_picture
    make_room start_decoding
returns-clause-plain c = record {
  goes_on = refl;
  pictures = (
    (record { few = λ s i. few _ _ refl; room = λ s. few _ _ refl }),
    (
      (record { few = λ s i. few _ _ refl; room = λ s. few _ _ refl }),
      ((record { few = λ s i. absurd (cc i); room = λ s. few _ _ refl }), tt),
    ),
  );
}

pub returns-clause-narrow : goal.returns-clause-narrow
unfolding head order_count_in_range nearest due_outputs needs_additional_bumping needs_bumping with_stored
    reference_set with_marks ref_pic_list0 ref_pic_list1 finish store_picture change_format begin_picture
    make_room start_decoding
returns-clause-narrow c = record {
  goes_on = refl;
  pictures = (
    (record { few = λ s i. few _ _ refl; room = λ s. few _ _ refl }),
    (
      (record { few = λ s i. absurd (cc s); room = λ s. absurd (cc s) }),
      ((record { few = λ s i. few _ _ refl; room = λ s. few _ _ refl }), tt),
    ),
  );
}

pub returns-clause-refused : goal.returns-clause-refused
unfolding head order_count_in_range nearest due_outputs needs_additional_bumping needs_bumping with_stored
    reference_set with_marks ref_pic_list0 ref_pic_list1 finish store_picture change_format begin_picture
    make_room start_decoding
returns-clause-refused c = λ clean. absurd (cc clean.goes_on)

pub returns-clause-members : goal.returns-clause-members
unfolding head order_count_in_range nearest due_outputs needs_additional_bumping needs_bumping with_stored
    reference_set with_marks ref_pic_list0 ref_pic_list1 finish store_picture change_format begin_picture
    make_room start_decoding
returns-clause-members c = λ clean. not_few _ _ refl (clean.pictures.0.few refl refl)

pub returns-clause-room : goal.returns-clause-room
unfolding head order_count_in_range nearest due_outputs needs_additional_bumping needs_bumping with_stored
    reference_set with_marks ref_pic_list0 ref_pic_list1 finish store_picture change_format begin_picture
    make_room start_decoding
returns-clause-room c = λ clean. not_few _ _ refl (clean.pictures.0.room refl)
