use Rattle.std.proofs.Common.{◌≡◌, ℕ, zero, suc, ◌<◌, length, slice_index_or, refl, ap, arith, ◌∙◌}
use Rattle.hevc_walk_examples.specs.Streams.{plain}
use Rattle.hevc_decoder.specs.Headline.{BeginsPicture}
use Rattle.hevc_walk.specs.OrderCounts.{nearest}
use Rattle.hevc_walk.specs.Pictures.{head, order_count_in_range}
use Rattle.hevc_walk.specs.Buffer.{due_outputs, needs_additional_bumping, needs_bumping, with_stored}
use Rattle.hevc_walk.specs.ReferenceSets.{reference_set, with_marks}
use Rattle.hevc_walk.specs.ReferenceLists.{ref_pic_list0, ref_pic_list1}
use Rattle.hevc_walk.specs.Walk.{finish, store_picture, change_format, begin_picture, make_room, start_decoding}
use Rattle.hevc_walk.specs.Pictures.{Picture, pictures}
use Rattle.hevc_walk_examples.proofs.Small.{few}
use Rattle.hevc_decoder_examples.proofs.parts.frames.Goals as goal

pub returns-clause-wanted : goal.returns-clause-wanted
unfolding head order_count_in_range nearest due_outputs needs_additional_bumping needs_bumping with_stored
    reference_set with_marks ref_pic_list0 ref_pic_list1 finish store_picture change_format begin_picture
    make_room start_decoding
returns-clause-wanted c = record { picture = _; coded = (2, few _ _ refl, refl); first = refl }

units_of : (p : Picture) (k : ℕ) → k < length (pictures plain) → (slice_index_or (pictures plain) k p).unit ≡ 1 → ⊥
unfolding head order_count_in_range nearest due_outputs needs_additional_bumping needs_bumping with_stored
    reference_set with_marks ref_pic_list0 ref_pic_list1 finish store_picture change_format begin_picture
    make_room start_decoding
units_of p zero below is = cc is
units_of p (suc zero) below is = cc is
units_of p (suc (suc zero)) below is = cc is
units_of p (suc (suc (suc k))) below is = absurd (omega (arith, below))

pub returns-clause-early : goal.returns-clause-early
returns-clause-early c = λ h. by h
  where
    by : BeginsPicture 1 plain → ⊥
    by h = units_of _ h.coded.0 h.coded.1 (ap (λ (p : Picture). p.unit) h.coded.2 ∙ h.first)
