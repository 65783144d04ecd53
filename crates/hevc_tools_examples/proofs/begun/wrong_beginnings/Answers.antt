use Rattle.std.proofs.Common.{◌≡◌, ℕ, [], ◌∷◌, ap, Result, Ok}
use Rattle.hevc_spec.specs.Units.{units_from}
use Rattle.hevc_walk.specs.OrderCounts.{nearest}
use Rattle.hevc_walk.specs.Pictures.{head, order_count_in_range}
use Rattle.hevc_walk.specs.Buffer.{due_outputs, needs_additional_bumping, needs_bumping, with_stored}
use Rattle.hevc_walk.specs.ReferenceSets.{reference_set, with_marks}
use Rattle.hevc_walk.specs.ReferenceLists.{ref_pic_list0, ref_pic_list1}
use Rattle.hevc_walk.specs.Walk.{finish, store_picture, change_format, begin_picture, make_room, start_decoding}
use Rattle.hevc_walk.specs.Refusals.{Refusal}
use Rattle.hevc_stream_examples.proofs.Computed.{computed}
use Rattle.hevc_tools_examples.proofs.Alike.{output_units, sizes}
use Rattle.hevc_tools_examples.proofs.Beginning.{mean_begun}
use Rattle.hevc_tools_examples.proofs.begun.wrong_beginnings.Goals as goal

pub returns-clause-verdict : goal.returns-clause-verdict
unfolding units_from head order_count_in_range nearest due_outputs needs_additional_bumping needs_bumping with_stored
    reference_set with_marks ref_pic_list0 ref_pic_list1
    finish store_picture change_format begin_picture make_room start_decoding
returns-clause-verdict c = λ p first begun.
    let as_meant = mean_begun p first _ _ _ _ _ computed.idr computed.idr begun in
    let e : Path (Result ℕ Refusal) (Ok 1) (Ok 2) = as_meant.verdict in
    absurd (cc e)

pub returns-clause-calls : goal.returns-clause-calls
unfolding units_from head order_count_in_range nearest due_outputs needs_additional_bumping needs_bumping with_stored
    reference_set with_marks ref_pic_list0 ref_pic_list1
    finish store_picture change_format begin_picture make_room start_decoding
returns-clause-calls c = λ p first begun.
    let as_meant = mean_begun p first _ _ _ _ _ computed.idr computed.longer_idr begun in
    let e : 5 ∷ [] ≡ 4 ∷ [] = ap sizes as_meant.calls in
    absurd (cc e)

pub returns-clause-outputs : goal.returns-clause-outputs
unfolding units_from head order_count_in_range nearest due_outputs needs_additional_bumping needs_bumping with_stored
    reference_set with_marks ref_pic_list0 ref_pic_list1
    finish store_picture change_format begin_picture make_room start_decoding
returns-clause-outputs c = λ p first begun.
    let as_meant = mean_begun p first _ _ _ _ _ computed.ended computed.ended_twice begun in
    let e : 5 ∷ [] ≡ 4 ∷ [] = ap output_units as_meant.outputs in
    absurd (cc e)
