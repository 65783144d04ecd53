use Rattle.std.proofs.Common.{◌≡◌, [], ◌∷◌, ap, sym, ◌∙◌, arith}
use Rattle.hevc_walk.specs.OrderCounts.{nearest}
use Rattle.hevc_walk.specs.Pictures.{head, order_count_in_range}
use Rattle.hevc_walk.specs.Buffer.{due_outputs, needs_additional_bumping, needs_bumping, with_stored}
use Rattle.hevc_walk.specs.ReferenceSets.{reference_set, with_marks}
use Rattle.hevc_walk.specs.ReferenceLists.{ref_pic_list0, ref_pic_list1}
use Rattle.hevc_walk.specs.Walk.{finish, store_picture, change_format, begin_picture, make_room, start_decoding}
use Rattle.hevc_walk.specs.Results.{calls, outputs, verdict}
use Rattle.hevc_stream.specs.Options.{default_options}
use Rattle.hevc_stream_examples.proofs.Computed.{computed}
use Rattle.hevc_tools_examples.proofs.Alike.{output_units, sizes}
use Rattle.hevc_tools_examples.proofs.rewritten.wrong_decodings.Goals as goal

pub returns-clause-calls : goal.returns-clause-calls
unfolding head order_count_in_range nearest due_outputs needs_additional_bumping needs_bumping with_stored
    reference_set with_marks ref_pic_list0 ref_pic_list1
    finish store_picture change_format begin_picture make_room start_decoding
returns-clause-calls c = λ same.
    let told = same.calls default_options (omega arith) in
    let e : 5 ∷ [] ≡ 4 ∷ [] = ap sizes (sym (ap calls computed.longer_idr) ∙ told ∙ ap calls computed.idr) in
    absurd (cc e)

pub returns-clause-outputs : goal.returns-clause-outputs
unfolding head order_count_in_range nearest due_outputs needs_additional_bumping needs_bumping with_stored
    reference_set with_marks ref_pic_list0 ref_pic_list1
    finish store_picture change_format begin_picture make_room start_decoding
returns-clause-outputs c = λ same.
    let told = sym (ap outputs computed.ended_twice) ∙ same.outputs default_options (omega arith) in
    let e : 5 ∷ [] ≡ 4 ∷ [] = ap output_units (told ∙ ap outputs computed.ended) in
    absurd (cc e)

pub returns-clause-verdict : goal.returns-clause-verdict
unfolding head order_count_in_range nearest due_outputs needs_additional_bumping needs_bumping with_stored
    reference_set with_marks ref_pic_list0 ref_pic_list1
    finish store_picture change_format begin_picture make_room start_decoding
returns-clause-verdict c = λ same.
    let told = same.verdict default_options (omega arith) in
    absurd (cc (sym (ap verdict computed.empty) ∙ told ∙ ap verdict computed.truncated))
