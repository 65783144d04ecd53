use Rattle.std.proofs.Common.{◌≡◌, [], ◌∷◌, ap, sym, ◌∙◌, arith}
use Rattle.hevc_spec.specs.Units.{units, units_from}
use Rattle.hevc_bit_writer.specs.WrittenUnits.{stream_of}
use Rattle.hevc_stream_pieces.specs.Pieces.{units_of_pieces}
use Rattle.hevc_walk.specs.OrderCounts.{nearest}
use Rattle.hevc_walk.specs.Pictures.{head, order_count_in_range}
use Rattle.hevc_walk.specs.Buffer.{due_outputs, needs_additional_bumping, needs_bumping, with_stored}
use Rattle.hevc_walk.specs.ReferenceSets.{reference_set, with_marks}
use Rattle.hevc_walk.specs.ReferenceLists.{ref_pic_list0, ref_pic_list1}
use Rattle.hevc_walk.specs.Walk.{finish, store_picture, change_format, begin_picture, make_room, start_decoding}
use Rattle.hevc_walk.specs.Results.{verdict}
use Rattle.hevc_stream.specs.Options.{default_options}
use Rattle.hevc_stream_examples.proofs.Computed.{computed}
use Rattle.hevc_tools_examples.proofs.Pieces.{no_pieces, not_dropped}
use Rattle.hevc_tools_examples.proofs.rewritten.wrong_rewritings.Goals as goal

pub returns-clause-byte : goal.returns-clause-byte
unfolding units_from
returns-clause-byte c = λ is.
    let e : 0 ∷ [] ≡ [] = is.parts ∙ ap stream_of (no_pieces is.pieces is.are) in
    absurd (cc e)

pub returns-clause-unit : goal.returns-clause-unit
unfolding units_from
returns-clause-unit c = λ is.
    let e : units (0 ∷ 0 ∷ 1 ∷ 2 ∷ []) ≡ [] = is.found ∙ ap (units_of_pieces 0) (no_pieces is.pieces is.are) in
    absurd (cc e)

pub returns-clause-dropped : goal.returns-clause-dropped
unfolding units_from
returns-clause-dropped c = λ is. not_dropped (record { offset = 3; bytes = 2 ∷ [] }) is.pieces is.are is.parts

pub returns-clause-decodes : goal.returns-clause-decodes
unfolding head order_count_in_range nearest due_outputs needs_additional_bumping needs_bumping with_stored
    reference_set with_marks ref_pic_list0 ref_pic_list1
    finish store_picture change_format begin_picture make_room start_decoding
returns-clause-decodes c = λ is.
    let same = is.decodes.verdict default_options (omega arith) in
    absurd (cc (sym (ap verdict computed.empty) ∙ same ∙ ap verdict computed.truncated))
