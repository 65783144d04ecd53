use Rattle.std.proofs.Common.{[], ◌∷◌, refl}
use Rattle.hevc_spec.specs.Units.{units_from}
use Rattle.hevc_walk.specs.OrderCounts.{nearest}
use Rattle.hevc_walk.specs.Pictures.{head, order_count_in_range}
use Rattle.hevc_walk.specs.Buffer.{due_outputs, needs_additional_bumping, needs_bumping, with_stored}
use Rattle.hevc_walk.specs.ReferenceSets.{reference_set, with_marks}
use Rattle.hevc_walk.specs.ReferenceLists.{ref_pic_list0, ref_pic_list1}
use Rattle.hevc_walk.specs.Walk.{finish, store_picture, change_format, begin_picture, make_room, start_decoding}
use Rattle.hevc_walk_examples.specs.Streams.{plain_format}
use Rattle.hevc_stream_examples.specs.Worked.{idr_stream, idr_of, sets_then}
use Rattle.hevc_stream_examples.proofs.Computed.{computed}
use Rattle.hevc_tools_examples.proofs.Beginning.{begins}
use Rattle.hevc_tools_examples.proofs.begun.right_beginnings.Goals as goal

pub returns : goal.returns
unfolding units_from head order_count_in_range nearest due_outputs needs_additional_bumping needs_bumping with_stored
    reference_set with_marks ref_pic_list0 ref_pic_list1
    finish store_picture change_format begin_picture make_room start_decoding
returns c = λ p first.
    let us = sets_then plain_format (idr_of plain_format ∷ []) in
    begins p first 1 idr_stream idr_stream us us computed.idr computed.idr
    (record { verdict = refl; whole_calls = refl; whole_outputs = refl; calls = refl; outputs = refl })
