use Rattle.std.proofs.Common.{[], ◌∷◌, refl}
use Rattle.hevc_spec.specs.Units.{units_from}
use Rattle.hevc_walk.specs.OrderCounts.{nearest}
use Rattle.hevc_walk.specs.Pictures.{head, order_count_in_range}
use Rattle.hevc_walk.specs.Buffer.{due_outputs, needs_additional_bumping, needs_bumping, with_stored}
use Rattle.hevc_walk.specs.ReferenceSets.{reference_set, with_marks}
use Rattle.hevc_walk.specs.ReferenceLists.{ref_pic_list0, ref_pic_list1}
use Rattle.hevc_walk.specs.Walk.{finish, store_picture, change_format, begin_picture, make_room, start_decoding}
use Rattle.hevc_stream_examples.specs.Worked.{idr_stream, idr_of, sets_then}
use Rattle.hevc_walk_examples.specs.Streams.{plain_format}
use Rattle.hevc_stream_examples.proofs.Computed.{computed}
use Rattle.hevc_extract.proofs.Held.{holds_kept}
use Rattle.hevc_tools_examples.proofs.Alike.{decode_alike}
use Rattle.hevc_tools_examples.proofs.extracts.right_extracts.Goals as goal

pub returns-clause-holds : goal.returns-clause-holds
unfolding units_from
returns-clause-holds c = holds_kept 6 63 idr_stream

pub returns-clause-alike : goal.returns-clause-alike
unfolding units_from head order_count_in_range nearest due_outputs needs_additional_bumping needs_bumping with_stored
    reference_set with_marks ref_pic_list0 ref_pic_list1
    finish store_picture change_format begin_picture make_room start_decoding
returns-clause-alike c =
    let us = sets_then plain_format (idr_of plain_format ∷ []) in
    decode_alike idr_stream idr_stream us us computed.idr computed.idr
    (record { calls = refl; outputs = refl; verdict = refl })
