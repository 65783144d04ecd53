use Rattle.std.proofs.Common.{refl}
use Rattle.hevc_backend.proofs.ToldLaws.{told_call, told_same, told_anything, none_submitted}
use Rattle.hevc_backend.proofs.NamedLaws.{no_set_among, no_list_among}
use Rattle.hevc_decoder_tests.proofs.backend.caller.decode_picture.Goals as goal

pub begin_picture-requires-clause-references : goal.begin_picture-requires-clause-references
begin_picture-requires-clause-references g c = no_set_among _ _ c.new-rps.ensures

pub begin_picture-requires-clause-told : goal.begin_picture-requires-clause-told
begin_picture-requires-clause-told g c =
    told_call _ c.in_ok-picture.ensures.log
    (told_same c.num_free_frames.ensures.log
    (told_call _ c.in_ok-new_sequence.ensures.log (told_anything _) (λ t h. refl)) (λ t h. h))
    (λ t h. record { handles = none_submitted _ _ c.new-dpb.ensures.entries; sequence = h; picture = refl })

pub begin_picture-requires-clause-begun : goal.begin_picture-requires-clause-begun
begin_picture-requires-clause-begun g c = told_call _ c.in_ok-picture.ensures.log (told_anything _) (λ t h. refl)

pub decode_slice-requires-clause-list0 : goal.decode_slice-requires-clause-list0
decode_slice-requires-clause-list0 g c = no_list_among _ _ c.new-lists.ensures.list0

pub decode_slice-requires-clause-list1 : goal.decode_slice-requires-clause-list1
decode_slice-requires-clause-list1 g c = no_list_among _ _ c.new-lists.ensures.list1

pub decode_slice-requires-clause-told : goal.decode_slice-requires-clause-told
decode_slice-requires-clause-told g c =
    told_call _ c.in_ok-begin_picture.ensures.log
    (told_call _ c.in_ok-picture.ensures.log
    (told_same c.num_free_frames.ensures.log
    (told_call _ c.in_ok-new_sequence.ensures.log (told_anything _) (λ t h. refl)) (λ t h. h))
    (λ t h. record
    { handles = none_submitted _ _ c.new-dpb.ensures.entries; sequence = h; picture = refl }))
    (λ t h. h)
