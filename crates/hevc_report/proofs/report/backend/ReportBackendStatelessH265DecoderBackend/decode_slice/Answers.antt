use contract.BorrowLft.{⊑_meet, ⊑_static}
use Rattle.hevc_report.proofs.report.backend.ReportBackendStatelessH265DecoderBackend.decode_slice.Goals as goal

-- the call is told of what lives as long as the arguments
pub and-self-inside-requires : goal.and-self-inside-requires
and-self-inside-requires c κs within =
    let slice =
    ⊑_meet _ _ _ within.0
    (⊑_meet _ _ _ (⊑_meet _ _ _ (⊑_meet _ _ _ within.1.0 (⊑_static _)) (⊑_static _)) (⊑_static _)) in
    let lists =
    ⊑_meet _ _ _ (⊑_meet _ _ _ within.1.1.0 (⊑_static _))
    (⊑_meet _ _ _ (⊑_meet _ _ _ within.1.1.1.0 (⊑_static _)) (⊑_static _)) in
    let told = ⊑_meet _ _ _ slice lists in
    (⊑_static _, ⊑_meet _ _ _ told told)
