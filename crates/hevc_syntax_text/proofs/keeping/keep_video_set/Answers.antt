use Rattle.std.proofs.Common.{◌≡◌, subst}
use Rattle.hevc_bits.specs.FoundUnit.{bytes_of}
use Rattle.hevc_stream.specs.Options.{Options}
use Rattle.hevc_stream.specs.Stream.{kept_behind}
use Rattle.hevc_kept_sets.specs.Kept.{kept_of, options_in}
use Rattle.hevc_syntax_text.proofs.Kept.{on_ok, refused_keeps}
use Rattle.hevc_syntax_text.proofs.keeping.keep_video_set.Goals as goal

pub returns-in-Err-clause-kept : goal.returns-in-Err-clause-kept
returns-in-Err-clause-kept c =
    let old = c.args.sets.now in
    let bytes = bytes_of c.args.nalu.now in
    let new = kept_of c.take_video_set.new.self in
    on_ok c.pass.result _ _
    (λ isnt. subst (λ (o : Options). new ≡ kept_behind o (kept_of old) bytes) c.requires.all
    (refused_keeps (options_in old) (kept_of old) bytes c.in-Err.error new isnt c.in-Err.ensures.takes)) c.pass.ensures
