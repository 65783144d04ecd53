use Rattle.std.proofs.Common.{◌≡◌, ◌∙◌, ap, subst}
use Rattle.hevc_bits.specs.FoundUnit.{bytes_of}
use Rattle.hevc_stream.specs.Options.{Options}
use Rattle.hevc_stream.specs.Stream.{kept_behind, with_all_waited}
use Rattle.hevc_kept_sets.specs.Kept.{kept_of, options_in}
use Rattle.hevc_syntax_text.proofs.Kept.{on_ok, refused_keeps, sequence_behind}
use Rattle.hevc_syntax_text.proofs.keeping.keep_sequence_set.Goals as goal

pub returns-in-Ok-clause-kept : goal.returns-in-Ok-clause-kept
returns-in-Ok-clause-kept c =
    let old = c.args.sets.now in
    let mid = kept_of c.keep_sequence_set.new.self in
    let bytes = bytes_of c.args.nalu.now in
    let new = kept_of c.read_waiting.new.self in
    let k = c.in-Ok.ensures.keeps in
    on_ok c.read_waiting.result _ _
    (λ read. subst (λ (o : Options). new ≡ kept_behind o (kept_of old) bytes) c.requires.all
    (sequence_behind bytes c.header-header.result.now (options_in old) (kept_of old) mid new k.0
    c.header-header.ensures.parsed c.requires.all k.1 k.3
    (read ∙ ap (λ (o : Options). with_all_waited o mid) c.in-Ok.ensures.options))) c.read_waiting.ensures.read

pub returns-in-Err-clause-kept : goal.returns-in-Err-clause-kept
returns-in-Err-clause-kept c =
    let old = c.args.sets.now in
    let bytes = bytes_of c.args.nalu.now in
    let new = kept_of c.keep_sequence_set.new.self in
    on_ok c.pass.result _ _
    (λ isnt. subst (λ (o : Options). new ≡ kept_behind o (kept_of old) bytes) c.requires.all
    (refused_keeps (options_in old) (kept_of old) bytes c.in-Err.error new isnt c.in-Err.ensures.keeps)) c.pass.ensures
