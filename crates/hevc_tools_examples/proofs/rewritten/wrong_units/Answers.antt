use Rattle.std.proofs.Common.{◌≡◌, sym, ap, ◌∙◌, refl}
use Rattle.hevc_walk.specs.Meanings.{OutOfRange}
use Rattle.hevc_stream.specs.Contents.{content, nothing, refused}
use Rattle.hevc_tools_examples.proofs.Pieces.{type_in}
use Rattle.hevc_tools_examples.proofs.rewritten.wrong_units.Goals as goal

pub returns-clause-header : goal.returns-clause-header
returns-clause-header c = λ is. let e : 33 ≡ 34 = ap type_in (is.old_header ∙ sym is.new_header) in absurd (cc e)

pub returns-clause-no_set : goal.returns-clause-no_set
unfolding content
returns-clause-no_set c = λ is. is.payload.has

pub returns-clause-meant : goal.returns-clause-meant
unfolding content
returns-clause-meant c = λ is. let e : refused (OutOfRange 0 1) ≡ nothing = is.meant in absurd (cc e)

pub returns-clause-copied : goal.returns-clause-copied
unfolding content
returns-clause-copied c = λ is. absurd (cc (is.copied refl))
