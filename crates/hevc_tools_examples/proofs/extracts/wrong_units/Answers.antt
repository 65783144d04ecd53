use Rattle.std.proofs.Common.{◌≡◌, sym, ap, ◌∙◌}
use Rattle.hevc_spec.specs.Units.{units_from}
use Rattle.hevc_stream.specs.Options.{default_options}
use Rattle.hevc_stream_examples.proofs.Computed.{computed}
use Rattle.hevc_tools_examples.proofs.Alike.{first_offset}
use Rattle.hevc_tools_examples.proofs.extracts.wrong_units.Goals as goal

pub returns-clause-more : goal.returns-clause-more
unfolding units_from
returns-clause-more c = λ held. absurd (cc held.found)

pub returns-clause-place : goal.returns-clause-place
unfolding units_from
returns-clause-place c = λ held.
    let e : 4 ≡ 3 = ap first_offset held.found in
    absurd (cc e)

pub returns-clause-meant : goal.returns-clause-meant
unfolding units_from
returns-clause-meant c = λ held. absurd (cc (sym computed.empty ∙ held.meant default_options))
