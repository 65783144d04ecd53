use Rattle.std.proofs.Common.{[], refl}
use Rattle.hevc_spec.specs.Units.{units_from}
use Rattle.hevc_stream.specs.Contents.{content}
use Rattle.hevc_tools_examples.proofs.rewritten.right_rewritings.Goals as goal

pub returns-clause-nothing : goal.returns-clause-nothing
unfolding units_from
returns-clause-nothing c = record {
  pieces = [];
  are = tt;
  parts = refl;
  found = refl;
  decodes = record { calls = λ options all. refl; outputs = λ options all. refl; verdict = λ options all. refl };
}

pub returns-clause-copied : goal.returns-clause-copied
unfolding content
returns-clause-copied c = record { anew = λ is. absurd (cc is); copied = λ other. refl }
