use Rattle.std.proofs.Common.{refl, inl, arith}
use Rattle.hevc_tools_examples.proofs.runs.right_runs.Goals as goal

pub returns-clause-whole : goal.returns-clause-whole
returns-clause-whole c = record {
  whole = λ answer. (refl, (refl, refl));
  limit_kept = λ answer. omega arith;
  part = (2, refl);
  less = λ is. absurd (cc is);
  less_by_memory = λ is. absurd (cc is);
  nothing_asked = (λ is. absurd (cc is), λ none. absurd (cc none));
  untouched = λ is. absurd (cc is);
  read = λ is. absurd (cc is);
  write = λ is. absurd (cc is);
  long = λ is. absurd (cc is);
  completes = λ input is short reads writes. inl (omega arith);
}
