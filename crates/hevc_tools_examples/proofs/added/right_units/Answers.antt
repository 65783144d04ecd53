use Rattle.std.proofs.Common.{[], ◌∷◌, refl, lit<, arith}
use Rattle.hevc_spec.specs.Units.{units_from}
use Rattle.hevc_write_elements.specs.Choices.{set_flags}
use Rattle.hevc_tools_examples.proofs.added.right_units.Goals as goal

pub returns-clause-bare : goal.returns-clause-bare
unfolding units_from set_flags
returns-clause-bare c = record {
  bytes = 66 ∷ 1 ∷ 128 ∷ [];
  parts = refl;
  are = record { zero_bit = lit< tt; escapes = refl };
  found = refl;
  whole = refl;
  header_is = refl;
  payload = record { lines = []; has = refl; chosen = tt; fewest = λ others has. omega arith; parts = refl };
  meant = tt;
}

pub returns-clause-body : goal.returns-clause-body
unfolding units_from set_flags
returns-clause-body c = record {
  bytes = 66 ∷ 1 ∷ 128 ∷ 0 ∷ 0 ∷ 3 ∷ 1 ∷ 0 ∷ 0 ∷ 4 ∷ [];
  parts = refl;
  are = record { zero_bit = lit< tt; escapes = refl };
  found = refl;
  whole = refl;
  header_is = refl;
  payload = record { lines = []; has = refl; chosen = tt; fewest = λ others has. omega arith; parts = refl };
  meant = tt;
}
