use Rattle.std.proofs.Common.{[], Result, Ok, Err, inl, inr, refl, arith}
use Rattle.hevc_spec.specs.Units.{units_from}
use Rattle.hevc_spec.specs.UnitHeader.{UnitHeader}
use Rattle.hevc_bits.specs.FoundUnit.{FoundUnit}
use Rattle.hevc_bits.specs.declared.header.UnitError.{UnitError}
use Rattle.hevc_bits.specs.declared.header.UnitError.TheVariants.{NoNal}
use Rattle.hevc_parser.specs.Kept.{kept_by}
use Rattle.hevc_pull.specs.Reads.{ReadsFound}
use Rattle.hevc_pull.specs.Units.{IsFirstFrom}
use Rattle.hevc_decoder_examples.proofs.for_c.read.Goals as goal

pub returns-clause-none : goal.returns-clause-none
unfolding units_from
returns-clause-none c now read = inl (record {
  few = omega arith;
  found = Err NoNal;
  is_first = record {
    first = tt;
    header = tt;
    inside = tt;
    none = ((λ is. refl), (λ is. refl));
    refused = λ other. absurd (other refl);
  };
  reads = (refl, refl, refl);
  goes_on = tt;
})

-- no unit is found in no bytes
no_unit : (u : FoundUnit UnitHeader) → IsFirstFrom 0 [] (Ok u) → ⊥
unfolding units_from
no_unit u is = absurd (cc is.first)

pub returns-clause-some : goal.returns-clause-some
unfolding units_from
returns-clause-some c before now old new (inl r) = by r.found r.is_first r.reads
  where
    by : (found : Result (FoundUnit UnitHeader) UnitError) → IsFirstFrom 0 [] found
        → ReadsFound [] found (kept_by before) (kept_by now) old new 0 → ⊥
    by (Ok u) first reads = no_unit u first
    by (Err error) first reads = absurd (cc reads.0)
returns-clause-some c before now old new (inr r) = absurd (cc r.1)
