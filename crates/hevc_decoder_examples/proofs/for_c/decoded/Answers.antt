use Rattle.std.proofs.Common.{Err, inl, inr, refl, sym, ap, ◌∙◌, arith, Result}
use Rattle.hevc_spec.specs.Units.{units_from}
use Rattle.hevc_driver.specs.declared.decode_error.DecodeError.{DecodeError}
use Rattle.hevc_driver.specs.declared.decode_error.DecodeError.TheVariants.{NoNal}
use Rattle.hevc_pull.specs.Status.{status_in}
use Rattle.hevc_decoder_examples.proofs.for_c.decoded.Goals as goal

pub returns-clause-none : goal.returns-clause-none
unfolding units_from
returns-clause-none c now given same = inl (record {
  answer = Err NoNal;
  few = omega arith;
  takes = (refl, sym same);
  seeking = refl;
  keeps = record { wanted = refl; taken = refl };
  counts = record { counted = grind arith; change = refl };
  options = refl;
  status_is = refl;
  told_is = refl;
  goes_on = tt;
})

pub returns-clause-taken : goal.returns-clause-taken
unfolding units_from
returns-clause-taken c before now given told (inl r) =
    absurd (cc (r.status_is ∙ ap (λ (answer : Result (Unit {0}) DecodeError). status_in answer) r.takes.0))
returns-clause-taken c before now given told (inr r) = absurd (cc r.1)
