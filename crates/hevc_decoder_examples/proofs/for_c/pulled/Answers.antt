use Rattle.std.proofs.Common.{None, refl}
use Rattle.hevc_decoder_examples.proofs.for_c.pulled.Goals as goal

pub returns-clause-none : goal.returns-clause-none
returns-clause-none c now event taken counted awaited = record {
  pulled = None;
  pulls = (taken, rw counted refl, rw awaited refl, refl);
  tells = (refl, refl);
  kept = refl;
  options = refl;
}
