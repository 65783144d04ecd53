use Rattle.std.proofs.Common.{ap, sym, ◌∙◌, refl, arith}
use Rattle.std.specs.Prelude.{option_map}
use Rattle.hevc_bits.specs.FoundUnit.{bytes_of}
use Rattle.hevc_stream.specs.Stream.{meaning}
use Rattle.hevc_kept_sets.specs.Kept.{kept_of, options_in}
use Rattle.hevc_walk.specs.Pictures.{new_picture}
use Rattle.hevc_check.specs.Breaches.{breach_of}
use Rattle.hevc_check.specs.Places.{Place, first_slice}
use Rattle.hevc_check.specs.declared.units.Walk.{Walk}
use Rattle.hevc_check.proofs.Steps.{at_still, at_begun, at_broken, told_none, told_some}
use Rattle.hevc_check.proofs.Steps.{number_after, tells_at, by_table}
use Rattle.hevc_check.proofs.check.Check.take_unit.Goals as goal

pub returns-in_default-clause-steps : goal.returns-in_default-clause-steps
returns-in_default-clause-steps c t v at =
    let w = c.args.self.now.walk in
    let m = meaning (options_in w.sets) (kept_of w.sets) (bytes_of c.args.nalu) in
    let d = c.in_ok-begun.ensures.takes.takes in
    at_still t c.args.unit m v c.args.self.now _ at
    (told_none (first_slice m w.pictures) w.pictures c.in_ok-begun.field-0 d.0 c.in_default.is) d.1 refl refl

pub returns-in_default-2-clause-steps : goal.returns-in_default-2-clause-steps
returns-in_default-2-clause-steps c t v at =
    let w = c.args.self.now.walk in
    let k = c.args.unit in
    let b = c.in-Some.begun in
    let m = meaning (options_in w.sets) (kept_of w.sets) (bytes_of c.args.nalu) in
    let d = c.in_ok-begun.ensures.takes.takes in
    let s = told_some (first_slice m w.pictures) w.pictures c.in_ok-begun.field-0 b d.0 c.in-Some.is in
    let told = tells_at t k s.0 v c.args.self.now b at s.2 in
    let p = new_picture k s.0 v.pictures in
    let e = c.in_ok-breach.ensures in
    at_begun t k m v s.0 c.args.self.now c.take_picture.new.self b at s.1 s.2
    (ap (λ (x : Walk). x.pictures) e.walk ∙ d.1) e.table (e.follows v.first_set p v.pictures told at.follows)
    e.sequences
    (sym (by_table t v c.args.self.now _ v.first_set p v.pictures at
    (e.breach v.first_set p v.pictures told at.follows)) ∙ ap (option_map breach_of) c.in_default-2.is)

pub returns-in_default-2-clause-number : goal.returns-in_default-2-clause-number
returns-in_default-2-clause-number c =
    let w = c.args.self.now.walk in
    let m = meaning (options_in w.sets) (kept_of w.sets) (bytes_of c.args.nalu) in
    let n = number_after m w.pictures in
    let same =
    ap (λ (x : Place). x.next.number)
    (ap (λ (x : Walk). x.pictures) c.in_ok-breach.ensures.walk ∙ c.in_ok-begun.ensures.takes.takes.1) in
    omega (arith, n, same)

pub returns-clause-steps : goal.returns-clause-steps
returns-clause-steps c t v at =
    let w = c.args.self.now.walk in
    let k = c.args.unit in
    let b = c.in-Some.begun in
    let m = meaning (options_in w.sets) (kept_of w.sets) (bytes_of c.args.nalu) in
    let d = c.in_ok-begun.ensures.takes.takes in
    let s = told_some (first_slice m w.pictures) w.pictures c.in_ok-begun.field-0 b d.0 c.in-Some.is in
    let told = tells_at t k s.0 v c.args.self.now b at s.2 in
    let p = new_picture k s.0 v.pictures in
    at_broken t k m v s.0 c.args.self.now b c.in-Some-2.breach at s.1 s.2
    (sym (by_table t v c.args.self.now _ v.first_set p v.pictures at
    (c.in_ok-breach.ensures.breach v.first_set p v.pictures told at.follows))
    ∙ ap (option_map breach_of) c.in-Some-2.is)

pub returns-clause-number : goal.returns-clause-number
returns-clause-number c =
    let w = c.args.self.now.walk in
    let m = meaning (options_in w.sets) (kept_of w.sets) (bytes_of c.args.nalu) in
    let n = number_after m w.pictures in
    let same =
    ap (λ (x : Place). x.next.number)
    (ap (λ (x : Walk). x.pictures) c.in_ok-breach.ensures.walk ∙ c.in_ok-begun.ensures.takes.takes.1) in
    omega (arith, n, same)
