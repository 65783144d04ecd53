use Rattle.std.proofs.Common.{◌≡◌, ◌+◌, ◌∙◌, rules, []}
use Rattle.hevc_spec.specs.Units.{units_from, kept_bytes}
use Rattle.hevc_bits.specs.FoundUnit.{unit_of}
use Rattle.hevc_stream.specs.Options.{default_options}
use Rattle.hevc_kept_sets.specs.Kept.{options_in}
use Rattle.hevc_check.proofs.Whole.{ends, header_stops, refused_at, broken_at, is_err_of}
use Rattle.hevc_check.proofs.check.find_breach.Goals as goal

pub returns-in-NoNal-clause-checked : goal.returns-in-NoNal-clause-checked
returns-in-NoNal-clause-checked c =
    let l = c.loop-nalu in
    let s = c.args.stream.now in
    let none : units_from kept_bytes l.position s ≡ [] = search rules in
    c.passed.ensures
    ∙ ends c.args.table default_options s (units_from kept_bytes l.position s) l.unit l.check none
    l.invariant.reached

pub returns-in_default : goal.returns-in_default
returns-in_default c = record {
  checked = tt;
  refused = λ _ n whole.
      let l = c.loop-nalu in
      let s = c.args.stream.now in
      let r = c.in-Err.ensures.refused c.in_default.not-NoNal in
      header_stops c.args.table default_options s (units_from kept_bytes l.position s) r.1 r.0 l.unit l.check
      c.in-Err.error r.2 r.3 l.invariant.reached n whole;
}

pub returns-in_err-broken-clause-refused : goal.returns-in_err-broken-clause-refused
returns-in_err-broken-clause-refused c refused n whole =
    let l = c.loop-nalu in
    let s = c.args.stream.now in
    let nalu = c.in-Ok.nalu in
    refused_at c.args.table default_options (options_in l.check.walk.sets) s (units_from kept_bytes l.position s)
    (units_from kept_bytes (nalu.offset + nalu.size) s) (unit_of nalu) l.unit l.check c.take_unit.new.self _
    c.in-Ok.ensures.next.first l.invariant.options l.invariant.reached
    (c.in_err-broken.ensures.steps c.args.table)
    (is_err_of c.from_residual-in_err-broken.result _ _ c.from_residual-in_err-broken.ensures.1 refused) n whole

pub returns-in-Some-clause-checked : goal.returns-in-Some-clause-checked
returns-in-Some-clause-checked c =
    let l = c.loop-nalu in
    let s = c.args.stream.now in
    let nalu = c.in-Ok.nalu in
    broken_at c.args.table default_options (options_in l.check.walk.sets) s (units_from kept_bytes l.position s)
    (units_from kept_bytes (nalu.offset + nalu.size) s) (unit_of nalu) l.unit l.check c.take_unit.new.self
    c.in_ok-broken.field-0 c.in-Some.broken c.in-Ok.ensures.next.first l.invariant.options l.invariant.reached
    (c.in_ok-broken.ensures.steps c.args.table) c.in-Some.is
