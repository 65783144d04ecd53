use Rattle.std.proofs.Common.{rules, inl, ap, subst, sym, refl}
use Rattle.hevc_spec.specs.Units.{units}
use Rattle.hevc_parser.specs.Kept.{kept_by}
use Rattle.hevc_pull.specs.Reads.{ReadsFound}
use Rattle.hevc_pull.specs.declared.units.UnitCall.{UnitCall}
use Rattle.hevc_pull.proofs.Others.{told_goes_on}
use Rattle.hevc_pull.proofs.reads.read_unit.Goals as goal

pub returns-in-Err : goal.returns-in-Err
returns-in-Err c =
    let told = c.tell_found-status.ensures in
    let before = c.args.told.now in
    let sets = kept_by c.args.sets.now in
    let unit = c.tell_found-status.new.unit in
    inl (record {
      few = c.if-bytes.false;
      found = c.next-found.result;
      is_first = search rules;
      reads = subst (λ r. ReadsFound (units c.args.bytes.now) r sets sets before (record before { unit = unit })
          c.tell_found-status.result)
          (sym c.in-Err.is)
          (told.status, refl, ap (λ (u : UnitCall). record before { unit = u }) told.told);
      goes_on = told_goes_on 0 c.args.bytes.now unit told.told;
    })
