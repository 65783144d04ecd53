use Rattle.std.proofs.Common.{rules, inl, subst, sym, refl}
use Rattle.hevc_spec.specs.Units.{units}
use Rattle.hevc_parser.specs.Kept.{kept_by}
use Rattle.hevc_pull.specs.Tells.{TellsFound, TextCall}
use Rattle.hevc_pull.proofs.Others.{told_goes_on}
use Rattle.hevc_pull.proofs.tells.tell_unit.Goals as goal

pub returns-in-Err : goal.returns-in-Err
returns-in-Err c =
    let told = c.tell_found-status.ensures in
    let unit = c.tell_found-status.new.unit in
    let text : TextCall = record { room = c.args.text.now; size = c.args.text_size.now } in
    inl (record {
      few = c.if-bytes.false;
      found = c.next-found.result;
      is_first = search rules;
      tells = subst (λ r. TellsFound (units c.args.bytes.now) (kept_by c.args.sets.now) r unit text text
          c.tell_found-status.result)
          (sym c.in-Err.is) (told.told, told.status, refl);
      goes_on = told_goes_on 0 c.args.bytes.now unit told.told;
    })
