use Rattle.std.proofs.Common.{inl}
use Rattle.hevc_pull.proofs.Others.{told_goes_on}
use Rattle.hevc_pull.proofs.units.next_unit.Goals as goal

pub returns : goal.returns
returns c =
    let told = c.tell_found.ensures in
    inl (record {
      within = c.if-from-bytes.false;
      told_is = told.told;
      status_is = told.status;
      goes_on = told_goes_on c.args.from c.args.bytes.now c.tell_found.new.unit told.told;
    })
