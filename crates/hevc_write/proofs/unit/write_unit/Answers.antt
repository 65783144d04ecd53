use Rattle.std.proofs.Common.{◌≡◌, sym, subst}
use Rattle.hevc_write_units.specs.Payloads.{IsPayload}
use Rattle.hevc_write_units.proofs.OneUnit.{unit_added}
use Rattle.hevc_write.proofs.unit.write_unit.Goals as goal

pub returns-clause-added : goal.returns-clause-added
returns-clause-added g c =
    let value = c.args.value.now in
    let header = c.args.header.now in
    let has_lines = g.R.Syntax.has_lines value header in
    let body = g.R.Syntax.body value in
    let added = c.in_ok-write_payload.ensures.added in
    let same : c.deref.result.now ≡ added.payload =
    cc (c.deref.ensures.value, added.parts, c.new-payload.ensures.items) in
    let is = subst (IsPayload has_lines body) (sym same) added.is_payload in
    unit_added header has_lines body (g.R.Syntax.means value header)
    (g.met.R.Syntax.has_payload value header) (g.met.R.Syntax.meant value header) c.header_bytes.result
    c.deref.result.now c.args.out.now.items c.append_unit.new.stream.items
    c.header_bytes.ensures c.in_ok-write_payload.ensures.trimmed is c.in_ok-append_unit.ensures.ok
