use Rattle.std.proofs.Common.{◌≡◌, ◌≤◌, ◌*◌, length, drop}
use Rattle.hevc_spec.specs.Payload.{bits, IsAhead, IsReached}
use Rattle.hevc_bits.proofs.reader.NaluReader.skip_bits.Given as goal

abbrev pub invariant-loop : goal.invariant-loop
invariant-loop l = record {
  enough : 31 * l.counter ≤ length (bits l.self);
  ahead : IsAhead l.self l.ahead;
  reached : IsReached l.self l.ahead;
  same : bits l.ahead ≡ drop (31 * l.counter) (bits l.self);
}
