use Rattle.std.proofs.Common.{◌≡◌, ◌≤◌, ◌++◌, drop}
use Rattle.hevc_bit_writer.specs.WrittenUnits.{escaped, escaped_after}
use Rattle.hevc_bit_writer.proofs.unit.push_escaped.Given as goal

-- what is left goes on after the zeros
abbrev pub invariant-loop-byte : goal.invariant-loop-byte
invariant-loop-byte l = record {
  few : l.zeros ≤ 2;
  rest : l.unit.items ++ escaped_after l.zeros (drop l.byte-index l.payload) ≡ l.fn.unit.items ++ escaped l.payload;
}
