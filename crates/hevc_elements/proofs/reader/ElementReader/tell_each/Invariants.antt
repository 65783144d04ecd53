use Rattle.std.proofs.Common.{◌≡◌, ◌-◌, take}
use Rattle.hevc_spec.specs.Payload.{bits}
use Rattle.hevc_elements.specs.Telling.{and_told, bits_told}
use Rattle.hevc_elements.specs.Scan.{left}
use Rattle.hevc_elements.proofs.reader.ElementReader.tell_each.Given as goal

abbrev pub invariant-loop-i : goal.invariant-loop-i
invariant-loop-i l = record {
  place : l.self.place ≡ l.fn.self.place;
  told : and_told (bits_told l.row (take (l.num_bits - l.i) (bits l.ahead))) l.self.telling ≡ and_told
      (bits_told l.row (take l.num_bits (left l.fn.self))) l.fn.self.telling;
}
