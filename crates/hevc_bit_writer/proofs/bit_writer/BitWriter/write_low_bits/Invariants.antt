use Rattle.std.proofs.Common.{◌≡◌, ◌-◌, ◌/◌, ◌^◌, ◌++◌}
use Rattle.hevc_spec.specs.Payload.{low_bits}
use Rattle.hevc_bit_writer.proofs.bit_writer.BitWriter.write_low_bits.Given as goal

-- the bits from the place on were written
abbrev pub invariant-loop-place : goal.invariant-loop-place
invariant-loop-place l = l.self ≡ l.fn.self ++ low_bits (l.count - l.place) (l.value / 2 ^ l.place)
