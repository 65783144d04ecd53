use Rattle.std.proofs.Common.{◌≡◌, ◌++◌, arith}
use Rattle.hevc_bit_writer.specs.WrittenUnits.{escaped, started}
use Rattle.hevc_bit_writer.specs.Writing.{packed}
use Rattle.hevc_write_units.proofs.OneUnit.{trial}
use Rattle.hevc_write_units.proofs.trial.trial_stream.Goals as goal

pub returns-then-len-lt-STREAM_LIMIT : goal.returns-then-len-lt-STREAM_LIMIT
returns-then-len-lt-STREAM_LIMIT c =
    let is : c.append_unit.new.stream.items ≡ started
    (c.header_bytes.result ++ escaped (packed c.args.w.now)) =
    cc (c.in_ok-append_unit.ensures.ok, c.as_bytes.ensures, c.new-stream.ensures.items) in
    trial c.args.header.now c.args.w.now c.header_bytes.result c.append_unit.new.stream.items
    c.header_bytes.ensures c.requires.no_end c.requires.whole is (grind arith)
