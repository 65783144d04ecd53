use Rattle.std.proofs.Common.{◌≤◌, ◌-◌, length}
use Rattle.hevc_spec.specs.Units.{units_from, kept_bytes}
use Rattle.hevc_syntax_text.proofs.Flowing.{Flow}
use Rattle.hevc_syntax_text.proofs.writing.write_text.Given as goal

-- the units from the position on are left
abbrev pub invariant-loop-text : goal.invariant-loop-text
invariant-loop-text g l = record {
  within : l.position ≤ length l.stream;
  few : l.text.units ≤ l.position;
  less : l.text.refused ≤ l.text.units;
  faults : g.K.Sink.faults l.fn.sink ≤ g.K.Sink.faults l.sink;
  flow : Flow l.fn.request l.stream (g.K.Sink.written l.fn.sink) (g.K.Sink.written l.sink) l.text
      (units_from kept_bytes l.position l.stream);
}

abbrev pub decreases-loop-text : goal.decreases-loop-text
decreases-loop-text g l = length l.stream - l.position
