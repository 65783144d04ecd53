use Rattle.std.proofs.Common.{◌≡◌, ◌-◌}
use Rattle.hevc_spec.specs.Payload.{IsAhead}
use Rattle.hevc_elements.specs.Scan.{scanned}
use Rattle.hevc_spec.specs.Rows.{repeat}
use Rattle.hevc_tables.specs.SpsTable.{long_term_picture, long_term_pictures}
use Rattle.hevc_sequence_set.specs.Sps.{plain_sps}
use Rattle.hevc_sps.proofs.long_term.read_pictures.Given as goal

abbrev pub invariant-loop-i : goal.invariant-loop-i
invariant-loop-i l = record {
  same : scanned (repeat long_term_picture l.i (l.count - l.i) (plain_sps l.sps)) l.r ≡ scanned
      (long_term_pictures (plain_sps l.fn.sps)) l.fn.r;
  ahead : IsAhead l.fn.r.place l.r.place;
}
