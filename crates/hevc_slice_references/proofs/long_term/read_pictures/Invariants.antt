use Rattle.std.proofs.Common.{◌≡◌, ◌-◌, ◌*◌, ◌^◌, ◌≤◌}
use Rattle.hevc_spec.specs.Payload.{IsAhead}
use Rattle.hevc_elements.specs.Scan.{scanned}
use Rattle.hevc_spec.specs.Rows.{repeat}
use Rattle.hevc_tables.specs.SliceHeaderTable.{cycles_before, long_term_picture, long_term_pictures}
use Rattle.hevc_sequence_set.specs.Sps.{plain_sps}
use Rattle.hevc_picture_slice.specs.SliceHeader.{plain_slice_header}
use Rattle.hevc_slice_references.proofs.long_term.read_pictures.Given as goal

abbrev pub invariant-loop-i : goal.invariant-loop-i
invariant-loop-i l = record {
  same : scanned
      (repeat (long_term_picture (plain_sps l.fn.sps)) l.i (l.count - l.i) (plain_slice_header l.h)) l.r
      ≡ scanned (long_term_pictures (plain_sps l.fn.sps) (plain_slice_header l.fn.h)) l.fn.r;
  few : cycles_before l.i (plain_slice_header l.h) ≤ l.i * 2 ^ 28;
  ahead : IsAhead l.fn.r.place l.r.place;
}
