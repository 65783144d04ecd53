use Rattle.std.proofs.Common.{◌≡◌, ◌+◌, ◌-◌, length}
use Rattle.hevc_spec.specs.Payload.{IsAhead}
use Rattle.hevc_elements.specs.Scan.{scanned}
use Rattle.hevc_spec.specs.Rows.{repeat}
use Rattle.hevc_tables.specs.ShortTermTable.{next_member_flags, all_member_flags}
use Rattle.hevc_short_term.proofs.member_flags.read_all_flags.Given as goal

abbrev pub invariant-loop-j : goal.invariant-loop-j
invariant-loop-j l = record {
  same : scanned (repeat next_member_flags l.j (l.num_delta_pocs + 1 - l.j) l.flags.items) l.r ≡ scanned
      (all_member_flags l.num_delta_pocs) l.fn.r;
  count : length l.flags.items ≡ l.j;
  ahead : IsAhead l.fn.r.place l.r.place;
}
