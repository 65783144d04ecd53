use Rattle.std.proofs.Common.{◌≡◌, ◌-◌, length}
use Rattle.hevc_spec.specs.Payload.{IsAhead}
use Rattle.hevc_elements.specs.Scan.{scanned}
use Rattle.hevc_spec.specs.Rows.{repeat}
use Rattle.hevc_tables.specs.ShortTermTable.{next_member_before, listed_before}
use Rattle.hevc_short_term_laws.proofs.Listed.{DownTo}
use Rattle.hevc_short_term.proofs.listed_members.read_listed_before.Given as goal

abbrev pub invariant-loop : goal.invariant-loop
invariant-loop l = record {
  same : scanned (repeat next_member_before l.counter (l.count - l.counter) l.members) l.r ≡ scanned
      (listed_before l.count) l.fn.r;
  count : length l.members ≡ l.counter;
  order : DownTo l.members;
  ahead : IsAhead l.fn.r.place l.r.place;
}
