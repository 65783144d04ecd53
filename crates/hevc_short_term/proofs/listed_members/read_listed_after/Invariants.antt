use Rattle.std.proofs.Common.{◌≡◌, ◌-◌, length}
use Rattle.hevc_spec.specs.Payload.{IsAhead}
use Rattle.hevc_elements.specs.Scan.{scanned}
use Rattle.hevc_spec.specs.Rows.{repeat}
use Rattle.hevc_tables.specs.ShortTermTable.{next_member_after, listed_after}
use Rattle.hevc_short_term_laws.proofs.Listed.{UpTo}
use Rattle.hevc_short_term.proofs.listed_members.read_listed_after.Given as goal

abbrev pub invariant-loop : goal.invariant-loop
invariant-loop l = record {
  same : scanned (repeat next_member_after l.counter (l.count - l.counter) l.members) l.r ≡ scanned
      (listed_after l.count) l.fn.r;
  count : length l.members ≡ l.counter;
  order : UpTo l.members;
  ahead : IsAhead l.fn.r.place l.r.place;
}
