use Rattle.std.proofs.Common.{◌≡◌, ◌-◌, length, map}
use Rattle.hevc_spec.specs.Payload.{IsAhead}
use Rattle.hevc_elements.specs.Scan.{scanned}
use Rattle.hevc_spec.specs.Rows.{repeat}
use Rattle.hevc_tables.specs.SpsTable.{short_term_set, short_term_sets}
use Rattle.hevc_set_parts.specs.ShortTermRefPicSet.{plain_short_term_ref_pic_set}
use Rattle.hevc_sps.proofs.short_term.read_sets.Given as goal

abbrev pub invariant-loop-i : goal.invariant-loop-i
invariant-loop-i l = record {
  same : scanned
      (repeat (short_term_set l.count l.buffering) l.i (l.count - l.i)
      (map plain_short_term_ref_pic_set l.sets)) l.r ≡ scanned (short_term_sets l.count l.buffering) l.fn.r;
  many : length l.sets ≡ l.i;
  ahead : IsAhead l.fn.r.place l.r.place;
}
