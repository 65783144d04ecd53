use Rattle.std.proofs.Common.{◌-◌, rules, arith}
use Rattle.hevc_elements.proofs.Loops.{loops}
use Rattle.hevc_tables.specs.RefPicListModificationTable.{list_entry}
use Rattle.hevc_slice_parts.proofs.Ranges.{AtMost-more}
use Rattle.hevc_slice_parts.proofs.list_modification.read_entries.Goals as goal

pub loop-i-preserved : goal.loop-i-preserved
unfolding list_entry
loop-i-preserved c = record {
  same = grind (arith, loops);
  count = grind (arith);
  fit = rw c.push.ensures.items
      (AtMost-more (c.args.num_pic_total_curr - 1) c.loop-i.entries.items c.in_ok-entry.entry
      c.loop-i.invariant.fit (grind arith));
  ahead = search rules;
}
