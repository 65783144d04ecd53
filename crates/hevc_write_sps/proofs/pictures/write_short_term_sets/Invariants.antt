use Rattle.std.proofs.Common.{ℕ, map}
use Rattle.hevc_tables.specs.SpsTable.{short_term_set}
use Rattle.hevc_set_parts.specs.ShortTermRefPicSet.{plain_short_term_ref_pic_set}
use Rattle.hevc_write_elements.specs.Filling.{WritesTurns, are_first}
use Rattle.hevc_write_sps.proofs.pictures.write_short_term_sets.Given as goal

abbrev pub invariant-loop-i : goal.invariant-loop-i
invariant-loop-i l = (most : ℕ)
    → WritesTurns (short_term_set l.count most) (are_first (map plain_short_term_ref_pic_set l.sets)) l.i l.fn.w l.w
