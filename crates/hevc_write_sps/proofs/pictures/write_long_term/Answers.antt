use Rattle.std.proofs.Common.{refl}
use Rattle.hevc_tables.specs.SpsTable.{long_term, long_term_pictures}
use Rattle.hevc_write_sps.specs.SpsParts as own
use Rattle.hevc_write_sps.proofs.SpsKeeps.{long_term_pictures_keeps}
use Rattle.hevc_write_elements.proofs.Chains.{ending, flag_of, part_of, ue_if_of, writes, ◌>>=◌}
use Rattle.hevc_write_sps.proofs.pictures.write_long_term.Goals as goal

pub returns : goal.returns
unfolding long_term
returns c = writes λ y w none. do
  rows ← flag_of _ refl none (λ r. r.long_term_ref_pics_present_flag) c.in_ok-flag.ensures
  rows ← ue_if_of _ refl _ _ _ _ rows.known (λ r. r.long_term_ref_pics_present_flag)
      (λ r. r.num_long_term_ref_pics_sps) c.in_ok-ue_u8_if.ensures
  ending (part_of long_term_pictures own.long_term_pictures_of long_term_pictures_keeps _ rows.known
      c.in_ok-write_long_term_pictures.ensures refl) (λ _ _ rows e at. rows.reach _ e refl at)
