use Rattle.std.proofs.Common.{refl}
use Rattle.hevc_tables.specs.HrdTable.{buffering, decoding_units, scales}
use Rattle.hevc_write_set_parts.specs.HrdParts as own
use Rattle.hevc_write_set_parts.proofs.HrdKeeps.{decoding_units_keep, scales_keep}
use Rattle.hevc_write_elements.proofs.Chains.{ending, flag_of, part_if_of, part_of, writes_if, ◌>>=◌}
use Rattle.hevc_write_set_parts.proofs.hrd_common.write_buffering_if.Goals as goal

pub returns : goal.returns
unfolding buffering
returns c = writes_if c.if-not-present.false λ y w none. do
  rows ← flag_of _ refl none (λ r. r.sub_pic_hrd_params_present_flag) c.in_ok-flag.ensures
  rows ← part_if_of decoding_units own.decoding_units_of decoding_units_keep _ rows.known
      (λ r. r.sub_pic_hrd_params_present_flag) c.in_ok-write_units_if.ensures refl
  ending (part_of scales own.scales_of scales_keep _ rows.known c.in_ok-write_scales.ensures refl)
      (λ _ _ rows e at. rows.reach _ e refl at)
