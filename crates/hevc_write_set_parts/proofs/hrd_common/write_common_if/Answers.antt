use Rattle.std.proofs.Common.{refl}
use Rattle.hevc_tables.specs.HrdTable.{common_parameters, buffering}
use Rattle.hevc_write_set_parts.specs.HrdParts as own
use Rattle.hevc_write_set_parts.proofs.HrdKeeps.{buffering_keeps}
use Rattle.std.specs.Prelude.{◌||◌}
use Rattle.hevc_write_elements.proofs.Chains.{ending, flag_of, part_if_of, writes_if, ◌>>=◌}
use Rattle.hevc_write_set_parts.proofs.hrd_common.write_common_if.Goals as goal

pub returns : goal.returns
unfolding common_parameters
returns c = writes_if c.if-not-present.false λ y w none. do
  rows ← flag_of _ refl none (λ r. r.nal_hrd_parameters_present_flag) c.in_ok-flag.ensures
  rows ← flag_of _ refl rows.known (λ r. r.vcl_hrd_parameters_present_flag) c.in_ok-flag-2.ensures
  ending (part_if_of buffering own.buffering_of buffering_keeps _ rows.known
      (λ r. r.nal_hrd_parameters_present_flag || r.vcl_hrd_parameters_present_flag)
      (rw c.has_buffering.ensures at c.in_ok-write_buffering_if.ensures) refl) (λ _ _ rows e at. rows.reach _ e refl at)
