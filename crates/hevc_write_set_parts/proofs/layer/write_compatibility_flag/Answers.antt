use Rattle.std.proofs.Common.{false, arith}
use Rattle.hevc_tables.specs.ProfileTierLevelTable.{compatibility_flag}
use Rattle.hevc_write_elements.proofs.Steps.{flag_then, done_filled}
use Rattle.hevc_write_elements.proofs.Loops.{one_less}
use Rattle.hevc_write_set_parts.proofs.LayerKeeps.{layer_row}
use Rattle.hevc_write_set_parts.proofs.layer.write_compatibility_flag.Goals as goal

pub returns : goal.returns
unfolding compatibility_flag
returns c = λ scope. record {
  written = λ y w.
      flag_then _ (layer_row scope _) c.in_ok-flag.ensures (λ v1 b1 flag_row. done_filled (λ a.
      let flag = one_less c.args.i y.profile_compatibility_flag c.args.layer.now.profile_compatibility_flag
      v1 false (omega arith) a in
      (flag.0, λ at. flag_row flag.1 at)));
}
