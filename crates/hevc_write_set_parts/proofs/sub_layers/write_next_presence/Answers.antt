use Rattle.std.proofs.Common.{false, refl, arith}
use Rattle.hevc_tables.specs.ProfileTierLevelTable.{next_presence}
use Rattle.hevc_write_elements.proofs.Steps.{flag_then, done_filled}
use Rattle.hevc_write_elements.proofs.Loops.{one_less}
use Rattle.hevc_write_set_parts.proofs.sub_layers.write_next_presence.Goals as goal

pub returns : goal.returns
unfolding next_presence
returns c =
    let x = c.args.x.now in
    record {
      written = λ y w.
          flag_then _ refl c.in_ok-flag.ensures
          (λ v1 b1 profile_row. flag_then _ refl c.in_ok-flag-2.ensures (λ v2 b2 level_row. done_filled (λ a.
          let profile =
          one_less c.args.i y.sub_layer_profile_present_flag x.sub_layer_profile_present_flag v1 false
          (omega arith) a.0 in
          let level = one_less c.args.i y.sub_layer_level_present_flag x.sub_layer_level_present_flag v2
          false (omega arith) a.1 in
          ((profile.0, level.0), λ at. level_row level.1 (profile_row profile.1 at)))));
    }
