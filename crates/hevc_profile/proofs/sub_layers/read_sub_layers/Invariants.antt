use Rattle.std.proofs.Common.{◌≡◌, ◌-◌}
use Rattle.hevc_spec.specs.Payload.{IsAhead}
use Rattle.hevc_elements.specs.Scan.{scanned}
use Rattle.hevc_spec.specs.Rows.{repeat}
use Rattle.hevc_tables.specs.ProfileTierLevelTable.{next_sub_layer, sub_layers}
use Rattle.hevc_set_parts.specs.ProfileTierLevel.{plain_profile_tier_level}
use Rattle.hevc_profile.proofs.sub_layers.read_sub_layers.Given as goal

abbrev pub invariant-loop-i : goal.invariant-loop-i
invariant-loop-i l = record {
  same : scanned (repeat next_sub_layer l.i (l.count - l.i) (plain_profile_tier_level l.all)) l.r ≡ scanned
      (sub_layers l.max_sub_layers_minus1 (plain_profile_tier_level l.fn.all)) l.fn.r;
  ahead : IsAhead l.fn.r.place l.r.place;
}
