use Rattle.std.proofs.Common.{◌≡◌, ◌-◌}
use Rattle.hevc_spec.specs.Payload.{IsAhead}
use Rattle.hevc_elements.specs.Scan.{scanned}
use Rattle.hevc_spec.specs.Rows.{repeat}
use Rattle.hevc_tables.specs.ProfileTierLevelTable.{compatibility_flag, compatibility_flags}
use Rattle.hevc_profile.specs.LayerProfile.{plain_layer_profile}
use Rattle.hevc_profile.specs.Scopes.{plain_scope}
use Rattle.hevc_profile.proofs.layer.read_compatibility_flags.Given as goal

abbrev pub invariant-loop-i : goal.invariant-loop-i
invariant-loop-i l = record {
  same : scanned (repeat (compatibility_flag (plain_scope l.scope)) l.i (32 - l.i) (plain_layer_profile l.layer)) l.r
      ≡ scanned (compatibility_flags (plain_scope l.scope) (plain_layer_profile l.fn.layer)) l.fn.r;
  ahead : IsAhead l.fn.r.place l.r.place;
}
