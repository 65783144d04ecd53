-- Whose profile is read, as in the tables.
use Rattle.hevc_tables.specs.ProfileTierLevelTable as table
use Rattle.hevc_profile.specs.declared.scope.Scope.{Scope}
use Rattle.hevc_profile.specs.declared.scope.Scope.TheVariants.{General, SubLayer}

abbrev pub plain_scope : Scope → table.Scope
plain_scope General = table.general
plain_scope SubLayer = table.sub_layer
