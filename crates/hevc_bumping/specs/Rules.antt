-- When bumping goes on (C.5.2.2, C.5.2.3).
use Rattle.std.specs.Prelude.{Bool, true}
use Rattle.hevc_walk.specs.Buffer.{Buffer, needs_additional_bumping, needs_bumping}
use Rattle.hevc_pictures.specs.Limits.{limits_of}
use Rattle.hevc_bumping.specs.declared.rule.Rule.{Rule}
use Rattle.hevc_bumping.specs.declared.rule.Rule.TheVariants.{Additional, ForRoom, Always}

abbrev pub holds : Rule → Buffer → Bool
holds (Additional limits) es = needs_additional_bumping (limits_of limits) es
holds (ForRoom limits) es = needs_bumping (limits_of limits) es
holds Always es = true
