-- The derived `==` of levels.
use Rattle.std.proofs.Common.{◌≡◌, true, subst, rules}
use Rattle.hevc_set_parts.specs.declared.level.Level.{Level}
use Rattle.hevc_set_parts.specs.contracts.level.Level.{the_type}
use Rattle.hevc_set_parts.specs.contracts.level.LevelPartialEq.TheImpl.{ghosts}
use Rattle.hevc_set_parts.specs.contracts.level.LevelEq.TheImpl.Laws.{laws-law}
use Rattle.hevc_set_parts.proofs.Equality.{IsEquality}
use denote.Enum.Bare.{same_true}

pub level : IsEquality ghosts.eq
level x y = (
  λ h. same_true the_type (search rules) x y h,
  λ e. subst
      (λ (z : Level). ghosts.eq x z ≡ true) e (laws-law.refl x),
)
