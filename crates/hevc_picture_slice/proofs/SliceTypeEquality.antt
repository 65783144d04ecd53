-- The derived `==` of slice types.
use Rattle.std.proofs.Common.{◌≡◌, true, subst, rules}
use Rattle.hevc_set_parts.specs.declared.slice_type.SliceType.{SliceType}
use Rattle.hevc_set_parts.specs.contracts.slice_type.SliceType.{the_type}
use Rattle.hevc_set_parts.specs.contracts.slice_type.SliceTypePartialEq.TheImpl.{ghosts}
use Rattle.hevc_set_parts.specs.contracts.slice_type.SliceTypeEq.TheImpl.Laws.{laws-law}
use Rattle.hevc_set_parts.proofs.Equality.{IsEquality}
use denote.Enum.Bare.{same_true}

pub slice_type : IsEquality ghosts.eq
slice_type x y = (
  λ h. same_true the_type (search rules) x y h,
  λ e. subst (λ (z : SliceType). ghosts.eq x z ≡ true) e
      (laws-law.refl x),
)
