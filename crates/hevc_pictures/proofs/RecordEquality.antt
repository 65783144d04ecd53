-- The derived `==` of a picture's data: true exactly at equal records.
use Rattle.std.proofs.Common.{◌≡◌, true, subst, rules}
use denote.Enum.Bare.{same_true}
use Rattle.hevc_set_parts.proofs.Equality.{IsEquality, bool, nat, int, field, last, struct}
use Rattle.hevc_bits.specs.declared.nalu_type.NaluType.{NaluType}
use Rattle.hevc_bits.specs.contracts.nalu_type.NaluType as nalu_type_enum
use Rattle.hevc_bits.specs.contracts.nalu_type.NaluTypePartialEq.TheImpl as nalu_type_eq
use Rattle.hevc_bits.specs.contracts.nalu_type.NaluTypeEq.TheImpl.Laws as nalu_type_laws
use Rattle.hevc_pictures.specs.declared.reference.Reference.{Reference}
use Rattle.hevc_pictures.specs.contracts.reference.Reference as reference_enum
use Rattle.hevc_pictures.specs.contracts.reference.ReferencePartialEq.TheImpl as reference_eq
use Rattle.hevc_pictures.specs.contracts.reference.ReferenceEq.TheImpl.Laws as reference_laws
use Rattle.hevc_pictures.specs.contracts.picture_data.PictureData as picture_data_record
use Rattle.hevc_pictures.specs.contracts.picture_data.PictureDataPartialEq.TheImpl as picture_data_eq

pub nalu_type : IsEquality nalu_type_eq.ghosts.eq
nalu_type x y = (
  λ h. same_true nalu_type_enum.the_type (search rules) x y h,
  λ e. subst
      (λ (z : NaluType). nalu_type_eq.ghosts.eq x z ≡ true) e (nalu_type_laws.laws-law.refl x),
)

pub reference : IsEquality reference_eq.ghosts.eq
reference x y = (
  λ h. same_true reference_enum.the_type (search rules) x y h,
  λ e. subst
      (λ (z : Reference). reference_eq.ghosts.eq x z ≡ true) e (reference_laws.laws-law.refl x),
)

pub picture_data : IsEquality picture_data_eq.ghosts.eq
picture_data a b = struct picture_data_record.the_type
    (field (nalu_type _ _)
    (field (bool _ _)
    (field (bool _ _)
    (field (bool _ _)
    (field (int _ _)
    (field (int _ _)
    (field (int _ _)
    (field (bool _ _)
    (field (bool _ _)
    (field (bool _ _)
    (field (int _ _)
    (field (bool _ _)
    (field (nat _ _)
    (last (reference _ _)))))))))))))))
