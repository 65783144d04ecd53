-- A type and its number give each other back.
use Rattle.std.proofs.Common.{◌≡◌, refl, sym, ap, ◌∙◌}
use Rattle.hevc_bits.specs.declared.nalu_type.NaluType.{NaluType}
use Rattle.hevc_bits.specs.declared.nalu_type.NaluType.TheVariants.{TrailN, TrailR, TsaN, TsaR}
use Rattle.hevc_bits.specs.declared.nalu_type.NaluType.TheVariants.{StsaN, StsaR, RadlN, RadlR}
use Rattle.hevc_bits.specs.declared.nalu_type.NaluType.TheVariants.{RaslN, RaslR, RsvVclN10}
use Rattle.hevc_bits.specs.declared.nalu_type.NaluType.TheVariants.{RsvVclR11, RsvVclN12, RsvVclR13}
use Rattle.hevc_bits.specs.declared.nalu_type.NaluType.TheVariants.{RsvVclN14, RsvVclR15, BlaWLp}
use Rattle.hevc_bits.specs.declared.nalu_type.NaluType.TheVariants.{BlaWRadl, BlaNLp, IdrWRadl}
use Rattle.hevc_bits.specs.declared.nalu_type.NaluType.TheVariants.{IdrNLp, CraNut, RsvIrapVcl22}
use Rattle.hevc_bits.specs.declared.nalu_type.NaluType.TheVariants.{RsvIrapVcl23, RsvVcl24}
use Rattle.hevc_bits.specs.declared.nalu_type.NaluType.TheVariants.{RsvVcl25, RsvVcl26, RsvVcl27}
use Rattle.hevc_bits.specs.declared.nalu_type.NaluType.TheVariants.{RsvVcl28, RsvVcl29, RsvVcl30}
use Rattle.hevc_bits.specs.declared.nalu_type.NaluType.TheVariants.{RsvVcl31, VpsNut, SpsNut}
use Rattle.hevc_bits.specs.declared.nalu_type.NaluType.TheVariants.{PpsNut, AudNut, EosNut, EobNut}
use Rattle.hevc_bits.specs.declared.nalu_type.NaluType.TheVariants.{FdNut, PrefixSeiNut}
use Rattle.hevc_bits.specs.declared.nalu_type.NaluType.TheVariants.{SuffixSeiNut, RsvNvcl41}
use Rattle.hevc_bits.specs.declared.nalu_type.NaluType.TheVariants.{RsvNvcl42, RsvNvcl43, RsvNvcl44}
use Rattle.hevc_bits.specs.declared.nalu_type.NaluType.TheVariants.{RsvNvcl45, RsvNvcl46, RsvNvcl47}
use Rattle.hevc_bits.specs.NaluType.{nalu_type_number, nalu_type_of}

pub nalu_type_of-nalu_type_number : (t : NaluType) → nalu_type_of (nalu_type_number t) ≡ t
nalu_type_of-nalu_type_number TrailN = refl
nalu_type_of-nalu_type_number TrailR = refl
nalu_type_of-nalu_type_number TsaN = refl
nalu_type_of-nalu_type_number TsaR = refl
nalu_type_of-nalu_type_number StsaN = refl
nalu_type_of-nalu_type_number StsaR = refl
nalu_type_of-nalu_type_number RadlN = refl
nalu_type_of-nalu_type_number RadlR = refl
nalu_type_of-nalu_type_number RaslN = refl
nalu_type_of-nalu_type_number RaslR = refl
nalu_type_of-nalu_type_number RsvVclN10 = refl
nalu_type_of-nalu_type_number RsvVclR11 = refl
nalu_type_of-nalu_type_number RsvVclN12 = refl
nalu_type_of-nalu_type_number RsvVclR13 = refl
nalu_type_of-nalu_type_number RsvVclN14 = refl
nalu_type_of-nalu_type_number RsvVclR15 = refl
nalu_type_of-nalu_type_number BlaWLp = refl
nalu_type_of-nalu_type_number BlaWRadl = refl
nalu_type_of-nalu_type_number BlaNLp = refl
nalu_type_of-nalu_type_number IdrWRadl = refl
nalu_type_of-nalu_type_number IdrNLp = refl
nalu_type_of-nalu_type_number CraNut = refl
nalu_type_of-nalu_type_number RsvIrapVcl22 = refl
nalu_type_of-nalu_type_number RsvIrapVcl23 = refl
nalu_type_of-nalu_type_number RsvVcl24 = refl
nalu_type_of-nalu_type_number RsvVcl25 = refl
nalu_type_of-nalu_type_number RsvVcl26 = refl
nalu_type_of-nalu_type_number RsvVcl27 = refl
nalu_type_of-nalu_type_number RsvVcl28 = refl
nalu_type_of-nalu_type_number RsvVcl29 = refl
nalu_type_of-nalu_type_number RsvVcl30 = refl
nalu_type_of-nalu_type_number RsvVcl31 = refl
nalu_type_of-nalu_type_number VpsNut = refl
nalu_type_of-nalu_type_number SpsNut = refl
nalu_type_of-nalu_type_number PpsNut = refl
nalu_type_of-nalu_type_number AudNut = refl
nalu_type_of-nalu_type_number EosNut = refl
nalu_type_of-nalu_type_number EobNut = refl
nalu_type_of-nalu_type_number FdNut = refl
nalu_type_of-nalu_type_number PrefixSeiNut = refl
nalu_type_of-nalu_type_number SuffixSeiNut = refl
nalu_type_of-nalu_type_number RsvNvcl41 = refl
nalu_type_of-nalu_type_number RsvNvcl42 = refl
nalu_type_of-nalu_type_number RsvNvcl43 = refl
nalu_type_of-nalu_type_number RsvNvcl44 = refl
nalu_type_of-nalu_type_number RsvNvcl45 = refl
nalu_type_of-nalu_type_number RsvNvcl46 = refl
nalu_type_of-nalu_type_number RsvNvcl47 = refl

-- two types of one number are one type
pub nalu_type_number-injective : (t u : NaluType) → nalu_type_number t ≡ nalu_type_number u → t ≡ u
nalu_type_number-injective t u e =
    sym (nalu_type_of-nalu_type_number t) ∙ ap nalu_type_of e ∙ nalu_type_of-nalu_type_number u

pub header_given_back : {H : Type 0} (t : NaluType) (header : NaluType → H)
    → header (nalu_type_of (nalu_type_number t)) ≡ header t
header_given_back t header = ap header (nalu_type_of-nalu_type_number t)
