-- A type's tag is its number.
use Rattle.std.proofs.Common.{◌≡◌, refl, eqb, ap₂, List, [], ◌∷◌, get_or, ℤ, pos, nat_cmp, int_cmp, ℕ, ◌∙◌, arith}
use Rattle.std.proofs.lemmas.Grind.{common_steps}
use denote.Enum.Bare.{sameb}
use denote.Enum.Declared.{tag_of}
use Rattle.hevc_bits.specs.contracts.nalu_type.NaluType.{the_type}
use Rattle.hevc_bits.specs.contracts.nalu_type.NaluTypeOrd.TheImpl.{ghosts}
use Rattle.hevc_bits.specs.declared.nalu_type.NaluType.{NaluType}
use Rattle.hevc_bits.specs.declared.nalu_type.NaluType.TheVariants.{TrailN, TrailR, TsaN, TsaR}
use Rattle.hevc_bits.specs.declared.nalu_type.NaluType.TheVariants.{StsaN, StsaR, RadlN, RadlR}
use Rattle.hevc_bits.specs.declared.nalu_type.NaluType.TheVariants.{RaslN, RaslR, RsvVclN10}
use Rattle.hevc_bits.specs.declared.nalu_type.NaluType.TheVariants.{RsvVclR11, RsvVclN12, RsvVclR13}
use Rattle.hevc_bits.specs.declared.nalu_type.NaluType.TheVariants.{RsvVclN14, RsvVclR15, BlaWLp}
use Rattle.hevc_bits.specs.declared.nalu_type.NaluType.TheVariants.{BlaWRadl, BlaNLp, IdrWRadl}
use Rattle.hevc_bits.specs.declared.nalu_type.NaluType.TheVariants.{IdrNLp, CraNut, RsvIrapVcl22}
use Rattle.hevc_bits.specs.declared.nalu_type.NaluType.TheVariants.{RsvIrapVcl23, RsvVcl24}
use Rattle.hevc_bits.specs.declared.nalu_type.NaluType.TheVariants.{RsvVcl25, RsvVcl26, RsvVcl27}
use Rattle.hevc_bits.specs.declared.nalu_type.NaluType.TheVariants.{RsvVcl28, RsvVcl29, RsvVcl30}
use Rattle.hevc_bits.specs.declared.nalu_type.NaluType.TheVariants.{RsvVcl31, VpsNut, SpsNut}
use Rattle.hevc_bits.specs.declared.nalu_type.NaluType.TheVariants.{PpsNut, AudNut, EosNut, EobNut}
use Rattle.hevc_bits.specs.declared.nalu_type.NaluType.TheVariants.{FdNut, PrefixSeiNut}
use Rattle.hevc_bits.specs.declared.nalu_type.NaluType.TheVariants.{SuffixSeiNut, RsvNvcl41}
use Rattle.hevc_bits.specs.declared.nalu_type.NaluType.TheVariants.{RsvNvcl42, RsvNvcl43, RsvNvcl44}
use Rattle.hevc_bits.specs.declared.nalu_type.NaluType.TheVariants.{RsvNvcl45, RsvNvcl46, RsvNvcl47}
use Rattle.hevc_bits.specs.NaluType.{nalu_type_number}

pub tag_of-nalu_type : (t : NaluType) → tag_of the_type t ≡ nalu_type_number t
tag_of-nalu_type TrailN = refl
tag_of-nalu_type TrailR = refl
tag_of-nalu_type TsaN = refl
tag_of-nalu_type TsaR = refl
tag_of-nalu_type StsaN = refl
tag_of-nalu_type StsaR = refl
tag_of-nalu_type RadlN = refl
tag_of-nalu_type RadlR = refl
tag_of-nalu_type RaslN = refl
tag_of-nalu_type RaslR = refl
tag_of-nalu_type RsvVclN10 = refl
tag_of-nalu_type RsvVclR11 = refl
tag_of-nalu_type RsvVclN12 = refl
tag_of-nalu_type RsvVclR13 = refl
tag_of-nalu_type RsvVclN14 = refl
tag_of-nalu_type RsvVclR15 = refl
tag_of-nalu_type BlaWLp = refl
tag_of-nalu_type BlaWRadl = refl
tag_of-nalu_type BlaNLp = refl
tag_of-nalu_type IdrWRadl = refl
tag_of-nalu_type IdrNLp = refl
tag_of-nalu_type CraNut = refl
tag_of-nalu_type RsvIrapVcl22 = refl
tag_of-nalu_type RsvIrapVcl23 = refl
tag_of-nalu_type RsvVcl24 = refl
tag_of-nalu_type RsvVcl25 = refl
tag_of-nalu_type RsvVcl26 = refl
tag_of-nalu_type RsvVcl27 = refl
tag_of-nalu_type RsvVcl28 = refl
tag_of-nalu_type RsvVcl29 = refl
tag_of-nalu_type RsvVcl30 = refl
tag_of-nalu_type RsvVcl31 = refl
tag_of-nalu_type VpsNut = refl
tag_of-nalu_type SpsNut = refl
tag_of-nalu_type PpsNut = refl
tag_of-nalu_type AudNut = refl
tag_of-nalu_type EosNut = refl
tag_of-nalu_type EobNut = refl
tag_of-nalu_type FdNut = refl
tag_of-nalu_type PrefixSeiNut = refl
tag_of-nalu_type SuffixSeiNut = refl
tag_of-nalu_type RsvNvcl41 = refl
tag_of-nalu_type RsvNvcl42 = refl
tag_of-nalu_type RsvNvcl43 = refl
tag_of-nalu_type RsvNvcl44 = refl
tag_of-nalu_type RsvNvcl45 = refl
tag_of-nalu_type RsvNvcl46 = refl
tag_of-nalu_type RsvNvcl47 = refl

pub same_number : (t u : NaluType) → sameb the_type t u ≡ eqb (nalu_type_number t) (nalu_type_number u)
same_number t u = rw (tag_of-nalu_type t, tag_of-nalu_type u) refl

-- the numbers that the variants are declared with, in order
abbrev pub declared_numbers : List ℤ
declared_numbers = pos 0 ∷ pos 1 ∷ pos 2 ∷ pos 3 ∷ pos 4 ∷ pos 5 ∷ pos 6 ∷ pos 7 ∷ pos 8 ∷ pos 9 ∷ pos 10
    ∷ pos 11 ∷ pos 12 ∷ pos 13 ∷ pos 14 ∷ pos 15 ∷ pos 16 ∷ pos 17 ∷ pos 18 ∷ pos 19 ∷ pos 20 ∷ pos 21
    ∷ pos 22 ∷ pos 23 ∷ pos 24 ∷ pos 25 ∷ pos 26 ∷ pos 27 ∷ pos 28 ∷ pos 29 ∷ pos 30 ∷ pos 31 ∷ pos 32
    ∷ pos 33 ∷ pos 34 ∷ pos 35 ∷ pos 36 ∷ pos 37 ∷ pos 38 ∷ pos 39 ∷ pos 40 ∷ pos 41 ∷ pos 42 ∷ pos 43
    ∷ pos 44 ∷ pos 45 ∷ pos 46 ∷ pos 47 ∷ []

pub declared_number : (t : NaluType) → get_or declared_numbers (tag_of the_type t) (pos 0) ≡ pos (nalu_type_number t)
declared_number TrailN = refl
declared_number TrailR = refl
declared_number TsaN = refl
declared_number TsaR = refl
declared_number StsaN = refl
declared_number StsaR = refl
declared_number RadlN = refl
declared_number RadlR = refl
declared_number RaslN = refl
declared_number RaslR = refl
declared_number RsvVclN10 = refl
declared_number RsvVclR11 = refl
declared_number RsvVclN12 = refl
declared_number RsvVclR13 = refl
declared_number RsvVclN14 = refl
declared_number RsvVclR15 = refl
declared_number BlaWLp = refl
declared_number BlaWRadl = refl
declared_number BlaNLp = refl
declared_number IdrWRadl = refl
declared_number IdrNLp = refl
declared_number CraNut = refl
declared_number RsvIrapVcl22 = refl
declared_number RsvIrapVcl23 = refl
declared_number RsvVcl24 = refl
declared_number RsvVcl25 = refl
declared_number RsvVcl26 = refl
declared_number RsvVcl27 = refl
declared_number RsvVcl28 = refl
declared_number RsvVcl29 = refl
declared_number RsvVcl30 = refl
declared_number RsvVcl31 = refl
declared_number VpsNut = refl
declared_number SpsNut = refl
declared_number PpsNut = refl
declared_number AudNut = refl
declared_number EosNut = refl
declared_number EobNut = refl
declared_number FdNut = refl
declared_number PrefixSeiNut = refl
declared_number SuffixSeiNut = refl
declared_number RsvNvcl41 = refl
declared_number RsvNvcl42 = refl
declared_number RsvNvcl43 = refl
declared_number RsvNvcl44 = refl
declared_number RsvNvcl45 = refl
declared_number RsvNvcl46 = refl
declared_number RsvNvcl47 = refl

of_positive : (m n : ℕ) → int_cmp (pos m) (pos n) ≡ nat_cmp m n
of_positive m n = grind (arith, common_steps)

pub cmp-number : (t u : NaluType) → ghosts.cmp t u ≡ nat_cmp (nalu_type_number t) (nalu_type_number u)
cmp-number t u = ap₂ int_cmp (declared_number t) (declared_number u)
    ∙ of_positive (nalu_type_number t) (nalu_type_number u)
