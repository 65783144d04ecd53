-- The numbers of the unit types (table 7-1).
use Rattle.std.specs.Prelude.{ℕ, List, [], ◌∷◌, unwrap_or, slice_get}
use Rattle.hevc_bits.specs.declared.nalu_type.NaluType.{NaluType}
use Rattle.hevc_bits.specs.declared.nalu_type.NaluType.TheVariants.{TrailN, TrailR, TsaN, TsaR}
use Rattle.hevc_bits.specs.declared.nalu_type.NaluType.TheVariants.{StsaN, StsaR, RadlN, RadlR}
use Rattle.hevc_bits.specs.declared.nalu_type.NaluType.TheVariants.{RaslN, RaslR, RsvVclN10}
use Rattle.hevc_bits.specs.declared.nalu_type.NaluType.TheVariants.{RsvVclR11, RsvVclN12, RsvVclR13}
use Rattle.hevc_bits.specs.declared.nalu_type.NaluType.TheVariants.{RsvVclN14, RsvVclR15, BlaWLp}
use Rattle.hevc_bits.specs.declared.nalu_type.NaluType.TheVariants.{BlaWRadl, BlaNLp, IdrWRadl}
use Rattle.hevc_bits.specs.declared.nalu_type.NaluType.TheVariants.{IdrNLp, CraNut, RsvIrapVcl22}
use Rattle.hevc_bits.specs.declared.nalu_type.NaluType.TheVariants.{RsvIrapVcl23, RsvVcl24}
use Rattle.hevc_bits.specs.declared.nalu_type.NaluType.TheVariants.{RsvVcl25, RsvVcl26, RsvVcl27}
use Rattle.hevc_bits.specs.declared.nalu_type.NaluType.TheVariants.{RsvVcl28, RsvVcl29, RsvVcl30}
use Rattle.hevc_bits.specs.declared.nalu_type.NaluType.TheVariants.{RsvVcl31, VpsNut, SpsNut}
use Rattle.hevc_bits.specs.declared.nalu_type.NaluType.TheVariants.{PpsNut, AudNut, EosNut, EobNut}
use Rattle.hevc_bits.specs.declared.nalu_type.NaluType.TheVariants.{FdNut, PrefixSeiNut}
use Rattle.hevc_bits.specs.declared.nalu_type.NaluType.TheVariants.{SuffixSeiNut, RsvNvcl41}
use Rattle.hevc_bits.specs.declared.nalu_type.NaluType.TheVariants.{RsvNvcl42, RsvNvcl43, RsvNvcl44}
use Rattle.hevc_bits.specs.declared.nalu_type.NaluType.TheVariants.{RsvNvcl45, RsvNvcl46, RsvNvcl47}

-- the number by which a unit names its type
abbrev pub nalu_type_number : NaluType → ℕ
nalu_type_number TrailN = 0
nalu_type_number TrailR = 1
nalu_type_number TsaN = 2
nalu_type_number TsaR = 3
nalu_type_number StsaN = 4
nalu_type_number StsaR = 5
nalu_type_number RadlN = 6
nalu_type_number RadlR = 7
nalu_type_number RaslN = 8
nalu_type_number RaslR = 9
nalu_type_number RsvVclN10 = 10
nalu_type_number RsvVclR11 = 11
nalu_type_number RsvVclN12 = 12
nalu_type_number RsvVclR13 = 13
nalu_type_number RsvVclN14 = 14
nalu_type_number RsvVclR15 = 15
nalu_type_number BlaWLp = 16
nalu_type_number BlaWRadl = 17
nalu_type_number BlaNLp = 18
nalu_type_number IdrWRadl = 19
nalu_type_number IdrNLp = 20
nalu_type_number CraNut = 21
nalu_type_number RsvIrapVcl22 = 22
nalu_type_number RsvIrapVcl23 = 23
nalu_type_number RsvVcl24 = 24
nalu_type_number RsvVcl25 = 25
nalu_type_number RsvVcl26 = 26
nalu_type_number RsvVcl27 = 27
nalu_type_number RsvVcl28 = 28
nalu_type_number RsvVcl29 = 29
nalu_type_number RsvVcl30 = 30
nalu_type_number RsvVcl31 = 31
nalu_type_number VpsNut = 32
nalu_type_number SpsNut = 33
nalu_type_number PpsNut = 34
nalu_type_number AudNut = 35
nalu_type_number EosNut = 36
nalu_type_number EobNut = 37
nalu_type_number FdNut = 38
nalu_type_number PrefixSeiNut = 39
nalu_type_number SuffixSeiNut = 40
nalu_type_number RsvNvcl41 = 41
nalu_type_number RsvNvcl42 = 42
nalu_type_number RsvNvcl43 = 43
nalu_type_number RsvNvcl44 = 44
nalu_type_number RsvNvcl45 = 45
nalu_type_number RsvNvcl46 = 46
nalu_type_number RsvNvcl47 = 47

-- the types in the order of their numbers
abbrev pub nalu_types : List NaluType
nalu_types =
    TrailN ∷ TrailR ∷ TsaN ∷ TsaR ∷ StsaN ∷ StsaR ∷ RadlN ∷ RadlR ∷
    RaslN ∷ RaslR ∷ RsvVclN10 ∷ RsvVclR11 ∷ RsvVclN12 ∷ RsvVclR13 ∷ RsvVclN14 ∷ RsvVclR15 ∷
    BlaWLp ∷ BlaWRadl ∷ BlaNLp ∷ IdrWRadl ∷ IdrNLp ∷ CraNut ∷ RsvIrapVcl22 ∷ RsvIrapVcl23 ∷
    RsvVcl24 ∷ RsvVcl25 ∷ RsvVcl26 ∷ RsvVcl27 ∷ RsvVcl28 ∷ RsvVcl29 ∷ RsvVcl30 ∷ RsvVcl31 ∷
    VpsNut ∷ SpsNut ∷ PpsNut ∷ AudNut ∷ EosNut ∷ EobNut ∷ FdNut ∷ PrefixSeiNut ∷
    SuffixSeiNut ∷ RsvNvcl41 ∷ RsvNvcl42 ∷ RsvNvcl43 ∷ RsvNvcl44 ∷ RsvNvcl45 ∷ RsvNvcl46 ∷
    RsvNvcl47 ∷ []

-- the type of a number
abbrev pub nalu_type_of : ℕ → NaluType
nalu_type_of n = unwrap_or (slice_get nalu_types n) TrailN
