-- The offsets of weighted prediction as VA-API takes them.
use Rattle.std.specs.Prelude.{ℤ, pos, not, nat_lt, List, replicate, if◌then◌else◌, Option}
use Rattle.std.specs.Prelude.{Some, None}
use Rattle.std.specs.Option.{option_or}
use Rattle.hevc_records.specs.PredWeightTable.{PlainPredWeightTable}
use Rattle.hevc_v4l2.specs.Weights.{chroma_fits, chroma_offsets_l0, chroma_offsets_l1, luma_fits}
use Rattle.hevc_va.specs.declared.error.VaError.{VaError}
use Rattle.hevc_va.specs.declared.error.VaError.TheVariants.{ChromaDenominator, ChromaOffset}
use Rattle.hevc_va.specs.declared.error.VaError.TheVariants.{LumaOffset}

-- ChromaLog2WeightDenom is 0 to 7 (7.4.7.3)
abbrev pub denominator_error : PlainPredWeightTable → Option VaError
denominator_error t = if nat_lt 7 t.chroma_log2_weight_denom then Some ChromaDenominator else None

-- the first of the offsets that take more than 8 bits, with these of chroma
abbrev pub offsets_error : (l0 l1 : List (List ℤ)) → PlainPredWeightTable → Option VaError
offsets_error l0 l1 t =
    if not (luma_fits t) then Some LumaOffset
    else if not (chroma_fits l0 l1) then Some ChromaOffset
    else None

-- the first thing of the weights that a struct of 8 bits can't hold
abbrev pub weights_error : (half_range : ℤ) → PlainPredWeightTable → Option VaError
weights_error half_range t =
    option_or (denominator_error t)
    (offsets_error (chroma_offsets_l0 half_range t) (chroma_offsets_l1 half_range t) t)

-- where offsets are told elsewhere
abbrev pub no_luma_offsets : List ℤ
no_luma_offsets = replicate 15 (pos 0)

abbrev pub no_chroma_offsets : List (List ℤ)
no_chroma_offsets = replicate 15 (replicate 2 (pos 0))
