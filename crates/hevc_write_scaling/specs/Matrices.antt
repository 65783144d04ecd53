-- The bits of scaling lists, each with its own entries (7.3.4).
use Rattle.std.specs.Prelude.{◌≡◌, ℕ, ◌+◌, ◌-◌, ◌%◌, ◌==◌, nat_lt, ℤ, pos, ◌+ℤ◌, ◌-ℤ◌, unsigned_abs}
use Rattle.std.specs.Prelude.{Bool, true, false, if◌then◌else◌, List, [], ◌∷◌, ◌++◌, replicate}
use Rattle.hevc_spec.specs.Bits.{se}
use Rattle.hevc_records.specs.ScalingLists.{PlainScalingLists}
use Rattle.hevc_bit_writer.specs.Writing.{spelled, code_number}

-- scaling_list_delta_coef: from one number to the next, modulo 256, from -128 to 127
abbrev pub step_modulo_256 : ℕ → ℕ → ℤ
step_modulo_256 from to =
    if nat_lt ((to + 256 - from) % 256) 128 then pos ((to + 256 - from) % 256)
    else pos ((to + 256 - from) % 256) -ℤ pos 256

-- a signed number's bits
abbrev pub signed_bits : ℤ → List Bool
signed_bits value = spelled se (code_number value)

-- row 4: entries, each as the step from the one before it
abbrev pub coef_bits : ℕ → List ℕ → List Bool
coef_bits next [] = []
coef_bits next (e ∷ es) = signed_bits (step_modulo_256 next e) ++ coef_bits e es

-- the first entry less 8, which only some sizes have a number for
abbrev pub kept_dc : Bool → ℤ → ℤ
kept_dc has_dc dc_coef_minus8 = if has_dc then dc_coef_minus8 else pos 0

-- rows 1, 3 and 4 of one matrix
abbrev pub matrix_bits : Bool → ℤ → List ℕ → List Bool
matrix_bits has_dc dc_coef_minus8 entries =
    true
    ∷ (if has_dc then signed_bits dc_coef_minus8 else [])
    ++ coef_bits (unsigned_abs (kept_dc has_dc dc_coef_minus8 +ℤ pos 8)) entries

-- the matrices of a size from number i on, of which every so many are there
abbrev pub matrices_bits : Bool → ℕ → ℕ → List ℤ → List (List ℕ) → List Bool
matrices_bits has_dc step i [] lists = []
matrices_bits has_dc step i (d ∷ ds) [] = []
matrices_bits has_dc step i (d ∷ ds) (l ∷ ls) =
    (if i % step == 0 then matrix_bits has_dc d l else []) ++ matrices_bits has_dc step (i + 1) ds ls

-- numbers that aren't looked at
abbrev pub no_dc : List ℤ
no_dc = replicate 6 (pos 0)

-- all of table 6
unfoldable pub scaling_list_bits : PlainScalingLists → List Bool
scaling_list_bits x =
    matrices_bits false 1 0 no_dc x.scaling_list_4x4
    ++ matrices_bits false 1 0 no_dc x.scaling_list_8x8
    ++ matrices_bits true 1 0 x.scaling_list_dc_coef_minus8_16x16 x.scaling_list_16x16
    ++ matrices_bits true 3 0 x.scaling_list_dc_coef_minus8_32x32 x.scaling_list_32x32
