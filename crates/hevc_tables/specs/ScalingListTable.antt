-- Scaling lists (7.3.4, table 6).
use Rattle.std.specs.Prelude.{ℕ, ◌-◌, ◌*◌, ◌/◌, ◌%◌, ◌==◌, Bool, true, false, if◌then◌else◌, ℤ, pos}
use Rattle.std.specs.Prelude.{negsuc, ◌+ℤ◌, unsigned_abs, List, [], replicate, slice_set, slice_get}
use Rattle.std.specs.Prelude.{unwrap_or}
use Rattle.hevc_spec.specs.Table.{Table, done, ◌>>=◌}
use Rattle.hevc_spec.specs.Rows.{row, flag_row, ue_row, se_row, when, either, repeat}
use Rattle.hevc_records.specs.ScalingLists.{PlainScalingLists}
use Rattle.hevc_records.specs.DefaultScalingLists.{flat_list, default_lists_8x8}

-- ---- sizes

-- the sizes of matrices, by sizeId from 0 to 3 (7.4.5)
pub data Size : Type 0 where
  size_4x4 : Size
  size_8x8 : Size
  size_16x16 : Size
  size_32x32 : Size

-- how many entries the syntax has for a matrix: coefNum (7.3.4)
abbrev pub coef_num : Size → ℕ
coef_num size_4x4 = 16
coef_num size_8x8 = 64
coef_num size_16x16 = 64
coef_num size_32x32 = 64

-- The first entry of a matrix has a number of its own where sizeId is above 1 (7.3.4).
abbrev pub has_dc_coef : Size → Bool
has_dc_coef size_4x4 = false
has_dc_coef size_8x8 = false
has_dc_coef size_16x16 = true
has_dc_coef size_32x32 = true

-- from one matrixId of a size to the next, which refMatrixId counts by as well (7.3.4, 7-42)
abbrev pub matrix_step : Size → ℕ
matrix_step size_4x4 = 1
matrix_step size_8x8 = 1
matrix_step size_16x16 = 1
matrix_step size_32x32 = 3

-- the matrices that a size has: 0 to 5, at 32x32 those of luma alone (7.3.4)
abbrev pub has_matrix : Size → ℕ → Bool
has_matrix size matrix_id = matrix_id % matrix_step size == 0

-- ---- the entries of one matrix

-- row 4 (7.3.4): nextCoef, and the entries up to it
pub record Coefs : Type 0 where
  pub next_coef : ℕ
  pub entries : List ℕ

-- nextCoef and a difference, modulo 256 (7.3.4); the difference is at least -128
abbrev pub sum_modulo_256 : ℕ → ℤ → ℕ
sum_modulo_256 next_coef delta = unsigned_abs (pos next_coef +ℤ delta +ℤ pos 256) % 256

-- row 4 (7.3.4): entry i
unfoldable pub next_entry : ℕ → Coefs → Table Coefs
next_entry i c = do
  delta ← se_row (row 6 4) (negsuc 127) (pos 127)
  done (record {
    next_coef = sum_modulo_256 c.next_coef delta;
    entries = slice_set c.entries i (sum_modulo_256 c.next_coef delta);
  })

-- row 4 (7.3.4): so many entries, summed up from a number
unfoldable pub coefs : ℕ → ℕ → Table Coefs
coefs count start =
    repeat next_entry 0 count (record { next_coef = start; entries = replicate count 0 })

-- ---- the matrices of a size

-- the matrices of a size, by matrixId (7.4.5): the first entry less 8, which is kept of those of
-- 16x16 and 32x32 alone, and the entries
pub record Matrices : Type 0 where
  pub dc_coef_minus8 : List ℤ
  pub entries : List (List ℕ)

-- the value where nothing was read
abbrev pub no_matrices : Size → Matrices
no_matrices size = record {
  dc_coef_minus8 = replicate 6 (pos 0);
  entries = replicate 6 (replicate (coef_num size) 0);
}

-- the list of a matrix
abbrev pub list_of : List (List ℕ) → ℕ → List ℕ
list_of lists matrix_id = unwrap_or (slice_get lists matrix_id) []

-- the matrix of this matrixId is this one
unfoldable pub with_matrix : Matrices → ℕ → ℤ → List ℕ → Matrices
with_matrix all matrix_id dc_coef_minus8 entries = record {
  dc_coef_minus8 = slice_set all.dc_coef_minus8 matrix_id dc_coef_minus8;
  entries = slice_set all.entries matrix_id entries;
}

-- the default matrix (7.4.5): its first entry is 16
abbrev pub with_default : List (List ℕ) → ℕ → Matrices → Matrices
with_default defaults matrix_id all = with_matrix all matrix_id (pos 8) (list_of defaults matrix_id)

-- the same as another matrix
abbrev pub with_copy : ℕ → ℕ → Matrices → Matrices
with_copy ref_matrix_id matrix_id all =
    with_matrix all matrix_id (unwrap_or (slice_get all.dc_coef_minus8 ref_matrix_id) (pos 0))
    (list_of all.entries ref_matrix_id)

-- refMatrixId (7-42)
abbrev pub ref_matrix : Size → ℕ → ℕ → ℕ
ref_matrix size matrix_id delta = matrix_id - delta * matrix_step size

-- Rows 3 and 4 (7.3.4). The sum begins at 8, or at the first entry where that has a number.
unfoldable pub coded_matrix : Size → ℕ → Matrices → Table Matrices
coded_matrix size matrix_id all = do
  dc_coef_minus8 ← when (has_dc_coef size) (pos 0) (se_row (row 6 3) (negsuc 6) (pos 247))
  c ← coefs (coef_num size) (unsigned_abs (dc_coef_minus8 +ℤ pos 8))
  done (with_matrix all matrix_id dc_coef_minus8 c.entries)

-- row 2 (7.3.4): the default matrix of the size, or the same as one before it
unfoldable pub predicted_matrix : Size → List (List ℕ) → ℕ → Matrices → Table Matrices
predicted_matrix size defaults matrix_id all = do
  delta ← ue_row (row 6 2) 0 (matrix_id / matrix_step size)
  done (if delta == 0 then with_default defaults matrix_id all
      else with_copy (ref_matrix size matrix_id delta) matrix_id all)

-- rows 1 to 4 (7.3.4) of the matrix of this matrixId
unfoldable pub matrix : Size → List (List ℕ) → ℕ → Matrices → Table Matrices
matrix size defaults matrix_id all = do
  pred_mode_flag ← flag_row (row 6 1)
  either pred_mode_flag
      (coded_matrix size matrix_id all)
      (predicted_matrix size defaults matrix_id all)

-- the same, where the size has this matrix
unfoldable pub next_matrix : Size → List (List ℕ) → ℕ → Matrices → Table Matrices
next_matrix size defaults matrix_id all =
    when (has_matrix size matrix_id) all (matrix size defaults matrix_id all)

-- rows 1 to 4 (7.3.4) of each matrix of a size, whose default lists are these
unfoldable pub matrices : Size → List (List ℕ) → Table Matrices
matrices size defaults = repeat (next_matrix size defaults) 0 6 (no_matrices size)

-- table 6 (7.3.4), with the default lists of Tables 7-5 and 7-6
unfoldable pub scaling_list_data : Table PlainScalingLists
scaling_list_data = do
  of_4x4 ← matrices size_4x4 (replicate 6 flat_list)
  of_8x8 ← matrices size_8x8 default_lists_8x8
  of_16x16 ← matrices size_16x16 default_lists_8x8
  of_32x32 ← matrices size_32x32 default_lists_8x8
  done (record {
    scaling_list_dc_coef_minus8_16x16 = of_16x16.dc_coef_minus8;
    scaling_list_dc_coef_minus8_32x32 = of_32x32.dc_coef_minus8;
    scaling_list_4x4 = of_4x4.entries;
    scaling_list_8x8 = of_8x8.entries;
    scaling_list_16x16 = of_16x16.entries;
    scaling_list_32x32 = of_32x32.entries;
  })
