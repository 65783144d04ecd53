-- The rows of a table, as 7.3 writes them.
use Rattle.std.specs.Prelude.{ℕ, zero, suc, ◌+◌, Bool, true, false, ◌==◌, ℤ}
use Rattle.hevc_spec.specs.declared.Row.{Row}
use Rattle.hevc_spec.specs.Bits.{u, ue, se, skip, check, in_range, in_signed_range, signed}
use Rattle.hevc_spec.specs.Table.{Table, done, element, ◌>>=◌}

abbrev pub row : ℕ → ℕ → Row
row table number = record { 0 = table; 1 = number }

-- u(1)
unfoldable pub flag_row : Row → Table Bool
flag_row r = element r (u 1) (λ _. true) (λ v. v == 1)

-- u(1), which must be 0
unfoldable pub zero_row : Row → Table Bool
zero_row r = element r (u 1) (λ v. v == 0) (λ v. v == 1)

-- u(n)
unfoldable pub bits_row : Row → ℕ → ℕ → ℕ → Table ℕ
bits_row r n min max = element r (u n) (in_range min max) (λ v. v)

-- ue(v)
unfoldable pub ue_row : Row → ℕ → ℕ → Table ℕ
ue_row r min max = element r ue (in_range min max) (λ v. v)

-- se(v)
unfoldable pub se_row : Row → ℤ → ℤ → Table ℤ
se_row r min max = element r se (in_signed_range min max) signed

-- n bits that are not kept
unfoldable pub skip_row : Row → ℕ → Table ℕ
skip_row r n = element r (skip n) (λ _. true) (λ _. 0)

-- a condition
unfoldable pub check_row : Row → Bool → Table ℕ
check_row r holds = element r check (λ _. holds) (λ v. v)

-- a row that is present only under a condition, and the value of its element where it is not
unfoldable pub when : {A : Type 0} → Bool → A → Table A → Table A
when true absent t = t
when false absent t = done absent

-- Rows that are repeated together: so many times from an index on,
-- each time over what the times before gave.
unfoldable pub repeat : {S : Type 0} → (ℕ → S → Table S) → ℕ → ℕ → S → Table S
repeat body i zero s = done s
repeat body i (suc more) s = body i s >>= λ next. repeat body (i + 1) more next

-- one of two groups of rows
unfoldable pub either : {A : Type 0} → Bool → Table A → Table A → Table A
either true t s = t
either false t s = s
