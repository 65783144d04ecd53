-- Syntax tables as values, and what they mean: the lines of a record, and reading.
use Rattle.std.specs.Prelude.{ℕ, ◌-◌, Bool, List, length}
use Rattle.hevc_spec.specs.declared.Row.{Row}
use Rattle.hevc_spec.specs.Bits.{Form, Found, found, out_of_bounds, ended, form_at, within}

-- A table: its rows in order, and the record that they give. Where a set is missing, the element of
-- a row names it by an id that no kept set has.
pub data Table : Type 0 → Type 1 where
  done : {A : Type 0} → A → Table A
  missing : {A : Type 0} → Row → ℕ → Table A
  element : {A : Type 0} → Row → Form → (ℕ → Bool) → (ℕ → A) → Table A
  sized : {A B : Type 0} → Table A → (A → ℕ → B) → Table B
  part : {A B : Type 0} → Table A → (A → Table B) → Table B

infixl 10 ◌>>=◌
abbrev pub ◌>>=◌ : {A B : Type 0} → Table A → (A → Table B) → Table B
t >>= k = part t k

-- why a table isn't read: the bits end, the element of a row isn't allowed, or the set that the
-- element of a row names isn't kept
pub data Fault : Type 0 where
  out_of_bits : Fault
  out_of_range : Row → Fault
  not_kept : Row → ℕ → Fault

-- what reading gives: a value and the bits after it,
-- or a fault and the bits from the refused element on
pub data Reading (A : Type 0) : Type 0 where
  gives : A → List Bool → Reading A
  refuses : Fault → List Bool → Reading A

abbrev pub reading_then : {A B : Type 0} → Reading A → (A → List Bool → Reading B) → Reading B
reading_then (gives x rest) k = k x rest
reading_then (refuses f rest) k = refuses f rest

-- what one line gives, by what is there
abbrev pub line_found : {A : Type 0} → Row → (ℕ → A) → List Bool → Found → Reading A
line_found row value bits (found v rest) = gives (value v) rest
line_found row value bits out_of_bounds = refuses (out_of_range row) bits
line_found row value bits ended = refuses out_of_bits bits

abbrev pub read : {A : Type 0} → Table A → List Bool → Reading A
read (done x) bits = gives x bits
read (missing row id) bits = refuses (not_kept row id) bits
read (element row form allowed value) bits =
    line_found row value bits (within allowed (form_at form bits))
read (sized t f) bits =
    reading_then (read t bits) (λ x rest. gives (f x (length bits - length rest)) rest)
read (part t k) bits = reading_then (read t bits) (λ x rest. read (k x) rest)
