-- What reading tells: each element as it was read, the refused one too where it has a value.
use Rattle.std.specs.Prelude.{ℕ, ◌-◌, ◌==◌, Bool, List, [], ◌∷◌, ◌++◌, take, map, ◌≤◌}
use Rattle.std.specs.Prelude.{if◌then◌else◌, ℤ, pos, Option, Some, None}
use Rattle.hevc_spec.specs.declared.Row.{Row}
use Rattle.hevc_spec.specs.Bits.{Form, u, ue, se, skip, check, Found, found, out_of_bounds, ended}
use Rattle.hevc_spec.specs.Bits.{bits_at, ue_at, signed}
use Rattle.hevc_spec.specs.Table.{Table, done, missing, element, sized, part, Reading, gives}
use Rattle.hevc_spec.specs.Table.{refuses, read}
use Rattle.hevc_elements.specs.declared.told.Descriptor.{Descriptor}
use Rattle.hevc_elements.specs.declared.told.Descriptor.TheVariants.{U, Ue, Se}
use Rattle.hevc_elements.specs.declared.told.Told.{Told}

-- an element of a row, its descriptor (7.2) and its value
abbrev pub told_of : Row → Descriptor → ℤ → Told
told_of row descriptor value = record { row = row; descriptor = descriptor; value = value }

-- what is found, as an element; nothing where there is no value
abbrev pub found_told : Row → Descriptor → (ℕ → ℤ) → Found → List Told
found_told row descriptor value (found v rest) = told_of row descriptor (value v) ∷ []
found_told row descriptor value out_of_bounds = []
found_told row descriptor value ended = []

-- bits, each as an element
abbrev pub bits_told : Row → List Bool → List Told
bits_told row bits = map (λ b. told_of row (U 1) (pos (if b then 1 else 0))) bits

-- What is told of an element: its value, up to 2147483647 where it is an Exp-Golomb number. Bits that
-- aren't kept are told one by one, as far as they go; of a condition nothing is told.
abbrev pub element_told : Row → Form → List Bool → List Told
element_told row (u n) bits = found_told row (U n) pos (bits_at n bits)
element_told row ue bits = found_told row Ue pos (ue_at bits)
element_told row se bits = found_told row Se signed (ue_at bits)
element_told row (skip n) bits = bits_told row (take n bits)
element_told row check bits = []

-- the form of a descriptor
abbrev pub form_of : Descriptor → Form
form_of (U n) = u n
form_of Ue = ue
form_of Se = se

-- a number of at most 32 bits, which every u(n) of the tables is
abbrev pub IsShort : Descriptor → Type 0
IsShort (U n) = n ≤ 32
IsShort Ue = Unit {0}
IsShort Se = Unit {0}

-- what there may be, as a list
abbrev pub as_list : Option Told → List Told
as_list None = []
as_list (Some t) = t ∷ []

abbrev pub told_then : {A : Type 0} → Reading A → (A → List Bool → List Told) → List Told
told_then (gives x rest) k = k x rest
told_then (refuses fault rest) k = []

-- what reading a table tells of its payload bits
abbrev pub told : {A : Type 0} → Table A → List Bool → List Told
told (done x) bits = []
told (missing row id) bits = []
told (element row form allowed value) bits = element_told row form bits
told (sized t f) bits = told t bits
told (part t k) bits = told t bits ++ told_then (read t bits) (λ x rest. told (k x) rest)

-- What a reader has told so far, in order, and for how many more elements there is room. Those that
-- come after have none.
pub record Telling : Type 0 where
  pub told : List Told
  pub room : ℕ

-- one more is told, where there is room
abbrev pub and_one : Told → Telling → Telling
and_one one t =
    if t.room == 0 then t else record { told = t.told ++ one ∷ []; room = t.room - 1 }

-- more is told, one after the other
unfoldable pub and_told : List Told → Telling → Telling
and_told [] t = t
and_told (one ∷ more) t = and_told more (and_one one t)

-- nothing is told
abbrev pub no_telling : Telling
no_telling = record { told = []; room = 0 }
