-- The lines of a table (7.3), what a record's lines are, and where a payload breaks off.
use Rattle.std.specs.Prelude.{◌≡◌, ◌≢◌, ℕ, Bool, true, false, List, [], ◌∷◌, ◌++◌, length}
use Rattle.std.specs.Prelude.{replicate, ◌⊎◌}
use Rattle.hevc_spec.specs.declared.Row.{Row}
use Rattle.hevc_spec.specs.Bits.{Form, u, ue, se, skip, check, IsSpelled}
use Rattle.hevc_spec.specs.Table.{Table, done, missing, element, sized, part, Fault, out_of_bits}
use Rattle.hevc_spec.specs.Table.{out_of_range, not_kept}

-- what a line asks for: its row, its form, and which values are allowed
pub record Head : Type 0 where
  pub row : Row
  pub form : Form
  pub allowed : ℕ → Bool

-- a line: its value, and the bits that stand for it
pub record Line : Type 0 where
  pub head : Head
  pub value : ℕ
  pub bits : List Bool

-- the value is allowed, and the bits spell it
abbrev pub IsGood : Line → Type 0
IsGood l = (l.head.allowed l.value ≡ true) × IsSpelled l.head.form l.value l.bits

abbrev pub AreGood : List Line → Type 0
AreGood [] = Unit {0}
AreGood (l ∷ ls) = IsGood l × AreGood ls

-- the bits of lines, joined
abbrev pub joined : List Line → List Bool
joined [] = []
joined (l ∷ ls) = l.bits ++ joined ls

-- These are the lines of a table that is filled in, and the record is the one that they give.
abbrev pub HasLines : {A : Type 0} → Table A → A → List Line → Type 0
HasLines (done x) r ls = (x ≡ r) × (ls ≡ [])
HasLines (missing row id) r ls = ⊥
HasLines (element row form allowed value) r ls =
    (v : ℕ)
    × (b : List Bool)
    × (value v ≡ r)
    × (ls ≡ record {
      head = record { row = row; form = form; allowed = allowed };
      value = v;
      bits = b;
    } ∷ [])
HasLines (sized {A = X} t f) r ls = (x : X) × HasLines t x ls × (f x (length (joined ls)) ≡ r)
HasLines (part {A = X} t k) r ls =
    (x : X)
    × (first : List Line)
    × (others : List Line)
    × HasLines t x first
    × HasLines (k x) r others
    × (ls ≡ first ++ others)

-- what comes after first lines of a table: a line that asks for something,
-- or a set that is not kept
pub data Next : Type 0 where
  line : Head → Next
  lacks : Row → ℕ → Next

abbrev pub HasNext : {A : Type 0} → Table A → List Line → Next → Type 0
HasNext (done x) ls next = ⊥
HasNext (missing row id) ls next = (next ≡ lacks row id) × (ls ≡ [])
HasNext (element row form allowed value) ls next =
    (next ≡ line (record { row = row; form = form; allowed = allowed })) × (ls ≡ [])
HasNext (sized t f) ls next = HasNext t ls next
HasNext (part {A = X} t k) ls next =
    HasNext t ls next
    ⊎ ((x : X)
    × (first : List Line)
    × (others : List Line)
    × HasLines t x first
    × HasNext (k x) others next
    × (ls ≡ first ++ others))

-- the forms that Exp-Golomb numbers have
abbrev pub IsGolomb : Form → Type 0
IsGolomb (u n) = ⊥
IsGolomb ue = Unit {0}
IsGolomb se = Unit {0}
IsGolomb (skip n) = ⊥
IsGolomb check = ⊥

-- A value that is not allowed is spelled at the front.
pub record SpellsOther (h : Head) (bits : List Bool) : Type 0 where
  pub value : ℕ
  pub front : List Bool
  pub behind : List Bool
  pub parts : bits ≡ front ++ behind
  pub spelled : IsSpelled h.form value front
  pub not_allowed : h.allowed value ≡ false

-- 32 zero bits are at the front.
pub record BeginsWithZeros (bits : List Bool) : Type 0 where
  pub behind : List Bool
  pub parts : bits ≡ replicate 32 false ++ behind

-- The bits are a proper prefix of a spelling.
pub record EndsWithin (form : Form) (bits : List Bool) : Type 0 where
  pub value : ℕ
  pub lacking : List Bool
  pub some : lacking ≢ []
  pub spelled : IsSpelled form value (bits ++ lacking)

-- why the next line cannot be taken from the bits
abbrev pub Breaks : Next → List Bool → Fault → Type 0
Breaks (lacks row id) bits f = f ≡ not_kept row id
Breaks (line h) bits out_of_bits = EndsWithin h.form bits
Breaks (line h) bits (out_of_range row) =
    (row ≡ h.row) × (SpellsOther h bits ⊎ (IsGolomb h.form × BeginsWithZeros bits))
Breaks (line h) bits (not_kept row id) = ⊥

-- The lines of the record are allowed and spelled by the bits up to the rest.
pub record Spells {A : Type 0} (t : Table A) (r : A) (bits rest : List Bool) : Type 0 where
  pub lines : List Line
  pub has : HasLines t r lines
  pub good : AreGood lines
  pub parts : bits ≡ joined lines ++ rest

-- Some first lines are allowed and spelled by the bits up to the rest,
-- and there the next line breaks.
pub record BreaksOff {A : Type 0} (t : Table A) (fault : Fault) (bits rest : List Bool)
    : Type 0 where
  pub lines : List Line
  pub next : Next
  pub has : HasNext t lines next
  pub good : AreGood lines
  pub parts : bits ≡ joined lines ++ rest
  pub breaks : Breaks next rest fault
