-- A record of the code is the values of its fields: what the proofs for all records share.
use Rattle.std.proofs.Common.{if◌then◌else◌, ◌≡◌, ℕ, ◌==◌, List, [], ◌∷◌, refl, sym, ap, ap₂, ◌∙◌}
use Rattle.std.specs.Prelude.{map}
use denote.Struct.Cover.{Cover-one}
use denote.Struct.Declared.{Declared}
use Rattle.hevc_set_parts.specs.declared.level.Level.{Level}
use Rattle.hevc_set_parts.specs.declared.level.Level.TheVariants.{L1, L2, L2_1, L3, L3_1, L4, L4_1}
use Rattle.hevc_set_parts.specs.declared.level.Level.TheVariants.{L5, L5_1, L5_2, L6, L6_1, L6_2}
use Rattle.hevc_set_parts.specs.Level.{level_number}
use Rattle.hevc_set_parts.specs.declared.slice_type.SliceType.{SliceType}
use Rattle.hevc_set_parts.specs.declared.slice_type.SliceType.TheVariants.{B, P, I}
use Rattle.hevc_set_parts.specs.SliceType.{slice_type_number}
use Rattle.hevc_record_laws.specs.Values.{IsItsValues}

-- a struct is its fields
pub same : (T : Declared) (x y : T.D) → T.as_values x ≡ T.as_values y → x ≡ y
same T x y e = Cover-one T.cover T.propositions x y e

-- ---- enums and lists

abbrev level_of : ℕ → Level
level_of n =
    if n == 30 then L1 else
    if n == 60 then L2 else
    if n == 63 then L2_1 else
    if n == 90 then L3 else
    if n == 93 then L3_1 else
    if n == 120 then L4 else
    if n == 123 then L4_1 else
    if n == 150 then L5 else
    if n == 153 then L5_1 else
    if n == 156 then L5_2 else
    if n == 180 then L6 else
    if n == 183 then L6_1 else
    L6_2

level_back : (l : Level) → level_of (level_number l) ≡ l
level_back L1 = refl
level_back L2 = refl
level_back L2_1 = refl
level_back L3 = refl
level_back L3_1 = refl
level_back L4 = refl
level_back L4_1 = refl
level_back L5 = refl
level_back L5_1 = refl
level_back L5_2 = refl
level_back L6 = refl
level_back L6_1 = refl
level_back L6_2 = refl

pub level : IsItsValues level_number
level x y e = sym (level_back x) ∙ ap level_of e ∙ level_back y

abbrev slice_type_of : ℕ → SliceType
slice_type_of n = if n == 0 then B else if n == 1 then P else I

slice_type_back : (t : SliceType) → slice_type_of (slice_type_number t) ≡ t
slice_type_back B = refl
slice_type_back P = refl
slice_type_back I = refl

pub slice_type : IsItsValues slice_type_number
slice_type x y e = sym (slice_type_back x) ∙ ap slice_type_of e ∙ slice_type_back y

pub mapped : {X A : Type 0} (view : X → A) → IsItsValues view → IsItsValues (map view)
mapped {X} view is [] [] e = refl
mapped {X} view is [] (y ∷ ys) e = absurd cc
mapped {X} view is (x ∷ xs) [] e = absurd cc
mapped {X} view is (x ∷ xs) (y ∷ ys) e = ap₂ (λ (z : X) (zs : List X). z ∷ zs) (is x y cc) (mapped view is xs ys cc)

-- a field's value, followed by those of the fields after it
infixr 1 ◌⨾◌
abbrev pub ◌⨾◌ : {A B : Type 0} → A → B → A × B
x ⨾ y = (x, y)
