-- The name of an element and its indices, by what was told before it in its unit.
use Rattle.std.specs.Prelude.{ℕ, ◌+◌, ◌*◌, ◌-◌, ◌/◌, ◌%◌, min, max, nat_lt, ◌==◌, List}
use Rattle.std.specs.Prelude.{slice_index_or, if◌then◌else◌, nat_le, ◌&&◌, [], length, take, drop}
use Rattle.hevc_element_names.specs.declared.elements.TheConstants.{STARTS, FIRSTS, RULES, SPANS}
use Rattle.hevc_element_names.specs.declared.elements.TheConstants.{NAMES}
use Rattle.hevc_element_names.specs.declared.bounds.TheConstants.{BOUND_SPANS, BOUNDS}
use Rattle.hevc_element_names.specs.declared.rule.Rule.{Rule}
use Rattle.hevc_element_names.specs.declared.rule.Rule.TheVariants as rules
use Rattle.hevc_element_names.specs.declared.name.Indices.{Indices}
use Rattle.hevc_element_names.specs.declared.name.Indices.TheVariants.{Without, One, Two}
use Rattle.hevc_element_names.specs.Seen.{Layer, Sight, count, value}

-- the place of a row among those of all tables
abbrev pub row_place : ℕ → ℕ → ℕ
row_place table row = slice_index_or STARTS table 0 + (row - 1)

-- how many elements a row has, at its place
abbrev pub num_elements : ℕ → ℕ
num_elements at = max 1 (slice_index_or FIRSTS (at + 1) 0 - slice_index_or FIRSTS at 0)

abbrev pub rule_at : ℕ → Rule
rule_at at = slice_index_or RULES at rules.Absent

-- of the range extensions' profiles
abbrev pub range_constraint : Layer → ℕ → ℕ
range_constraint layer p =
    if nat_lt p 48 then p - 31
    else if layer.has_14bit then (if p == 48 then 17 else 18) else 19

-- the element of the profile of a sub-layer at a place from 39 on: 43 constraints, and one bit
abbrev pub constraint : Layer → ℕ → ℕ
constraint layer p =
    if p == 82 then (if layer.has_inbld then 23 else 24)
    else if layer.has_range then range_constraint layer p
    else if layer.is_main_10 then
    (if nat_lt p 46 then 20 else if p == 46 then 15 else 21)
    else 22

-- the element at a place of it
abbrev pub profile_element : Layer → ℕ → ℕ
profile_element layer p =
    if nat_lt p 3 then p else if nat_lt p 35 then 3 else if nat_lt p 39 then p - 31
    else constraint layer p

-- Which of its k elements the next one of a row is, n of which were told.
abbrev pub which : Rule → Sight → ℕ → ℕ → ℕ
which rules.Members seen n k = if seen.is_due then 1 else 0
which rules.SubLayerProfile seen n k = profile_element seen.layer (n % 83)
which rules.Alignment seen n k = min n 1
which other seen n k = n % k

-- the scaling list of this number, by its size and matrix: of the largest size there are two
abbrev pub matrix_of : ℕ → ℕ → Indices
matrix_of number less =
    if nat_lt number 18 then Two (number / 6 - less) (number % 6)
    else Two (3 - less) ((number - 18) * 3)

-- the number of the scaling list of an element, n of whose row were told
abbrev pub list_number : Sight → ℕ → ℕ → ℕ
list_number seen row n = if row == 1 then n else count seen 6 1 - 1

abbrev pub nth : List ℕ → ℕ → ℕ
nth marks n = slice_index_or marks n 0

-- the indices of the element at a place of the profile of sub-layer i
abbrev pub profile_indices : ℕ → ℕ → Indices
profile_indices i p = if nat_le 3 p && nat_lt p 35 then Two i (p - 3) else One i

-- The indices of the next element of a row of k elements, n of which were told.
abbrev pub indices_by : Rule → Sight → ℕ → ℕ → ℕ → ℕ → Indices
indices_by rules.Absent seen table row n k = Without
indices_by rules.Each seen table row n k = One (n / k)
indices_by rules.AfterFirst seen table row n k = One (n / k + 1)
indices_by (rules.SubLayers flag top) seen table row n k =
    One (n / k + (if value seen table flag == 1 then 0 else value seen table top))
indices_by rules.AboveTop seen table row n k = One (n / 2 + value seen 1 4 + value seen 5 2)
indices_by (rules.Last of) seen table row n k = One (count seen table of - 1)
indices_by (rules.Next of) seen table row n k = One (count seen table of)
indices_by (rules.Pairs first of more) seen table row n k =
    let each = max 1 (value seen table of + more) in
    Two (first + n / each) (n % each)
indices_by rules.Schedules seen table row n k = One (n / k % (value seen 3 14 + 1))
indices_by (rules.Matrices less) seen table row n k = matrix_of (list_number seen row n) less
indices_by rules.Members seen table row n k =
    One (if seen.is_due then seen.members - 1 else seen.members)
indices_by rules.First seen table row n k = One (nth seen.first_set n)
indices_by rules.Second seen table row n k = One (nth seen.second_set n)
indices_by rules.SecondTwice seen table row n k = Two (nth seen.second_set (n / 2)) (n % 2)
indices_by rules.SubLayerProfile seen table row n k =
    profile_indices (nth seen.first_set (n / 83)) (n % 83)
indices_by rules.Bytes seen table row n k = One (n / 8)
indices_by rules.Alignment seen table row n k = Without

-- the place of the next element of a row among those of all rows
unfoldable pub element_place : Sight → ℕ → ℕ → ℕ
element_place seen table row =
    let at = row_place table row in
    slice_index_or FIRSTS at 0
    + which (rule_at at) seen (count seen table row) (num_elements at)

-- a part of a text, and nothing where it doesn't have it
abbrev pub span : List ℕ → ℕ → ℕ → List ℕ
span text start end =
    if nat_le start end && nat_le end (length text)
    then take (end - start) (drop start text)
    else []

-- the text at a place of many, each of which begins where the one before ends
abbrev pub text_at : List ℕ → List ℕ → ℕ → List ℕ
text_at texts spans at = span texts (slice_index_or spans at 0) (slice_index_or spans (at + 1) 0)

-- the name of the element at a place
unfoldable pub name_at : ℕ → List ℕ
name_at at = text_at NAMES SPANS at

-- its name, which is empty where there is no such row
abbrev pub name_of : Sight → ℕ → ℕ → List ℕ
name_of seen table row = name_at (element_place seen table row)

-- its indices
unfoldable pub indices_of : Sight → ℕ → ℕ → Indices
indices_of seen table row =
    let at = row_place table row in
    indices_by (rule_at at) seen table row (count seen table row) (num_elements at)

-- the bounds of a row, of a row that is a condition the condition, and nothing where it has none
unfoldable pub bounds_of : ℕ → ℕ → List ℕ
bounds_of table row = text_at BOUNDS BOUND_SPANS (row_place table row)
