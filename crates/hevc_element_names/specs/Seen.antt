-- What was told of a unit so far, as the names of the elements after it need it.
use Rattle.std.specs.Prelude.{ℕ, ◌+◌, ◌*◌, ◌/◌, ◌%◌, min, nat_lt, ◌==◌, ◌&&◌, ◌||◌, not, Bool}
use Rattle.std.specs.Prelude.{◌-◌, nat_le, false, List, [], ◌∷◌, ◌++◌, length, replicate, slice_set}
use Rattle.std.specs.Prelude.{slice_index_or, if◌then◌else◌, ℤ, pos, negsuc, fold}
use Rattle.hevc_elements.specs.declared.told.Told.{Told}
use Rattle.hevc_element_names.specs.declared.layer.Layer as declared
use Rattle.hevc_element_names.specs.declared.seen.Seen.{Seen}

-- Which elements the profile of a sub-layer has (7.3.3), by the profiles to which it conforms.
pub record Layer : Type 0 where
  -- those of the range extensions' profiles, 4 to 11, and of these max_14bit_constraint_flag
  pub has_range : Bool
  pub has_14bit : Bool
  -- those of the profile Main 10
  pub is_main_10 : Bool
  pub has_inbld : Bool

abbrev pub no_layer : Layer
no_layer = record { has_range = false; has_14bit = false; is_main_10 = false; has_inbld = false }

abbrev pub is_range : ℕ → Bool
is_range k = nat_le 4 k && nat_le k 11

abbrev pub is_14bit : ℕ → Bool
is_14bit k = k == 5 || k == 9 || k == 10 || k == 11

abbrev pub is_inbld : ℕ → Bool
is_inbld k = k == 1 || k == 2 || k == 3 || k == 4 || k == 5 || k == 9 || k == 11

-- the layer conforms to one more profile
abbrev pub with_profile : ℕ → Layer → Layer
with_profile k layer = record {
  has_range = layer.has_range || is_range k;
  has_14bit = layer.has_14bit || is_14bit k;
  is_main_10 = layer.is_main_10 || k == 2;
  has_inbld = layer.has_inbld || is_inbld k;
}

-- after the element at a place of its profile
abbrev pub with_element : ℕ → ℕ → Layer → Layer
with_element p v layer =
    if p == 0 then no_layer
    else if p == 2 then with_profile v layer
    else if nat_le 3 p && nat_lt p 35 && v == 1 then with_profile (p - 3) layer
    else layer

-- one of a sub-layer is told (row 30 of table 2), as the 83 elements of each profile are
abbrev pub layer_after : ℕ → ℕ → ℕ → ℕ → Layer → Layer
layer_after table row n v layer =
    if table == 2 && row == 30 then with_element (n % 83) v layer else layer

-- Of each row, at 64 times its table and its number, how many elements there were since its
-- structure began, and the last value; the members of a predicted short-term set so far, and
-- whether the last one's use_delta_flag is due; and which flags of two kinds are set, by their
-- indices.
pub record Sight : Type 0 where
  pub layer : Layer
  pub counts : List ℕ
  pub values : List ℕ
  pub members : ℕ
  pub is_due : Bool
  pub first_set : List ℕ
  pub second_set : List ℕ

-- no counts and no values
unfoldable pub no_numbers : List ℕ
no_numbers = replicate 1088 0

-- before the first element
abbrev pub nothing_seen : Sight
nothing_seen = record {
  layer = no_layer;
  counts = no_numbers;
  values = no_numbers;
  members = 0;
  is_due = false;
  first_set = [];
  second_set = [];
}

-- the place of a row
abbrev pub place : ℕ → ℕ → ℕ
place table row = 64 * table + row

-- how many elements of a row there were
abbrev pub count : Sight → ℕ → ℕ → ℕ
count seen table row = slice_index_or seen.counts (place table row) 0

-- the last value of a row
abbrev pub value : Sight → ℕ → ℕ → ℕ
value seen table row = slice_index_or seen.values (place table row) 0

-- a number at a place, where there is such a place
abbrev pub with_at : List ℕ → ℕ → ℕ → List ℕ
with_at numbers at n = if nat_lt at (length numbers) then slice_set numbers at n else numbers

-- a value of 32 bits, and 0 for any other
abbrev pub natural : ℤ → ℕ
natural (pos n) = if nat_lt n 4294967296 then n else 0
natural (negsuc n) = 0

-- The rows that are counted anew from an element of a row on: those of the HRD parameters after
-- hrd_layer_set_idx, of the schedules after a sub-layer's first row, and of a short-term set after
-- inter_ref_pic_set_prediction_flag.
abbrev pub begun_by : ℕ → ℕ → List ℕ
begun_by table row =
    if table == 1 && row == 22 then place 3 10 ∷ []
    else if table == 3 && row == 10 then place 4 1 ∷ place 4 2 ∷ place 4 3 ∷ []
    else if table == 7 && row == 1 then
    place 7 5 ∷ place 7 9 ∷ place 7 10 ∷ place 7 11 ∷ place 7 12 ∷ []
    else []

-- one more element of a row, up to 2^32 - 1
abbrev pub counted : List ℕ → ℕ → List ℕ
counted counts at = with_at counts at (min (slice_index_or counts at 0 + 1) 4294967295)

-- none at these places
abbrev pub cleared : List ℕ → List ℕ → List ℕ
cleared places counts = fold (λ c at. with_at c at 0) counts places

-- a list begins anew with the first element, and has the index of each that is set
abbrev pub marked : List ℕ → ℕ → Bool → List ℕ
marked marks index is_set =
    let before = if index == 0 then [] else marks in
    if is_set then before ++ index ∷ [] else before

-- cpb_cnt_minus1 is 0 for a sub-layer until it is read (E.3.2)
abbrev pub emptied : ℕ → ℕ → List ℕ → List ℕ
emptied table row values =
    if table == 3 && row == 10 then with_at values (place 3 14) 0 else values

-- the members of a predicted set: each begins with used_by_curr_pic_flag
abbrev pub members_after : ℕ → ℕ → Sight → ℕ
members_after table row seen =
    if table == 7 && row == 1 then 0
    else if table == 7 && row == 5 && not seen.is_due then min (seen.members + 1) 4294967295
    else seen.members

-- use_delta_flag is there where used_by_curr_pic_flag is 0
abbrev pub due_after : ℕ → ℕ → ℕ → Bool → Bool
due_after table row v is_due = table == 7 && row == 5 && not is_due && v == 0

-- flags of luma weights, and of sub-layers that have a profile
abbrev pub first_after : ℕ → ℕ → ℕ → ℕ → List ℕ → List ℕ
first_after table row n v marks =
    if table == 16 && (row == 3 || row == 9) then marked marks n (v == 1)
    else if table == 2 && row == 28 && n % 2 == 0 then marked marks (n / 2) (v == 1)
    else marks

-- flags of chroma weights, and of sub-layers that have a level
abbrev pub second_after : ℕ → ℕ → ℕ → ℕ → List ℕ → List ℕ
second_after table row n v marks =
    if table == 16 && (row == 4 || row == 10) then marked marks n (v == 1)
    else if table == 2 && row == 28 && n % 2 == 1 then marked marks (n / 2) (v == 1)
    else marks

-- after one more element
abbrev pub after : Sight → Told → Sight
after seen told =
    let table = told.row.0 in
    let row = told.row.1 in
    let n = count seen table row in
    let v = natural told.value in
    record {
      layer = layer_after table row n v seen.layer;
      counts = counted (cleared (begun_by table row) seen.counts) (place table row);
      values = with_at (emptied table row seen.values) (place table row) v;
      members = members_after table row seen;
      is_due = due_after table row v seen.is_due;
      first_set = first_after table row n v seen.first_set;
      second_set = second_after table row n v seen.second_set;
    }

abbrev pub own_layer : declared.Layer → Layer
own_layer layer = record {
  has_range = layer.has_range;
  has_14bit = layer.has_14bit;
  is_main_10 = layer.is_main_10;
  has_inbld = layer.has_inbld;
}

-- what is seen, of the code's record
abbrev pub sight_of : Seen → Sight
sight_of seen = record {
  layer = own_layer seen.layer;
  counts = seen.counts.items;
  values = seen.values.items;
  members = seen.members;
  is_due = seen.is_due;
  first_set = seen.first_set.items;
  second_set = seen.second_set.items;
}
