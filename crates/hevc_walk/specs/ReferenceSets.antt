-- The reference picture set of a picture, and the marks that it leaves (8.3.2).
use Rattle.std.specs.Prelude.{ℕ, ℤ, pos, ◌*◌, ◌+ℤ◌, ◌-ℤ◌, Bool, true, false, not, ◌&&◌, ◌||◌, ◌==◌}
use Rattle.std.specs.Prelude.{List, [], ◌∷◌, ◌++◌, map, filter, get_or, if◌then◌else◌, Option, Some}
use Rattle.std.specs.Prelude.{None}
use Rattle.std.specs.Ordering.{int_eq}
use Rattle.std.specs.Int.{int_rem_euclid}
use Rattle.hevc_spec.specs.UnitTypes.{is_idr}
use Rattle.hevc_walk.specs.Meanings.{Slice, ShortTermMember, LongTermMember, ShortTermRefPicSet}
use Rattle.hevc_walk.specs.Pictures.{Head}
use Rattle.hevc_walk.specs.Buffer.{Buffer, Entry, Mark, Unused, ShortTerm, LongTerm, is_reference}

-- RefPicSetStCurrBefore, StCurrAfter, StFoll, LtCurr and LtFoll: picture numbers,
-- None where there is no such picture
pub record RefPicSet : Type 0 where
  pub st_curr_before : List (Option ℕ)
  pub st_curr_after : List (Option ℕ)
  pub st_foll : List (Option ℕ)
  pub lt_curr : List (Option ℕ)
  pub lt_foll : List (Option ℕ)

abbrev pub no_references : RefPicSet
no_references = record {
  st_curr_before = [];
  st_curr_after = [];
  st_foll = [];
  lt_curr = [];
  lt_foll = [];
}

-- number CurrRpsIdx of the sequence set's short-term sets,
-- or the header's own after them (7.4.7.1)
abbrev pub short_term_set : Slice → ShortTermRefPicSet
short_term_set s = get_or s.short_term_ref_pic_sets s.curr_rps_idx s.short_term_ref_pic_set

-- the number of the first entry that passes the test
abbrev pub first_number : (Entry → Bool) → Buffer → Option ℕ
first_number passes [] = None
first_number passes (e ∷ es) = if passes e then Some e.number else first_number passes es

abbrev pub names : ℕ → List (Option ℕ) → Bool
names n [] = false
names n (None ∷ members) = names n members
names n (Some m ∷ members) = m == n || names n members

abbrev pub is_congruent : ℕ → ℤ → ℤ → Bool
is_congruent modulus a b = int_eq (int_rem_euclid a (pos modulus)) (int_rem_euclid b (pos modulus))

-- pocLt with its most significant bits: PicOrderCntVal - DeltaPocMsbCycleLt * MaxPicOrderCntLsb
-- - (PicOrderCntVal & (MaxPicOrderCntLsb - 1)) + PocLsbLt (8-5)
abbrev pub long_term_count : ℤ → ℕ → ℕ → ℕ → ℤ
long_term_count order_count modulus cycle lsb =
    order_count -ℤ pos (cycle * modulus) -ℤ int_rem_euclid order_count (pos modulus) +ℤ pos lsb

-- an order count has the low bits of a long-term member,
-- or is the whole count that the member gives
abbrev pub is_named : Head → Slice → ℕ → Option ℕ → ℤ → Bool
is_named p first lsb None count = is_congruent first.max_pic_order_cnt_lsb count (pos lsb)
is_named p first lsb (Some cycle) count =
    int_eq count (long_term_count p.order_count first.max_pic_order_cnt_lsb cycle lsb)

-- a long-term member is the first reference picture that it names
abbrev pub long_term_entry : Head → Slice → Buffer → LongTermMember → Option ℕ
long_term_entry p first es m =
    first_number
    (λ e. is_reference e.mark && is_named p first m.poc_lsb m.delta_poc_msb_cycle e.order_count)
    es

abbrev pub is_short_term : Mark → Bool
is_short_term ShortTerm = true
is_short_term mark = false

-- a short-term member is the first short-term reference picture of its order count
abbrev pub short_term_entry : Head → Buffer → ShortTermMember → Option ℕ
short_term_entry p es m =
    first_number
    (λ e. is_short_term e.mark && int_eq e.order_count (p.order_count +ℤ m.delta_poc)) es

abbrev pub unmarked : Entry → Entry
unmarked e = record e { mark = Unused }

-- an IRAP picture with NoRaslOutputFlag refers to nothing that is stored
abbrev pub references_before : Head → Buffer → Buffer
references_before p es = if p.starts_sequence then map unmarked es else es

abbrev pub long_term_if : List (Option ℕ) → Entry → Entry
long_term_if members e = if names e.number members then record e { mark = LongTerm } else e

-- long-term members are found first, and marked
abbrev pub with_long_term : Head → Slice → Buffer → Buffer
with_long_term p first es =
    map (long_term_if (map (long_term_entry p first es) first.long_term_pics)) es

abbrev pub is_curr_short_term : ShortTermMember → Bool
is_curr_short_term m = m.used_by_curr_pic

abbrev pub is_curr_long_term : LongTermMember → Bool
is_curr_long_term m = m.used_by_curr_pic

-- over the entries before long-term members are marked, and over those after it
abbrev pub five_lists : Head → Slice → ShortTermRefPicSet → Buffer → Buffer → RefPicSet
five_lists p first set es marked = record {
  st_curr_before = map (short_term_entry p marked) (filter is_curr_short_term set.negative_pics);
  st_curr_after = map (short_term_entry p marked) (filter is_curr_short_term set.positive_pics);
  st_foll =
      map (short_term_entry p marked)
      (filter (λ m. not (is_curr_short_term m)) (set.negative_pics ++ set.positive_pics));
  lt_curr = map (long_term_entry p first es) (filter is_curr_long_term first.long_term_pics);
  lt_foll =
      map (long_term_entry p first es)
      (filter (λ m. not (is_curr_long_term m)) first.long_term_pics);
}

-- the reference picture set of a picture over the entries that are stored, empty for IDR
unfoldable pub reference_set : Head → Slice → Buffer → RefPicSet
reference_set p first es =
    if is_idr p.nal_unit_type then no_references
    else five_lists p first (short_term_set first) (references_before p es)
    (with_long_term p first (references_before p es))

abbrev pub all_members : RefPicSet → List (Option ℕ)
all_members set =
    set.st_curr_before ++ set.st_curr_after ++ set.st_foll ++ set.lt_curr ++ set.lt_foll

abbrev pub marked_if : List (Option ℕ) → Entry → Entry
marked_if members e = if names e.number members then e else unmarked e

-- the same entries with their new marks: an entry that none of
-- the five lists names isn't used for reference any more
unfoldable pub with_marks : Head → Slice → Buffer → Buffer
with_marks p first es =
    map (marked_if (all_members (reference_set p first es)))
    (with_long_term p first (references_before p es))
