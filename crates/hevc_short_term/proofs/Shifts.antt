-- The members that differences give, one at a time.
use Rattle.std.proofs.Common.{◌≡◌, ℕ, ◌+◌, ◌-◌, ◌<◌, ◌≤◌, ℤ, pos, ◌+ℤ◌, Bool, true, false, List, []}
use Rattle.std.proofs.Common.{◌∷◌, ◌++◌, length, drop, reverse, get_or, refl}
use Rattle.std.specs.Prelude.{if◌then◌else◌, ◌&&◌, not}
use Rattle.std.specs.Ordering.{int_eq}
use Rattle.std.proofs.lemmas.Int.{to_z-of_z}
use Rattle.std.proofs.lemmas.List.{drop_more, drop_all, append_assoc, append-nil, reverse-append}
use Rattle.hevc_tables.specs.declared.member_flags.MemberFlags.{MemberFlags}
use Rattle.hevc_tables.specs.declared.short_term_member.ShortTermMember.{ShortTermMember}
use Rattle.hevc_tables.specs.ShortTermTable.{shifted, shifted_one}

shifted_none : (shift : ℤ) (flags : List MemberFlags) → shifted shift [] flags ≡ []
unfolding shifted
shifted_none shift flags = refl

-- after the last difference there is nothing
pub shifted_all : (shift : ℤ) (ds : List ℤ) (fs : List MemberFlags) (i : ℕ) → length ds ≤ i
    → shifted shift (drop i ds) (drop i fs) ≡ []
shifted_all shift ds fs i le = rw (drop_all i ds le) (shifted_none shift (drop i fs))

-- what the first of the rest gives, and then what is after it
pub shifted_next : (shift : ℤ) (ds : List ℤ) (fs : List MemberFlags) (i : ℕ) (d : ℤ) (f : MemberFlags)
    → i < length ds → i < length fs
    → shifted shift (drop i ds) (drop i fs) ≡ shifted_one shift (get_or ds i d) (get_or fs i f)
    ++ shifted shift (drop (i + 1) ds) (drop (i + 1) fs)
unfolding shifted
shifted_next shift ds fs i d f in_ds in_fs = rw (drop_more ds i d in_ds, drop_more fs i f in_fs) refl

-- one kept member at most
pub reverse_one : (shift : ℤ) (d : ℤ) (f : MemberFlags) → reverse (shifted_one shift d f) ≡ shifted_one shift d f
unfolding shifted_one
reverse_one shift d f = by_case (f.use_delta_flag && not (int_eq (d +ℤ shift) (pos 0)))
  where
    one : List ShortTermMember
    one = record { delta_poc = d +ℤ shift; used_by_curr_pic = f.used_by_curr_pic_flag } ∷ []

    by_case : (k : Bool) → reverse (if k then one else []) ≡ (if k then one else [])
    by_case true = refl
    by_case false = refl

-- a step forwards
pub forwards : (shift : ℤ) (ds : List ℤ) (fs : List MemberFlags) (i : ℕ) (d : ℤ) (f : MemberFlags)
    (old new all : List ShortTermMember) → i < length ds → i < length fs
    → old ++ shifted shift (drop i ds) (drop i fs) ≡ all
    → new ≡ old ++ shifted_one shift (get_or ds i d) (get_or fs i f)
    → new ++ shifted shift (drop (i + 1) ds) (drop (i + 1) fs) ≡ all
forwards shift ds fs i d f old new all in_ds in_fs so_far pushed =
    rw (pushed, append_assoc, ← shifted_next shift ds fs i d f in_ds in_fs) so_far

-- a step backwards
pub backwards : (shift : ℤ) (ds : List ℤ) (fs : List MemberFlags) (i : ℕ) (d : ℤ) (f : MemberFlags)
    (start old new : List ShortTermMember) → i < length ds → i < length fs
    → old ≡ start ++ reverse (shifted shift (drop (i + 1) ds) (drop (i + 1) fs))
    → new ≡ old ++ shifted_one shift (get_or ds i d) (get_or fs i f)
    → new ≡ start ++ reverse (shifted shift (drop i ds) (drop i fs))
backwards shift ds fs i d f start old new in_ds in_fs so_far pushed =
    rw (shifted_next shift ds fs i d f in_ds in_fs, reverse-append, reverse_one, ← append_assoc, ← so_far) pushed

pub ruleset shifts = (to_z-of_z, shifted_all, forwards, backwards, append-nil)
