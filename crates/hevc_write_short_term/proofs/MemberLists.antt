-- Lists of members, and of their flags.
use Rattle.std.proofs.Common.{◌≡◌, ℕ, zero, suc, ◌+◌, ◌<◌, Bool, false, List, [], ◌∷◌, ◌++◌, length}
use Rattle.std.proofs.Common.{get_or, drop, take, refl, sym, ap, ap₂, ◌∙◌, append_assoc}
use Rattle.std.specs.Prelude.{ℤ, pos, ◌+ℤ◌, replicate, if◌then◌else◌}
use Rattle.std.proofs.lemmas.List.{length-map, drop_more}
use Rattle.hevc_records.specs.ShortTermRefPicSet.{PlainShortTermRefPicSet}
use Rattle.hevc_tables.specs.declared.member_flags.MemberFlags.{MemberFlags}
use Rattle.hevc_tables.specs.declared.short_term_member.ShortTermMember.{ShortTermMember}
use Rattle.hevc_tables.specs.ShortTermTable.{deltas, used, array_of, with_members}
use Rattle.hevc_write_short_term.specs.Members.{members_from, members_of, before_of, after_of}
use Rattle.hevc_write_short_term.specs.Members.{use_of, flags_of, chosen_flags, flag_bits}
use Rattle.hevc_write_short_term.specs.Members.{WritesFlags}

-- ---- members from lists

-- the first member of what is left
pub from_drop : (i : ℕ) (ds : List ℤ) (us : List Bool) → i < length ds → i < length us
    → members_from (drop i ds) (drop i us) ≡ record {
      delta_poc = get_or ds i (pos 0);
      used_by_curr_pic = get_or us i false;
    } ∷ members_from (drop (i + 1) ds) (drop (i + 1) us)
from_drop i ds us lt lu = rw (drop_more ds i (pos 0) lt, drop_more us i false lu) refl

-- the first items of an array are those that it begins with
first_of : {X : Type 0} (d : X) (xs : List X) (n : ℕ) → take (length xs) (xs ++ replicate n d) ≡ xs
first_of d [] n = take_none n
  where
    take_none : (n : ℕ) → take 0 (replicate n d) ≡ []
    take_none zero = refl
    take_none (suc n) = refl
first_of d (x ∷ xs) n = ap (λ ys. x ∷ ys) (first_of d xs n)

-- members are made of their differences and uses
from_members : (ms : List ShortTermMember) → members_from (deltas ms) (used ms) ≡ ms
from_members [] = refl
from_members (m ∷ ms) = ap (λ ns. m ∷ ns) (from_members ms)

-- also where these are in arrays
from_arrays : (ms : List ShortTermMember)
    → members_from (take (length ms) (array_of (pos 0) (deltas ms))) (take (length ms) (array_of false (used ms))) ≡ ms
from_arrays ms =
    let d : take (length ms) (array_of (pos 0) (deltas ms)) ≡ deltas ms =
    rw (sym (length-map ms (λ m. m.delta_poc))) (first_of (pos 0) (deltas ms) _) in
    let u : take (length ms) (array_of false (used ms)) ≡ used ms =
    rw (sym (length-map ms (λ m. m.used_by_curr_pic))) (first_of false (used ms) _) in
    ap₂ members_from d u ∙ from_members ms

module _ (set : PlainShortTermRefPicSet) (before after : List ShortTermMember) where
  -- the members before the current picture are those that the set was given
  pub before_same : before_of (with_members set before after) ≡ before
  unfolding with_members
  before_same = from_arrays before

  -- so are those after it
  pub after_same : after_of (with_members set before after) ≡ after
  unfolding with_members
  after_same = from_arrays after

  -- so are all
  pub members_same : members_of (with_members set before after) ≡ before ++ after
  members_same = ap₂ (λ (p q : List ShortTermMember). p ++ q) before_same after_same

-- ---- flags

-- bits of flags follow one another
pub bits_append : (fs gs : List MemberFlags) → flag_bits (fs ++ gs) ≡ flag_bits fs ++ flag_bits gs
bits_append [] gs = refl
bits_append (f ∷ fs) gs =
    ap (λ bs. f.used_by_curr_pic_flag ∷ (if f.used_by_curr_pic_flag then [] else f.use_delta_flag ∷ [])
    ++ bs) (bits_append fs gs)
    ∙ ap (λ bs. f.used_by_curr_pic_flag ∷ bs)
    (sym (append_assoc (if f.used_by_curr_pic_flag then [] else f.use_delta_flag ∷ []) (flag_bits fs) (flag_bits gs)))

-- so do chosen flags
pub chosen-append : (shift : ℤ) (ds es : List ℤ) (ms : List ShortTermMember)
    → chosen_flags shift (ds ++ es) ms ≡ chosen_flags shift ds ms ++ chosen_flags shift es ms
chosen-append shift [] es ms = refl
chosen-append shift (d ∷ ds) es ms = ap (λ fs. flags_of (use_of (d +ℤ shift) ms) ∷ fs) (chosen-append shift ds es ms)

-- each difference has its flags
pub chosen-length : (shift : ℤ) (ds : List ℤ) (ms : List ShortTermMember)
    → length (chosen_flags shift ds ms) ≡ length ds
chosen-length shift [] ms = refl
chosen-length shift (d ∷ ds) ms = ap suc (chosen-length shift ds ms)

-- the first flags of those that are left
chosen-drop : (shift : ℤ) (ds : List ℤ) (ms : List ShortTermMember) (i : ℕ) → i < length ds
    → chosen_flags shift (drop i ds) ms ≡ flags_of (use_of (get_or ds i (pos 0) +ℤ shift) ms)
    ∷ chosen_flags shift (drop (i + 1) ds) ms
chosen-drop shift ds ms i lt = rw (drop_more ds i (pos 0) lt) refl

-- flags for one list of differences after another
pub three_written : (shift : ℤ) (first second third : List ℤ) (ms : List ShortTermMember)
    (old a b new : List Bool) → WritesFlags (chosen_flags shift first ms) old a
    → WritesFlags (chosen_flags shift second ms) a b → WritesFlags (chosen_flags shift third ms) b new
    → WritesFlags (chosen_flags shift ((first ++ second) ++ third) ms) old new
three_written shift first second third ms old a b new p q r =
    let f = flag_bits (chosen_flags shift first ms) in
    let s = flag_bits (chosen_flags shift second ms) in
    let t = flag_bits (chosen_flags shift third ms) in
    let all : flag_bits (chosen_flags shift ((first ++ second) ++ third) ms) ≡ (f ++ s) ++ t =
    ap flag_bits (chosen-append shift (first ++ second) third ms
    ∙ ap (λ fs. fs ++ chosen_flags shift third ms) (chosen-append shift first second ms))
    ∙ bits_append (chosen_flags shift first ms ++ chosen_flags shift second ms)
    (chosen_flags shift third ms)
    ∙ ap (λ bs. bs ++ t) (bits_append (chosen_flags shift first ms) (chosen_flags shift second ms)) in
    rw (r, q, p, all) (ap (λ bs. bs ++ t) (append_assoc old f s) ∙ append_assoc old (f ++ s) t)
