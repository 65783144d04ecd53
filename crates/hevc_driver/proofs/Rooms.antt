-- What a reference picture set names is stored after the marks that it leaves, and after the pictures that leave (8.3.2, C.5.2.2).
use Rattle.std.proofs.Common.{◌≡◌, ℕ, suc, length, Bool, true, false, not, ◌||◌, ◌&&◌, ◌==◌, List}
use Rattle.std.proofs.Common.{[], ◌∷◌, ◌++◌, map, filter, refl, sym, ap, ◌∙◌, subst, Option, None}
use Rattle.std.proofs.Common.{if◌then◌else◌}
use Rattle.hevc_spec.specs.UnitTypes.{is_idr}
use Rattle.hevc_walk.specs.Meanings.{Slice, ShortTermMember, LongTermMember, ShortTermRefPicSet}
use Rattle.hevc_walk.specs.Pictures.{Head}
use Rattle.hevc_walk.specs.Buffer.{Buffer, Entry, is_reference, left_of, has_number, after_output}
use Rattle.hevc_walk.specs.Buffer.{due_outputs, needs_bumping, in_output_order, placed}
use Rattle.hevc_walk.specs.ReferenceSets.{RefPicSet, no_references, names, all_members}
use Rattle.hevc_walk.specs.ReferenceSets.{reference_set, references_before, unmarked}
use Rattle.hevc_walk.specs.ReferenceSets.{long_term_entry, long_term_if, short_term_entry}
use Rattle.hevc_walk.specs.ReferenceSets.{short_term_set, with_long_term, five_lists}
use Rattle.hevc_walk.specs.ReferenceSets.{is_curr_short_term, is_curr_long_term}
use Rattle.hevc_walk.specs.Walk.{Store, make_room, needed_entries}
use Rattle.hevc_dpb.specs.declared.entry.DpbEntry.{DpbEntry}
use Rattle.hevc_dpb.specs.Entries as dpb
use Rattle.hevc_dpb.specs.Plain.{plain_entries}
use Rattle.std.proofs.Common.{arith}
use Rattle.hevc_dpb.proofs.Sublists.{sublist_part, filter_sublist}
use Rattle.hevc_backend.specs.Handed.{numbered, stored_pictures}
use Rattle.hevc_dpb.proofs.PlainLaws.{plain_unmarked}
use Rattle.hevc_bumping.specs.Bumps.{num_waiting}
use Rattle.hevc_bumping.proofs.Steps.{placed_length}
use Rattle.hevc_walk_marks.specs.Marked.{has_reference}
use Rattle.hevc_walk_marks.proofs.Names.{names_append}

or_either : (a b c : Bool) → (b ≡ true → c ≡ true) → (a || b) ≡ true → (a || c) ≡ true
or_either true b c f h = refl
or_either false b c f h = f h

not_this : (a r b : Bool) → r ≡ false → ((a && r) || b) ≡ true → b ≡ true
not_this true r b e h = rw e at h
not_this false r b e h = h

-- ---- pictures that leave

-- those that are needed are some of all
pub needed_pictures : {H : Type 0} (old new : List (DpbEntry H)) → new ≡ filter dpb.is_needed old
    → dpb.IsPartOf (stored_pictures new) (stored_pictures old)
needed_pictures old new is = subst (λ l. dpb.IsPartOf (stored_pictures l) (stored_pictures old)) (sym is)
    (λ x k. sublist_part (filter_sublist (λ (e : DpbEntry _). numbered e.number e.picture) dpb.is_needed old) x k)

pub none_pictures : {H : Type 0} (old new : List (DpbEntry H)) → new ≡ []
    → dpb.IsPartOf (stored_pictures new) (stored_pictures old)
none_pictures old new is = subst (λ l. dpb.IsPartOf (stored_pictures l) (stored_pictures old)) (sym is)
    (λ x k. absurd (let l = k.1 in omega arith))

-- ---- references stay as pictures leave

output_left : (n : ℕ) (out r : Bool) (e : Entry) (es left : Buffer) → is_reference e.mark ≡ r
    → (has_reference n es ≡ true → has_reference n left ≡ true) → has_reference n (e ∷ es) ≡ true
    → has_reference n (left_of out e ++ left) ≡ true
output_left n false r e es left is later h =
    or_either (e.number == n && is_reference e.mark) (has_reference n es) (has_reference n left) later h
output_left n true true e es left is later h =
    ap (λ (b : Bool). has_reference n ((if b then record e { needed_for_output = false } ∷ [] else [])
    ++ left)) is ∙ or_either (e.number == n && is_reference e.mark) (has_reference n es) (has_reference n left) later h
output_left n true false e es left is later h =
    ap (λ (b : Bool). has_reference n ((if b then record e { needed_for_output = false } ∷ [] else [])
    ++ left)) is ∙ later (not_this (e.number == n) (is_reference e.mark) (has_reference n es) is h)

behind_outputs : (n : ℕ) (outputs : List Entry) (es : Buffer) → has_reference n es ≡ true
    → has_reference n (after_output outputs es) ≡ true
behind_outputs n outputs [] h = absurd (cc h)
behind_outputs n outputs (e ∷ es) h =
    output_left n (has_number e.number outputs) (is_reference e.mark) e es (after_output outputs es) refl
    (behind_outputs n outputs es) h

needed_left : (n : ℕ) (r w : Bool) (e : Entry) (es left : Buffer) → is_reference e.mark ≡ r
    → e.needed_for_output ≡ w → (has_reference n es ≡ true → has_reference n left ≡ true)
    → has_reference n (e ∷ es) ≡ true → has_reference n (if w || r then e ∷ left else left) ≡ true
needed_left n r true e es left is wants later h =
    or_either (e.number == n && is_reference e.mark) (has_reference n es) (has_reference n left) later h
needed_left n true false e es left is wants later h =
    or_either (e.number == n && is_reference e.mark) (has_reference n es) (has_reference n left) later h
needed_left n false false e es left is wants later h =
    later (not_this (e.number == n) (is_reference e.mark) (has_reference n es) is h)

behind_needed : (n : ℕ) (es : Buffer) → has_reference n es ≡ true → has_reference n (needed_entries es) ≡ true
behind_needed n [] h = absurd (cc h)
behind_needed n (e ∷ es) h =
    needed_left n (is_reference e.mark) e.needed_for_output e es (needed_entries es) refl refl (behind_needed n es) h

-- ---- a picture that begins a sequence names nothing

no_names : {M : Type 0} (n : ℕ) (f : M → Option ℕ) → ((m : M) → f m ≡ None) → (ms : List M) → names n (map f ms) ≡ false
no_names n f none [] = refl
no_names n f none (m ∷ ms) = ap (λ (o : Option ℕ). names n (o ∷ map f ms)) (none m) ∙ no_names n f none ms

none_long_term : (p : Head) (w : Slice) (es : Buffer) (m : LongTermMember)
    → long_term_entry p w (map unmarked es) m ≡ None
none_long_term p w [] m = refl
none_long_term p w (e ∷ es) m = none_long_term p w es m

none_short_term : (p : Head) (es : Buffer) (m : ShortTermMember) → short_term_entry p (map unmarked es) m ≡ None
none_short_term p [] m = refl
none_short_term p (e ∷ es) m = none_short_term p es m

unchanged : (members : List (Option ℕ)) → ((n : ℕ) → names n members ≡ false) → (es : Buffer)
    → map (long_term_if members) es ≡ es
unchanged members none [] = refl
unchanged members none (e ∷ es) =
    ap (λ (b : Bool). (if b then record e { mark = Rattle.hevc_walk.specs.Buffer.LongTerm } else e) ∷ map
    (long_term_if members) es) (none e.number) ∙ ap (λ (l : Buffer). e ∷ l) (unchanged members none es)

all_unmarked : (p : Head) (w : Slice) (es : Buffer) → with_long_term p w (map unmarked es) ≡ map unmarked es
all_unmarked p w es = unchanged (map (long_term_entry p w (map unmarked es)) w.long_term_pics)
    (λ n. no_names n (long_term_entry p w (map unmarked es)) (none_long_term p w es) w.long_term_pics) (map unmarked es)

none_both : (n : ℕ) (a b : List (Option ℕ)) → names n a ≡ false → names n b ≡ false → names n (a ++ b) ≡ false
none_both n a b ha hb = names_append n a b ∙ ap (λ (c : Bool). c || names n b) ha ∙ hb

none_in : (n : ℕ) (a b c d e : List (Option ℕ)) → names n a ≡ false → names n b ≡ false → names n c ≡ false
    → names n d ≡ false → names n e ≡ false → names n (a ++ b ++ c ++ d ++ e) ≡ false
none_in n a b c d e ha hb hc hd he =
    none_both n (a ++ b ++ c ++ d) e
    (none_both n (a ++ b ++ c) d (none_both n (a ++ b) c (none_both n a b ha hb) hc) hd) he

lists_name_nothing : (p : Head) (w : Slice) (set : ShortTermRefPicSet) (es : Buffer) (n : ℕ)
    → names n (all_members (five_lists p w set (map unmarked es) (map unmarked es))) ≡ false
lists_name_nothing p w set es n =
    none_in n five.st_curr_before five.st_curr_after five.st_foll five.lt_curr five.lt_foll
    (no_names n (short_term_entry p (map unmarked es)) (none_short_term p es)
    (filter is_curr_short_term set.negative_pics))
    (no_names n (short_term_entry p (map unmarked es)) (none_short_term p es)
    (filter is_curr_short_term set.positive_pics))
    (no_names n (short_term_entry p (map unmarked es)) (none_short_term p es)
    (filter (λ m. not (is_curr_short_term m)) (set.negative_pics ++ set.positive_pics)))
    (no_names n (long_term_entry p w (map unmarked es)) (none_long_term p w es)
    (filter is_curr_long_term w.long_term_pics))
    (no_names n (long_term_entry p w (map unmarked es)) (none_long_term p w es)
    (filter (λ m. not (is_curr_long_term m)) w.long_term_pics))
  where
    five : RefPicSet
    five = five_lists p w set (map unmarked es) (map unmarked es)

-- after the marks of a picture that begins a sequence
pub names_nothing : (p : Head) (w : Slice) (es : Buffer) (n : ℕ) → p.starts_sequence ≡ true
    → names n (all_members (reference_set p w es)) ≡ false
unfolding reference_set
names_nothing p w es n begins = by (is_idr p.nal_unit_type)
  where
    over : (before : Buffer) → before ≡ map unmarked es
        → names n (all_members (five_lists p w (short_term_set w) before (with_long_term p w before))) ≡ false
    over before is =
        subst (λ (b : Buffer). names n
        (all_members (five_lists p w (short_term_set w) b (with_long_term p w b))) ≡ false) (sym is)
        (subst (λ (b : Buffer). names n
        (all_members (five_lists p w (short_term_set w) (map unmarked es) b)) ≡ false)
        (sym (all_unmarked p w es)) (lists_name_nothing p w (short_term_set w) es n))

    by : (b : Bool)
        → names n (all_members
        (if b then no_references else five_lists p w (short_term_set w) (references_before p es)
        (with_long_term p w (references_before p es)))) ≡ false
    by true = refl
    by false = over (references_before p es) (ap (λ (c : Bool). if c then map unmarked es else es) begins)

-- ---- what is used for reference stays

abbrev left_in : Head → Buffer → Bool → Bool → Buffer
left_in p es discards begins =
    if discards then [] else if begins then [] else after_output
    (due_outputs (needs_bumping p.limits) (needed_entries es)) (needed_entries es)

room_is : (p : Head) (s : Store) (discards begins : Bool) → p.no_output_of_prior_pics ≡ discards
    → p.starts_sequence ≡ begins → (make_room p s).next.buffer ≡ left_in p s.buffer discards begins
unfolding make_room
room_is p s true begins d b = rw d refl
room_is p s false true d b = rw (d, b) refl
room_is p s false false d b = rw (d, b) refl

-- but where a picture begins a sequence
pub reference_stays : (p : Head) (s : Store) (n : ℕ)
    → (p.no_output_of_prior_pics ≡ true → p.starts_sequence ≡ true) → (p.starts_sequence ≡ true → ⊥)
    → has_reference n s.buffer ≡ true → has_reference n (make_room p s).next.buffer ≡ true
reference_stays p s n prior none h = by p.no_output_of_prior_pics p.starts_sequence refl refl
  where
    by : (discards begins : Bool) → p.no_output_of_prior_pics ≡ discards → p.starts_sequence ≡ begins
        → has_reference n (make_room p s).next.buffer ≡ true
    by true begins d b = absurd (none (prior d))
    by false true d b = absurd (none b)
    by false false d b = ap (has_reference n) (room_is p s false false d b)
        ∙ behind_outputs n (due_outputs (needs_bumping p.limits) (needed_entries s.buffer))
        (needed_entries s.buffer) (behind_needed n s.buffer h)

-- ---- what is needed for output stays

waits_on : (w r : Bool) (e : Entry) (es left : Buffer) → e.needed_for_output ≡ w
    → in_output_order left ≡ in_output_order es
    → in_output_order (if w || r then e ∷ left else left) ≡ in_output_order (e ∷ es)
waits_on true r e es left is same = ap (λ (l : List Entry). if e.needed_for_output then placed e l else l) same
waits_on false true e es left is same = ap (λ (l : List Entry). if e.needed_for_output then placed e l else l) same
waits_on false false e es left is same =
    same ∙ sym (ap (λ (b : Bool). if b then placed e (in_output_order es) else in_output_order es) is)

pub needed_order : (es : Buffer) → in_output_order (needed_entries es) ≡ in_output_order es
needed_order [] = refl
needed_order (e ∷ es) = waits_on e.needed_for_output (is_reference e.mark) e es (needed_entries es) refl
    (needed_order es)

-- ---- marks change no waiting

pub order_length : (b : Bool) (e : Entry) (xs : List Entry)
    → length (if b then placed e xs else xs) ≡ (if b then suc (length xs) else length xs)
order_length false e xs = refl
order_length true e xs = placed_length e xs

same_waiting : (es fs : Buffer) → map unmarked es ≡ map unmarked fs → num_waiting es ≡ num_waiting fs
same_waiting [] [] is = refl
same_waiting [] (f ∷ fs) is = absurd (cc is)
same_waiting (e ∷ es) [] is = absurd (cc is)
same_waiting (e ∷ es) (f ∷ fs) is =
    let first : unmarked e ≡ unmarked f = cc is in
    let rest : map unmarked es ≡ map unmarked fs = cc is in
    order_length e.needed_for_output e (in_output_order es)
    ∙ ap (λ (x : Entry). if x.needed_for_output then suc (length (in_output_order es)) else length
    (in_output_order es)) first
    ∙ ap (λ (n : ℕ). if f.needed_for_output then suc n else n) (same_waiting es fs rest)
    ∙ sym (order_length f.needed_for_output f (in_output_order fs))

pub marks_wait : {T : Type 0} (es fs : List (DpbEntry T)) → map dpb.unmarked es ≡ map dpb.unmarked fs
    → num_waiting (plain_entries es) ≡ num_waiting (plain_entries fs)
marks_wait es fs is =
    same_waiting (plain_entries es) (plain_entries fs) (sym (plain_unmarked es) ∙ ap plain_entries is
    ∙ plain_unmarked fs)
