-- Entries that are marked one by one.
use Rattle.std.proofs.Common.{◌≡◌, ℕ, ◌+◌, ◌<◌, Bool, true, false, ◌||◌, List, [], ◌∷◌, ◌++◌}
use Rattle.std.proofs.Common.{length, map, take, drop, set, get_or, refl, sym, ap, ◌∙◌}
use Rattle.std.proofs.lemmas.List.{length-map, get_or-map}
use Rattle.std.proofs.lemmas.List.Edits.{map_over_more}
use Rattle.hevc_walk.specs.Buffer.{Buffer, Entry, Mark}
use Rattle.hevc_walk.specs.ReferenceSets.{RefPicSet, names, all_members}
use Rattle.hevc_dpb.specs.declared.entry.DpbEntry.{DpbEntry}
use Rattle.hevc_dpb.specs.declared.dpb.Dpb.{Dpb}
use Rattle.hevc_walk_bumps.specs.Steps as steps
use Rattle.hevc_walk_marks.proofs.Names.{names_append}
use Rattle.hevc_dpb.specs.Numbers.{Absent, Distinct}
use Rattle.hevc_dpb.specs.Entries.{numbers, unmarked}
use Rattle.hevc_dpb.specs.Plain.{plain_entry, plain_entries}
use Rattle.hevc_refs.specs.Marking.{KeepsAllButMarks}

or_assoc : (a b c : Bool) → (a || (b || c)) ≡ ((a || b) || c)
or_assoc true b c = refl
or_assoc false b c = refl

pub marked_more : (f : Entry → Entry) (first before now : Buffer) (i : ℕ) (e : Entry) (mark : Mark)
    → i < length first → before ≡ map f (take i first) ++ drop i first → e ≡ get_or before i e
    → ((d : Entry) → now ≡ set before i (record (get_or before i d) { mark = mark }))
    → record e { mark = mark } ≡ f e → now ≡ map f (take (i + 1) first) ++ drop (i + 1) first
marked_more f first before now i e mark lt so_far is changed marked =
    changed e
    ∙ ap (λ (x : Entry). set before i (record x { mark = mark })) (sym is)
    ∙ ap (set before i) marked
    ∙ map_over_more f first before i e lt so_far is

pub names_members : (n : ℕ) (s : RefPicSet)
    → names n (all_members s)
    ≡ (((names n s.st_curr_before || names n s.st_curr_after) || names n s.st_foll) ||
    (names n s.lt_curr || names n s.lt_foll))
names_members n s =
    simp names_append
    (sym (or_assoc (names n s.st_curr_before || names n s.st_curr_after || names n s.st_foll)
    (names n s.lt_curr) (names n s.lt_foll)))

module _ {T : Type 0} where
  pub entry_at : (es ds : List (DpbEntry T)) (i : ℕ) (x : DpbEntry T) → i < length es → x ≡ get_or ds i x
      → ds ≡ es → plain_entry x ≡ get_or (plain_entries es) i (plain_entry x)
  entry_at es ds i x lt is same = ap plain_entry (is ∙ ap (λ (l : List (DpbEntry T)). get_or l i x) same)
      ∙ sym (get_or-map plain_entry es i x (plain_entry x) lt)

  pub keeps_all : (dpb : Dpb T) → KeepsAllButMarks dpb dpb
  keeps_all dpb = record {
    entries = refl;
    handles = refl;
    size = refl;
    room = refl;
    latency = λ h. h;
    same_order = refl;
  }

  pub keeps_more : (old mid new : Dpb T) → KeepsAllButMarks old mid → KeepsAllButMarks mid new
      → KeepsAllButMarks old new
  keeps_more old mid new a b = record {
    entries = b.entries ∙ a.entries;
    handles = b.handles ∙ a.handles;
    size = b.size ∙ a.size;
    room = b.room ∙ a.room;
    latency = λ h. b.latency (a.latency h);
    same_order = b.same_order ∙ a.same_order;
  }

  pub same_length : (es fs : List (DpbEntry T)) → map unmarked es ≡ map unmarked fs → length es ≡ length fs
  same_length es fs same = sym (length-map es unmarked) ∙ ap length same ∙ length-map fs unmarked

  plain_absent : (n : ℕ) (es : List (DpbEntry T)) → Absent n (numbers es) → steps.Absent n (plain_entries es)
  plain_absent n [] h = tt
  plain_absent n (e ∷ es) h = (h.0, plain_absent n es h.1)

  pub plain_distinct : (es : List (DpbEntry T)) → Distinct (numbers es) → steps.Distinct (plain_entries es)
  plain_distinct [] d = tt
  plain_distinct (e ∷ es) d = (plain_absent e.number es d.0, plain_distinct es d.1)
