-- The words of the buffer, as those of the walk.
use Rattle.std.proofs.Common.{◌≡◌, ℕ, zero, suc, ◌+◌, ◌-◌, Bool, true, false, cond, eqb, ◌&&◌, ◌||◌}
use Rattle.std.proofs.Common.{◌^◌, min, List, [], ◌∷◌, ◌++◌, length, map, filter, take, set, get_or}
use Rattle.std.proofs.Common.{refl, sym, ap, ◌∙◌, arith, ◌<◌}
use Rattle.std.specs.Prelude.{int_lt, int_le, nat_le, nat_lt, count_by, ℤ, pos, negsuc, ◌-ℤ◌, ◌≤ℤ◌}
use Rattle.std.specs.List.{list_any, fold}
use Rattle.std.specs.Option.{option_map}
use Rattle.std.proofs.lemmas.Bool.Decides.{nat_tests}
use Rattle.std.proofs.lemmas.List.Elements.{All-head, All-tail}
use Rattle.hevc_walk.specs.Buffer as walk
use Rattle.hevc_walk.specs.Buffer.{needs_additional_bumping, needs_bumping, with_stored}
use Rattle.hevc_walk.specs.ReferenceSets as walk_sets
use Rattle.hevc_walk.specs.Walk.{needed_entries}
use Rattle.hevc_walk.specs.Pictures.{Head}
use Rattle.hevc_pictures.specs.declared.limits.Limits.{Limits}
use Rattle.hevc_dpb.specs.declared.entry.DpbEntry.{DpbEntry}
use Rattle.hevc_pictures.specs.declared.reference.Reference.{Reference}
use Rattle.hevc_pictures.specs.declared.reference.Reference.TheVariants as marks
use Rattle.hevc_pictures.specs.Marks.{is_reference}
use Rattle.std.proofs.lemmas.List.{length-map}
use Rattle.hevc_pictures.specs.declared.picture_data.PictureData.{PictureData}
use Rattle.hevc_dpb.specs.Output.{first_in, placed, in_output_order, as_output, left_behind, behind_output}
use Rattle.hevc_dpb.specs.Entries.{waits, is_ref, is_needed, with_mark, unmarked, raised_count}
use Rattle.hevc_dpb.specs.Entries.{with_latency, stored_entry, IsStoredAs}
use Rattle.hevc_dpb.specs.Bumping.{is_late, is_additional_due, is_bumping_due}
use Rattle.hevc_pictures.specs.Marks.{mark_of, reference_of}
use Rattle.hevc_pictures.specs.Limits.{limits_of}
use Rattle.hevc_dpb.specs.Plain.{plain_entry, plain_output, plain_entries, from_zero, HaveLatency}

plain_is_reference : (mark : Reference) → walk.is_reference (mark_of mark) ≡ is_reference mark
plain_is_reference marks.None = refl
plain_is_reference marks.ShortTerm = refl
plain_is_reference marks.LongTerm = refl

nothing_left : (es : List walk.Entry) → walk.after_output [] es ≡ es
nothing_left [] = refl
nothing_left (e ∷ es) = ap (λ (l : List walk.Entry). e ∷ l) (nothing_left es)

raised_from : (c : ℤ) → pos 0 ≤ℤ c → from_zero (raised_count c) ≡ min (from_zero c + 1) (2 ^ 31 - 1)
raised_from (pos n) h = by_test (nat_lt 2147483647 (n + 1)) refl
  where
    by_test : (b : Bool) → nat_lt 2147483647 (n + 1) ≡ b
        → from_zero (cond b (pos 2147483647) (pos (n + 1))) ≡ min (n + 1) (2 ^ 31 - 1)
    by_test true is = grind (arith, nat_tests)
    by_test false is = grind (arith, nat_tests)
raised_from (negsuc n) h = absurd (omega arith)

or_false : (b : Bool) → (b || false) ≡ b
or_false true = refl
or_false false = refl

module _ {T : Type 0} where
  by_test : (b : Bool) (e f : DpbEntry T) (fs gs : List (DpbEntry T)) (hs : List walk.Entry)
      → plain_entries gs ≡ hs
      → plain_entries (cond b (f ∷ gs) (e ∷ f ∷ fs)) ≡ cond b (plain_entry f ∷ hs)
      (plain_entry e ∷ plain_entry f ∷ plain_entries fs)
  by_test true e f fs gs hs same = ap (λ l. plain_entry f ∷ l) same
  by_test false e f fs gs hs same = refl

  plain_placed : (e : DpbEntry T) (fs : List (DpbEntry T))
      → plain_entries (placed e fs) ≡ walk.placed (plain_entry e) (plain_entries fs)
  plain_placed e [] = refl
  plain_placed e (f ∷ fs) = by_test (int_lt f.picture.pic_order_cnt_val e.picture.pic_order_cnt_val) e f fs
      (placed e fs) (walk.placed (plain_entry e) (plain_entries fs)) (plain_placed e fs)

  by_wait : (b : Bool) (e : DpbEntry T) (fs : List (DpbEntry T)) (gs : List walk.Entry)
      → plain_entries fs ≡ gs → plain_entries (cond b (placed e fs) fs) ≡ cond b (walk.placed (plain_entry e) gs) gs
  by_wait true e fs gs same = plain_placed e fs ∙ ap (walk.placed (plain_entry e)) same
  by_wait false e fs gs same = same

  pub plain_order : (es : List (DpbEntry T))
      → plain_entries (in_output_order es) ≡ walk.in_output_order (plain_entries es)
  plain_order [] = refl
  plain_order (e ∷ es) = by_wait (waits e) e (in_output_order es) (walk.in_output_order (plain_entries es))
      (plain_order es)

  by_left : (b r : Bool) (e : DpbEntry T) (fs : List (DpbEntry T)) (gs : List walk.Entry)
      → walk.is_reference (mark_of e.picture.reference) ≡ r → plain_entries fs ≡ gs
      → plain_entries (cond b (cond (r && true) (as_output e ∷ []) []) (e ∷ []) ++ fs) ≡ walk.left_of b
      (plain_entry e) ++ gs
  by_left true true e fs gs is same = ap (λ l. plain_entry (as_output e) ∷ l) same
      ∙ sym (ap (λ c. cond c (plain_entry (as_output e) ∷ []) [] ++ gs) is)
  by_left true false e fs gs is same = same ∙ sym (ap (λ c. cond c (plain_entry (as_output e) ∷ []) [] ++ gs) is)
  by_left false r e fs gs is same = ap (λ l. plain_entry e ∷ l) same

  pub plain_left : (f : DpbEntry T) (es : List (DpbEntry T))
      → plain_entries (left_behind false f.number es) ≡ walk.after_output (plain_entry f ∷ []) (plain_entries es)
  plain_left f [] = refl
  plain_left f (e ∷ es) =
      by_left (eqb f.number e.number) (is_ref e) e (left_behind false f.number es)
      (walk.after_output (plain_entry f ∷ []) (plain_entries es)) (plain_is_reference e.picture.reference)
      (plain_left f es)
      ∙ sym (ap (λ b. walk.left_of b (plain_entry e)
      ++ walk.after_output (plain_entry f ∷ []) (plain_entries es)) (or_false (eqb f.number e.number)))

late_by_count : (t n : ℕ) → int_le (pos t -ℤ pos 1) (pos n) ≡ nat_le (t - 1) n
late_by_count zero n = grind (arith, nat_tests)
late_by_count (suc t) n = grind (arith, nat_tests)

late_by : (t : ℕ) (c : ℤ) → pos 0 ≤ℤ c → int_le (pos t -ℤ pos 1) c ≡ nat_le (t - 1) (from_zero c)
late_by t (pos n) h = late_by_count t n
late_by t (negsuc n) h = absurd (omega arith)

module _ {T : Type 0} where
  any_late : (limits : Limits) (es : List (DpbEntry T)) → HaveLatency es
      → list_any (walk.is_late (limits_of limits)) (plain_entries es) ≡ list_any (is_late limits) es
  any_late limits [] h = refl
  any_late limits (e ∷ es) h =
      ap (λ b. (e.picture.needed_for_output && b) || list_any (walk.is_late (limits_of limits))
      (plain_entries es))
      (sym (late_by (limits.reorder + limits.latency_plus1) e.picture.pic_latency_cnt
      (All-head (λ (x : DpbEntry T). pos 0 ≤ℤ x.picture.pic_latency_cnt) e es h)))
      ∙ ap (λ b. is_late limits e || b)
      (any_late limits es (All-tail (λ (x : DpbEntry T). pos 0 ≤ℤ x.picture.pic_latency_cnt) e es h))

  num_from : (n : ℕ) (es : List (DpbEntry T))
      → fold (λ a x. a + cond x.needed_for_output 1 0) n (plain_entries es) ≡ fold (λ a x. a + cond (waits x) 1 0) n es
  num_from n [] = refl
  num_from n (e ∷ es) = num_from (n + cond (waits e) 1 0) es

  pub plain_additional_due : (limits : Limits) (es : List (DpbEntry T)) → HaveLatency es
      → needs_additional_bumping (limits_of limits) (plain_entries es) ≡ is_additional_due limits es
  unfolding needs_additional_bumping
  plain_additional_due limits es h =
      ap (λ n. nat_lt limits.reorder n ||
      (nat_lt 0 limits.latency_plus1 && list_any (walk.is_late (limits_of limits)) (plain_entries es))) (num_from 0 es)
      ∙ ap (λ b. nat_lt limits.reorder (count_by waits es) || (nat_lt 0 limits.latency_plus1 && b))
      (any_late limits es h)

  pub plain_bumping_due : (limits : Limits) (es : List (DpbEntry T)) → HaveLatency es
      → needs_bumping (limits_of limits) (plain_entries es) ≡ is_bumping_due limits es
  unfolding needs_bumping
  plain_bumping_due limits es h =
      ap (λ b. b || nat_le (limits.buffering + 1) (length (plain_entries es))) (plain_additional_due limits es h)
      ∙ ap (λ n. is_additional_due limits es || nat_le (limits.buffering + 1) n) (length-map es plain_entry)

  -- ---- marks, removals and stores

  pub plain_unmarked : (es : List (DpbEntry T))
      → plain_entries (map unmarked es) ≡ map walk_sets.unmarked (plain_entries es)
  plain_unmarked [] = refl
  plain_unmarked (e ∷ es) = ap (λ (l : List walk.Entry). plain_entry (unmarked e) ∷ l) (plain_unmarked es)

  set_plain : (mark : Reference) (es : List (DpbEntry T)) (i : ℕ) → i < length es
      → (e : DpbEntry T) (d : walk.Entry)
      → plain_entries (set es i (with_mark mark (get_or es i e))) ≡ set (plain_entries es) i
      (record (get_or (plain_entries es) i d) { mark = mark_of mark })
  set_plain mark [] i lt e d = absurd (omega arith)
  set_plain mark (f ∷ es) zero lt e d = refl
  set_plain mark (f ∷ es) (suc i) lt e d =
      ap (λ (l : List walk.Entry). plain_entry f ∷ l) (set_plain mark es i (omega arith) e d)

  pub plain_marked : (mark : Reference) (es now : List (DpbEntry T)) (i : ℕ) → i < length es
      → ((d : DpbEntry T) → now ≡ set es i (with_mark mark (get_or es i d)))
      → (d : walk.Entry)
      → plain_entries now ≡ set (plain_entries es) i (record (get_or (plain_entries es) i d) { mark = mark_of mark })
  plain_marked mark [] now i lt is d = absurd (omega arith)
  plain_marked mark (f ∷ fs) now i lt is d = ap plain_entries (is f) ∙ set_plain mark (f ∷ fs) i lt f d

  needed_by : (w r : Bool) (e : DpbEntry T) (fs : List (DpbEntry T)) (gs : List walk.Entry)
      → walk.is_reference (mark_of (reference_of e.picture)) ≡ r → plain_entries fs ≡ gs
      → plain_entries (cond (w || r) (e ∷ fs) fs) ≡ cond
      (w || walk.is_reference (mark_of (reference_of e.picture))) (plain_entry e ∷ gs) gs
  needed_by w r e fs gs is same = by_test (w || r) ∙ sym (ap (λ b. cond (w || b) (plain_entry e ∷ gs) gs) is)
    where
      by_test : (b : Bool) → plain_entries (cond b (e ∷ fs) fs) ≡ cond b (plain_entry e ∷ gs) gs
      by_test true = ap (λ (l : List walk.Entry). plain_entry e ∷ l) same
      by_test false = same

  pub plain_needed : (es : List (DpbEntry T)) → plain_entries (filter is_needed es) ≡ needed_entries (plain_entries es)
  plain_needed [] = refl
  plain_needed (e ∷ es) =
      needed_by (waits e) (is_ref e) e (filter is_needed es) (needed_entries (plain_entries es))
      (plain_is_reference (reference_of e.picture)) (plain_needed es)

  plain_later : (es : List (DpbEntry T)) (e : DpbEntry T) → HaveLatency es
      → plain_entries (map with_latency es ++ e ∷ []) ≡ map walk.with_latency (plain_entries es) ++ plain_entry e ∷ []
  plain_later [] e h = refl
  plain_later (f ∷ es) e h =
      ap (λ n. record (plain_entry f) { latency_count = n } ∷ plain_entries (map with_latency es ++ e ∷ []))
      (raised_from f.picture.pic_latency_cnt (All-head (λ (x : DpbEntry T). pos 0 ≤ℤ x.picture.pic_latency_cnt) f es h))
      ∙ ap (λ (l : List walk.Entry). walk.with_latency (plain_entry f) ∷ l)
      (plain_later es e (All-tail (λ (x : DpbEntry T). pos 0 ≤ℤ x.picture.pic_latency_cnt) f es h))

  pub plain_stored : (p : Head) (number : ℕ) (picture : PictureData) (handle : T) (es : List (DpbEntry T))
      → IsStoredAs p number picture → HaveLatency es
      → plain_entries (map with_latency es ++ stored_entry number picture handle ∷ []) ≡ with_stored p
      (plain_entries es)
  unfolding with_stored
  plain_stored p number picture handle es is h =
      plain_later es (stored_entry number picture handle) h
      ∙ ap (λ n. map walk.with_latency (plain_entries es) ++ record {
        number = n;
        order_count = picture.pic_order_cnt_val;
        mark = walk.ShortTerm;
        needed_for_output = picture.pic_output_flag;
        latency_count = 0;
      } ∷ []) (sym is.same_number)
      ∙ ap (λ c. map walk.with_latency (plain_entries es) ++ record {
        number = p.number;
        order_count = c;
        mark = walk.ShortTerm;
        needed_for_output = picture.pic_output_flag;
        latency_count = 0;
      } ∷ []) (sym is.order_count)
      ∙ ap (λ b. map walk.with_latency (plain_entries es) ++ record {
        number = p.number;
        order_count = p.order_count;
        mark = walk.ShortTerm;
        needed_for_output = b;
        latency_count = 0;
      } ∷ []) (sym is.pic_output_flag)

  -- ---- outputs

  behind_first : (fs es : List (DpbEntry T))
      → plain_entries (behind_output false (first_in fs) es) ≡ walk.after_output (take 1 (plain_entries fs))
      (plain_entries es)
  behind_first [] es = sym (nothing_left (plain_entries es))
  behind_first (f ∷ fs) es = plain_left f es

  pub plain_behind : (flush : Bool) (es : List (DpbEntry T)) → flush ≡ false
      → plain_entries (behind_output flush (first_in (in_output_order es)) es) ≡ walk.after_output
      (take 1 (walk.in_output_order (plain_entries es))) (plain_entries es)
  plain_behind flush es is =
      ap (λ b. plain_entries (behind_output b (first_in (in_output_order es)) es)) is
      ∙ behind_first (in_output_order es) es
      ∙ ap (λ (l : List walk.Entry). walk.after_output (take 1 l) (plain_entries es)) (plain_order es)

  first_plain : (fs : List (DpbEntry T))
      → option_map plain_entry (option_map as_output (first_in fs)) ≡ option_map plain_output
      (first_in (plain_entries fs))
  first_plain [] = refl
  first_plain (f ∷ fs) = refl

  pub plain_first : (es : List (DpbEntry T))
      → option_map plain_entry (option_map as_output (first_in (in_output_order es)))
      ≡ option_map plain_output (first_in (walk.in_output_order (plain_entries es)))
  plain_first es = first_plain (in_output_order es)
      ∙ ap (λ (l : List walk.Entry). option_map plain_output (first_in l)) (plain_order es)
