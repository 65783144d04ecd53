-- What is left as an entry is output.
use Rattle.std.proofs.Common.{◌≡◌, ◌≢◌, ℕ, zero, suc, ◌<◌, ◌≤◌, Bool, true, false, cond, eqb, ◌&&◌}
use Rattle.std.proofs.Common.{List, [], ◌∷◌, ◌++◌, length, map, get_or, set, Some, None, refl, sym}
use Rattle.std.proofs.Common.{ap, ◌∙◌, subst, arith}
use Rattle.std.specs.List.{slice_get, remove, filter}
use Rattle.std.proofs.lemmas.Bool.Decides.{nat_tests}
use Rattle.hevc_dpb.specs.declared.entry.DpbEntry.{DpbEntry}
use Rattle.hevc_dpb.specs.Numbers.{Absent, Distinct}
use Rattle.hevc_dpb.specs.Entries.{numbers, ticket, tickets, is_ref, reference_numbers}
use Rattle.hevc_dpb.specs.Output.{stays, as_output, left_of, left_behind, behind_output, first_in, in_output_order}
use Rattle.hevc_dpb.specs.Sublists.{IsSublist, nothing, kept, left_out}
use Rattle.hevc_dpb.proofs.Sublists.{sublist_all, sublist_few, sublist_distinct}
use Rattle.hevc_dpb.proofs.OrderLaws.{get_some}
use Rattle.std.specs.Prelude.{Contains, Option}
use Rattle.std.specs.Option.{option_map}
use Rattle.std.proofs.lemmas.List.{length-map, get_or-map}

pub other_number : (n m : ℕ) → n ≢ m → eqb n m ≡ false
other_number n m ne = grind (arith, nat_tests)

pub same_number : (n : ℕ) → eqb n n ≡ true
same_number n = grind (arith, nat_tests)

module _ {T : Type 0} where
  pub left_absent : (flush : Bool) (n : ℕ) (es : List (DpbEntry T)) → Absent n (numbers es)
      → left_behind flush n es ≡ es
  left_absent flush n [] h = refl
  left_absent flush n (e ∷ es) h =
      ap (λ b. cond b (cond (stays flush e) (as_output e ∷ []) []) (e ∷ []) ++ left_behind flush n es)
      (other_number n e.number (λ k. h.0 (sym k)))
      ∙ ap (λ l. e ∷ l) (left_absent flush n es h.1)

  pub number_in : (es : List (DpbEntry T)) (p : ℕ) (e : DpbEntry T) (n : ℕ) → slice_get es p ≡ Some e
      → Absent n (numbers es) → e.number ≢ n
  number_in [] p e n is h = absurd (cc is)
  number_in (f ∷ es) zero e n is h = let same : f ≡ e = cc is in λ k. h.0 (ap (λ (x : DpbEntry T). x.number) same ∙ k)
  number_in (f ∷ es) (suc p) e n is h = number_in es p e n is h.1

  first_left : (b : Bool) (e : DpbEntry T) (es : List (DpbEntry T))
      → cond b (as_output e ∷ []) [] ++ es ≡ cond b (as_output e ∷ es) es
  first_left true e es = refl
  first_left false e es = refl

  later_left : (b : Bool) (f e : DpbEntry T) (es : List (DpbEntry T)) (p : ℕ)
      → f ∷ cond b (set es p (as_output e)) (remove es p) ≡ cond b (set (f ∷ es) (suc p) (as_output e))
      (remove (f ∷ es) (suc p))
  later_left true f e es p = refl
  later_left false f e es p = refl

  pub left_behind_at : (flush : Bool) (es : List (DpbEntry T)) (p : ℕ) (e : DpbEntry T)
      → slice_get es p ≡ Some e → Distinct (numbers es)
      → left_behind flush e.number es ≡ cond (stays flush e) (set es p (as_output e)) (remove es p)
  left_behind_at flush [] p e is d = absurd (cc is)
  left_behind_at flush (f ∷ es) zero e is d =
      let same : f ≡ e = cc is in
      let absent : Absent e.number (numbers es) = subst (λ (x : DpbEntry T). Absent x.number (numbers es)) same d.0 in
      ap (λ (x : DpbEntry T). left_of flush e.number x ++ left_behind flush e.number es) same
      ∙ ap (λ b. cond b (cond (stays flush e) (as_output e ∷ []) []) (e ∷ [])
      ++ left_behind flush e.number es) (same_number e.number)
      ∙ ap (λ l. cond (stays flush e) (as_output e ∷ []) [] ++ l) (left_absent flush e.number es absent)
      ∙ first_left (stays flush e) e es
  left_behind_at flush (f ∷ es) (suc p) e is d =
      ap (λ b. cond b (cond (stays flush f) (as_output f ∷ []) []) (f ∷ [])
      ++ left_behind flush e.number es) (other_number e.number f.number (number_in es p e f.number is d.0))
      ∙ ap (λ l. f ∷ l) (left_behind_at flush es p e is d.1)
      ∙ later_left (stays flush e) f e es p

  sublist_by_test : (a b : Bool) (e : DpbEntry T) (fs es : List (DpbEntry T))
      → IsSublist (tickets fs) (tickets es)
      → IsSublist (tickets (cond a (cond b (as_output e ∷ []) []) (e ∷ []) ++ fs)) (tickets (e ∷ es))
  sublist_by_test true true e fs es s = kept (ticket e) (tickets fs) (tickets es) s
  sublist_by_test true false e fs es s = left_out (ticket e) (tickets fs) (tickets es) s
  sublist_by_test false b e fs es s = kept (ticket e) (tickets fs) (tickets es) s

  pub left_sublist : (flush : Bool) (n : ℕ) (es : List (DpbEntry T))
      → IsSublist (tickets (left_behind flush n es)) (tickets es)
  left_sublist flush n [] = nothing
  left_sublist flush n (e ∷ es) =
      sublist_by_test (eqb n e.number) (stays flush e) e (left_behind flush n es) es (left_sublist flush n es)

  pub behind_sublist : (flush : Bool) (first : Option (DpbEntry T)) (es : List (DpbEntry T))
      → IsSublist (tickets (behind_output flush first es)) (tickets es)
  behind_sublist flush None es = sublist_all (tickets es)
  behind_sublist flush (Some e) es = left_sublist flush e.number es

  references_by_test : (a r : Bool) (e : DpbEntry T) (fs es : List (DpbEntry T)) → is_ref e ≡ r
      → reference_numbers fs ≡ reference_numbers es
      → reference_numbers (cond a (cond (r && true) (as_output e ∷ []) []) (e ∷ []) ++ fs) ≡ reference_numbers (e ∷ es)
  references_by_test true true e fs es is same =
      ap (λ b. numbers (cond b (as_output e ∷ filter is_ref fs) (filter is_ref fs))) is
      ∙ ap (λ l. e.number ∷ l) same ∙ sym (ap (λ b. numbers (cond b (e ∷ filter is_ref es) (filter is_ref es))) is)
  references_by_test true false e fs es is same =
      same ∙ sym (ap (λ b. numbers (cond b (e ∷ filter is_ref es) (filter is_ref es))) is)
  references_by_test false r e fs es is same =
      ap (λ b. numbers (cond b (e ∷ filter is_ref fs) (filter is_ref fs))) is ∙ by_mark r
      ∙ sym (ap (λ b. numbers (cond b (e ∷ filter is_ref es) (filter is_ref es))) is)
    where
      by_mark : (r : Bool)
          → numbers (cond r (e ∷ filter is_ref fs) (filter is_ref fs)) ≡ numbers
          (cond r (e ∷ filter is_ref es) (filter is_ref es))
      by_mark true = ap (λ l. e.number ∷ l) same
      by_mark false = same

  pub left_references : (n : ℕ) (es : List (DpbEntry T))
      → reference_numbers (left_behind false n es) ≡ reference_numbers es
  left_references n [] = refl
  left_references n (e ∷ es) =
      references_by_test (eqb n e.number) (is_ref e) e (left_behind false n es) es refl (left_references n es)

  pub behind_references : (flush : Bool) (first : Option (DpbEntry T)) (es : List (DpbEntry T))
      → flush ≡ false → reference_numbers (behind_output flush first es) ≡ reference_numbers es
  behind_references flush first es is = ap (λ b. reference_numbers (behind_output b first es)) is ∙ by_first first
    where
      by_first : (first : Option (DpbEntry T)) → reference_numbers (behind_output false first es) ≡ reference_numbers es
      by_first None = refl
      by_first (Some e) = left_references e.number es

  pub numbers_tickets : (es : List (DpbEntry T)) → map (λ t. t.0) (tickets es) ≡ numbers es
  numbers_tickets [] = refl
  numbers_tickets (e ∷ es) = ap (λ l. e.number ∷ l) (numbers_tickets es)

  -- the entry at the first place is output
  pub record Bumps (flush : Bool) (es left : List (DpbEntry T)) (o : DpbEntry T) : Type 0 where
    pub output : Some o ≡ option_map as_output (first_in (in_output_order es))
    pub left_is : left ≡ behind_output flush (first_in (in_output_order es)) es
    pub given : Contains (tickets es) (ticket o)

  pub bumped : (flush : Bool) (es left : List (DpbEntry T)) (p : ℕ) (o : DpbEntry T) → Distinct (numbers es)
      → p < length es → slice_get es p ≡ first_in (in_output_order es)
      → ((d : DpbEntry T) → o ≡ as_output (get_or es p d))
      → left ≡ cond (stays flush o) (set es p o) (remove es p) → Bumps flush es left o
  bumped flush es left p o distinct lt at says is =
      let there : slice_get es p ≡ Some (get_or es p o) = get_some es p o lt in
      let first : first_in (in_output_order es) ≡ Some (get_or es p o) = sym at ∙ there in
      record {
        output = ap Some (says o) ∙ sym (ap (option_map as_output) first);
        left_is = is ∙ ap (λ (x : DpbEntry T). cond (stays flush x) (set es p x) (remove es p)) (says o)
            ∙ sym (left_behind_at flush es p (get_or es p o) there distinct)
            ∙ sym (ap (λ f. behind_output flush f es) first);
        given = (
          p,
          (let n = length-map es ticket in omega (arith, n)),
          get_or-map ticket es p o (ticket o) lt ∙ sym (ap ticket (says o)),
        );
      }

  pub behind_few : (flush : Bool) (first : Option (DpbEntry T)) (es : List (DpbEntry T))
      → length (behind_output flush first es) ≤ length es
  behind_few flush first es = let l = sublist_few (behind_sublist flush first es) in
      omega (arith, l, length-map (behind_output flush first es) ticket, length-map es ticket)

  pub behind_distinct : (flush : Bool) (first : Option (DpbEntry T)) (es : List (DpbEntry T))
      → Distinct (numbers es) → Distinct (numbers (behind_output flush first es))
  behind_distinct flush first es d =
      subst Distinct (numbers_tickets (behind_output flush first es))
      (sublist_distinct (λ t. t.0) (behind_sublist flush first es) (subst Distinct (sym (numbers_tickets es)) d))
