-- New marks change neither the output order nor the handles.
use Rattle.std.proofs.Common.{◌≡◌, ℕ, zero, suc, ◌+◌, Bool, true, false, cond, eqb, List, [], ◌∷◌}
use Rattle.std.proofs.Common.{◌<◌, length, map, set, get_or, Some, refl, sym, ap, ◌∙◌, subst, arith}
use Rattle.std.specs.Prelude.{int_lt}
use Rattle.std.specs.List.{slice_get}
use Rattle.std.proofs.lemmas.List.{length-map}
use Rattle.hevc_pictures.specs.declared.reference.Reference.{Reference}
use Rattle.hevc_dpb.specs.declared.entry.DpbEntry.{DpbEntry}
use Rattle.hevc_dpb.specs.Numbers.{Absent, Distinct}
use Rattle.hevc_dpb.specs.Entries.{numbers, ticket, tickets, waits, with_mark, unmarked}
use Rattle.hevc_dpb.specs.Output.{placed, in_output_order, position_of, output_positions}
use Rattle.hevc_dpb.proofs.OrderLaws.{get_some}
use Rattle.hevc_dpb.proofs.OutputLaws.{other_number, same_number, number_in}

-- nothing but its mark is another one
pub record KeepsOrder {T : Type 0} (f : DpbEntry T → DpbEntry T) : Type 0 where
  pub ticket_of : (e : DpbEntry T) → ticket (f e) ≡ ticket e
  pub count : (e : DpbEntry T) → (f e).picture.pic_order_cnt_val ≡ e.picture.pic_order_cnt_val
  pub waiting : (e : DpbEntry T) → waits (f e) ≡ waits e

module _ {T : Type 0} (f : DpbEntry T → DpbEntry T) (keeps : KeepsOrder f) where
  number_of : (e : DpbEntry T) → (f e).number ≡ e.number
  number_of e = ap (λ t. t.0) (keeps.ticket_of e)

  map_if : (b : Bool) (xs ys : List (DpbEntry T)) → map f (cond b xs ys) ≡ cond b (map f xs) (map f ys)
  map_if true xs ys = refl
  map_if false xs ys = refl

  placed_map : (e : DpbEntry T) (fs : List (DpbEntry T)) → placed (f e) (map f fs) ≡ map f (placed e fs)
  placed_map e [] = refl
  placed_map e (x ∷ xs) =
      ap (λ c. cond (int_lt c (f e).picture.pic_order_cnt_val) (f x ∷ placed (f e) (map f xs))
      (f e ∷ f x ∷ map f xs)) (keeps.count x)
      ∙ ap (λ c. cond (int_lt x.picture.pic_order_cnt_val c) (f x ∷ placed (f e) (map f xs))
      (f e ∷ f x ∷ map f xs)) (keeps.count e)
      ∙ ap (λ l. cond (int_lt x.picture.pic_order_cnt_val e.picture.pic_order_cnt_val) (f x ∷ l)
      (f e ∷ f x ∷ map f xs)) (placed_map e xs)
      ∙ sym (map_if (int_lt x.picture.pic_order_cnt_val e.picture.pic_order_cnt_val) (x ∷ placed e xs) (e ∷ x ∷ xs))

  order_map : (es : List (DpbEntry T)) → in_output_order (map f es) ≡ map f (in_output_order es)
  order_map [] = refl
  order_map (e ∷ es) =
      ap (λ b. cond b (placed (f e) (in_output_order (map f es))) (in_output_order (map f es))) (keeps.waiting e)
      ∙ ap (λ l. cond (waits e) (placed (f e) l) l) (order_map es)
      ∙ ap (λ l. cond (waits e) l (map f (in_output_order es))) (placed_map e (in_output_order es))
      ∙ sym (map_if (waits e) (placed e (in_output_order es)) (in_output_order es))

  place_map : (n : ℕ) (es : List (DpbEntry T)) → position_of n (map f es) ≡ position_of n es
  place_map n [] = refl
  place_map n (e ∷ es) = ap (λ m. cond (eqb n m) 0 (position_of n (map f es) + 1)) (number_of e)
      ∙ ap (λ k. cond (eqb n e.number) 0 (k + 1)) (place_map n es)

  places_over : (es fs : List (DpbEntry T)) → map (λ e. position_of e.number (map f es)) (map f fs) ≡ map
      (λ e. position_of e.number es) fs
  places_over es [] = refl
  places_over es (x ∷ xs) =
      ap (λ n. position_of n (map f es) ∷ map (λ e. position_of e.number (map f es)) (map f xs))
      (number_of x) ∙ ap (λ k. k ∷ map (λ e. position_of e.number (map f es)) (map f xs))
      (place_map x.number es) ∙ ap (λ l. position_of x.number es ∷ l) (places_over es xs)

  pub output_positions_map : (es : List (DpbEntry T)) → output_positions (map f es) ≡ output_positions es
  output_positions_map es = ap (map (λ e. position_of e.number (map f es))) (order_map es)
      ∙ places_over es (in_output_order es)

  pub tickets_map : (es : List (DpbEntry T)) → tickets (map f es) ≡ tickets es
  tickets_map [] = refl
  tickets_map (e ∷ es) = ap (λ t. t ∷ tickets (map f es)) (keeps.ticket_of e) ∙ ap (λ l. ticket e ∷ l) (tickets_map es)

  pub numbers_map : (es : List (DpbEntry T)) → numbers (map f es) ≡ numbers es
  numbers_map [] = refl
  numbers_map (e ∷ es) = ap (λ n. n ∷ numbers (map f es)) (number_of e) ∙ ap (λ l. e.number ∷ l) (numbers_map es)

pub unmarked_keeps : {T : Type 0} (mark : Reference) → KeepsOrder (with_mark {T = T} mark)
unmarked_keeps mark = record { ticket_of = λ e. refl; count = λ e. refl; waiting = λ e. refl }

-- ---- one entry is marked

module _ {T : Type 0} (n : ℕ) (mark : Reference) where
  abbrev pub marked_at : DpbEntry T → DpbEntry T
  marked_at e = cond (eqb n e.number) (with_mark mark e) e

  pub marked_keeps : KeepsOrder marked_at
  marked_keeps = record {
    ticket_of = λ e. by_ticket (eqb n e.number) e;
    count = λ e. by_count (eqb n e.number) e;
    waiting = λ e. by_waiting (eqb n e.number) e;
  }
    where
      by_ticket : (b : Bool) (e : DpbEntry T) → ticket (cond b (with_mark mark e) e) ≡ ticket e
      by_ticket true e = refl
      by_ticket false e = refl

      by_count : (b : Bool) (e : DpbEntry T)
          → (cond b (with_mark mark e) e).picture.pic_order_cnt_val ≡ e.picture.pic_order_cnt_val
      by_count true e = refl
      by_count false e = refl

      by_waiting : (b : Bool) (e : DpbEntry T) → waits (cond b (with_mark mark e) e) ≡ waits e
      by_waiting true e = refl
      by_waiting false e = refl

  -- entries of other numbers stay
  others_stay : (es : List (DpbEntry T)) → Absent n (numbers es) → map marked_at es ≡ es
  others_stay [] h = refl
  others_stay (e ∷ es) h =
      ap (λ b. cond b (with_mark mark e) e ∷ map marked_at es) (other_number n e.number (λ is. h.0 (sym is)))
      ∙ ap (λ l. e ∷ l) (others_stay es h.1)

-- marking the entry at a position is marking that of its number
pub marked_is_map : {T : Type 0} (mark : Reference) (es : List (DpbEntry T)) (i : ℕ) (e : DpbEntry T)
    → slice_get es i ≡ Some e → Distinct (numbers es) → set es i (with_mark mark e) ≡ map (marked_at e.number mark) es
marked_is_map mark [] i e is d = absurd (cc is)
marked_is_map {T} mark (f ∷ es) zero e is d =
    let same : f ≡ e = cc is in
    let absent : Absent e.number (numbers es) = subst (λ (x : DpbEntry T). Absent x.number (numbers es)) same d.0 in
    ap (λ l. with_mark mark e ∷ l) (sym (others_stay e.number mark es absent))
    ∙ ap (λ b. cond b (with_mark mark e) e ∷ map (marked_at e.number mark) es) (sym (same_number e.number))
    ∙ ap (λ (x : DpbEntry T). marked_at e.number mark x ∷ map (marked_at e.number mark) es) (sym same)
marked_is_map mark (f ∷ es) (suc i) e is d =
    ap (λ l. f ∷ l) (marked_is_map mark es i e is d.1)
    ∙ ap (λ b. cond b (with_mark mark f) f ∷ map (marked_at e.number mark) es)
    (sym (other_number e.number f.number (number_in es i e f.number is d.0)))

pub unmarked_twice : {T : Type 0} (es : List (DpbEntry T)) → map unmarked (map unmarked es) ≡ map unmarked es
unmarked_twice [] = refl
unmarked_twice (e ∷ es) = ap (λ l. unmarked e ∷ l) (unmarked_twice es)

unmarked_set : {T : Type 0} (mark : Reference) (es : List (DpbEntry T)) (i : ℕ) (d : DpbEntry T)
    → map unmarked (set es i (with_mark mark (get_or es i d))) ≡ map unmarked es
unmarked_set mark [] i d = refl
unmarked_set mark (e ∷ es) zero d = refl
unmarked_set mark (e ∷ es) (suc i) d = ap (λ l. unmarked e ∷ l) (unmarked_set mark es i d)

-- What marking the entry at a position keeps.
pub record MarksAt {T : Type 0} (es now : List (DpbEntry T)) : Type 0 where
  pub few : length now ≡ length es
  pub same_numbers : numbers now ≡ numbers es
  pub same_tickets : tickets now ≡ tickets es
  pub same_order : output_positions now ≡ output_positions es
  pub others : map unmarked now ≡ map unmarked es

pub marks_at : {T : Type 0} (mark : Reference) (es now : List (DpbEntry T)) (i : ℕ) → i < length es
    → Distinct (numbers es)
    → ((d : DpbEntry T) → now ≡ set es i (with_mark mark (get_or es i d))) → MarksAt es now
marks_at mark [] now i lt distinct is = absurd (omega arith)
marks_at {T} mark (f ∷ fs) now i lt distinct is =
    let es : List (DpbEntry T) = f ∷ fs in
    let e = get_or es i f in
    let mapped : now ≡ map (marked_at e.number mark) es =
    is f ∙ marked_is_map mark es i e (get_some es i f lt) distinct in
    let keeps = marked_keeps {T = T} e.number mark in
    record {
      few = ap length mapped ∙ length-map es (marked_at e.number mark);
      same_numbers = ap numbers mapped ∙ numbers_map (marked_at e.number mark) keeps es;
      same_tickets = ap tickets mapped ∙ tickets_map (marked_at e.number mark) keeps es;
      same_order = ap output_positions mapped ∙ output_positions_map (marked_at e.number mark) keeps es;
      others = ap (map unmarked) (is f) ∙ unmarked_set mark es i f;
    }
