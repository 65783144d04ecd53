-- First palette predictors (tables 10 and 13): lists of a record, one a component, that are set element by element.
use Rattle.std.proofs.Common.{◌≡◌, ℕ, zero, suc, ◌+◌, ◌<◌, Bool, List, [], ◌∷◌, length, get_or, set}
use Rattle.std.proofs.Common.{refl, sym, ap, subst, ◌∙◌, arith, inl, inr}
use Rattle.std.specs.Prelude.{slice_get, unwrap_or, ◌⊎◌}
use Rattle.std.proofs.lemmas.List.{get_or-set_same, set-get_or}
use Rattle.std.proofs.lemmas.Option.{unwrap_or-slice_get}
use Rattle.hevc_spec.specs.declared.Row.{Row}
use Rattle.hevc_spec.specs.Table.{Table, part, done}
use Rattle.hevc_spec.specs.Rows.{bits_row, repeat}
use Rattle.hevc_write_elements.specs.Filling.{Keeps, Writes, WritesBits, WritesTurn, WritesTurns, SameBelow}
use Rattle.hevc_write_elements.proofs.RowRules.{IsKept}
use Rattle.hevc_write_elements.proofs.Fillings.{weakened, beside}
use Rattle.hevc_write_elements.proofs.Steps.{done_filled, bits_then}
use Rattle.hevc_write_elements.proofs.Loops.{turns_keep, all_turns, all_same, one_less}

-- the list of a component
abbrev pub list_at : List (List ℕ) → ℕ → List ℕ
list_at l c = unwrap_or (slice_get l c) []

-- the later of two items in a place stays
set_set : {X : Type 0} (l : List X) (c : ℕ) (a b : X) → set (set l c a) c b ≡ set l c b
set_set [] c a b = refl
set_set (x ∷ l) zero a b = refl
set_set (x ∷ l) (suc c) a b = ap (λ (m : List _). x ∷ m) (set_set l c a b)

-- a list with an item put in its own place
set_same : (l : List (List ℕ)) (c : ℕ) → set l c (list_at l c) ≡ l
set_same l c = ap (set l c) (unwrap_or-slice_get l c []) ∙ set-get_or l c []

-- what is set at a place is there, and where there is no such place nothing is set
set_back : (l : List (List ℕ)) (c : ℕ) (a : List ℕ) → set l c (list_at (set l c a) c) ≡ set l c a
set_back [] c a = refl
set_back (x ∷ l) zero a = refl
set_back (x ∷ l) (suc c) a = ap (λ (m : List (List ℕ)). x ∷ m) (set_back l c a)

-- what is found where an item was put is that item, or there is no such place
within_or_not : (l : List (List ℕ)) (c : ℕ) (a : List ℕ) → (list_at (set l c a) c ≡ a) ⊎ (list_at (set l c a) c ≡ [])
within_or_not [] c a = inr refl
within_or_not (x ∷ l) zero a = inl refl
within_or_not (x ∷ l) (suc c) a = within_or_not l c a

-- one element more in the list of a component
one_less_at : (l : List (List ℕ)) (c i v : ℕ) (ys : List ℕ) → i < length ys
    → SameBelow (i + 1) (list_at (set l c (set (list_at l c) i v)) c) ys
    → SameBelow i (list_at l c) ys × (v ≡ get_or ys i 0)
one_less_at l c i v ys lt h =
    elim (within_or_not l c (set (list_at l c) i v)) [
      | inl e ↦ one_less i (list_at l c) ys v 0 lt (subst (λ (xs : List ℕ). SameBelow (i + 1) xs ys) e h)
      | inr e ↦ let none : length ys ≡ 0 = sym h.long ∙ ap length e in absurd (omega arith)
    ]

module _ {A : Type 0} (get : A → List (List ℕ)) (put : List (List ℕ) → A
    → A) (gets : (l : List (List ℕ)) (a : A) → get (put l a) ≡ l)
    (again : (l m : List (List ℕ)) (a : A) → put l (put m a) ≡ put l a) (whole : (a : A)
    → put (get a) a ≡ a) (r : Row) (kept : IsKept r) (depth min max c : ℕ) where
  -- row r of predictor i of the component
  abbrev body : ℕ → A → Table A
  body i y = part (bits_row r depth min max) (λ n. done (put (set (get y) c (set (list_at (get y) c) i n)) y))

  abbrev own_list : A → A → A
  own_list from into = put (set (get into) c (list_at (get from) c)) into

  abbrev agrees : A → ℕ → A → Type 0
  agrees x n z = SameBelow n (list_at (get z) c) (list_at (get x) c)

  -- one predictor sets no other list
  pub predictor_keeps : (i : ℕ) → Keeps (body i) own_list
  predictor_keeps i = record {
    same = λ y. ap (λ (l : List (List ℕ)). put l y) (set_same (get y) c) ∙ whole y;
    last = λ x y z. again _ _ x ∙ ap (λ (l : List (List ℕ)). put (set l c (list_at (get z) c)) x) (gets _ x)
        ∙ ap (λ (l : List (List ℕ)). put l x) (set_set (get x) c (list_at (get y) c) (list_at (get z) c));
    kept = λ y w. bits_then r kept {old = []} depth min max {value = 0} refl (λ v _ b _. done_filled (
        ap (λ (l : List (List ℕ)). put (set (get y) c (list_at l c)) y) (gets _ y)
        ∙ ap (λ (l : List (List ℕ)). put l y) (set_back (get y) c (set (list_at (get y) c) i v))));
  }

  -- one predictor is written
  pub predictor_written : (x : A) (i : ℕ) {old new : List Bool} → i < length (list_at (get x) c)
      → WritesBits depth (get_or (list_at (get x) c) i 0) old new → WritesTurn body (agrees x) i old new
  predictor_written x i lt writes = record {
    written = λ y w. bits_then r kept depth min max writes (λ v _ b h. done_filled (λ a.
        let p = one_less_at (get y) c i v (list_at (get x) c) lt
        (subst (λ (l : List (List ℕ)). SameBelow (i + 1) (list_at l c) (list_at (get x) c)) (gets _ y) a) in
        (p.0, λ at. h p.1 at)));
  }

  -- nor do all predictors of a list
  pub list_keeps : (n : ℕ) → Keeps (repeat body 0 n) own_list
  list_keeps n = turns_keep body own_list predictor_keeps n

  -- the whole of it is written once all its turns are
  pub list_written : (x : A) (n : ℕ) {old new : List Bool} → c < length (get x)
      → WritesTurns body (agrees x) n old new → Writes (repeat body 0 n) own_list x old new
  list_written x n lt h = all_turns body (agrees x) (λ z e.
      let l : set (get x) c (list_at (get z) c) ≡ get x = sym (gets _ x) ∙ ap get e in
      let there : list_at (set (get x) c (list_at (get z) c)) c ≡ list_at (get z) c =
      unwrap_or-slice_get (set (get x) c (list_at (get z) c)) c []
      ∙ get_or-set_same (get x) c (list_at (get z) c) [] lt in
      all_same n (list_at (get z) c) (list_at (get x) c) (sym there ∙ ap (λ (m : List (List ℕ)). list_at m c) l)) h

  -- a part that sets the list of this component alone
  module _ (p : A → Table A) (keeps : Keeps p own_list) where
    pub lists_kept : Keeps p (λ from into. put (get from) into)
    lists_kept = record {
      same = whole;
      last = λ x y z. again _ _ x;
      kept = λ y w. weakened (keeps.kept y w) (λ z all e.
          let l : get z ≡ set (get y) c (list_at (get z) c) = sym (ap get e) ∙ gets _ y in
          ap (λ (m : List (List ℕ)). put m y) l ∙ e);
    }

    pub lists_turn_written : (x : A) {old new : List Bool} → c < length (get x) → Writes p own_list x old new
        → (y : A) (w : List Bool) → Rattle.hevc_write_elements.specs.Filling.EachFilling (p y) w
        (λ z all. SameBelow (c + 1) (get z) (get x) → SameBelow c (get y) (get x) × (w ≡ old → all ≡ new))
    lists_turn_written x lt writes y w = weakened (beside (keeps.kept y w) (writes.written y w)) (λ z all h a.
        let l : get z ≡ set (get y) c (list_at (get z) c) = sym (ap get h.0) ∙ gets _ y in
        let q = one_less c (get y) (get x) (list_at (get z) c) [] lt
        (subst (λ (m : List (List ℕ)). SameBelow (c + 1) m (get x)) l a) in (
          q.0,
          h.1 (ap (λ (m : List ℕ). put (set (get x) c m) x) q.1
              ∙ ap (λ (m : List (List ℕ)). put m x) (set-get_or (get x) c []) ∙ whole x),
        ))
