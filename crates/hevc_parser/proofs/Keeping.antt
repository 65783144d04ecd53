-- What the maps of parameter sets are once a set is kept in one.
use Rattle.std.proofs.Common.{◌≡◌, ℕ, Bool, true, false, refl, ap, sym, subst, ◌∙◌, arith, Option}
use Rattle.std.proofs.Common.{Some, None, if◌then◌else◌, ◌==◌, not, List, [], ◌∷◌, Result, Ok, Err}
use Rattle.std.proofs.lemmas.Bool.Decides.{nat_tests}
use Rattle.std.specs.Prelude.{option_map, cond, IfSome, IsSome, OnOk, OnErr, length}
use Rattle.std.specs.Ordering.{nat_cmp}
use Rattle.std.specs.Map.{lookup}
use Rattle.std.specs.BTreeMap.{BTreeMap, get, is_at, Updates, IsUnchanged, btree_map_len}
use Rattle.hevc_records.specs.SetsById.{sets_by_id}
use Rattle.hevc_stream.specs.Kept.{with_set}
use Rattle.hevc_sequence_set.specs.declared.sps.Sps.{Sps}
use Rattle.hevc_picture_slice.specs.declared.pps.Pps.{Pps}
use Rattle.hevc_parser.specs.OwnIds.{HasOwnIds, HasNamedSets}
use mathlib.Core.Path.{fun_ext}

same_key : (id k : ℕ) → is_at (nat_cmp id) k ≡ (k == id)
same_key id k = grind (arith, nat_tests)

at_key : (id k : ℕ) → is_at (nat_cmp id) k ≡ true → id ≡ k
at_key id k is = grind (arith, nat_tests)

module _ {X : Type 0} (x : X) where
  by_test : {Y : Type 0} (view : X → Y) (b : Bool) (o : Option X)
      → option_map view (cond b (Some x) o) ≡ (if b then Some (view x) else option_map view o)
  by_test view true o = refl
  by_test view false o = refl

  -- a map that has x at its id finds it there
  pub kept_behind : {Y : Type 0} (view : X → Y) (old new : BTreeMap ℕ X) (id : ℕ)
      → Updates nat_cmp old new id (Some x) → sets_by_id view new ≡ with_set id (view x) (sets_by_id view old)
  kept_behind view old new id updates = fun_ext (λ k.
      ap (option_map view) (updates.0 k) ∙ by_test view (is_at (nat_cmp id) k) (get nat_cmp old k)
      ∙ ap (λ (b : Bool). if b then Some (view x) else option_map view (get nat_cmp old k)) (same_key id k))

  own_by_test : (id_of : X → ℕ) (id k : ℕ) (b : Bool) (o : Option X) → is_at (nat_cmp id) k ≡ b
      → id_of x ≡ id → IfSome o (λ y. id_of y ≡ k) → IfSome (cond b (Some x) o) (λ y. id_of y ≡ k)
  own_by_test id_of id k true o at is own = is ∙ at_key id k at
  own_by_test id_of id k false o at is own = own

  own_behind : (id_of : X → ℕ) (old new : BTreeMap ℕ X) (id : ℕ) → id_of x ≡ id
      → Updates nat_cmp old new id (Some x) → HasOwnIds id_of old → HasOwnIds id_of new
  own_behind id_of old new id is updates own k =
      subst (λ (o : Option X). IfSome o (λ y. id_of y ≡ k)) (sym (updates.0 k))
      (own_by_test id_of id k (is_at (nat_cmp id) k) (get nat_cmp old k) refl is (own k))

  -- each set is under its own id, whether x was kept or not
  pub own_after : {A B : Type 0} (id_of : X → ℕ) (old new : BTreeMap ℕ X) (id : ℕ) (r : Result A B)
      → id_of x ≡ id → OnOk r (Updates nat_cmp old new id (Some x)) → OnErr r (IsUnchanged old new)
      → HasOwnIds id_of old → HasOwnIds id_of new
  own_after id_of old new id (Ok a) is updates unchanged own = own_behind id_of old new id is updates own
  own_after id_of old new id (Err b) is updates unchanged own =
      λ k. subst (λ (es : List (ℕ × X)). IfSome (lookup (is_at (nat_cmp k)) es) (λ y. id_of y ≡ k))
      (sym unchanged) (own k)

  some_by_test : (b : Bool) (o : Option X) → IsSome o → IsSome (cond b (Some x) o)
  some_by_test true o is = refl
  some_by_test false o is = is

  -- what was found is found
  some_after : {A B : Type 0} (old new : BTreeMap ℕ X) (id : ℕ) (r : Result A B)
      → OnOk r (Updates nat_cmp old new id (Some x)) → OnErr r (IsUnchanged old new) → (k : ℕ)
      → IsSome (get nat_cmp old k) → IsSome (get nat_cmp new k)
  some_after old new id (Ok a) updates unchanged k is =
      subst (λ (o : Option X). IsSome o) (sym (updates.0 k))
      (some_by_test (is_at (nat_cmp id) k) (get nat_cmp old k) is)
  some_after old new id (Err b) updates unchanged k is =
      subst (λ (es : List (ℕ × X)). IsSome (lookup (is_at (nat_cmp k)) es)) (sym unchanged) is

weaker : {X : Type 0} (o : Option X) (P Q : X → Type 0) → ((y : X) → P y → Q y) → IfSome o P → IfSome o Q
weaker None P Q by p = tt
weaker (Some y) P Q by p = by y p

-- after a sequence set
pub named_after : {A B : Type 0} (x : Sps) (old new : BTreeMap ℕ Sps) (picture_sets : BTreeMap ℕ Pps)
    (id : ℕ) (r : Result A B) → OnOk r (Updates nat_cmp old new id (Some x)) → OnErr r (IsUnchanged old new)
    → HasNamedSets old picture_sets → HasNamedSets new picture_sets
named_after x old new picture_sets id r updates unchanged named k =
    weaker (get nat_cmp picture_sets k) (λ set. IsSome (get nat_cmp old set.seq_parameter_set_id))
    (λ set. IsSome (get nat_cmp new set.seq_parameter_set_id))
    (λ set. some_after x old new id r updates unchanged set.seq_parameter_set_id) (named k)

named_by_test : (sequence_sets : BTreeMap ℕ Sps) (x : Pps) (b : Bool) (o : Option Pps)
    → IsSome (get nat_cmp sequence_sets x.seq_parameter_set_id)
    → IfSome o (λ set. IsSome (get nat_cmp sequence_sets set.seq_parameter_set_id))
    → IfSome (cond b (Some x) o) (λ set. IsSome (get nat_cmp sequence_sets set.seq_parameter_set_id))
named_by_test sequence_sets x true o is named = is
named_by_test sequence_sets x false o is named = named

-- after a picture set whose sequence set is kept
pub names_after : {A B : Type 0} (sequence_sets : BTreeMap ℕ Sps) (x : Pps) (old new : BTreeMap ℕ Pps)
    (id : ℕ) (r : Result A B) → IsSome (get nat_cmp sequence_sets x.seq_parameter_set_id)
    → OnOk r (Updates nat_cmp old new id (Some x)) → OnErr r (IsUnchanged old new)
    → HasNamedSets sequence_sets old → HasNamedSets sequence_sets new
names_after sequence_sets x old new id (Ok a) is updates unchanged named k =
    subst (λ (o : Option Pps). IfSome o
    (λ set. IsSome (get nat_cmp sequence_sets set.seq_parameter_set_id))) (sym (updates.0 k))
    (named_by_test sequence_sets x (is_at (nat_cmp id) k) (get nat_cmp old k) is (named k))
names_after sequence_sets x old new id (Err b) is updates unchanged named k =
    subst (λ (es : List (ℕ × Pps)). IfSome (lookup (is_at (nat_cmp k)) es)
    (λ set. IsSome (get nat_cmp sequence_sets set.seq_parameter_set_id))) (sym unchanged) (named k)

found_some : {X : Type 0} (test : ℕ → Bool) (es : List (ℕ × X)) (x : X) → lookup test es ≡ Some x
    → not (length es == 0) ≡ true
found_some test [] x is = absurd (cc is)
found_some test (e ∷ es) x is = grind (arith, nat_tests)

-- a map that has something isn't empty
pub some_kept : {X : Type 0} (old new : BTreeMap ℕ X) (id : ℕ) (x : X) → Updates nat_cmp old new id (Some x)
    → not (btree_map_len new == 0) ≡ true
some_kept old new id x updates = found_some (is_at (nat_cmp id)) new.entries x updates.1

-- what a map of these entries finds
abbrev pub found_in : {X Y : Type 0} → (X → Y) → List (ℕ × X) → ℕ → Option Y
found_in view entries id = option_map view (lookup (is_at (nat_cmp id)) entries)

pub if_err : {X E P : Type 0} (r : Result X E) → P → OnErr r P
if_err (Ok x) is = tt
if_err (Err e) is = is
