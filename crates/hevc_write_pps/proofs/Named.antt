-- Sets that are named by an id.
use Rattle.std.proofs.Common.{◌≡◌, ℕ, Bool, List, refl, sym, subst, ap, ◌∙◌, inl, inr}
use Rattle.std.specs.Prelude.{Option, Some, None}
use Rattle.hevc_spec.specs.declared.Row.{Row}
use Rattle.hevc_spec.specs.Table.{Table, part}
use Rattle.hevc_tables.specs.PpsTable.{named}
use Rattle.hevc_write_elements.specs.Filling.{EachFilling, Keeps, Writes}
use Rattle.hevc_write_elements.proofs.Steps.{then_filled, done_filled, Follows, IsDecided, numbers}
use Rattle.hevc_write_elements.proofs.Steps.{part_kept, part_written}

-- what comes after the set, where one is kept
pub named_then : {A B : Type 0} (r : Row) (id : ℕ) (o : Option A) {k : A → Table B} {w : List Bool} {Q : B
    → List Bool → Type 0} → ((s : A) → o ≡ Some s → EachFilling (k s) w Q) → EachFilling (part (named r id o) k) w Q
unfolding named
named_then r id (Some s) f = then_filled (done_filled (f s refl))
named_then r id None f = record { all = λ x lines has good. absurd (has.3) }

-- a part that goes by the set, as it is written for the set of another id
module _ {A S : Type 0} (parts : S → A → Table A) (own : A → A → A) (keeps : (s : S)
    → Keeps (parts s) own) (y : A) (kept : ℕ → Option S) (i j : ℕ) (s t : S) (of_i : kept i ≡ Some s)
    (of_j : kept j ≡ Some t) {w : List Bool} {Q : A → List Bool → Type 0} where
  -- a part that goes by a set which is named, where that is the one that was written for
  pub named_part_written : {seen : A → A → A} {x : A} {old new : List Bool}
      → Writes (parts t) seen x old new → seen x x ≡ x
      → ((z : A) (all : List Bool) → (i ≡ j → Follows seen (own z y) x w old all new) → Q (own z y) all)
      → EachFilling (parts s y) w Q
  named_part_written {seen = seen} {x = x} {old = old} {new = new} writes whole f = by_decision (numbers i j)
    where
      by_decision : IsDecided i j → EachFilling (parts s y) w Q
      by_decision (inl same) =
          let both : Some s ≡ Some t = sym of_i ∙ ap kept same ∙ of_j in
          let one : s ≡ t = cc both in
          part_written (parts s) own (keeps s) y
          (subst (λ u. Writes (parts u) seen x old new) (sym one) writes) whole (λ z all g. f z all (λ _. g))
      by_decision (inr differ) = part_kept (parts s) own (keeps s) y (λ z all. f z all (λ e. absurd (differ e)))
