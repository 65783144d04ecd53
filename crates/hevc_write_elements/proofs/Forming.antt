-- Lines with the chosen values, put together.
use Rattle.std.proofs.Common.{◌≡◌, ℕ, Bool, true, false, List, [], ◌∷◌, ◌++◌, refl, sym, ap₂, ◌∙◌, arith}
use Rattle.std.proofs.lemmas.List.{append-nil}
use Rattle.std.specs.Prelude.{◌==◌, if◌then◌else◌}
use Rattle.hevc_spec.specs.declared.Row.{Row}
use Rattle.hevc_spec.specs.Bits.{Form, u}
use Rattle.hevc_spec.specs.Table.{Table, done, element, part}
use Rattle.hevc_spec.specs.Rows.{flag_row}
use Rattle.hevc_spec.specs.Lines.{Line}
use Rattle.hevc_reading_laws.proofs.TableLaws.{joined-append, AreGood-append}
use Rattle.hevc_bit_writer.specs.Writing.{CanSpell, spelled}
use Rattle.hevc_bit_writer.proofs.Spellings.{is_spelled}
use Rattle.hevc_write_elements.specs.Choices.{IsFormed, is_chosen}
use Rattle.hevc_write_elements.proofs.Fillings.{AreChosen-append}

-- a table without rows has no bits
pub done_formed : {A : Type 0} (x : A) → IsFormed (done x) x []
done_formed x = record { lines = []; has = (refl, refl); good = tt; chosen = tt; parts = refl }

-- the bits of two parts follow one another
pub part_formed : {A B : Type 0} {t : Table A} {k : A → Table B} {a : A} {x : B} {first others : List Bool}
    → IsFormed t a first → IsFormed (k a) x others → IsFormed (part t k) x (first ++ others)
part_formed {a = a} f g = record {
  lines = f.lines ++ g.lines;
  has = (a, f.lines, g.lines, f.has, g.has, refl);
  good = AreGood-append f.lines g.lines f.good g.good;
  chosen = AreChosen-append f.lines g.lines f.chosen g.chosen;
  parts = ap₂ (λ (p q : List Bool). p ++ q) f.parts g.parts ∙ sym (joined-append f.lines g.lines);
}

-- the bits of a row spell its value
pub element_formed : {A : Type 0} (r : Row) (form : Form) (allowed : ℕ → Bool) (value : ℕ → A) (v : ℕ)
    → allowed v ≡ true → CanSpell form v → is_chosen r form v ≡ true
    → IsFormed (element r form allowed value) (value v) (spelled form v)
element_formed r form allowed value v good fits chosen =
    let l : Line = record {
      head = record { row = r; form = form; allowed = allowed };
      value = v;
      bits = spelled form v;
    } in
    record {
      lines = l ∷ [];
      has = (v, spelled form v, refl, refl);
      good = ((good, is_spelled form v fits), tt);
      chosen = (chosen, tt);
      parts = sym (append-nil (spelled form v));
    }

-- the bit of a flag is the flag
pub flag_formed : (r : Row) (b : Bool) → is_chosen r (u 1) (if b then 1 else 0) ≡ true
    → IsFormed (flag_row r) b (b ∷ [])
unfolding flag_row
flag_formed r true chosen = element_formed r (u 1) (λ _. true) (λ v. v == 1) 1 refl (omega arith) chosen
flag_formed r false chosen = element_formed r (u 1) (λ _. true) (λ v. v == 1) 0 refl (omega arith) chosen
