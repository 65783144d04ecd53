-- The laws of a table, from reading by it.
use Rattle.std.proofs.Common.{◌≡◌, ℕ, Bool, List, [], ◌++◌, refl, sym, inl, inr}
use Rattle.std.specs.Prelude.{◌⊎◌}
use Rattle.std.proofs.lemmas.List.{append-nil}
use Rattle.hevc_spec.specs.Bits.{Form, IsSpelled}
use Rattle.hevc_spec.specs.Table.{Table, Reading, gives, refuses, read}
use Rattle.hevc_reading_laws.proofs.TableLaws.{spelled_from_read, read_from_spelled}
use Rattle.hevc_reading_laws.proofs.TableLaws.{breaks_from_refused, refused_from_breaks}
use Rattle.hevc_reading_laws.proofs.TableLaws.{one_spelling, lines_agree}
use Rattle.hevc_table_laws.specs.OneMeaning.{SpellsOne, BreaksSomewhere, IsDecided, HasOneRecord}
use Rattle.hevc_table_laws.specs.OneMeaning.{BreaksOnce, ExcludesBreaks, LinesAgree}

pub no_longer_spelling : (form : Form) (v w : ℕ) (spelling more : List Bool) → IsSpelled form v spelling
    → IsSpelled form w (spelling ++ more) → (v ≡ w) × (more ≡ [])
no_longer_spelling form v w spelling more p q =
    let same = one_spelling form v w spelling (spelling ++ more) more [] p q (sym (append-nil (spelling ++ more))) in
    (same.0, same.2)

module _ {A : Type 0} (t : Table A) where
  decided : (payload : List Bool) (reading : Reading A) → read t payload ≡ reading
      → SpellsOne t payload ⊎ BreaksSomewhere t payload
  decided payload (gives x rest) e =
      inl (record { value = x; rest = rest; spells = spelled_from_read t payload x rest e })
  decided payload (refuses fault rest) e =
      inr (record { fault = fault; rest = rest; breaks = breaks_from_refused t payload fault rest e })

  pub is_decided : IsDecided t
  unfolding IsDecided
  is_decided payload = decided payload (read t payload) refl

  pub has_one_record : HasOneRecord t
  unfolding HasOneRecord
  has_one_record x y payload rest other_rest p q =
      let a : read t payload ≡ gives x rest = read_from_spelled t payload x rest p in
      let b : read t payload ≡ gives y other_rest = read_from_spelled t payload y other_rest q in
      (cc, cc)

  pub breaks_once : BreaksOnce t
  unfolding BreaksOnce
  breaks_once fault other_fault payload rest other_rest p q =
      let a : read t payload ≡ refuses fault rest = refused_from_breaks t payload fault rest p in
      let b : read t payload ≡ refuses other_fault other_rest =
      refused_from_breaks t payload other_fault other_rest q in
      (cc, cc)

  pub excludes_breaks : ExcludesBreaks t
  unfolding ExcludesBreaks
  excludes_breaks x fault payload rest other_rest p q =
      let a : read t payload ≡ gives x rest = read_from_spelled t payload x rest p in
      let b : read t payload ≡ refuses fault other_rest = refused_from_breaks t payload fault other_rest q in
      absurd cc

  pub all_lines_agree : LinesAgree t
  unfolding LinesAgree
  all_lines_agree = lines_agree t

-- what the laws of a table follow from
pub ruleset one_meaning = (is_decided, has_one_record, breaks_once, excludes_breaks, all_lines_agree)
