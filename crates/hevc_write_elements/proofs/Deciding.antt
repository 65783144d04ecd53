-- A record is formed exactly where what was written for it is read back.
use Rattle.std.proofs.Common.{◌≡◌, ◌≤◌, Bool, List, [], ◌++◌, refl, sym, ap, ◌∙◌, arith}
use Rattle.hevc_spec.specs.Table.{Table, read, gives}
use Rattle.hevc_reading_laws.proofs.TableLaws.{spelled_from_read, read_lines}
use Rattle.hevc_spec.specs.Lines.{Line, HasLines, AreGood, joined}
use Rattle.hevc_write_elements.specs.Choices.{set_flags}
use Rattle.hevc_write_elements.specs.Filling.{WritesTable}
use Rattle.hevc_write_elements.proofs.Counting.{same_set}
use Rattle.hevc_write_elements.specs.Deciding.{WritesFormed, ReadsBack}

module _ {A : Type 0} (t : Table A) where
  -- what is written are lines of the record
  pub writes_formed : WritesFormed t
  unfolding WritesFormed
  writes_formed x lines old new has good writes =
      let r = (writes.written old).all x lines has good in
      (r.0, r.1, sym (r.2 refl refl))

  -- and they are read as it
  pub reads_back : ReadsBack t
  unfolding ReadsBack WritesFormed
  reads_back x written bits rest others writes e =
      let s = spelled_from_read t bits x rest e in
      let f = writes_formed x s.lines [] written s.has s.good writes in
      ap (λ (b : List Bool). read t (b ++ others)) (f.2 ∙ f.1.formed.parts)
      ∙ read_lines t x f.1.formed.lines others f.1.formed.has f.1.formed.good

  -- lines that are written have the fewest flags of row 5 of table 7 set
  pub writes_fewest : (x : A) (written : List Bool) (lines others : List Line) → WritesTable t x [] written
      → HasLines t x lines → AreGood lines → joined lines ≡ written → HasLines t x others → AreGood others
      → set_flags lines ≤ set_flags others
  unfolding WritesFormed
  writes_fewest x written lines others writes has good are has_others good_others =
      let f = writes_formed x others [] written has_others good_others writes in
      let formed = f.1.formed in
      let same = same_set t x x lines formed.lines has good formed.has formed.good (are ∙ f.2 ∙ formed.parts) in
      omega (arith, same, f.1.fewer)

-- what is written decides
pub ruleset deciding = (writes_formed, reads_back)
