-- Reading back decides whether a record has lines.
use Rattle.std.proofs.Common.{◌≡◌, ◌≤◌, Bool, List, [], ◌++◌, length, sym, ap, ◌∙◌}
use Rattle.hevc_spec.specs.Lines.{Line, HasLines, AreGood, joined}
use Rattle.hevc_spec.specs.Table.{Table, read}
use Rattle.hevc_reading_laws.proofs.TableLaws.{spelled_from_read, read_lines}
use Rattle.hevc_bit_writer.specs.Writing.{trailing_bits}
use Rattle.hevc_write_elements.specs.Choices.{AreChosen, set_flags}
use Rattle.hevc_write_elements.specs.Deciding.{WritesFormed, ReadsBack}
use Rattle.hevc_write_elements.proofs.Deciding.{writes_formed, writes_fewest, reads_back}
use Rattle.hevc_write_units.specs.Payloads.{with_trailing_bits}
use Rattle.hevc_write_units.specs.Trials.{IsReadAs, WritesWhole}

-- what was written and is read back as the record
pub record IsTried {A : Type 0} (t : Table A) (x : A) (bits : List Bool) : Type 0 where
  pub lines : List Line
  pub has : HasLines t x lines
  pub good : AreGood lines
  pub chosen : AreChosen lines
  pub fewest : (others : List Line) → HasLines t x others → AreGood others → set_flags lines ≤ set_flags others
  pub parts : bits ≡ with_trailing_bits (joined lines)

module _ {A : Type 0} (t : Table A) (x : A) (bits : List Bool) (written : WritesWhole t x bits) where
  -- bits that are read as a record were tried
  pub tried : IsReadAs t x bits → IsTried t x bits
  unfolding WritesFormed
  tried is =
      let s = spelled_from_read t bits x is.0 is.1 in
      let f = writes_formed t x s.lines [] written.front s.has s.good written.written in
      let formed = f.1.formed in
      let are = f.2 ∙ formed.parts in
      record {
        lines = formed.lines;
        has = formed.has;
        good = formed.good;
        chosen = formed.chosen;
        fewest = λ others has good. writes_fewest t x written.front formed.lines others written.written
            formed.has formed.good (sym are) has good;
        parts = written.whole ∙ ap with_trailing_bits are;
      }

  -- lines of a record are read as it
  pub read_again : (lines : List Line) → HasLines t x lines → AreGood lines → IsReadAs t x bits
  unfolding ReadsBack
  read_again lines has good =
      let e = read_lines t x lines [] has good in
      let end = trailing_bits (length written.front) in
      (end, ap (read t) written.whole ∙ reads_back t x written.front (joined lines ++ []) [] end written.written e)
