use Rattle.std.proofs.Common.{ℕ, List, ◌-◌, ◌+◌, ◌≤◌, length, drop, sym, ◌∙◌, arith}
use Rattle.std.proofs.Math.ListN.{length-drop}
use Rattle.std.proofs.lemmas.List.{take_all}
use Rattle.hevc_bits.specs.Cached.{ahead, marked}
use Rattle.hevc_bits.proofs.WordCounts.{behind_word, behind_word_fits}
use Rattle.hevc_bits.proofs.word.Word.behind.Goals as goal

short : (bytes : List ℕ) (count : ℕ)
    → length (drop (length bytes - count) bytes) ≤ length bytes - (length bytes - count)
short bytes count = omega (arith, length-drop (length bytes - count) bytes)

pub overflow_sub-result : goal.overflow_sub-result
overflow_sub-result c = let k = behind_word_fits c.args.self.now c.requires in omega (arith, c.marked.ensures, k)

pub returns-clause-value : goal.returns-clause-value
returns-clause-value c =
    rw (c.ahead.ensures, c.marked.ensures)
    (take_all _ _
    (short c.args.self.now.bytes.now
    (length c.args.self.now.rest.now + ahead c.args.self.now + marked c.args.self.now))
    ∙ sym (behind_word c.args.self.now c.requires))
