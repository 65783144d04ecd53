use Rattle.std.proofs.Common.{arith, refl}
use Rattle.hevc_bits.proofs.WordBits.{fills}
use Rattle.hevc_bits.proofs.word.Word.has.Goals as goal
use Rattle.hevc_bits.proofs.word.Word.has.Goals.{then-self-num_bits, else-self-num_bits}

pub returns : goal.returns
returns c =
    let old = c.args.self.now in
    let num = c.args.num_bits in
    elim c.if-self-num_bits.branch [
      | then-self-num_bits w ↦
          let e = w.fill.ensures in
          rw w.self-is (fills num old w.fill.new.self e.filled e.same (λ few. e.full (omega (arith, c.requires.few))))
      | else-self-num_bits w ↦
          rw w.self-is (fills num old old c.requires.filled refl
          (λ few. absurd (omega (arith, w.if-self-num_bits.false))))
    ]
