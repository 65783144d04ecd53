use Rattle.std.proofs.Common.{arith}
use Rattle.hevc_bits.proofs.WordCounts.{counted}
use Rattle.hevc_bits.proofs.word.Word.dropped.Goals as goal

pub overflow_sub-result : goal.overflow_sub-result
overflow_sub-result c = let k = (counted c.args.self.now c.requires).1 in omega (arith, c.marked.ensures, k)

pub returns-clause-value : goal.returns-clause-value
returns-clause-value c = let k = (counted c.args.self.now c.requires).1 in omega (arith, c.marked.ensures, k)
