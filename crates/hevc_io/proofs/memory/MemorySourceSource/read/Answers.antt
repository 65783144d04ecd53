use Rattle.std.proofs.Common.{◌∙◌, sym, ap, arith}
use Rattle.hevc_io.proofs.Bytes.{read_on}
use Rattle.hevc_io.specs.Memory.{Supply}
use Rattle.hevc_io.proofs.memory.MemorySourceSource.read.Goals as goal

pub returns-clause-bytes : goal.returns-clause-bytes
returns-clause-bytes c =
    let inside = c.self.inside in
    let both = read_on inside.bytes.items c.copy_from_slice.new.self c.args.buf.now inside.position c.min-count.result
    (omega (arith, c.self.invariant, inside.bytes.ok.0))
    (rw c.deref.ensures.value at c.min-count.ensures)
    (rw c.deref.ensures.value at c.copy_from_slice.ensures.after) in
    (ap (λ (s : Supply). s.left) (sym c.self.view_is) ∙ both.0, both.1)
