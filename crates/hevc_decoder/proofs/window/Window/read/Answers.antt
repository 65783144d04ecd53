use Rattle.std.proofs.Common.{rules, arith, ◌≡◌, ◌≤◌, ◌++◌, length, take, ap, ◌∙◌}
use Rattle.std.proofs.lemmas.List.{length-take, length-take-le, take-append-le, take-take}
use Rattle.hevc_io.proofs.Bytes.{read_behind}
use Rattle.hevc_decoder.proofs.window.Window.read.Goals as goal

pub returns-clause-more : goal.returns-clause-more
returns-clause-more g c =
    let at = c.self.inside.filled in
    let n = c.in_ok-count.count in
    let items = c.self.inside.bytes.items in
    let room = c.max-room.result in
    let read = c.deref_mut.result.now in
    let there : at ≤ length items = search rules in
    let wide : at ≤ room = search rules in
    let kept : take at read ≡ take at items =
    ap (take at) (c.deref_mut.ensures.value ∙ c.in_ok-resize.ensures.items)
    ∙ take-append-le at (take room items) _ (simp length-take (omega (arith, there, wide)))
    ∙ take-take at room items wide in
    let whole = read_behind read c.read.new.buf _ _ c.resize.new.self.len at n (search rules)
    (search rules) c.in_ok-count.ensures.bound.0 in (
      take n c.read.new.buf,
      whole ∙ ap (λ l. l ++ take n c.read.new.buf) (kept ∙ c.self.view_is),
      length-take-le n c.read.new.buf c.in_ok-count.ensures.bound.0,
      c.in_ok-count.ensures.bytes.0,
    )
