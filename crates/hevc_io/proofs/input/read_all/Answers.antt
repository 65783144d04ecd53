use Rattle.std.proofs.Common.{arith, rules, ◌≡◌, ◌≤◌, ◌++◌, length, take, ap, sym, subst, ◌∙◌}
use Rattle.std.proofs.lemmas.List.{length-append, length-take}
use Rattle.std.proofs.KnownBytes.{Consumes-trans}
use Rattle.std.specs.Io.KnownBytes.{Consumes}
use Rattle.hevc_io.proofs.Bytes.{read_behind, still_there}
use Rattle.hevc_io.proofs.input.read_all.Goals as goal

-- what was read, and the piece that is too much
pub returns-then-count-limit-clause-too_long : goal.returns-then-count-limit-clause-too_long
returns-then-count-limit-clause-too_long g c =
    let room : length c.read.new.buf ≤ 65536 = search rules in
    λ _. (
      take c.loop-input.filled c.loop-input.input.items ++ take c.in_ok-count.count c.read.new.buf,
      Consumes-trans _ _ _ _ _ c.loop-input.invariant.given c.in_ok-count.ensures.bytes.0,
      simp (length-append, length-take)
          (omega (
            arith,
            c.loop-input.invariant.there,
            c.loop-input.input.ok.0,
            c.in_ok-count.ensures.bound,
            c.if-count-limit.true,
          )),
      simp (length-append, length-take)
          (omega (arith, c.loop-input.invariant.within, c.loop-input.input.ok.0, c.in_ok-count.ensures.bound, room)),
    )

pub loop-input-preserved : goal.loop-input-preserved
loop-input-preserved g c =
    let at = c.loop-input.filled in
    let n = c.in_ok-count.count in
    let items = c.loop-input.input.items in
    let read = c.deref_mut.result.now in
    let kept : take at read ≡ take at items =
    ap (take at) (c.deref_mut.ensures.value ∙ c.in_ok-resize.ensures.items)
    ∙ still_there items _ at 65536 (omega (arith, c.loop-input.invariant.there, c.loop-input.input.ok.0)) in
    let whole = read_behind read c.read.new.buf _ _ c.resize.new.self.len at n (search rules)
    (search rules) c.in_ok-count.ensures.bound.0 in
    record {
      within = search rules;
      there = search rules;
      given = subst (Consumes _ _) (sym (whole ∙ ap (λ l. l ++ take n c.read.new.buf) kept))
          (Consumes-trans _ _ _ _ _ c.loop-input.invariant.given c.in_ok-count.ensures.bytes.0);
      later = search rules;
    }
