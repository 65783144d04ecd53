use Rattle.std.proofs.Common.{sym, ◌∙◌, ◌≡◌, ◌+◌, ◌*◌, ◌^◌, ◌<◌, ℕ, inl, inr, refl, ⊎_elim, subst, length, Err, arith}
use Rattle.std.specs.Prelude.{IsSomeAnd, slice_get}
use Rattle.std.specs.declared.env.FillError.{FillError}
use Rattle.hevc_io.specs.Words.{HandsOver}
use Rattle.hevc_io.proofs.WordLaws.{doubled, longer_than, told_all, told_by}
use Rattle.hevc_io.proofs.words.word_at.Goals as goal

pub loop-doublings-init : goal.loop-doublings-init
loop-doublings-init g c = told_all (g.W.Words.told c.args.line.now) _ (λ words. inl refl)

pub loop-doublings-preserved : goal.loop-doublings-preserved
loop-doublings-preserved g c =
    let tried : 32 * 2 ^ (c.loop-doublings.doublings + 1) ≡ length c.word.new.room =
    sym (c.word.auto.room ∙ c.deref_mut.ensures.len ∙ c.in_ok-bytes.ensures.len
    ∙ doubled c.loop-doublings.doublings c.loop-doublings-test.true) in
    told_by (g.W.Words.told c.args.line.now) _ _
    (λ words h. inr
    (longer_than (slice_get words c.args.number) c.word.new.room (32 * 2 ^ (c.loop-doublings.doublings + 1))
    (subst (λ (e : FillError). HandsOver (slice_get words c.args.number) (Err e) c.word.new.room)
    c.in-Err-TooLong.field-0-is h) tried))
    c.in-Err-TooLong.ensures.word

pub returns-clause-refused : goal.returns-clause-refused
returns-clause-refused g c is =
    let d : c.loop-doublings.doublings ≡ 16 =
    omega (arith, c.loop-doublings-test.false, c.loop-doublings.auto.doublings-end) in
    told_by (g.W.Words.told c.args.line.now) _ _
    (λ words h. ⊎_elim (λ (none : c.loop-doublings.doublings ≡ 0). absurd (omega (arith, d, none)))
    (λ longer. subst
    (λ (n : ℕ). IsSomeAnd (slice_get words c.args.number) (λ word. 32 * 2 ^ n < length word)) d longer) h)
    c.loop-doublings.invariant
