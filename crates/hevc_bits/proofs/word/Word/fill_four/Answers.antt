use Rattle.std.proofs.Common.{◌≡◌, ℕ, ◌+◌, ◌-◌, ◌*◌, ◌/◌, ◌%◌, List, length, drop, take, sym, subst, arith}
use Rattle.std.proofs.Math.ListN.{length-drop}
use Rattle.std.proofs.lemmas.List.{take_all}
use Rattle.std.specs.Prelude.{min}
use Rattle.hevc_bits.specs.Cached.{ahead, base_of}
use Rattle.hevc_bits.proofs.WordSteps.{Stands}
use Rattle.hevc_bits.proofs.WordFours.{before, with_four, next_number, word_with_four}
use Rattle.hevc_bits.proofs.word.Word.fill_four.Goals as goal

pub returns-clause-same : goal.returns-clause-same
returns-clause-same c =
    let w = c.args.self.now in
    let four = word_with_four w c.requires.filled c.requires.few c.in-len4-up.len_at_least (omega arith)
    (omega arith) (omega arith) (omega arith) c.if-first-eq3.false c.if-second-eq3.false
    c.if-third-eq3.false c.if-fourth-eq3.false c.if-fourth-eq0.false in
    let number : c.from.result ≡ next_number w = omega (arith, c.from.ensures, c.from_be_bytes-number.ensures) in
    let on : min (w.most_ahead + 4) ((w.left + 32) / 8) ≡ ahead w + 4 = omega arith in
    rw (number, on) four.same

pub returns-clause-filled : goal.returns-clause-filled
returns-clause-filled c =
    let w = c.args.self.now in
    let f = c.requires.filled in
    let four = word_with_four w f c.requires.few c.in-len4-up.len_at_least (omega arith) (omega arith)
    (omega arith) (omega arith) c.if-first-eq3.false c.if-second-eq3.false c.if-third-eq3.false
    c.if-fourth-eq3.false c.if-fourth-eq0.false in
    let number : c.from.result ≡ next_number w = omega (arith, c.from.ensures, c.from_be_bytes-number.ensures) in
    let on : ahead w + 4 ≡ min (w.most_ahead + 4) ((w.left + 32) / 8) = omega arith in
    let s = subst
    (λ (x : ℕ). Stands (w.left + 32) x (w.filled + 4) (with_four w.cache (next_number w))
    (w.marks * 16 % 256) (base_of w) (before 0 w.dropped (drop 4 w.rest.now))) on four.stands in
    let rest : drop 4 w.rest.now ≡ take (length w.rest.now - 4) (drop 4 w.rest.now) =
    sym (take_all _ _ (omega (arith, length-drop 4 w.rest.now))) in
    let t = subst
    (λ (l : List ℕ). Stands (w.left + 32) (min (w.most_ahead + 4) ((w.left + 32) / 8)) (w.filled + 4)
    (with_four w.cache (next_number w)) (w.marks * 16 % 256) (base_of w) (before 0 w.dropped l)) rest s in
    rw number (record {
      whole = t.whole;
      fits = omega (arith, c.requires.few);
      among = omega (arith, f.among);
      zeros = omega arith;
      part = omega (arith, f.part);
      short = f.short;
      few = omega (arith, f.few);
      holds = t.holds;
    })
