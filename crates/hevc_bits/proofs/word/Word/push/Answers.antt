use Rattle.std.proofs.Common.{◌≡◌, ℕ, [], ◌+◌, ◌-◌, ◌/◌, ◌<◌, Some, arith, refl, subst}
use Rattle.std.specs.Prelude.{min}
use Rattle.hevc_spec.specs.Payload.{Place, low_bits, loading}
use Rattle.hevc_bits.specs.declared.load.Loaded.{Loaded}
use Rattle.hevc_bits.specs.declared.word.Word.{Word}
use Rattle.hevc_bits.specs.Cached.{IsFilled, end_of, base_of, ahead}
use Rattle.hevc_bits.proofs.WordBits.{stands}
use Rattle.hevc_bits.proofs.WordSteps.{Stands}
use Rattle.hevc_bits.proofs.WordFills.{with_byte, with_mark, IsMarked, is_marked, Puts, puts}
use Rattle.hevc_bits.proofs.word.Word.push.Goals as goal

abbrev place_behind_byte : Loaded → Place
place_behind_byte next = record {
  loaded = low_bits 8 next.byte;
  zero_run = next.zeros;
  behind = next.behind.now;
  dropped = next.dropped;
}

abbrev end_behind : Loaded → Place
end_behind next = record { loaded = []; zero_run = next.zeros; behind = next.behind.now; dropped = next.dropped }

marked_by : (w : Word) (next : Loaded)
    → loading w.zeros w.dropped w.rest.now ≡ Some (place_behind_byte next)
    → IsMarked w.zeros w.dropped w.rest.now (place_behind_byte next)
marked_by w next loads = is_marked w.zeros w.dropped w.rest.now (place_behind_byte next) loads

put : (w : Word) (next : Loaded) → IsFilled w → w.left < 56 → next.byte < 256
    → loading w.zeros w.dropped w.rest.now ≡ Some (place_behind_byte next)
    → Puts w.left (ahead w) w.filled w.cache w.marks next.byte (next.dropped - w.dropped) (base_of w) (end_behind next)
put w next f fits small loads =
    let k = marked_by w next loads in
    puts w.left (ahead w) w.filled w.cache w.marks next.byte (next.dropped - w.dropped) (base_of w)
    (end_of w) (place_behind_byte next) _ fits small (omega (arith, k.dropped, k.small)) (stands w f)
    (record {
      loads = loads;
      loaded = refl;
      dropped = omega (arith, k.dropped);
      shorter = omega (arith, k.dropped, k.shorter);
    })
    (record { zero_run = refl; behind = refl; dropped = refl })

pub overflow_sub-mark : goal.overflow_sub-mark
overflow_sub-mark c = let k = marked_by c.args.self.now c.args.next c.requires.loads in omega (arith, k.dropped)

pub overflow_cast-mark : goal.overflow_cast-mark
overflow_cast-mark c = let k = marked_by c.args.self.now c.args.next c.requires.loads in
    omega (arith, k.dropped, k.small)

pub overflow_add-self-5 : goal.overflow_add-self-5
overflow_add-self-5 c = let k = marked_by c.args.self.now c.args.next c.requires.loads in
    omega (arith, k.dropped, k.small)

pub returns-clause-same : goal.returns-clause-same
returns-clause-same c =
    let w = c.args.self.now in
    let small : c.args.next.byte < 256 = omega arith in
    let p = put w c.args.next c.requires.filled c.requires.fits small c.requires.loads in
    let on : min (w.most_ahead + 1) ((w.left + 8) / 8) ≡ ahead w + 1 = omega arith in
    rw (c.from.ensures, on) p.same

pub returns-clause-filled : goal.returns-clause-filled
returns-clause-filled c =
    let w = c.args.self.now in
    let small : c.args.next.byte < 256 = omega arith in
    let f = c.requires.filled in
    let k = marked_by w c.args.next c.requires.loads in
    let p = put w c.args.next f c.requires.fits small c.requires.loads in
    let on : ahead w + 1 ≡ min (w.most_ahead + 1) ((w.left + 8) / 8) = omega arith in
    let s = subst
    (λ (x : ℕ). Stands (w.left + 8) x (w.filled + 1) (with_byte w.cache c.args.next.byte)
    (with_mark w.marks (c.args.next.dropped - w.dropped)) (base_of w) (end_behind c.args.next)) on p.stands in
    rw c.from.ensures (record {
      whole = s.whole;
      fits = omega (arith, c.requires.fits);
      among = omega (arith, f.among);
      zeros = c.requires.small;
      part = omega (arith, f.part, k.shorter);
      short = f.short;
      few = c.requires.short;
      holds = s.holds;
    })
