use Rattle.std.proofs.Common.{◌≡◌, ◌+◌, ◌-◌, ◌*◌, length, sym, ap, ◌∙◌, arith}
use Rattle.hevc_spec.specs.Payload.{bits_left}
use Rattle.hevc_bits.specs.Cached.{place_of, ahead}
use Rattle.hevc_bits.proofs.PlaceLemmas.{bits_left-place}
use Rattle.hevc_bits.proofs.reader.NaluReader.num_bits_left.Goals as goal

pub returns-clause-value : goal.returns-clause-value
returns-clause-value c =
    let w = c.self.inside.word in
    let p = place_of w in
    let e : bits_left c.args.self.now ≡ (w.left - 8 * ahead w) + 8 * length p.behind =
    ap bits_left (sym c.self.view_is) ∙ bits_left-place _ _ p.zero_run p.behind p.dropped in
    let long = ap length c.behind.ensures.value in
    omega (arith, e, c.unread.ensures.value, long)
