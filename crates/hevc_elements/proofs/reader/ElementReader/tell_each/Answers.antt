use Rattle.std.proofs.Common.{ap, ◌∙◌, ◌<◌, ◌≤◌, arith}
use Rattle.hevc_elements.specs.Scan.{Position}
use Rattle.hevc_elements.proofs.ScanLaws.{bits_more, bits_over, bits_done, no_bit_left}
use Rattle.hevc_elements.proofs.reader.ElementReader.tell_each.Goals as goal

-- the bits end
pub returns-in-Err : goal.returns-in-Err
returns-in-Err c =
    let so_far = c.loop-i.invariant.told in
    let over = bits_over c.args.row c.args.num_bits c.loop-i.i _ _ _ so_far (no_bit_left _ _ _ c.in-Err.ensures.read) in
    λ k. record { place = c.loop-i.invariant.place k; telling = over k }

-- a bit is told
pub loop-i-preserved : goal.loop-i-preserved
loop-i-preserved c =
    let so_far = c.loop-i.invariant.told in
    let lt : c.loop-i.i < c.args.num_bits = grind (arith, c.loop-i-test.true) in
    let more = bits_more c.args.row c.args.num_bits c.loop-i.i _ _ _ so_far c.in-Ok.bit _ lt c.in-Ok.ensures.read in
    record {
      place = ap (λ (p : Position). p.place) c.tell.ensures ∙ c.loop-i.invariant.place;
      told = rw (c.tell.ensures, c.bit_told.ensures) more;
    }

-- as many as were wanted are told
pub returns : goal.returns
returns c =
    let so_far = c.loop-i.invariant.told in
    let le : c.args.num_bits ≤ c.loop-i.i = grind (arith, c.loop-i-test.false) in
    let done = bits_done c.args.row c.args.num_bits c.loop-i.i _ _ _ so_far le in
    λ k. record { place = c.loop-i.invariant.place k; telling = done k }
