use Rattle.std.proofs.Common.{◌≡◌, ◌+◌, List, [], ◌∷◌, ◌++◌, cond, rules, arith, ap, subst, ◌∙◌}
use Rattle.hevc_spec.specs.Units.{NalUnit, units_from, kept_bytes}
use Rattle.hevc_bits.specs.FoundUnit.{bytes_of, unit_of}
use Rattle.hevc_bit_writer.specs.WrittenUnits.{started}
use Rattle.hevc_extract.specs.Extracting.{counted, up_to}
use Rattle.hevc_stream.specs.Contents.{wants}
use Rattle.hevc_extract.specs.declared.extraction.Kept.{Kept}
use Rattle.hevc_extract.proofs.Taking.{Left, takes, counted_sum, more_grown}
use Rattle.hevc_extract.proofs.extraction.append_kept.Goals as goal

pub loop-nalu-preserved : goal.loop-nalu-preserved
loop-nalu-preserved c =
    let nalu = c.in-Ok.nalu in
    let t = c.args.wanted.highest_tid in
    let l = c.args.wanted.highest_layer in
    let stream = c.args.stream.now in
    let old = c.args.out.now.items in
    let before = c.loop-nalu.invariant in
    let others = units_from kept_bytes (nalu.offset + nalu.size) stream in
    let keeps : c.wants-keeps.result ≡ wants (up_to t l) nalu.header =
    c.wants-keeps.ensures ∙ ap (wants (up_to t l)) c.header.ensures.value in
    let first : Left t l stream old c.loop-nalu.out.items c.loop-nalu.kept (unit_of nalu ∷ others) =
    subst (λ (us : List NalUnit). Left t l stream old c.loop-nalu.out.items c.loop-nalu.kept us)
    c.in-Ok.ensures.next.first before.left in
    let taken =
    takes t l stream old c.loop-nalu.out.items c.loop-nalu.kept (unit_of nalu) others nalu.header
    c.in-Ok.ensures.next.header first in
    let written : c.append_unit.new.out.items ≡ c.loop-nalu.out.items
    ++ cond (wants (up_to t l) nalu.header) (started (bytes_of nalu)) [] =
    rw (c.as_ref.ensures.value, keeps) at c.in_ok-append_unit.ensures.bytes in
    let count : c.count-kept.result ≡ counted (wants (up_to t l) nalu.header) c.loop-nalu.kept =
    rw keeps at c.count-kept.ensures in
    let sum = counted_sum (wants (up_to t l) nalu.header) c.loop-nalu.kept in
    let more : c.count-kept.result.units + c.count-kept.result.dropped
    ≡ c.loop-nalu.kept.units + c.loop-nalu.kept.dropped + 1 = ap (λ (k : Kept). k.units + k.dropped) count ∙ sum in
    record {
      within = search rules;
      few = omega (arith, more, before.few, c.in-Ok.ensures.next.ahead, c.offset.ensures.value, c.size.ensures.value);
      grows =
          more_grown old c.loop-nalu.out.items c.append_unit.new.out.items before.grows.0 c.append_unit.ensures.grows.0
          before.grows.1 c.append_unit.ensures.grows.1;
      left = rw (c.offset.ensures.value, c.size.ensures.value, written, count) taken;
    }
