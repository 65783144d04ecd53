use Rattle.std.proofs.Common.{◌≡◌, ◌≤◌, ◌∷◌, ◌∙◌, ◌+◌, ap, rules, length, take, drop}
use Rattle.hevc_bits.proofs.Trimming.{take-fewer}
use Rattle.hevc_spec.specs.Units.{units_from}
use Rattle.hevc_bits.proofs.nalu.Nalu.next.Goals as goal
use Rattle.hevc_bits.proofs.nalu.Nalu.next.Goals.{then-is_end, else-is_end}

pub invariant_of-result : goal.invariant_of-result
invariant_of-result g c =
    let stream = c.args.stream.now in
    let size = c.if-is_end.size in
    let offset = c.in-Some.cut.offset in
    let small : size ≤ length c.in-Some.cut.bytes.now = search rules in
    let fewer = take-fewer size (length c.in-Some.cut.bytes.now) (drop offset stream) small in
    let found : g.U.Header.kept c.in-Some.cut.bytes.now ≡ take size (drop offset stream) = elim c.if-is_end.branch [
      | then-is_end w ↦ search (rules, fewer)
      | else-is_end w ↦ search (rules, fewer)
    ] in
    let first = c.in-Some.ensures.first g.U.Header.kept size small in
    let behind = units_from g.U.Header.kept (offset + size) stream in (
      search rules,
      search rules,
      search rules,
      search rules,
      (c.args.position.now, behind, first ∙ ap (λ bytes. record { offset = offset; bytes = bytes } ∷ behind) found),
    )
