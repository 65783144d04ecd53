use Rattle.std.proofs.Common.{rules, append_assoc, FitsSigned, w32}
use Rattle.std.proofs.lemmas.Int.{to_z-of_z}
use Rattle.std.proofs.lemmas.Result.{on_ok_weaker}
use Rattle.hevc_bits.proofs.TypeTags.{tag_of-nalu_type}
use Rattle.hevc_index.proofs.lines.push_point.Goals as goal

pub returns : goal.returns
returns c =
    on_ok_weaker c.writeln.result
    (λ e.
    let kind = tag_of-nalu_type c.args.point.now.nalu_type in
    let count : FitsSigned w32 c.args.point.now.order_count = search rules in
    rw e (simp (append_assoc, kind, to_z-of_z)))
    c.writeln.ensures.bytes
