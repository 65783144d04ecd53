use Rattle.std.proofs.Common.{◌≡◌, ◌∷◌, ◌++◌, ◌+◌, ℕ, List, Err, ap, sym, subst, ◌∙◌, arith}
use Rattle.hevc_bits.specs.FoundUnit.{FindsNext, bytes_of, unit_of}
use Rattle.hevc_bits.specs.ParsedHeader.{parsed_header}
use Rattle.hevc_bit_writer.specs.WrittenUnits.{started}
use Rattle.hevc_spec.specs.Units.{NalUnit, kept_bytes, units_from}
use Rattle.hevc_write.specs.Rewriting.{completed}
use Rattle.hevc_write.proofs.Pieces.{at_ok, own, own_found, piece_found, raw, some_raw}
use Rattle.hevc_write.proofs.Taking.{refused_takes}
use Rattle.hevc_write.proofs.rewriting.append_refused.Goals as goal

pub unwrap-piece-requires : goal.unwrap-piece-requires
unwrap-piece-requires c =
    let r = c.requires.refused in
    piece_found (record {}) c.next.result (units_from raw c.args.position c.args.stream.now)
    (some_raw c.args.position c.args.stream.now r.0 r.1.0 r.1.1.1) c.next.ensures.none c.next.ensures.refused

pub returns-clause-next : goal.returns-clause-next
returns-clause-next c =
    let r = c.requires.refused in
    let stream = c.args.stream.now in
    let position = c.args.position in
    let piece = c.unwrap-piece.result in
    let next = c.offset.result + c.size.result in
    let place : piece.offset + piece.size ≡ next = omega (arith, c.offset.ensures.value, c.size.ensures.value) in
    let here = at_ok c.next.result piece (λ n. FindsNext raw _ position stream n) c.unwrap-piece.ensures
    c.next.ensures.next in
    let at = subst (λ (k : ℕ). units_from raw position stream ≡ unit_of piece ∷ units_from raw k stream) place
    here.first in
    let found = own_found position next stream (unit_of piece) r.0 r.1.0 at r.1.1.1 in
    let parsed : parsed_header (kept_bytes (bytes_of piece)) ≡ Err r.1.1.0 =
    ap (λ (u : NalUnit). parsed_header u.bytes) (sym found.same) ∙ r.1.1.2 in
    let grown = c.in_ok-append_completed.ensures.ok
    ∙ ap (λ (b : List ℕ). c.args.out.now.items ++ started (completed (kept_bytes b))) c.as_ref.ensures.value in
    record {
      taken = λ sets. record {
        unit = own (unit_of piece);
        first = found.first;
        ahead = omega (arith, here.ahead, place);
        within = omega (arith, here.inside, place);
        takes = λ kept before. refused_takes kept
            (bytes_of piece) r.1.1.0 c.args.out.now.items c.append_completed.new.out.items sets found.is
            parsed grown before;
      };
    }
