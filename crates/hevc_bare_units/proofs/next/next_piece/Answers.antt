use Rattle.std.proofs.Common.{◌+◌}
use Rattle.hevc_spec.specs.Units.{units_from}
use Rattle.hevc_bits.specs.FoundUnit.{unit_of}
use Rattle.hevc_bare_units.proofs.Owned.{raw, none_owned, first_owned, only_none}
use Rattle.hevc_bare_units.proofs.next.next_piece.Goals as goal

pub returns-in-Ok-clause-first : goal.returns-in-Ok-clause-first
returns-in-Ok-clause-first c =
    let n = c.in-Ok.ensures.next in
    let piece = c.in-Ok.piece in
    record {
      same_stream = n.same_stream;
      first = first_owned c.args.position (piece.offset + piece.size) c.args.stream.now (unit_of piece) n.first;
      ahead = n.ahead;
      inside = n.inside;
    }

pub returns-in-Err-clause-none : goal.returns-in-Err-clause-none
returns-in-Err-clause-none c =
    none_owned c.args.position c.args.stream.now
    (only_none (record {}) c.next.result c.in-Err._none (units_from raw c.args.position c.args.stream.now) c.in-Err.is
    c.next.ensures.none c.next.ensures.refused)
