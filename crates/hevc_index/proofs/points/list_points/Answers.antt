use Rattle.std.proofs.Common.{◌≡◌, ◌<◌, ◌++◌, [], ◌∷◌, List, ℕ, map, arith, refl, sym, ap, ap₂, ◌∙◌, append-nil, Option}
use Rattle.std.specs.Prelude.{option_map, option_to_list}
use Rattle.std.proofs.lemmas.List.{map-append}
use Rattle.std.proofs.lemmas.Result.{err_from_is_err_and}
use Rattle.hevc_spec.specs.Units.{kept_bytes, units_from}
use Rattle.hevc_bits.specs.FoundUnit.{unit_of}
use Rattle.hevc_stateless.specs.Decoders.{view_of}
use Rattle.hevc_index_laws.specs.Points.{PlainPoint}
use Rattle.hevc_index.specs.Finding.{point_begun}
use Rattle.hevc_index.specs.Indexing.{plain_point}
use Rattle.hevc_index.specs.declared.point.Point.{Point}
use Rattle.hevc_index.proofs.Passing.{collected_end, collected_first, collected_more}
use Rattle.hevc_index.proofs.Passing.{collected_refused, ended_ok, ended_refused}
use Rattle.hevc_index.proofs.points.list_points.Goals.{in-Some-point_begun+in_ok-push, in_default-point_begun}
use Rattle.hevc_index.proofs.points.list_points.Goals as goal

pub loop-shown-init : goal.loop-shown-init
loop-shown-init g c = record {
  within = omega arith;
  few = omega arith;
  empty = c.requires.empty;
  collected =
      rw c.new-points.ensures
      (collected_first g.B.StatelessH265DecoderBackend.log g.B.StatelessH265DecoderBackend.handed
      g.B.StatelessH265DecoderBackend.frames g.B.StatelessH265DecoderBackend.counts
      g.B.StatelessH265DecoderBackend.is_faultless c.args.stream.now c.args.decoder.now c.requires.first);
}

pub loop-shown-preserved : goal.loop-shown-preserved
loop-shown-preserved g c =
    let stream = c.args.stream.now in
    let nalu = c.in-Some.nalu in
    let k = c.loop-shown.unit in
    let new = c.decode_next_unit.new.decoder in
    let before : List PlainPoint = map plain_point c.loop-shown.points in
    let first : units_from kept_bytes c.loop-shown.position stream
    ≡ unit_of nalu ∷ units_from kept_bytes c.decode_next_unit.new.position stream =
    rw c.in-Some.is at c.in_ok-next.ensures.position.next in
    let moves : c.loop-shown.position < c.decode_next_unit.new.position =
    rw c.in-Some.is at c.in_ok-next.ensures.position.moves in
    let few = c.loop-shown.invariant.few in
    let added : map plain_point c.match-point_begun.points ≡ before
    ++ option_to_list (option_map plain_point c.point_begun.result) =
    (elim c.match-point_begun.branch [
      | in-Some-point_begun+in_ok-push w ↦
          ap (map plain_point) (rw w.points-is w.in_ok-push.ensures.pushed)
          ∙ map-append plain_point c.loop-shown.points (w.in-Some-point_begun.point ∷ [])
          ∙ ap (λ (o : Option Point). before ++ option_to_list (option_map plain_point o))
          (sym w.in-Some-point_begun.is)
      | in_default-point_begun w ↦
          ap (map plain_point) (rw w.points-is refl)
          ∙ sym (append-nil before)
          ∙ ap (λ (o : Option Point). before ++ option_to_list (option_map plain_point o))
          (sym w.in_default-point_begun.is)
    ]) in
    let begun : option_map plain_point c.point_begun.result
    ≡ point_begun (view_of c.loop-shown.decoder).standing.next.number k nalu.offset (view_of new).standing =
    c.point_begun.ensures
    ∙ ap₂ (λ (n offset : ℕ). point_begun n k offset (view_of new).standing) c.num_pictures-pictures.ensures
    c.offset.ensures.value in
    record {
      within = c.in_ok-next.ensures.position.within;
      few = omega (arith, few, moves);
      empty = c.in_ok-next.ensures.empty;
      collected =
          collected_more g.B.StatelessH265DecoderBackend.log g.B.StatelessH265DecoderBackend.handed
          g.B.StatelessH265DecoderBackend.frames g.B.StatelessH265DecoderBackend.counts
          g.B.StatelessH265DecoderBackend.is_faultless
          stream c.loop-shown.position c.decode_next_unit.new.position k before c.loop-shown.decoder new
          c.loop-shown.shown.items c.decode_next_unit.new.shown.items c.loop-shown.invariant.collected
          nalu (unit_of nalu) (map plain_point c.match-point_begun.points)
          (rw c.in-Some.is at c.in_ok-next.ensures.decodes) first
          (added ∙ ap (λ (o : Option PlainPoint). before ++ option_to_list o) begun);
    }

pub returns-in_err-next-clause-refused : goal.returns-in_err-next-clause-refused
returns-in_err-next-clause-refused g c =
    let p = err_from_is_err_and c.from_residual.result c.from_residual.ensures.1 in
    rw (p.1, p.2)
    (collected_refused g.B.StatelessH265DecoderBackend.log g.B.StatelessH265DecoderBackend.handed
    g.B.StatelessH265DecoderBackend.frames g.B.StatelessH265DecoderBackend.counts
    g.B.StatelessH265DecoderBackend.is_faultless
    c.args.stream.now c.loop-shown.position c.decode_next_unit.new.position c.loop-shown.unit
    (map plain_point c.loop-shown.points) c.loop-shown.decoder c.decode_next_unit.new.decoder
    c.loop-shown.shown.items c.decode_next_unit.new.shown.items c.loop-shown.invariant.collected
    _ c.in_err-next.ensures.decodes)

pub returns-in_err-end_stream-clause-refused : goal.returns-in_err-end_stream-clause-refused
returns-in_err-end_stream-clause-refused g c =
    let p = err_from_is_err_and c.from_residual-in_err-end_stream.result c.from_residual-in_err-end_stream.ensures.1 in
    rw (p.1, p.2)
    (ended_refused g.B.StatelessH265DecoderBackend.log g.B.StatelessH265DecoderBackend.handed
    g.B.StatelessH265DecoderBackend.frames g.B.StatelessH265DecoderBackend.counts
    g.B.StatelessH265DecoderBackend.is_faultless
    c.args.stream.now c.loop-shown.unit (map plain_point c.loop-shown.points) c.decode_next_unit.new.decoder
    c.end_stream.new.decoder c.decode_next_unit.new.shown.items c.end_stream.new.shown.items
    (collected_end g.B.StatelessH265DecoderBackend.log g.B.StatelessH265DecoderBackend.handed
    g.B.StatelessH265DecoderBackend.frames g.B.StatelessH265DecoderBackend.counts
    g.B.StatelessH265DecoderBackend.is_faultless
    c.args.stream.now c.loop-shown.position c.decode_next_unit.new.position c.loop-shown.unit
    (map plain_point c.loop-shown.points) c.loop-shown.decoder c.decode_next_unit.new.decoder
    c.loop-shown.shown.items c.decode_next_unit.new.shown.items c.loop-shown.invariant.collected
    (rw c.in_default.is at c.in_ok-next.ensures.decodes))
    _ c.in_err-end_stream.ensures.decodes)

pub returns-in_default-clause-points : goal.returns-in_default-clause-points
returns-in_default-clause-points g c =
    (collected_end g.B.StatelessH265DecoderBackend.log g.B.StatelessH265DecoderBackend.handed
    g.B.StatelessH265DecoderBackend.frames g.B.StatelessH265DecoderBackend.counts
    g.B.StatelessH265DecoderBackend.is_faultless
    c.args.stream.now c.loop-shown.position c.decode_next_unit.new.position c.loop-shown.unit
    (map plain_point c.loop-shown.points) c.loop-shown.decoder c.decode_next_unit.new.decoder
    c.loop-shown.shown.items c.decode_next_unit.new.shown.items c.loop-shown.invariant.collected
    (rw c.in_default.is at c.in_ok-next.ensures.decodes)).told

pub returns-in_default-clause-refused : goal.returns-in_default-clause-refused
returns-in_default-clause-refused g c =
    ended_ok g.B.StatelessH265DecoderBackend.log g.B.StatelessH265DecoderBackend.handed
    g.B.StatelessH265DecoderBackend.frames g.B.StatelessH265DecoderBackend.counts
    g.B.StatelessH265DecoderBackend.is_faultless
    c.args.stream.now c.loop-shown.unit (map plain_point c.loop-shown.points) c.decode_next_unit.new.decoder
    c.end_stream.new.decoder c.decode_next_unit.new.shown.items c.end_stream.new.shown.items
    (collected_end g.B.StatelessH265DecoderBackend.log g.B.StatelessH265DecoderBackend.handed
    g.B.StatelessH265DecoderBackend.frames g.B.StatelessH265DecoderBackend.counts
    g.B.StatelessH265DecoderBackend.is_faultless
    c.args.stream.now c.loop-shown.position c.decode_next_unit.new.position c.loop-shown.unit
    (map plain_point c.loop-shown.points) c.loop-shown.decoder c.decode_next_unit.new.decoder
    c.loop-shown.shown.items c.decode_next_unit.new.shown.items c.loop-shown.invariant.collected
    (rw c.in_default.is at c.in_ok-next.ensures.decodes))
    _ c.in_ok-end_stream.ensures.decodes
