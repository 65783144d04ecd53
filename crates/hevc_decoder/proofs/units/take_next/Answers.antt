use Rattle.std.proofs.Common.{◌+◌, refl, sym, subst, arith, rules, Result, Ok, Err}
use Rattle.hevc_spec.specs.Units.{kept_bytes, units_from}
use Rattle.hevc_spec.specs.UnitHeader.{unit_header}
use Rattle.hevc_bits.specs.FoundUnit.{bytes_of, unit_of}
use Rattle.hevc_driver.specs.declared.decode_error.DecodeError.{DecodeError}
use Rattle.hevc_driver.specs.Answers.{CountsError, IsOfBackend}
use Rattle.hevc_stateless.specs.Decoders.{view_of, set_for}
use Rattle.hevc_decoder.specs.Scenes.{scene}
use Rattle.hevc_decoder.specs.Gives.{GivesWhole}
use Rattle.hevc_decoder.proofs.Headers.{header_is, counts_none, blames_none}
use Rattle.hevc_decoder.proofs.Nexts.{header_next, refused_next, taken_next, leaves_given, leaves_refused}
use Rattle.hevc_decoder.proofs.units.take_next.Goals as goal

pub returns-in-TruncatedNalu : goal.returns-in-TruncatedNalu
returns-in-TruncatedNalu g c =
    let counts = g.B.StatelessH265DecoderBackend.counts in
    let backend = (view_of c.args.decoder.now).backend in
    let e = c.in-Err.error in
    let piece = c.args.piece.now in
    let now = scene g.B.StatelessH265DecoderBackend.log g.B.StatelessH265DecoderBackend.handed
    g.B.StatelessH265DecoderBackend.frames c.args.decoder.now c.args.shown.now.items in
    let z = c.in-Err.ensures.refused (search rules) in
    record {
      empty = c.requires.empty;
      next = tt;
      moves = tt;
      stays = refl;
      within = c.requires.within;
      blames = record {
        cause = subst (λ (x : DecodeError). CountsError (counts backend) (counts backend) x)
            (sym c.into-error.ensures) (counts_none e (counts backend) (counts backend) refl);
        faultless = λ h. (h, subst (λ (x : DecodeError). ¬ IsOfBackend x) (sym c.into-error.ensures) (blames_none e));
      };
      takes = header_next (set_for c.args.decoder.now) c.args.unit z.0
          (units_from kept_bytes c.args.position.now piece) z.1
          (units_from kept_bytes c.args.position.now piece) now e c.into-error.result z.2 z.3 c.into-error.ensures;
      leaves = leaves_refused (set_for c.args.decoder.now) c.args.unit z.0
          (units_from kept_bytes c.args.position.now piece) z.1 now now (Err c.into-error.result) e z.2 z.3 refl;
      options = refl;
    }

pub returns-in-Err-take_unit-clause-takes : goal.returns-in-Err-take_unit-clause-takes
returns-in-Err-take_unit-clause-takes g c =
    let logs = g.B.StatelessH265DecoderBackend.log in
    let handeds = g.B.StatelessH265DecoderBackend.handed in
    let framed = g.B.StatelessH265DecoderBackend.frames in
    let nalu = c.in-Ok.nalu in
    let piece = c.args.piece.now in
    refused_next {T = Unit {0}} (set_for c.args.decoder.now) c.args.unit (unit_of nalu) nalu.header
    (units_from kept_bytes c.args.position.now piece) (units_from kept_bytes (nalu.offset + nalu.size) piece)
    (scene logs handeds framed c.args.decoder.now c.args.shown.now.items)
    (scene logs handeds framed c.take_unit.new.decoder c.take_unit.new.shown.items)
    c.in-Ok.ensures.next.first (header_is (unit_header (bytes_of nalu)) nalu.header c.in-Ok.ensures.next.header)
    (omega (arith, c.requires.few)) c.in-Err-take_unit.error c.in-Err-take_unit.ensures.gives
    (units_from kept_bytes c.args.position.now piece)

pub returns-clause-takes : goal.returns-clause-takes
returns-clause-takes g c =
    let logs = g.B.StatelessH265DecoderBackend.log in
    let handeds = g.B.StatelessH265DecoderBackend.handed in
    let framed = g.B.StatelessH265DecoderBackend.frames in
    let nalu = c.in-Ok.nalu in
    let piece = c.args.piece.now in
    let old = scene logs handeds framed c.args.decoder.now c.args.shown.now.items in
    let new = scene logs handeds framed c.take_unit.new.decoder c.take_unit.new.shown.items in
    rw (c.offset.ensures.value, c.size.ensures.value)
    (taken_next (set_for c.args.decoder.now) c.args.unit (unit_of nalu) nalu.header
    (units_from kept_bytes c.args.position.now piece) (units_from kept_bytes (nalu.offset + nalu.size) piece) old new
    c.in-Ok.ensures.next.first (header_is (unit_header (bytes_of nalu)) nalu.header c.in-Ok.ensures.next.header)
    (omega (arith, c.requires.few)) c.in_default.field-0 nalu
    (subst (λ (r : Result (Unit {0}) DecodeError). GivesWhole r c.args.unit
    (set_for c.args.decoder.now) nalu.header (bytes_of nalu) old new) c.in_default.is c.take_unit.ensures.gives)
    c.in_default.ensures.empty)

pub returns-in-Err-take_unit-clause-leaves : goal.returns-in-Err-take_unit-clause-leaves
returns-in-Err-take_unit-clause-leaves g c =
    let logs = g.B.StatelessH265DecoderBackend.log in
    let handeds = g.B.StatelessH265DecoderBackend.handed in
    let framed = g.B.StatelessH265DecoderBackend.frames in
    let nalu = c.in-Ok.nalu in
    let piece = c.args.piece.now in
    leaves_given (set_for c.args.decoder.now) c.args.unit (unit_of nalu)
    (units_from kept_bytes c.args.position.now piece) (units_from kept_bytes (nalu.offset + nalu.size) piece)
    (scene logs handeds framed c.args.decoder.now c.args.shown.now.items)
    (scene logs handeds framed c.take_unit.new.decoder c.take_unit.new.shown.items) (Err c.in-Err-take_unit.error)
    nalu.header c.in-Ok.ensures.next.first
    (header_is (unit_header (bytes_of nalu)) nalu.header c.in-Ok.ensures.next.header) c.in-Err-take_unit.ensures.gives

pub returns-clause-leaves : goal.returns-clause-leaves
returns-clause-leaves g c =
    let logs = g.B.StatelessH265DecoderBackend.log in
    let handeds = g.B.StatelessH265DecoderBackend.handed in
    let framed = g.B.StatelessH265DecoderBackend.frames in
    let nalu = c.in-Ok.nalu in
    let piece = c.args.piece.now in
    let old = scene logs handeds framed c.args.decoder.now c.args.shown.now.items in
    let new = scene logs handeds framed c.take_unit.new.decoder c.take_unit.new.shown.items in
    leaves_given (set_for c.args.decoder.now) c.args.unit (unit_of nalu)
    (units_from kept_bytes c.args.position.now piece)
    (units_from kept_bytes (nalu.offset + nalu.size) piece) old new (Ok tt)
    nalu.header c.in-Ok.ensures.next.first
    (header_is (unit_header (bytes_of nalu)) nalu.header c.in-Ok.ensures.next.header)
    (subst (λ (r : Result (Unit {0}) DecodeError). GivesWhole r c.args.unit
    (set_for c.args.decoder.now) nalu.header (bytes_of nalu) old new) c.in_default.is c.take_unit.ensures.gives)
