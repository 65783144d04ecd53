use Rattle.std.proofs.Common.{◌≡◌, ℕ, ◌∙◌, ap, sym, subst, Some, Ok, Err}
use Rattle.std.specs.Prelude.{Option}
use Rattle.hevc_records.specs.SliceHeader.{PlainSliceSegmentHeader}
use Rattle.hevc_spec.specs.UnitTypes.{is_idr}
use Rattle.hevc_spec.specs.UnitHeader.{UnitHeader}
use Rattle.hevc_bits.specs.NaluType.{nalu_type_number}
use Rattle.hevc_bits.specs.FoundUnit.{FoundUnit, bytes_of}
use Rattle.hevc_walk.specs.Meanings.{Meaning, CodedSlice}
use Rattle.hevc_sequence_set.specs.Sps.{plain_sps}
use Rattle.hevc_picture_slice.specs.Pps.{plain_pps}
use Rattle.hevc_picture_slice.specs.SliceHeader.{plain_slice_header}
use Rattle.hevc_stream.specs.Kept.{Kept}
use Rattle.hevc_slice_header.specs.declared.active_sets.ActiveSets.{ActiveSets}
use Rattle.hevc_parser.specs.Kept.{kept_by}
use Rattle.hevc_kept_sets.specs.Kept.{kept_of, options_in}
use Rattle.hevc_driver.specs.Slices.{slice_of}
use Rattle.hevc_stateless.specs.Refusals.{refusal_of}
use Rattle.hevc_stateless.specs.States.{unit_at, state_at}
use Rattle.hevc_driver.specs.Headers.{whole_segment}
use Rattle.hevc_driver.specs.Given.{Given, given_at}
use Rattle.hevc_stateless.specs.Segments.{own_header, given_with, read_at}
use Rattle.hevc_stateless.specs.Steps.{TakesIn}
use Rattle.hevc_stateless.specs.Views.{View, moment_at}
use Rattle.hevc_stateless.proofs.Slicing.{of_unit, segment_given, segment_own, segment_means, segment_refused, coded_of}
use Rattle.hevc_stateless.proofs.decoder.StatelessDecoder.take_slice.Goals as goal

pub returns-in_default-clause-takes : goal.returns-in_default-clause-takes
returns-in_default-clause-takes g c =
    let o = options_in c.args.self.now.kept in
    let q : Kept = record (kept_by c.parser-parser.result.now) { waiting = (kept_of c.args.self.now.kept).waiting } in
    let v = c.args.self.now.session in
    let old = moment_at g.B.StatelessH265DecoderBackend.log g.B.StatelessH265DecoderBackend.handed
    g.B.StatelessH265DecoderBackend.frames v in
    let n = c.args.nalu.now.header.nal_unit_type in
    let r = c.requires in
    let e = c.in-Err.error in
    let given = given_with c.args.timestamp
    (unit_at o (kept_of c.args.self.now.kept) c.args.nalu.now.header (bytes_of c.args.nalu.now)).meaning
    (read_at o (kept_of c.args.self.now.kept) v.latest (bytes_of c.args.nalu.now)) v.standing in
    let number : nalu_type_number c.nalu_type-nalu_type.result ≡ n = c.nalu_type-nalu_type.ensures
    ∙ ap (λ (x : UnitHeader). x.nal_unit_type) c.header.ensures.value in
    let why = of_unit {X = ActiveSets} c.args.nalu.now c.new_slice-slice.result.nalu
    (c.new_slice-slice.ensures.unit ∙ c.copy.ensures) (kept_by c.parser-parser.result.now)
    (plain_slice_header c.read_slice.new.slice.header) (Err e) c.in-Err.ensures.reads.read r.typed in
    rw c.refusal.ensures
    (subst (λ (w : View g.row.B.Denot g.row.B-Handle.Denot). TakesIn {T = Unit {0}}
    (Err (refusal_of e)) given
    (unit_at o (kept_of c.args.self.now.kept) c.args.nalu.now.header (bytes_of c.args.nalu.now)).meaning
    (own_header o (kept_of c.args.self.now.kept) (bytes_of c.args.nalu.now))
    (state_at (is_idr n) v.state) old
    (moment_at g.B.StatelessH265DecoderBackend.log g.B.StatelessH265DecoderBackend.handed
    g.B.StatelessH265DecoderBackend.frames w)) (sym c.leave_reset.ensures)
    (subst (λ (k : ℕ). TakesIn {T = Unit {0}} (Err (refusal_of e)) given
    (unit_at o (kept_of c.args.self.now.kept) c.args.nalu.now.header (bytes_of c.args.nalu.now)).meaning
    (own_header o (kept_of c.args.self.now.kept) (bytes_of c.args.nalu.now))
    (state_at (is_idr n) v.state) old (record {
      traces = old.traces;
      standing = v.standing;
      state = state_at (is_idr k) v.state;
      latest = v.latest;
    })) (sym number)
    (subst (λ (k : Kept). TakesIn {T = Unit {0}} (Err (refusal_of e)) given
    (unit_at o k c.args.nalu.now.header (bytes_of c.args.nalu.now)).meaning
    (own_header o k (bytes_of c.args.nalu.now)) (state_at (is_idr n) v.state) old (record {
      traces = old.traces;
      standing = v.standing;
      state = state_at (is_idr n) v.state;
      latest = v.latest;
    })) c.parser-parser.ensures
    (segment_refused o q (bytes_of c.args.nalu.now) c.args.nalu.now.header r.parsed r.wanted r.typed
    (Unit {0}) given old.traces v.standing v.latest v.state
    (state_at (is_idr n) v.state) e c.in_default.not-NoMemory why c.in-Err.ensures.reads.names))))

pub returns-clause-takes : goal.returns-clause-takes
returns-clause-takes g c =
    let o = options_in c.args.self.now.kept in
    let q : Kept = record (kept_by c.parser-parser.result.now) { waiting = (kept_of c.args.self.now.kept).waiting } in
    let a = moment_at g.B.StatelessH265DecoderBackend.log g.B.StatelessH265DecoderBackend.handed
    g.B.StatelessH265DecoderBackend.frames c.args.self.now.session in
    let b = moment_at g.B.StatelessH265DecoderBackend.log g.B.StatelessH265DecoderBackend.handed
    g.B.StatelessH265DecoderBackend.frames c.take_slice.new.self in
    let r = c.requires in
    let h = plain_slice_header c.read_slice.new.slice.header in
    let sets = c.in-Ok.sets in
    let read = of_unit c.args.nalu.now c.new_slice-slice.result.nalu (c.new_slice-slice.ensures.unit
    ∙ c.copy.ensures) (kept_by c.parser-parser.result.now) h (Ok sets) c.in-Ok.ensures.reads.read r.typed in
    let means = segment_means o q (bytes_of c.args.nalu.now) c.args.nalu.now.header r.parsed r.wanted
    r.typed h read.0 (Some (record { sps = plain_sps sets.sps.now; pps = plain_pps sets.pps.now })) read.1
    c.in-Ok.ensures.sets.active in
    let own = segment_own o q (bytes_of c.args.nalu.now) c.args.nalu.now.header r.parsed r.wanted r.typed h
    read.0 read.1 in
    let unit = c.in-Ok.ensures.unit ∙ (c.new_slice-slice.ensures.unit ∙ c.copy.ensures) in
    let coded = coded_of c.options-options.result o c.args.nalu.now c.read_slice.new.slice sets.sps.now
    sets.pps.now c.options-options.ensures unit in
    let v = c.args.self.now.session in
    let x = slice_of c.options-options.result c.read_slice.new.slice sets.sps.now sets.pps.now in
    let given = given_at c.args.timestamp x
    (whole_segment v.latest c.read_slice.new.slice sets.sps.now sets.pps.now) v.standing in
    subst (λ (k : Kept). TakesIn c.take_slice.result
    (given_with c.args.timestamp (unit_at o k c.args.nalu.now.header (bytes_of c.args.nalu.now)).meaning
    (read_at o k v.latest (bytes_of c.args.nalu.now)) v.standing)
    (unit_at o k c.args.nalu.now.header (bytes_of c.args.nalu.now)).meaning
    (own_header o k (bytes_of c.args.nalu.now))
    (state_at (is_idr c.args.nalu.now.header.nal_unit_type) c.args.self.now.session.state) a b) c.parser-parser.ensures
    (subst (λ (t : Given). TakesIn c.take_slice.result t
    (unit_at o q c.args.nalu.now.header (bytes_of c.args.nalu.now)).meaning
    (own_header o q (bytes_of c.args.nalu.now))
    (state_at (is_idr c.args.nalu.now.header.nal_unit_type) c.args.self.now.session.state) a b)
    (segment_given o q (bytes_of c.args.nalu.now) c.args.nalu.now.header r.parsed r.wanted r.typed
    c.args.timestamp v.latest v.standing h read.0 (record {
      sps = plain_sps sets.sps.now;
      pps = plain_pps sets.pps.now;
    }) x read.1 c.in-Ok.ensures.sets.active (means ∙ ap CodedSlice coded))
    (subst (λ (x : Option PlainSliceSegmentHeader). TakesIn c.take_slice.result given
    (unit_at o q c.args.nalu.now.header (bytes_of c.args.nalu.now)).meaning x
    (state_at (is_idr c.args.nalu.now.header.nal_unit_type) c.args.self.now.session.state) a b) (sym own)
    (subst (λ (m : Meaning). TakesIn c.take_slice.result given m (Some h)
    (state_at (is_idr c.args.nalu.now.header.nal_unit_type) c.args.self.now.session.state) a b)
    (sym (means ∙ ap CodedSlice coded))
    (subst (λ (u : FoundUnit UnitHeader). TakesIn c.take_slice.result given
    (CodedSlice (slice_of c.options-options.result c.read_slice.new.slice sets.sps.now sets.pps.now))
    (Some h) (state_at (is_idr u.header.nal_unit_type) c.args.self.now.session.state) a b) unit
    c.take_slice.ensures.takes))))
