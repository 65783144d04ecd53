use Rattle.std.proofs.Common.{◌≡◌, ◌∙◌, ap, sym}
use Rattle.std.proofs.lemmas.Bool.{ne_eqb}
use Rattle.hevc_bits.specs.NaluType.{nalu_type_number, nalu_type_of}
use Rattle.hevc_bits.specs.TypeNumbers.{nalu_type_of-nalu_type_number}
use Rattle.hevc_bits.specs.FoundUnit.{bytes_of}
use Rattle.hevc_spec.specs.UnitHeader.{UnitHeader}
use Rattle.hevc_kept_sets.specs.Kept.{kept_of, options_in}
use Rattle.hevc_stateless.proofs.Coding.{end_means, close_means, other_means, end_step, close_step, idle_step}
use Rattle.hevc_stateless.proofs.decoder.StatelessDecoder.take_end.Goals as goal

pub returns-in-EosNut-clause-goes : goal.returns-in-EosNut-clause-goes
returns-in-EosNut-clause-goes g c t =
    let r = c.requires in
    let typed : c.args.nalu.now.header.nal_unit_type ≡ 36 =
    ap (λ (x : UnitHeader). x.nal_unit_type) (sym c.header.ensures.value) ∙ sym c.nalu_type.ensures
    ∙ ap nalu_type_number c.in-EosNut.is in
    end_step g.B.StatelessH265DecoderBackend.log g.B.StatelessH265DecoderBackend.handed
    g.B.StatelessH265DecoderBackend.frames t c.args.self.now.session c.end_sequence.new.self _
    (end_means (options_in c.args.self.now.kept) (kept_of c.args.self.now.kept)
    (bytes_of c.args.nalu.now) c.args.nalu.now.header r.parsed r.wanted r.other typed) c.end_sequence.ensures

pub returns-in-EobNut-clause-goes : goal.returns-in-EobNut-clause-goes
returns-in-EobNut-clause-goes g c t =
    let r = c.requires in
    let typed : c.args.nalu.now.header.nal_unit_type ≡ 37 =
    ap (λ (x : UnitHeader). x.nal_unit_type) (sym c.header.ensures.value) ∙ sym c.nalu_type.ensures
    ∙ ap nalu_type_number c.in-EobNut.is in
    close_step g.B.StatelessH265DecoderBackend.log g.B.StatelessH265DecoderBackend.handed
    g.B.StatelessH265DecoderBackend.frames t c.args.self.now.session c.end_bitstream.new.self _
    (close_means (options_in c.args.self.now.kept) (kept_of c.args.self.now.kept)
    (bytes_of c.args.nalu.now) c.args.nalu.now.header r.parsed r.wanted r.other typed) c.end_bitstream.ensures

pub returns-in_default-clause-goes : goal.returns-in_default-clause-goes
returns-in_default-clause-goes g c t =
    let r = c.requires in
    let number = ap (λ (x : UnitHeader). x.nal_unit_type) (sym c.header.ensures.value) ∙ sym c.nalu_type.ensures in
    let own = nalu_type_of-nalu_type_number c.nalu_type.result in
    let no_end = ne_eqb c.args.nalu.now.header.nal_unit_type 36
    (λ e. c.in_default.not-EosNut (sym own ∙ ap nalu_type_of (sym number ∙ e))) in
    let no_close = ne_eqb c.args.nalu.now.header.nal_unit_type 37
    (λ e. c.in_default.not-EobNut (sym own ∙ ap nalu_type_of (sym number ∙ e))) in
    idle_step g.B.StatelessH265DecoderBackend.log g.B.StatelessH265DecoderBackend.handed
    g.B.StatelessH265DecoderBackend.frames t c.args.self.now.session _
    (other_means (options_in c.args.self.now.kept) (kept_of c.args.self.now.kept)
    (bytes_of c.args.nalu.now) c.args.nalu.now.header r.parsed r.wanted r.other
    r.no_slice no_end no_close)
