use Rattle.std.proofs.Common.{ℕ, ◌∙◌, ap, sym}
use Rattle.hevc_bits.specs.FoundUnit.{bytes_of}
use Rattle.hevc_spec.specs.UnitHeader.{UnitHeader}
use Rattle.hevc_spec.specs.UnitTypes.{is_idr, is_slice}
use Rattle.hevc_kept_sets.specs.Kept.{kept_of, options_in}
use Rattle.hevc_stateless.specs.States.{is_decoding, state_at}
use Rattle.hevc_stateless.proofs.Coding.{passed_step, coded_step, ended_step}
use Rattle.hevc_stateless.proofs.decoder.StatelessDecoder.take_coded.Goals as goal

pub returns-then-not-decodes-clause-step : goal.returns-then-not-decodes-clause-step
returns-then-not-decodes-clause-step g c =
    let r = c.requires in
    let number = c.nalu_type-nalu_type.ensures ∙ ap (λ (x : UnitHeader). x.nal_unit_type) c.header.ensures.value in
    passed_step (options_in c.args.self.now.kept) (kept_of c.args.self.now.kept)
    (bytes_of c.args.nalu.now) c.args.nalu.now.header r.parsed r.wanted r.other tt _ _ _ _
    c.args.self.now.session _ (ap is_idr number) (sym c.decodes.ensures ∙ c.if-not-decodes.true)

pub take_slice-requires-clause-decoding : goal.take_slice-requires-clause-decoding
take_slice-requires-clause-decoding g c =
    let number = c.nalu_type-nalu_type.ensures ∙ ap (λ (x : UnitHeader). x.nal_unit_type) c.header.ensures.value in
    ap (λ (n : ℕ). is_decoding (state_at (is_idr n) c.args.self.now.session.state)) (sym number)
    ∙ sym c.decodes.ensures ∙ c.if-not-decodes.false

pub returns-then-is_slice-clause-step : goal.returns-then-is_slice-clause-step
returns-then-is_slice-clause-step g c =
    let r = c.requires in
    let number = c.nalu_type-nalu_type.ensures ∙ ap (λ (x : UnitHeader). x.nal_unit_type) c.header.ensures.value in
    coded_step (options_in c.args.self.now.kept) (kept_of c.args.self.now.kept)
    (bytes_of c.args.nalu.now) c.args.nalu.now.header r.parsed r.wanted r.other c.take_slice.result
    c.args.timestamp _ _ _ _ _ _ _ c.args.self.now.session c.take_slice.new.self.session _
    (kept_of c.take_slice.new.self.kept) (ap is_idr number) (sym c.decodes.ensures ∙ c.if-not-decodes.false)
    (ap kept_of c.take_slice.ensures.kept) c.take_slice.ensures.takes

pub returns-clause-step : goal.returns-clause-step
returns-clause-step g c =
    let r = c.requires in
    let number = c.nalu_type-nalu_type.ensures ∙ ap (λ (x : UnitHeader). x.nal_unit_type) c.header.ensures.value in
    ended_step (options_in c.args.self.now.kept) (kept_of c.args.self.now.kept)
    (bytes_of c.args.nalu.now) c.args.nalu.now.header r.parsed r.wanted r.other
    g.B.StatelessH265DecoderBackend.log g.B.StatelessH265DecoderBackend.handed
    g.B.StatelessH265DecoderBackend.frames tt _ c.args.self.now.session c.take_end.new.self.session _
    (kept_of c.take_end.new.self.kept) (ap is_idr number) (sym c.decodes.ensures ∙ c.if-not-decodes.false)
    (ap is_slice (sym number) ∙ sym c.is_slice.ensures ∙ c.if-is_slice.false)
    (ap kept_of c.take_end.ensures.kept) c.take_end.ensures.others (c.take_end.ensures.goes _)
