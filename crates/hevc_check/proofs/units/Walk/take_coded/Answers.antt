use Rattle.std.proofs.Common.{◌≡◌, ◌∙◌, ap, sym, refl}
use Rattle.std.proofs.lemmas.Bool.{ne_eqb}
use Rattle.hevc_spec.specs.UnitHeader.{UnitHeader}
use Rattle.hevc_spec.specs.UnitTypes.{is_slice}
use Rattle.hevc_bits.specs.NaluType.{nalu_type_number, nalu_type_of}
use Rattle.hevc_bits.specs.TypeNumbers.{nalu_type_of-nalu_type_number}
use Rattle.hevc_bits.specs.FoundUnit.{bytes_of}
use Rattle.hevc_walk.specs.Meanings.{EndOfSequence, EndOfBitstream, Other}
use Rattle.hevc_kept_sets.specs.Kept.{kept_of, options_in}
use Rattle.hevc_stateless.proofs.Coding.{end_means, close_means, other_means}
use Rattle.hevc_check.proofs.Meant.{idle_takes, unstarted_means, started_means}
use Rattle.hevc_check.proofs.units.Walk.take_coded.Goals as goal

pub returns-then-not-is_open-clause-takes : goal.returns-then-not-is_open-clause-takes
returns-then-not-is_open-clause-takes c =
    let r = c.requires in
    let w = c.args.self.now.pictures in
    let none = sym r.started ∙ sym c.is_open.ensures ∙ c.if-not-is_open.true in
    idle_takes _ Other w w
    (unstarted_means (options_in c.args.self.now.sets) (kept_of c.args.self.now.sets) (bytes_of c.args.nalu)
    c.args.nalu.header r.parsed r.wanted r.other none) refl refl

pub returns-in-EosNut-clause-takes : goal.returns-in-EosNut-clause-takes
returns-in-EosNut-clause-takes c =
    let o = options_in c.args.self.now.sets in
    let k = kept_of c.args.self.now.sets in
    let bytes = bytes_of c.args.nalu in
    let h = c.args.nalu.header in
    let r = c.requires in
    let has = sym r.started ∙ sym c.is_open.ensures ∙ c.if-not-is_open.false in
    let typed : h.nal_unit_type ≡ 36 =
    ap (λ (x : UnitHeader). x.nal_unit_type) (sym c.header.ensures.value) ∙ sym c.nalu_type-nalu_type.ensures
    ∙ ap nalu_type_number c.in-EosNut.is in
    idle_takes _ EndOfSequence c.args.self.now.pictures _
    (started_means o k bytes h r.parsed r.wanted r.other EndOfSequence
    (end_means o k bytes h r.parsed r.wanted r.other typed) has) refl c.end_sequence.ensures

pub returns-in-EobNut-clause-takes : goal.returns-in-EobNut-clause-takes
returns-in-EobNut-clause-takes c =
    let o = options_in c.args.self.now.sets in
    let k = kept_of c.args.self.now.sets in
    let bytes = bytes_of c.args.nalu in
    let h = c.args.nalu.header in
    let r = c.requires in
    let has = sym r.started ∙ sym c.is_open.ensures ∙ c.if-not-is_open.false in
    let typed : h.nal_unit_type ≡ 37 =
    ap (λ (x : UnitHeader). x.nal_unit_type) (sym c.header.ensures.value) ∙ sym c.nalu_type-nalu_type.ensures
    ∙ ap nalu_type_number c.in-EobNut.is in
    idle_takes _ EndOfBitstream c.args.self.now.pictures _
    (started_means o k bytes h r.parsed r.wanted r.other EndOfBitstream
    (close_means o k bytes h r.parsed r.wanted r.other typed) has) refl c.end_bitstream.ensures

pub returns-in_default : goal.returns-in_default
returns-in_default c =
    let o = options_in c.args.self.now.sets in
    let k = kept_of c.args.self.now.sets in
    let bytes = bytes_of c.args.nalu in
    let h = c.args.nalu.header in
    let r = c.requires in
    let w = c.args.self.now.pictures in
    let has = sym r.started ∙ sym c.is_open.ensures ∙ c.if-not-is_open.false in
    let number =
    ap (λ (x : UnitHeader). x.nal_unit_type) (sym c.header.ensures.value) ∙ sym c.nalu_type-nalu_type.ensures in
    let own = nalu_type_of-nalu_type_number c.nalu_type-nalu_type.result in
    let no_slice = ap is_slice number ∙ sym c.is_slice.ensures ∙ c.if-is_slice.false in
    let no_end =
    ne_eqb h.nal_unit_type 36 (λ e. c.in_default.not-EosNut (sym own ∙ ap nalu_type_of (sym number ∙ e))) in
    let no_close =
    ne_eqb h.nal_unit_type 37 (λ e. c.in_default.not-EobNut (sym own ∙ ap nalu_type_of (sym number ∙ e))) in
    record {
      takes = idle_takes _ Other w w
          (started_means o k bytes h r.parsed r.wanted r.other Other
          (other_means o k bytes h r.parsed r.wanted r.other no_slice no_end no_close) has) refl refl;
      sets = refl;
    }
