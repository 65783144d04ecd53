use Rattle.std.proofs.Common.{◌≡◌, ◌≢◌, ◌-◌, ◌∙◌, ap, sym, refl, subst, arith, ℕ, Option, true, false}
use Rattle.std.specs.Prelude.{◌==◌}
use Rattle.std.proofs.lemmas.Result.{IfOk-weaker}
use Rattle.hevc_spec.specs.Payload.{payload}
use Rattle.hevc_spec.specs.Table.{read}
use Rattle.hevc_spec.specs.UnitHeader.{UnitHeader}
use Rattle.hevc_spec.specs.UnitTypes.{is_slice}
use Rattle.hevc_bits.specs.FoundUnit.{bytes_of}
use Rattle.hevc_bits.specs.NaluType.{nalu_type_number, nalu_type_of}
use Rattle.hevc_bits.specs.TypeNumbers.{nalu_type_of-nalu_type_number}
use Rattle.hevc_records.specs.Sps.{PlainSps}
use Rattle.hevc_tables.specs.PpsTable.{picture_parameter_set}
use Rattle.hevc_stream.specs.Kept.{Kept}
use Rattle.hevc_parser.specs.Kept.{kept_by}
use Rattle.hevc_stream_laws.proofs.OneContent.{slice_isnt}
use Rattle.hevc_syntax_text.specs.Causes.{cause_in, cause_of_unit}
use Rattle.hevc_syntax_text.specs.Order.{behind_end, counting_behind}
use Rattle.hevc_syntax_text.specs.Standing.{sets_of, Follow}
use Rattle.hevc_syntax_text.specs.Variables.{variables_of_unit}
use Rattle.hevc_syntax_text.proofs.Kept.{always, on_ok, video_follows, picture_follows, other_follows}
use Rattle.hevc_syntax_text.proofs.Told.{differs, of_video_set, of_sequence_set, of_picture_set, of_slice, of_another}
use Rattle.hevc_syntax_text.proofs.Told.{no_variables, sequence_variables, picture_variables, behind_first, behind_plain}
use Rattle.hevc_syntax_text.proofs.Told.{behind_another}
use Rattle.hevc_syntax_text.proofs.sets.Sets.look.Goals as goal

-- ---- a video set

pub returns-in_ok-video_set_cause-in-VpsNut-clause-cause : goal.returns-in_ok-video_set_cause-in-VpsNut-clause-cause
returns-in_ok-video_set_cause-in-VpsNut-clause-cause c =
    let typed = ap (λ (h : UnitHeader). h.nal_unit_type) (sym c.header.ensures.value) ∙ sym c.nalu_type.ensures
    ∙ ap nalu_type_number c.in-VpsNut.is in
    c.plain.ensures.cause ∙ c.in_ok-video_set_cause-in-VpsNut.ensures
    ∙ sym (of_video_set (sets_of c.args.self.now) c.args.nalu.now typed)

pub returns-in_ok-video_set_cause-in-VpsNut-clause-variables
    : goal.returns-in_ok-video_set_cause-in-VpsNut-clause-variables
returns-in_ok-video_set_cause-in-VpsNut-clause-variables c =
    let old = c.args.self.now in
    let typed = ap (λ (h : UnitHeader). h.nal_unit_type) (sym c.header.ensures.value) ∙ sym c.nalu_type.ensures
    ∙ ap nalu_type_number c.in-VpsNut.is in
    c.plain.ensures.variables
    ∙ no_variables old.counting (sets_of old) c.args.nalu.now (ap (λ (t : ℕ). t == 33) typed) (ap is_slice typed)

pub returns-in_ok-video_set_cause-in-VpsNut-clause-counting
    : goal.returns-in_ok-video_set_cause-in-VpsNut-clause-counting
returns-in_ok-video_set_cause-in-VpsNut-clause-counting c =
    let old = c.args.self.now in
    let typed = ap (λ (h : UnitHeader). h.nal_unit_type) (sym c.header.ensures.value) ∙ sym c.nalu_type.ensures
    ∙ ap nalu_type_number c.in-VpsNut.is in
    behind_plain old.counting (sets_of old) c.args.nalu.now 32 typed refl refl

pub returns-in_ok-video_set_cause-in-VpsNut-clause-follow
    : goal.returns-in_ok-video_set_cause-in-VpsNut-clause-follow
returns-in_ok-video_set_cause-in-VpsNut-clause-follow c =
    let h = c.header.result.now in
    let typed : h.nal_unit_type ≡ 32 = sym c.nalu_type.ensures ∙ ap nalu_type_number c.in-VpsNut.is in
    video_follows (bytes_of c.args.nalu.now) h c.header.ensures.parsed (kept_by c.args.self.now.parser).sequence_sets typed

-- ---- a sequence set

pub returns-in-SpsNut-clause-cause : goal.returns-in-SpsNut-clause-cause
returns-in-SpsNut-clause-cause c =
    let typed = ap (λ (h : UnitHeader). h.nal_unit_type) (sym c.header.ensures.value) ∙ sym c.nalu_type.ensures
    ∙ ap nalu_type_number c.in-SpsNut.is in
    IfOk-weaker c.sequence_set_outcome.result _ _
    (λ outcome e. e ∙ sym (of_sequence_set (sets_of c.args.self.now) c.args.nalu.now typed))
    c.sequence_set_outcome.ensures.cause

pub returns-in-SpsNut-clause-variables : goal.returns-in-SpsNut-clause-variables
returns-in-SpsNut-clause-variables c =
    let old = c.args.self.now in
    let typed = ap (λ (h : UnitHeader). h.nal_unit_type) (sym c.header.ensures.value) ∙ sym c.nalu_type.ensures
    ∙ ap nalu_type_number c.in-SpsNut.is in
    IfOk-weaker c.sequence_set_outcome.result _ _
    (λ outcome e. e ∙ sym (sequence_variables old.counting (sets_of old) c.args.nalu.now typed))
    c.sequence_set_outcome.ensures.variables

pub returns-in-SpsNut-clause-counting : goal.returns-in-SpsNut-clause-counting
returns-in-SpsNut-clause-counting c =
    let old = c.args.self.now in
    let typed = ap (λ (h : UnitHeader). h.nal_unit_type) (sym c.header.ensures.value) ∙ sym c.nalu_type.ensures
    ∙ ap nalu_type_number c.in-SpsNut.is in
    always c.sequence_set_outcome.result _
    (behind_plain old.counting (sets_of old) c.args.nalu.now 33 typed refl refl)

-- ---- a picture set

pub returns-in_ok-picture_set_cause-in-PpsNut-clause-cause
    : goal.returns-in_ok-picture_set_cause-in-PpsNut-clause-cause
returns-in_ok-picture_set_cause-in-PpsNut-clause-cause c =
    let n = c.args.nalu.now in
    let typed = ap (λ (h : UnitHeader). h.nal_unit_type) (sym c.header.ensures.value) ∙ sym c.nalu_type.ensures
    ∙ ap nalu_type_number c.in-PpsNut.is in
    c.plain-in-PpsNut.ensures.cause ∙ c.in_ok-picture_set_cause-in-PpsNut.ensures.cause
    ∙ ap (λ (s : ℕ → Option PlainSps). cause_in
    (read (picture_parameter_set (n.header.nuh_temporal_id_plus1 - 1) s) (payload (bytes_of n))))
    c.requires.alike.sequences
    ∙ sym (of_picture_set (sets_of c.args.self.now) n typed)

pub returns-in_ok-picture_set_cause-in-PpsNut-clause-variables
    : goal.returns-in_ok-picture_set_cause-in-PpsNut-clause-variables
returns-in_ok-picture_set_cause-in-PpsNut-clause-variables c =
    let old = c.args.self.now in
    let typed = ap (λ (h : UnitHeader). h.nal_unit_type) (sym c.header.ensures.value) ∙ sym c.nalu_type.ensures
    ∙ ap nalu_type_number c.in-PpsNut.is in
    c.plain-in-PpsNut.ensures.variables
    ∙ no_variables old.counting (sets_of old) c.args.nalu.now (ap (λ (t : ℕ). t == 33) typed) (ap is_slice typed)

pub returns-in_ok-picture_set_cause-in-PpsNut-clause-counting
    : goal.returns-in_ok-picture_set_cause-in-PpsNut-clause-counting
returns-in_ok-picture_set_cause-in-PpsNut-clause-counting c =
    let old = c.args.self.now in
    let typed = ap (λ (h : UnitHeader). h.nal_unit_type) (sym c.header.ensures.value) ∙ sym c.nalu_type.ensures
    ∙ ap nalu_type_number c.in-PpsNut.is in
    behind_plain old.counting (sets_of old) c.args.nalu.now 34 typed refl refl

pub returns-in_ok-picture_set_cause-in-PpsNut-clause-follow
    : goal.returns-in_ok-picture_set_cause-in-PpsNut-clause-follow
returns-in_ok-picture_set_cause-in-PpsNut-clause-follow c =
    let bytes = bytes_of c.args.nalu.now in
    let h = c.header.result.now in
    let before = (kept_by c.args.self.now.parser).sequence_sets in
    let typed : h.nal_unit_type ≡ 34 = sym c.nalu_type.ensures ∙ ap nalu_type_number c.in-PpsNut.is in
    subst (λ (s : ℕ → Option PlainSps). Follow bytes before s) (sym c.in_ok-picture_set_cause-in-PpsNut.ensures.sets)
    (picture_follows bytes h c.header.ensures.parsed before typed)

-- ---- another unit

pub returns-then-is_slice : goal.returns-then-is_slice
returns-then-is_slice c =
    let old = c.args.self.now in
    let n = c.args.nalu.now in
    let h = c.header.result.now in
    let slice : is_slice h.nal_unit_type ≡ true =
    sym (ap is_slice c.nalu_type.ensures) ∙ sym c.is_slice.ensures ∙ c.if-is_slice.true in
    let typed : is_slice n.header.nal_unit_type ≡ true =
    ap (λ (h : UnitHeader). is_slice h.nal_unit_type) (sym c.header.ensures.value) ∙ slice in
    let kept : Kept = record (kept_by c.parser.result.now) { waiting = (sets_of old).waiting } in
    record {
      cause = IfOk-weaker c.slice_outcome.result _ _
          (λ outcome e. e ∙ sym (of_slice kept n typed) ∙ ap (λ (k : Kept). cause_of_unit k n) c.parser.ensures)
          c.slice_outcome.ensures.cause;
      variables = IfOk-weaker c.slice_outcome.result _ _
          (λ outcome e. e ∙ sym (picture_variables old.counting kept n typed)
          ∙ ap (λ (k : Kept). variables_of_unit old.counting k n) c.parser.ensures)
          c.slice_outcome.ensures.variables;
      counting = on_ok c.slice_outcome.result _ _
          (λ e. e ∙ sym (behind_first old.counting kept n typed)
          ∙ ap (λ (k : Kept). counting_behind old.counting k n) c.parser.ensures)
          c.slice_outcome.ensures.counting;
      follow = always c.slice_outcome.result _
          (other_follows (bytes_of n) h c.header.ensures.parsed (kept_by old.parser).sequence_sets
          (differs h.nal_unit_type 32 (slice_isnt h.nal_unit_type 32 slice (omega arith)))
          (differs h.nal_unit_type 33 (slice_isnt h.nal_unit_type 33 slice (omega arith)))
          (differs h.nal_unit_type 34 (slice_isnt h.nal_unit_type 34 slice (omega arith))));
      kept = refl;
    }

pub returns-else-is_slice : goal.returns-else-is_slice
returns-else-is_slice c =
    let old = c.args.self.now in
    let n = c.args.nalu.now in
    let h = c.header.result.now in
    let own = nalu_type_of-nalu_type_number c.nalu_type.result in
    let number = c.nalu_type.ensures in
    let video : h.nal_unit_type ≢ 32 = λ e. c.in_default.not-VpsNut (sym own ∙ ap nalu_type_of (number ∙ e)) in
    let sequence : h.nal_unit_type ≢ 33 = λ e. c.in_default.not-SpsNut (sym own ∙ ap nalu_type_of (number ∙ e)) in
    let picture : h.nal_unit_type ≢ 34 = λ e. c.in_default.not-PpsNut (sym own ∙ ap nalu_type_of (number ∙ e)) in
    let none : is_slice h.nal_unit_type ≡ false =
    sym (ap is_slice c.nalu_type.ensures) ∙ sym c.is_slice.ensures ∙ c.if-is_slice.false in
    let same = c.header.ensures.value in
    let no_slice : is_slice n.header.nal_unit_type ≡ false =
    subst (λ (h : UnitHeader). is_slice h.nal_unit_type ≡ false) same none in
    let no_set : n.header.nal_unit_type ≢ 33 = subst (λ (h : UnitHeader). h.nal_unit_type ≢ 33) same sequence in
    record {
      cause = c.plain-else-is_slice.ensures.cause ∙ of_another (sets_of old) n
          (subst (λ (h : UnitHeader). h.nal_unit_type ≢ 32) same video) no_set
          (subst (λ (h : UnitHeader). h.nal_unit_type ≢ 34) same picture) no_slice;
      variables = c.plain-else-is_slice.ensures.variables
          ∙ no_variables old.counting (sets_of old) n (grind (arith, no_set)) no_slice;
      counting = c.end.ensures
          ∙ ap (λ (t : ℕ). behind_end t old.counting)
          (number ∙ ap (λ (h : UnitHeader). h.nal_unit_type) same)
          ∙ sym (behind_another old.counting (sets_of old) n no_slice);
      follow = other_follows (bytes_of n) h c.header.ensures.parsed (kept_by old.parser).sequence_sets video sequence
          picture;
      kept = refl;
    }
