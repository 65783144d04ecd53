use Rattle.std.proofs.Common.{ap₂, Option, subst, sym, ap, ◌∙◌, ℕ, List}
use Rattle.hevc_bits.specs.FoundUnit.{bytes_of}
use Rattle.hevc_records.specs.Sps.{PlainSps}
use Rattle.hevc_spec.specs.Payload.{payload}
use Rattle.hevc_spec.specs.Table.{read}
use Rattle.hevc_spec.specs.UnitHeader.{UnitHeader}
use Rattle.hevc_stream.specs.Slices.{temporal_id}
use Rattle.hevc_sequence_set.specs.Sps.{plain_sps}
use Rattle.hevc_write_units.specs.Values.{only_sequence_set}
use Rattle.hevc_tables.specs.PpsTable.{picture_parameter_set}
use Rattle.hevc_picture_slice.specs.Pps.{plain_pps}
use Rattle.hevc_record_laws.proofs.Values.PictureSlice.{pps}
use Rattle.hevc_write_units.specs.Trials.{IsTrial}
use Rattle.hevc_write.proofs.ReadBack.{same_read, trial_read}
use Rattle.hevc_write.proofs.picture_unit.is_read_back.Goals as goal

pub returns-in-Ok : goal.returns-in-Ok
returns-in-Ok c =
    let header = c.args.header.now in
    let bits = c.args.w.now in
    let tid = temporal_id header in
    let trial = subst (λ (s : List ℕ). IsTrial header bits s) (sym c.deref.ensures.value) c.in_ok-stream.ensures in
    let same = c.trial_unit.ensures.header header bits trial in
    let typed = ap (λ (h : UnitHeader). h.nal_unit_type) same ∙ c.requires.typed in
    let was_read = c.in-Ok.ensures.unit.read typed in
    let was = trial_read (picture_parameter_set tid (only_sequence_set (plain_sps c.args.sps.now)))
    (plain_pps c.in-Ok.read) bits _ (c.trial_unit.ensures.bits header bits trial) (
      was_read.0,
      ap₂ (λ (h : UnitHeader) (sets : ℕ → Option PlainSps). read
          (picture_parameter_set (temporal_id h) sets) (payload (bytes_of c.trial_unit.result))) (sym same)
          (sym c.in_ok-sets.ensures) ∙ was_read.1,
    ) in
    same_read plain_pps (picture_parameter_set tid (only_sequence_set (plain_sps c.args.sps.now)))
    c.args.pps.now c.in-Ok.read bits c.pps_eq.result pps c.pps_eq.ensures was
