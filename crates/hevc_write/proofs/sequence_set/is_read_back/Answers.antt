use Rattle.std.specs.Prelude.{IsTrue, ◌↔◌}
use Rattle.std.proofs.Common.{◌≡◌, subst, sym, ap, ◌∙◌, ℕ, List}
use Rattle.hevc_spec.specs.UnitHeader.{UnitHeader}
use Rattle.hevc_tables.specs.SpsTable.{sequence_parameter_set}
use Rattle.hevc_sequence_set.specs.declared.sps.Sps.{Sps}
use Rattle.hevc_sequence_set.specs.Sps.{plain_sps}
use Rattle.hevc_record_laws.proofs.Values.SequenceSet.{sps}
use Rattle.hevc_write_units.specs.Trials.{IsTrial}
use Rattle.hevc_write.proofs.ReadBack.{same_read, trial_read}
use Rattle.hevc_write.proofs.sequence_set.is_read_back.Goals as goal

pub returns-in-Ok : goal.returns-in-Ok
returns-in-Ok c =
    let header = c.args.header.now in
    let bits = c.args.w.now in
    let trial = subst (λ (s : List ℕ). IsTrial header bits s) (sym c.deref.ensures.value) c.in_ok-stream.ensures in
    let typed = ap (λ (h : UnitHeader). h.nal_unit_type) (c.trial_unit.ensures.header header bits trial)
    ∙ c.requires.typed in
    let was = trial_read sequence_parameter_set (plain_sps c.in-Ok.read) bits _
    (c.trial_unit.ensures.bits header bits trial) (c.in-Ok.ensures.unit.read typed) in
    same_read plain_sps sequence_parameter_set c.args.set.now c.in-Ok.read bits c.sps_eq.result sps
    (subst (λ (s : Sps). IsTrue c.sps_eq.result ↔ (s ≡ c.args.set.now)) c.get.ensures c.sps_eq.ensures) was
