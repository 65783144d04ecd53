use Rattle.std.proofs.Common.{◌≡◌, ◌∙◌, ap, sym, subst, ℕ, Option}
use Rattle.hevc_spec.specs.UnitHeader.{UnitHeader}
use Rattle.hevc_spec.specs.Payload.{payload}
use Rattle.hevc_spec.specs.Table.{read}
use Rattle.hevc_bits.specs.FoundUnit.{bytes_of}
use Rattle.hevc_records.specs.Sps.{PlainSps}
use Rattle.hevc_tables.specs.SpsTable.{sequence_parameter_set}
use Rattle.hevc_sequence_set.specs.Sps.{plain_sps}
use Rattle.hevc_stream.specs.Kept.{Kept, with_set}
use Rattle.hevc_parser.specs.Kept.{kept_by}
use Rattle.hevc_syntax_text.specs.Standing.{Follow}
use Rattle.hevc_syntax_text.proofs.Kept.{sequence_follows, unread_follows}
use Rattle.hevc_syntax_text.proofs.Told.{refused_at}
use Rattle.hevc_syntax_text.proofs.causes.sequence_set_outcome.Goals as goal

pub returns-in_ok-keep_sequence_set-in-Ok-clause-follow : goal.returns-in_ok-keep_sequence_set-in-Ok-clause-follow
returns-in_ok-keep_sequence_set-in-Ok-clause-follow c =
    let bytes = bytes_of c.args.nalu.now in
    let h = c.header-header.result.now in
    let typed : h.nal_unit_type ≡ 33 =
    ap (λ (h : UnitHeader). h.nal_unit_type) c.header-header.ensures.value ∙ c.requires.typed in
    let set = plain_sps c.in-Ok.set in
    let was = c.in-Ok.ensures.unit.read c.requires.typed in
    let before = (kept_by c.args.parser.now).sequence_sets in
    let after : (kept_by c.keep_sequence_set.new.self).sequence_sets ≡ with_set set.seq_parameter_set_id set before =
    ap (λ (k : Kept). k.sequence_sets) c.in_ok-keep_sequence_set-in-Ok.ensures.kept in
    subst (λ (s : ℕ → Option PlainSps). Follow bytes before s) (sym after)
    (sequence_follows bytes h c.header-header.ensures.parsed before set was.0 typed was.1)

pub returns-in_ok-cause_of-in-Err-clause-follow : goal.returns-in_ok-cause_of-in-Err-clause-follow
returns-in_ok-cause_of-in-Err-clause-follow c =
    let bytes = bytes_of c.args.nalu.now in
    let h = c.header-header.result.now in
    let typed : h.nal_unit_type ≡ 33 =
    ap (λ (h : UnitHeader). h.nal_unit_type) c.header-header.ensures.value ∙ c.requires.typed in
    let before = (kept_by c.args.parser.now).sequence_sets in
    let was =
    refused_at c.in-Err.error (read sequence_parameter_set (payload bytes)) c.in_ok-cause_of-in-Err.ensures.other
    (c.in-Err.ensures.unit.read c.requires.typed) in
    unread_follows bytes h c.header-header.ensures.parsed before was.0 was.1 typed was.2
