use Rattle.std.proofs.Common.{refl, sym}
use Rattle.hevc_sequence_set.specs.Sps.{plain_sps}
use Rattle.hevc_picture_slice.specs.Pps.{plain_pps}
use Rattle.hevc_picture_slice.specs.SliceHeader.{plain_slice_header}
use Rattle.hevc_write.proofs.ReadBack.{both_equal, not_true}
use Rattle.hevc_write.proofs.SlicesBack.{none_sliced, slice_added, slice_lines}
use Rattle.hevc_write.proofs.slice_unit.SliceUnitSyntax.write_payload.Goals as goal

pub returns-then-not-branch-clause-refused : goal.returns-then-not-branch-clause-refused
returns-then-not-branch-clause-refused c =
    let slice = c.args.self.now in
    none_sliced (plain_sps slice.sps.now) (plain_pps slice.pps.now)
    (plain_slice_header slice.header.now) c.args.header.now _ c.in_ok-w.ensures.0 c.in_ok-w.ensures.1
    c.in_ok-w.ensures.2
    (λ own f whole is e. not_true c.in_ok-is_read_back.field-0 c.if-not-branch.true
    (c.in_ok-is_read_back.ensures.read own f whole is e))

pub returns-then-ends_in_zero-clause-refused : goal.returns-then-ends_in_zero-clause-refused
returns-then-ends_in_zero-clause-refused c =
    let slice = c.args.self.now in
    let header = slice.header.now in
    let named = both_equal header.pic_parameter_set_id slice.pps.now.pic_parameter_set_id
    slice.pps.now.seq_parameter_set_id slice.sps.now.seq_parameter_set_id (sym c.if-not-is_named.ensures) in
    let lines = slice_lines (plain_sps slice.sps.now) (plain_pps slice.pps.now)
    (plain_slice_header header) c.args.header.now _ c.in_ok-w.ensures.0 c.in_ok-w.ensures.1 c.in_ok-w.ensures.2
    (sym c.if-not-is_of_slice.ensures) named.0 named.1 (c.in_ok-is_read_back.ensures.found c.if-not-branch.false) in
    (c.if-ends_in_zero.ensures.zero refl, (lines.0, lines.1))

pub returns-clause-added : goal.returns-clause-added
returns-clause-added c =
    let slice = c.args.self.now in
    let header = slice.header.now in
    let named = both_equal header.pic_parameter_set_id slice.pps.now.pic_parameter_set_id
    slice.pps.now.seq_parameter_set_id slice.sps.now.seq_parameter_set_id (sym c.if-not-is_named.ensures) in
    slice_added (plain_sps slice.sps.now) (plain_pps slice.pps.now)
    (plain_slice_header header) c.args.header.now _ c.in_ok-w.ensures.0 c.in_ok-w.ensures.1 c.in_ok-w.ensures.2
    c.as_bytes.result.now slice.body.now c.args.payload.now.items c.extend_by_both.new.bytes.items
    (sym c.if-not-is_of_slice.ensures) named.0 named.1
    (c.in_ok-is_read_back.ensures.found c.if-not-branch.false) c.as_bytes.ensures c.in_ok-extend_by_both.ensures.ok

pub returns-clause-trimmed : goal.returns-clause-trimmed
returns-clause-trimmed c = c.if-ends_in_zero.ensures.some refl
