use Rattle.std.proofs.Common.{refl}
use Rattle.hevc_tables.specs.VpsTable.{video_parameter_set}
use Rattle.hevc_video_set.specs.Vps.{plain_vps}
use Rattle.hevc_write.proofs.ReadBack.{none_written, not_true, set_added}
use Rattle.hevc_write.proofs.video_set.VpsSyntax.write_payload.Goals as goal

pub returns-then-not-branch-clause-refused : goal.returns-then-not-branch-clause-refused
returns-then-not-branch-clause-refused c =
    none_written 32 video_parameter_set (plain_vps c.args.self.now) c.args.header.now _ c.in_ok-w.ensures
    (λ is. not_true c.in_ok-is_read_back.field-0 c.if-not-branch.true (c.in_ok-is_read_back.ensures.1 is))

pub returns-clause-added : goal.returns-clause-added
returns-clause-added c =
    set_added 32 video_parameter_set (plain_vps c.args.self.now) c.args.header.now _ c.in_ok-w.ensures
    c.as_bytes.result.now c.args.payload.now.items c.extend_from_slice.new.self.items
    (c.if-not-is_of_type.ensures.0 refl) (c.in_ok-is_read_back.ensures.0 c.if-not-branch.false)
    c.as_bytes.ensures c.in_ok-extend_from_slice.ensures.items
