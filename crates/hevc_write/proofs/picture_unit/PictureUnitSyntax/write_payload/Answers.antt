use Rattle.std.proofs.Common.{refl, sym}
use Rattle.hevc_sequence_set.specs.Sps.{plain_sps}
use Rattle.hevc_picture_slice.specs.Pps.{plain_pps}
use Rattle.hevc_write.proofs.ReadBack.{no_picture_written, not_true, picture_added}
use Rattle.hevc_write.proofs.picture_unit.PictureUnitSyntax.write_payload.Goals as goal

pub returns-then-not-branch-clause-refused : goal.returns-then-not-branch-clause-refused
returns-then-not-branch-clause-refused c =
    no_picture_written (plain_sps c.args.self.now.sps.now)
    (plain_pps c.args.self.now.pps.now) c.args.header.now _ c.in_ok-w.ensures
    (λ is. not_true c.in_ok-is_read_back.field-0 c.if-not-branch.true (c.in_ok-is_read_back.ensures.1 is))

pub returns-clause-added : goal.returns-clause-added
returns-clause-added c =
    picture_added (plain_sps c.args.self.now.sps.now) (plain_pps c.args.self.now.pps.now) c.args.header.now
    _ c.in_ok-w.ensures c.as_bytes.result.now c.args.payload.now.items c.extend_from_slice.new.self.items
    (c.if-not-is_of_type.ensures.0 refl) (sym c.if-not-is_named.ensures)
    (c.in_ok-is_read_back.ensures.0 c.if-not-branch.false) c.as_bytes.ensures c.in_ok-extend_from_slice.ensures.items
