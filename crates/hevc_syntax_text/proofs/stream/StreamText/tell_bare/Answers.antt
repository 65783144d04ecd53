use Rattle.std.proofs.Common.{refl}
use Rattle.hevc_bare_units.specs.Pieces.{own_unit}
use Rattle.hevc_syntax_text.proofs.Kept.{on_ok}
use Rattle.hevc_syntax_text.proofs.Steps.{tells_bare}
use Rattle.hevc_syntax_text.proofs.stream.StreamText.tell_bare.Goals as goal

pub returns : goal.returns
returns c =
    let old = c.args.self.now in
    let r = c.requires in
    on_ok c.end_unit.result _ _
    (λ e. tells_bare c.args.piece.now.stream (own_unit c.args.piece.now) c.args.error r.refused old
    (record old { bytes = c.push_bare_line.new.text }) c.end_unit.new.self r.chosen
    (c.in_ok-push_bare_line.ensures c.args.error) refl refl refl refl r.alike e) c.end_unit.ensures
