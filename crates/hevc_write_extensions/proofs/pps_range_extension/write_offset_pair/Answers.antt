use Rattle.std.proofs.Common.{pos, refl, ◌∙◌, arith}
use Rattle.std.proofs.lemmas.Int.{ints}
use Rattle.hevc_tables.specs.PpsRangeExtensionTable.{offset_pair}
use Rattle.hevc_write_elements.proofs.Steps.{se_then, done_filled}
use Rattle.hevc_write_elements.proofs.Loops.{one_less}
use Rattle.hevc_write_extensions.proofs.pps_range_extension.write_offset_pair.Goals as goal

pub returns : goal.returns
unfolding offset_pair
returns c =
    let x = c.args.x.now in
    record {
      written = λ y w.
          se_then _ refl _ _ c.in_ok-se.ensures (λ v1 b1 cb_row.
          se_then _ refl _ _ c.in_ok-se-2.ensures (λ v2 b2 cr_row.
          done_filled (λ a.
          let cb = one_less c.args.i y.cb_qp_offset_list x.cb_qp_offset_list v1 (pos 0) (omega arith) a.0 in
          let cr = one_less c.args.i y.cr_qp_offset_list x.cr_qp_offset_list v2 (pos 0) (omega arith) a.1 in
          ((cb.0, cr.0), λ at. cr_row (cr.1 ∙ omega (arith, ints)) (cb_row (cb.1 ∙ omega (arith, ints)) at)))));
    }
