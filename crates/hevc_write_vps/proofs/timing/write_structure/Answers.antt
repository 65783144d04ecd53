use Rattle.std.proofs.Common.{◌≡◌, ◌<◌, ℕ, List, Bool, true, false, length, get_or, refl, sym, ap, ap₂, ◌∙◌, arith}
use Rattle.std.specs.Prelude.{not, ◌==◌, if◌then◌else◌}
use Rattle.std.proofs.lemmas.List.{length-map, get_or-map}
use Rattle.hevc_spec.specs.Rows.{row, flag_row}
use Rattle.hevc_records.specs.HrdParams.{default_hrd_params}
use Rattle.hevc_tables.specs.HrdTable.{hrd_parameters}
use Rattle.hevc_tables.specs.VpsTable.{structure, last_structure}
use Rattle.hevc_video_set.specs.Vps.{plain_vps}
use Rattle.hevc_video_set.specs.declared.hrd_params.HrdParams.{HrdParams}
use Rattle.hevc_video_set.specs.HrdParams.{plain_hrd_params}
use Rattle.hevc_write_elements.proofs.Fillings.{weakened, beside}
use Rattle.hevc_write_elements.proofs.Steps.{done_filled, then_filled, ue_then, when_written}
use Rattle.hevc_write_elements.proofs.Steps.{where_present, flag_table, flag_fillable}
use Rattle.hevc_write_elements.proofs.Steps.{one_table_written, pairs, flags, numbers}
use Rattle.hevc_write_set_parts.proofs.HrdKeeps.{hrd_fillable}
use Rattle.hevc_write_vps.proofs.VpsKeeps.{one_structure_less, absent_told, common_same}
use Rattle.hevc_write_vps.proofs.timing.write_structure.Goals as goal

pub returns : goal.returns
unfolding structure
returns c =
    let x = plain_vps c.args.x.now in
    let i = c.args.i in
    let common = c.has_common-common.result in
    let structure : get_or x.hrd_parameters i default_hrd_params
    ≡ plain_hrd_params c.index-as_slice-i.result =
    get_or-map plain_hrd_params c.args.x.now.hrd_parameters i c.index-as_slice-i.result default_hrd_params
    (omega arith)
    ∙ ap plain_hrd_params
    (ap (λ (l : List HrdParams). get_or l i c.index-as_slice-i.result) (sym c.as_slice-3.ensures)
    ∙ sym c.index-as_slice-i.is) in
    let lt : i < length x.hrd_parameters = rw (length-map c.args.x.now.hrd_parameters plain_hrd_params) (omega arith) in
    record {
      written = λ y w.
          ue_then _ refl _ _ c.in_ok-ue_u16.ensures (λ v1 _ b1 less_row.
          then_filled (weakened (beside (absent_told (not (i == 0)) true b1 (flag_fillable (row 1 23) refl))
          (when_written (flag_row (row 1 23)) (not (i == 0)) true (flag_fillable (row 1 23) refl)
          (where_present (flag_table (row 1 23) refl) c.in_ok-flag_if.ensures) (λ v b h. h))) (λ v2 b2 row_2.
          then_filled (one_table_written
          (λ (k : Bool × ℕ). hrd_parameters k.0 k.1 (last_structure y.hrd_parameters))
          (λ k. hrd_fillable k.0 k.1 (last_structure y.hrd_parameters)) (v2, y.max_sub_layers_minus1)
          (common, x.max_sub_layers_minus1)
          (pairs (flags v2 common) (numbers y.max_sub_layers_minus1 x.max_sub_layers_minus1))
          (c.in_ok-write_hrd_parameters.ensures _) (λ v3 b3 h2_row.
          done_filled (λ a.
          let less = one_structure_less x i y v1 v2 v3 lt a in
          let same : v2 ≡ common =
          common_same (i == 0) v2 common (get_or x.cprms_present_flag i false) row_2.0 less.2
          (c.has_common-common.ensures
          ∙ ap (λ (l : List Bool). if i == 0 then true else get_or l i false) c.as_slice.ensures) in (
            less.0,
            λ at. h2_row (ap₂ (λ (b : Bool) (n : ℕ). (b, n)) same less.0.sub_layers)
                (less.3 ∙ structure)
                (row_2.1 refl same
                (less_row (less.1
                ∙ sym (c.layer_set.ensures ∙ ap (λ (l : List ℕ). get_or l i 0) c.as_slice-2.ensures)) at)),
          )))))));
    }
