use Rattle.std.proofs.Common.{◌≡◌, ◌∙◌, ap, sym, true, ℤ, Bool, Option, Some, None, cond, to_z, of_z, w32, arith}
use Rattle.std.proofs.lemmas.Int.{ints}
use Rattle.hevc_sequence_set.specs.Sps.{plain_sps}
use Rattle.hevc_tables.specs.SliceHeaderTable.{ActiveSets}
use Rattle.hevc_picture_slice.specs.Pps.{plain_pps}
use Rattle.hevc_picture_slice.specs.SliceHeader.{plain_slice_header}
use Rattle.hevc_picture_slice.specs.declared.slice_header.SliceHeader.{SliceHeader}
use Rattle.hevc_syntax_text.specs.declared.variables.Variables.TheVariants.{OfPicture}
use Rattle.hevc_syntax_text.specs.Order.{behind_picture, head_at}
use Rattle.hevc_syntax_text.specs.Variables.{slice_qp_y, told_count}
use Rattle.hevc_syntax_text.proofs.variables.slice_variables.Goals as goal

pub returns-clause-variables : goal.returns-clause-variables
returns-clause-variables c =
    let s = c.args.slice.now in
    let h = plain_slice_header s.header in
    let pps = plain_pps c.args.pps.now in
    let sets : ActiveSets = record { sps = plain_sps c.args.sps.now; pps = pps } in
    let count = told_count (head_at c.args.counting.now s.nalu h sets) in
    let first : s.header.first_slice_segment_in_pic_flag ≡ true =
    ap (λ (h : SliceHeader). h.first_slice_segment_in_pic_flag) (sym c.header-header.ensures) ∙ c.if-not-header.false in
    let qp : to_z w32 (of_z w32 c.slice_qp_y-slice_qp.result) ≡ c.slice_qp_y-slice_qp.result =
    (let few = c.slice_qp_y-slice_qp.type_inv in omega (arith, ints, few)) in
    ap (λ (n : Option ℤ). Some (OfPicture n (to_z w32 (of_z w32 c.slice_qp_y-slice_qp.result))))
    (c.begin-order_count.ensures.count pps)
    ∙ ap (λ (n : ℤ). Some (OfPicture count n)) (qp ∙ c.slice_qp_y-slice_qp.ensures
    ∙ ap (λ (h : SliceHeader). slice_qp_y pps (plain_slice_header h)) c.header-header.ensures)
    ∙ sym (ap (λ (b : Bool). cond b (Some (OfPicture count (slice_qp_y pps h))) None) first)

pub returns-clause-counting : goal.returns-clause-counting
returns-clause-counting c =
    let s = c.args.slice.now in
    let old = c.args.counting.now in
    let pps = plain_pps c.args.pps.now in
    let sets : ActiveSets = record { sps = plain_sps c.args.sps.now; pps = pps } in
    let first : s.header.first_slice_segment_in_pic_flag ≡ true =
    ap (λ (h : SliceHeader). h.first_slice_segment_in_pic_flag) (sym c.header-header.ensures) ∙ c.if-not-header.false in
    c.begin-order_count.ensures.behind pps
    ∙ sym (ap (λ (b : Bool). cond b (behind_picture (head_at old s.nalu (plain_slice_header s.header) sets) old) old)
    first)
