use Rattle.std.proofs.Common.{◌∙◌, ap, sym, Ok}
use Rattle.hevc_walk.specs.Pictures.{head}
use Rattle.hevc_syntax_text.specs.Order.{context_of}
use Rattle.hevc_syntax_text.proofs.Counted.{is_context, is_first, slice_at, signed_lsb, in_range, out_of_range}
use Rattle.hevc_syntax_text.proofs.Counted.{counted, uncounted, behind_tid0, behind_other, behind_none}
use Rattle.hevc_syntax_text.proofs.counting.Counting.begin.Goals as goal
use Rattle.hevc_syntax_text.proofs.counting.Counting.begin.Goals.{then-picture, else-picture}

pub returns-after-picture-clause-count : goal.returns-after-picture-clause-count
returns-after-picture-clause-count c pps =
    let old = c.args.self.now in
    let s = c.args.slice.now in
    let w = slice_at s c.args.sps.now pps in
    let lsb = signed_lsb c.max_pic_order_cnt_lsb.result c.args.sps.now.log2_max_pic_order_cnt_lsb_minus4
    c.args.sps.now.order_count_bits c.max_pic_order_cnt_lsb.ensures.value in
    let first = is_first s c.args.sps.now pps _
    (rw c.nalu.ensures at (c.header-header.ensures.parsed ∙ ap Ok c.header-header.ensures.value)) lsb in
    let told = c.in-Ok.ensures.told (context_of old) w (is_context old) first in
    let within = in_range c.new_after.result c.in-Ok.picture _ c.in-Ok.is
    (c.new_after.ensures.refused (context_of old) w (is_context old) first) in
    counted old (head (context_of old) w) c.in-Ok.picture.pic_order_cnt_val within told.told.order_count

pub returns-after-picture-clause-behind : goal.returns-after-picture-clause-behind
returns-after-picture-clause-behind c pps =
    let old = c.args.self.now in
    let s = c.args.slice.now in
    let w = slice_at s c.args.sps.now pps in
    let lsb = signed_lsb c.max_pic_order_cnt_lsb.result c.args.sps.now.log2_max_pic_order_cnt_lsb_minus4
    c.args.sps.now.order_count_bits c.max_pic_order_cnt_lsb.ensures.value in
    let first = is_first s c.args.sps.now pps _
    (rw c.nalu.ensures at (c.header-header.ensures.parsed ∙ ap Ok c.header-header.ensures.value)) lsb in
    let told = c.in-Ok.ensures.told (context_of old) w (is_context old) first in
    let within = in_range c.new_after.result c.in-Ok.picture _ c.in-Ok.is
    (c.new_after.ensures.refused (context_of old) w (is_context old) first) in
    let valid = sym told.told.valid_for_prev_tid0 in
    let h = head (context_of old) w in
    elim c.if-picture.branch [
      | then-picture w ↦ behind_tid0 old h c.if-picture.self c.in-Ok.picture.pic_order_cnt_val within
          (valid ∙ w.if-picture.true) told.told.order_count w.self-is
      | else-picture w ↦ behind_other old h c.if-picture.self within (valid ∙ w.if-picture.false) w.self-is
    ]

pub returns-in-Err-clause-count : goal.returns-in-Err-clause-count
returns-in-Err-clause-count c pps =
    let old = c.args.self.now in
    let s = c.args.slice.now in
    let w = slice_at s c.args.sps.now pps in
    let lsb = signed_lsb c.max_pic_order_cnt_lsb.result c.args.sps.now.log2_max_pic_order_cnt_lsb_minus4
    c.args.sps.now.order_count_bits c.max_pic_order_cnt_lsb.ensures.value in
    let first = is_first s c.args.sps.now pps _
    (rw c.nalu.ensures at (c.header-header.ensures.parsed ∙ ap Ok c.header-header.ensures.value)) lsb in
    uncounted old (head (context_of old) w) (out_of_range c.new_after.result c.in-Err.field-0 _ c.in-Err.is
    (c.new_after.ensures.refused (context_of old) w (is_context old) first))

pub returns-in-Err-clause-behind : goal.returns-in-Err-clause-behind
returns-in-Err-clause-behind c pps =
    let old = c.args.self.now in
    let s = c.args.slice.now in
    let w = slice_at s c.args.sps.now pps in
    let lsb = signed_lsb c.max_pic_order_cnt_lsb.result c.args.sps.now.log2_max_pic_order_cnt_lsb_minus4
    c.args.sps.now.order_count_bits c.max_pic_order_cnt_lsb.ensures.value in
    let first = is_first s c.args.sps.now pps _
    (rw c.nalu.ensures at (c.header-header.ensures.parsed ∙ ap Ok c.header-header.ensures.value)) lsb in
    behind_none old (head (context_of old) w) (out_of_range c.new_after.result c.in-Err.field-0 _ c.in-Err.is
    (c.new_after.ensures.refused (context_of old) w (is_context old) first))
