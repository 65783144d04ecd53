use Rattle.std.proofs.Common.{◌≡◌, ◌≤◌, pos, map, filter, not}
use Rattle.arrayvec.specs.ArrayVec.{array_vec_len}
use Rattle.hevc_walk_inputs.specs.Headers.{long_term_member}
use Rattle.hevc_picture_slice.specs.SliceHeader.{plain_slice_header}
use Rattle.hevc_walk.specs.Meanings.{Slice}
use Rattle.hevc_walk.specs.Pictures.{Head}
use Rattle.hevc_walk.specs.ReferenceSets.{long_term_entry, is_curr_long_term}
use Rattle.hevc_walk.specs.ReferenceLists.{numbers_below}
use Rattle.hevc_dpb.specs.Views.{buffer_of}
use Rattle.hevc_refs.proofs.long_term.find_long_term.Given as goal

abbrev pub invariant-loop-i : goal.invariant-loop-i
invariant-loop-i g l = record {
  few_curr : array_vec_len l.curr ≤ l.i;
  few_foll : array_vec_len l.foll ≤ l.i;
  curr : (p : Head) (first : Slice) → l.order_count ≡ p.order_count → l.modulus ≡ pos first.max_pic_order_cnt_lsb
      → l.curr.items ≡ map (long_term_entry p first (buffer_of l.dpb))
      (filter is_curr_long_term (map (long_term_member (plain_slice_header l.header)) (numbers_below l.i)));
  foll : (p : Head) (first : Slice) → l.order_count ≡ p.order_count → l.modulus ≡ pos first.max_pic_order_cnt_lsb
      → l.foll.items ≡ map (long_term_entry p first (buffer_of l.dpb))
      (filter (λ m. not (is_curr_long_term m))
      (map (long_term_member (plain_slice_header l.header)) (numbers_below l.i)));
}
