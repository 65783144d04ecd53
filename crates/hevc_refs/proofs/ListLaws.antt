-- Which lists a slice has by its type.
use Rattle.std.proofs.Common.{◌≡◌, ap, ◌∙◌}
use Rattle.std.specs.Prelude.{Bool}
use Rattle.hevc_set_parts.specs.declared.slice_type.SliceType.{SliceType}
use Rattle.hevc_set_parts.specs.SliceType.{slice_type_number}
use Rattle.hevc_picture_slice.specs.declared.slice_header.SliceHeader.{SliceHeader}
use Rattle.hevc_walk_inputs.specs.Headers.{slice_type_of}
use Rattle.hevc_walk.specs.Meanings as walk
use Rattle.hevc_walk.specs.ReferenceSets.{RefPicSet}
use Rattle.hevc_walk.specs.ReferenceLists.{list0_for, list1_for, ref_pic_list0, ref_pic_list1}
use Rattle.hevc_refs.specs.Lists.{HasHeader}

module _ (s : walk.Slice) (header : SliceHeader) (enabled : Bool) (h : HasHeader s header enabled)
    (type : SliceType) (is : header.type_ ≡ type) where
  type_is : s.slice_type ≡ slice_type_of (slice_type_number type)
  type_is = ap (λ (x : walk.SliceHeader). x.slice_type) h.same_header ∙ ap (λ t. slice_type_of (slice_type_number t)) is

  pub list0_by : (set : RefPicSet) → ref_pic_list0 set s ≡ list0_for (slice_type_of (slice_type_number type)) set s
  unfolding ref_pic_list0
  list0_by set = ap (λ t. list0_for t set s) type_is

  pub list1_by : (set : RefPicSet) → ref_pic_list1 set s ≡ list1_for (slice_type_of (slice_type_number type)) set s
  unfolding ref_pic_list1
  list1_by set = ap (λ t. list1_for t set s) type_is
