-- Reference picture lists whose order isn't told.
use Rattle.std.specs.Prelude.{◌≡◌, false}
use Rattle.hevc_set_parts.specs.declared.ref_pic_list_modification.RefPicListModification.{RefPicListModification}

pub record IsUnordered (m : RefPicListModification) : Type 0 where
  pub l0 : m.ref_pic_list_modification_flag_l0 ≡ false
  pub l1 : m.ref_pic_list_modification_flag_l1 ≡ false
