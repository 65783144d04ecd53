use Rattle.hevc_records.specs.RefPicListModification.{PlainRefPicListModification}
use Rattle.hevc_set_parts.specs.declared.ref_pic_list_modification.RefPicListModification.{RefPicListModification}

-- the values of its fields
abbrev pub plain_ref_pic_list_modification : RefPicListModification → PlainRefPicListModification
plain_ref_pic_list_modification r = record {
  ref_pic_list_modification_flag_l0 = r.ref_pic_list_modification_flag_l0;
  list_entry_l0 = r.list_entry_l0.items;
  ref_pic_list_modification_flag_l1 = r.ref_pic_list_modification_flag_l1;
  list_entry_l1 = r.list_entry_l1.items;
}
