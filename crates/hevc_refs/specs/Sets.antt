-- Reference picture sets, as the walk has them.
use Rattle.hevc_walk.specs.ReferenceSets as walk
use Rattle.hevc_refs.specs.declared.ref_pic_set.RefPicSet.{RefPicSet}

abbrev pub plain_set : RefPicSet → walk.RefPicSet
plain_set s = record {
  st_curr_before = s.st_curr_before.items;
  st_curr_after = s.st_curr_after.items;
  st_foll = s.st_foll.items;
  lt_curr = s.lt_curr.items;
  lt_foll = s.lt_foll.items;
}
