-- Reference picture lists, as the walk has them.
use Rattle.std.specs.Prelude.{◌≡◌, ℕ, Bool, List, [], ◌∷◌, ◌++◌, map, if◌then◌else◌, Option, Some}
use Rattle.std.specs.Prelude.{option_map}
use Rattle.hevc_walk_inputs.specs.Headers.{slice_header_of}
use Rattle.hevc_picture_slice.specs.declared.slice_header.SliceHeader.{SliceHeader}
use Rattle.hevc_picture_slice.specs.SliceHeader.{plain_slice_header}
use Rattle.hevc_walk.specs.Meanings.{Slice}
use Rattle.hevc_walk.specs.ReferenceLists as walk
use Rattle.hevc_refs.specs.declared.ref_pic_list.RefPicListEntry.{RefPicListEntry}
use Rattle.hevc_refs.specs.declared.ref_pic_list.RefPicListEntry.TheVariants.{CurrentPicture}
use Rattle.hevc_refs.specs.declared.ref_pic_list.RefPicListEntry.TheVariants.{DpbEntry}
use Rattle.hevc_refs.specs.declared.ref_pic_list.RefPicList.{RefPicList}

abbrev pub places_of : RefPicList → List (Option RefPicListEntry)
places_of l = l.entries.items

abbrev pub plain_place : RefPicListEntry → walk.RefPicListEntry
plain_place CurrentPicture = walk.CurrentPicture
plain_place (DpbEntry number) = walk.DpbEntry number

abbrev pub plain_places : List (Option RefPicListEntry) → List (Option walk.RefPicListEntry)
plain_places places = map (option_map plain_place) places

-- what a list is taken from, gone through once (8-8, 8-10)
abbrev pub base_places : List (Option ℕ) → List (Option ℕ) → List (Option ℕ) → Bool
    → List (Option walk.RefPicListEntry)
base_places first second long_term has_current =
    map walk.entry_of_number (first ++ second ++ long_term)
    ++ (if has_current then Some walk.CurrentPicture ∷ [] else [])

-- a slice of the walk has this header, and its picture set this flag
pub record HasHeader (s : Slice) (header : SliceHeader) (curr_pic_ref_enabled : Bool) : Type 0 where
  pub same_header : s.header ≡ slice_header_of (plain_slice_header header)
  pub same_flag : s.pps_curr_pic_ref_enabled_flag ≡ curr_pic_ref_enabled
