-- Reference picture lists as VA-API takes them.
use Rattle.std.specs.Prelude.{ℕ, ◌||◌, nat_lt, List, length, map, if◌then◌else◌, Option, Some, None}
use Rattle.hevc_records.specs.Pps.{PlainPps}
use Rattle.hevc_dpb.specs.declared.entry.DpbEntry.{DpbEntry}
use Rattle.hevc_refs.specs.declared.ref_pic_list.RefPicListEntry.{RefPicListEntry}
use Rattle.hevc_refs.specs.declared.ref_pic_list.RefPicListEntry.TheVariants as place
use Rattle.hevc_v4l2.specs.Buffer.{number_index}
use Rattle.hevc_va.specs.declared.error.VaError.{VaError}
use Rattle.hevc_va.specs.declared.error.VaError.TheVariants.{ReferenceList, References}
use Rattle.hevc_va.specs.Arrays.{in_places}
use Rattle.hevc_va.specs.References.{frame_count}

-- where the current picture is among the pictures that it may refer to: after the reference pictures
-- of these numbers; 255 where it may not refer to itself
abbrev pub current_index : PlainPps → (numbers : List ℕ) → ℕ
current_index p numbers =
    if p.scc_extension.curr_pic_ref_enabled_flag then length numbers else 255

-- where the picture of a place of a list (8.3.4) is among them, 255 where it isn't
abbrev pub place_index : (numbers : List ℕ) → (current : ℕ) → Option RefPicListEntry → ℕ
place_index numbers current None = 255
place_index numbers current (Some place.CurrentPicture) = current
place_index numbers current (Some (place.DpbEntry number)) = number_index numbers number

-- those of a list, in fifteen places
abbrev pub list_indices : PlainPps → (numbers : List ℕ) → List (Option RefPicListEntry) → List ℕ
list_indices p numbers places =
    in_places 15 255 (map (place_index numbers (current_index p numbers)) places)

-- the first reason that they can't be told
abbrev pub lists_error : PlainPps → (stored : List (DpbEntry ℕ))
    → (places0 places1 : List (Option RefPicListEntry)) → Option VaError
lists_error p stored places0 places1 =
    if nat_lt 15 (frame_count p stored) then Some References
    else if nat_lt 15 (length places0) || nat_lt 15 (length places1) then Some ReferenceList
    else None
