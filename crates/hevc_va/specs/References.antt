-- The pictures that a picture may refer to, as VA-API takes them.
use Rattle.std.specs.Prelude.{ℕ, ◌+◌, ◌==◌, Bool, true, false, not, nat_lt, List, [], ◌∷◌, ◌++◌}
use Rattle.std.specs.Prelude.{length, map, filter, if◌then◌else◌, Option, Some, None}
use Rattle.std.specs.List.{list_all, list_any}
use Rattle.hevc_records.specs.Pps.{PlainPps}
use Rattle.hevc_walk.specs.ReferenceSets.{RefPicSet}
use Rattle.hevc_pictures.specs.declared.picture_data.PictureData.{PictureData}
use Rattle.hevc_pictures.specs.declared.reference.Reference.{Reference}
use Rattle.hevc_pictures.specs.declared.reference.Reference.TheVariants.{None as Unmarked}
use Rattle.hevc_pictures.specs.declared.reference.Reference.TheVariants.{ShortTerm, LongTerm}
use Rattle.hevc_pictures.specs.Marks.{reference_of}
use Rattle.hevc_dpb.specs.declared.entry.DpbEntry.{DpbEntry}
use Rattle.hevc_dpb.specs.Entries.{is_ref, reference_numbers}
use Rattle.hevc_events.specs.Flags.{flags_of}
use Rattle.hevc_va.specs.declared.error.VaError.{VaError}
use Rattle.hevc_va.specs.declared.error.VaError.TheVariants.{NoSurface, References}
use Rattle.hevc_va.specs.declared.surfaces.VaPictureHevc.{VaPictureHevc}
use Rattle.hevc_va.specs.declared.surfaces.VaSurface.{VaSurface}
use Rattle.hevc_va.specs.Surfaces.{has_surface, picture_at, surface_or_none}

-- a member of a reference picture set (8.3.2) is the picture of this number
abbrev pub names : ℕ → Option ℕ → Bool
names number None = false
names number (Some named) = named == number

abbrev pub is_named : (members : List (Option ℕ)) → ℕ → Bool
is_named members number = list_any (names number) members

abbrev pub is_long_term : Reference → Bool
is_long_term Unmarked = false
is_long_term ShortTerm = false
is_long_term LongTerm = true

-- in the order of VA_PICTURE_HEVC_*: INVALID, FIELD_PIC, BOTTOM_FIELD, LONG_TERM_REFERENCE,
-- RPS_ST_CURR_BEFORE, RPS_ST_CURR_AFTER, RPS_LT_CURR
abbrev pub reference_flags : RefPicSet → DpbEntry ℕ → ℕ
reference_flags set e =
    flags_of
    (false ∷
    false ∷
    false ∷
    is_long_term (reference_of e.picture) ∷
    is_named set.st_curr_before e.number ∷
    is_named set.st_curr_after e.number ∷
    is_named set.lt_curr e.number ∷ [])

-- a reference picture of the buffer
abbrev pub frame_of : RefPicSet → List VaSurface → DpbEntry ℕ → VaPictureHevc
frame_of set surfaces e =
    picture_at (surface_or_none surfaces e.number) e.picture.pic_order_cnt_val (reference_flags set e)

-- The current picture, which is marked as used for long-term reference while it is decoded and
-- refers to itself (8.1.3): VA_PICTURE_HEVC_LONG_TERM_REFERENCE.
abbrev pub current_reference : PictureData → (surface : ℕ) → VaPictureHevc
current_reference picture surface = picture_at surface picture.pic_order_cnt_val 8

-- the reference pictures of the buffer in stored order, and after them the current picture where
-- it may refer to itself
abbrev pub frames_of : PictureData → PlainPps → (stored : List (DpbEntry ℕ)) → RefPicSet
    → (surface : ℕ) → List VaSurface → List VaPictureHevc
frames_of picture p stored set surface surfaces =
    map (frame_of set surfaces) (filter is_ref stored)
    ++ (if p.scc_extension.curr_pic_ref_enabled_flag then current_reference picture surface ∷ []
    else [])

-- how many they are
abbrev pub frame_count : PlainPps → (stored : List (DpbEntry ℕ)) → ℕ
frame_count p stored =
    length (reference_numbers stored)
    + (if p.scc_extension.curr_pic_ref_enabled_flag then 1 else 0)

-- the first reason that they aren't in fifteen places
abbrev pub frames_error : PlainPps → (stored : List (DpbEntry ℕ)) → List VaSurface → Option VaError
frames_error p stored surfaces =
    if nat_lt 15 (frame_count p stored) then Some References
    else if not (list_all (has_surface surfaces) (reference_numbers stored)) then Some NoSurface
    else None
