-- A picture with the extensions of its sets as VA-API takes it.
use Rattle.std.specs.Prelude.{ℕ, List, Option}
use Rattle.std.specs.Option.{option_or}
use Rattle.hevc_records.specs.Sps.{PlainSps}
use Rattle.hevc_records.specs.Pps.{PlainPps}
use Rattle.hevc_picture_slice.specs.declared.slice.Slice.{Slice}
use Rattle.hevc_walk.specs.ReferenceSets.{RefPicSet}
use Rattle.hevc_pictures.specs.declared.picture_data.PictureData.{PictureData}
use Rattle.hevc_dpb.specs.declared.entry.DpbEntry.{DpbEntry}
use Rattle.hevc_va.specs.declared.error.VaError.{VaError}
use Rattle.hevc_va.specs.declared.surfaces.VaSurface.{VaSurface}
use Rattle.hevc_va.specs.declared.extension.VaPictureParameterBufferHevcExtension.{VaPictureParameterBufferHevcExtension}
use Rattle.hevc_va.specs.Picture.{buffer_of_picture, picture_error}
use Rattle.hevc_va.specs.Range.{buffer_of_ranges, range_error}
use Rattle.hevc_va.specs.ScreenContent.{buffer_of_screen_content, screen_content_error}

-- the first thing that one of the structs can't hold
abbrev pub picture_extension_error : PlainSps → PlainPps → (stored : List (DpbEntry ℕ))
    → List VaSurface → Option VaError
picture_extension_error s p stored surfaces =
    option_or (picture_error p stored surfaces)
    (option_or (range_error p.range_extension) (screen_content_error s.scc_extension p.scc_extension))

abbrev pub buffer_of_picture_extension : PictureData → (first : Slice) → PlainSps → PlainPps
    → (stored : List (DpbEntry ℕ)) → RefPicSet → (surface : ℕ) → List VaSurface
    → VaPictureParameterBufferHevcExtension
buffer_of_picture_extension picture first s p stored set surface surfaces = record {
  base = buffer_of_picture picture first s p stored set surface surfaces;
  rext = buffer_of_ranges s.range_extension p.range_extension;
  scc = buffer_of_screen_content s.scc_extension p.scc_extension;
}
