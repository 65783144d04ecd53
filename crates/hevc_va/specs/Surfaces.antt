-- Pictures by their surfaces, as VA-API takes them.
use Rattle.std.specs.Prelude.{ℕ, ℤ, pos, ◌==◌, Bool, List, Option, replicate, unwrap_or}
use Rattle.std.specs.List.{find}
use Rattle.std.specs.Option.{is_some, option_map}
use Rattle.hevc_va.specs.declared.surfaces.VaPictureHevc.{VaPictureHevc}
use Rattle.hevc_va.specs.declared.surfaces.VaSurface.{VaSurface}

-- VA_INVALID_SURFACE
abbrev pub invalid_surface : ℕ
invalid_surface = 4294967295

abbrev pub picture_at : (surface : ℕ) → (order_count : ℤ) → (flags : ℕ) → VaPictureHevc
picture_at surface order_count flags = record {
  picture_id = surface;
  pic_order_cnt = order_count;
  flags = flags;
  va_reserved = replicate 4 0;
}

-- a place without a picture: VA_PICTURE_HEVC_INVALID
abbrev pub no_picture : VaPictureHevc
no_picture = picture_at invalid_surface (pos 0) 1

abbrev pub has_number : ℕ → VaSurface → Bool
has_number number surface = surface.number == number

-- the first one that was given for the picture of this number
abbrev pub surface_of : List VaSurface → (number : ℕ) → Option ℕ
surface_of surfaces number =
    option_map (λ (s : VaSurface). s.surface) (find (has_number number) surfaces)

abbrev pub has_surface : List VaSurface → (number : ℕ) → Bool
has_surface surfaces number = is_some (surface_of surfaces number)

-- a picture whose surface wasn't given has none
abbrev pub surface_or_none : List VaSurface → (number : ℕ) → ℕ
surface_or_none surfaces number = unwrap_or (surface_of surfaces number) invalid_surface
