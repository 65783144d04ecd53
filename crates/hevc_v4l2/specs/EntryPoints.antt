-- The entry points of a slice segment as Linux's stateless decoders take them: what is given of it to
-- V4L2_CID_STATELESS_HEVC_ENTRY_POINT_OFFSETS, which has those of all slices of a request, in order.
use Rattle.std.specs.Prelude.{ℕ, ◌+◌, Bool, not, nat_lt, List, length, map, if◌then◌else◌, Option}
use Rattle.std.specs.Prelude.{Some, None}
use Rattle.std.specs.List.{list_all}
use Rattle.hevc_v4l2.specs.declared.error.ControlError.{ControlError}
use Rattle.hevc_v4l2.specs.declared.error.ControlError.TheVariants.{EntryPoint, NoRoom}

-- The bytes from each entry point to the next one (7.4.7.1), of which the syntax has 1 less.
abbrev pub entry_points : (offsets_minus1 : List ℕ) → List ℕ
entry_points offsets_minus1 = map (λ n. n + 1) offsets_minus1

-- with 1 more it takes 32 bits
abbrev pub is_held : (offset_minus1 : ℕ) → Bool
is_held offset_minus1 = nat_lt offset_minus1 4294967295

-- the first reason not to write them where there is room for so many
abbrev pub entry_points_error : (offsets_minus1 : List ℕ) → (room : ℕ) → Option ControlError
entry_points_error offsets_minus1 room =
    if nat_lt room (length offsets_minus1) then Some NoRoom
    else if not (list_all is_held offsets_minus1) then Some EntryPoint
    else None
