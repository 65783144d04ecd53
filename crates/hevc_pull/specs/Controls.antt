-- What is filled for Linux's stateless decoders, as C sees it.
use Rattle.std.specs.Prelude.{◌≡◌, ◌⊎◌, ℕ, ◌++◌, List, length, drop, Option, Some, None, Result, Ok}
use Rattle.std.specs.Prelude.{Err}
use Rattle.hevc_v4l2.specs.declared.error.ControlError.{ControlError}
use Rattle.hevc_v4l2.specs.declared.error.ControlError.TheVariants.{TileColumns, TileRows, UnitSize}
use Rattle.hevc_v4l2.specs.declared.error.ControlError.TheVariants.{ShortTermSize}
use Rattle.hevc_v4l2.specs.declared.error.ControlError.TheVariants.{ChromaDenominator, LumaOffset}
use Rattle.hevc_v4l2.specs.declared.error.ControlError.TheVariants.{ChromaOffset, CurrentPicture}
use Rattle.hevc_v4l2.specs.declared.error.ControlError.TheVariants.{NoRoom, EntryPoint}
use Rattle.hevc_v4l2.specs.declared.slice.SliceControls.{SliceControls}
use Rattle.hevc_v4l2.specs.EntryPoints.{entry_points, entry_points_error}
use Rattle.hevc_queue.specs.declared.controls.PictureControls.{PictureControls}
use Rattle.hevc_queue.specs.Controls.{latest_offsets_minus1, latest_picture_controls}
use Rattle.hevc_queue.specs.Controls.{latest_slice_controls}
use Rattle.hevc_queue.specs.Queue.{given_wanted, with_controls}
use Rattle.hevc_pull.specs.declared.decoder.PullDecoder.{PullDecoder}
use Rattle.hevc_pull.specs.Pulling.{KeepsCounted}
use Rattle.hevc_pull.specs.Views.{kept_of, options_for, view_in}

-- each thing that can't be held has a status of its own
abbrev pub status_of_control : ControlError → ℕ
status_of_control TileColumns = 20
status_of_control TileRows = 21
status_of_control UnitSize = 22
status_of_control ShortTermSize = 23
status_of_control ChromaDenominator = 24
status_of_control LumaOffset = 25
status_of_control ChromaOffset = 26
status_of_control CurrentPicture = 27
status_of_control NoRoom = 28
status_of_control EntryPoint = 29

-- What was filled is told; what can't be held is told by its status, and status 19 that nothing was
-- filled: then the struct stays.
abbrev pub Fills : {X : Type 0} → (filled : Option (Result X ControlError)) → (old new : X)
    → (status : ℕ) → Type 0
Fills None old new status = (status ≡ 19) × (new ≡ old)
Fills (Some (Ok struct)) old new status = (status ≡ 0) × (new ≡ struct)
Fills (Some (Err error)) old new status = (status ≡ status_of_control error) × (new ≡ old)

-- the structs of the latest picture that began since any are wanted,
-- by what the call on the backend was given
abbrev pub FillsPicture : (before now : PullDecoder) → (old new : PictureControls) → (status : ℕ)
    → Type 0
FillsPicture before now old new status =
    (now ≡ before)
    × Fills (latest_picture_controls (given_wanted (view_in before).backend)) old new status

-- that of its latest slice segment
abbrev pub FillsSlice : (before now : PullDecoder) → (old new : SliceControls) → (status : ℕ)
    → Type 0
FillsSlice before now old new status =
    (now ≡ before)
    × Fills (latest_slice_controls (given_wanted (view_in before).backend)) old new status

-- Entry points are written to the first of the places; why not is told by the status, and then all
-- places stay.
abbrev pub Writes : (error : Option ControlError) → (points old new : List ℕ) → (status : ℕ)
    → Type 0
Writes None points old new status =
    (status ≡ 0) × (new ≡ points ++ drop (length points) old)
Writes (Some error) points old new status = (status ≡ status_of_control error) × (new ≡ old)

-- Those of this slice segment are written, and how many there are is told. Without one all stays.
abbrev pub TellsEntryPoints : (offsets_minus1 : Option (List ℕ)) → (old new : List ℕ)
    → (count count' : ℕ) → (status : ℕ) → Type 0
TellsEntryPoints None old new count count' status =
    (status ≡ 19) × (new ≡ old) × (count' ≡ count)
TellsEntryPoints (Some offsets_minus1) old new count count' status =
    (count' ≡ length offsets_minus1)
    × Writes (entry_points_error offsets_minus1 (length old)) (entry_points offsets_minus1)
    old new status

-- those of the latest slice segment
abbrev pub TellsLatestEntryPoints : (before now : PullDecoder) → (old new : List ℕ)
    → (count count' : ℕ) → (status : ℕ) → Type 0
TellsLatestEntryPoints before now old new count count' status =
    (now ≡ before)
    × TellsEntryPoints (latest_offsets_minus1 (given_wanted (view_in before).backend))
    old new count count' status

-- structs are wanted from here on, or an allocation failed
pub record WantsControls (before now : PullDecoder) (status : ℕ) : Type 0 where
  pub view : ((status ≡ 0) × (view_in now ≡ record (view_in before)
      { backend = with_controls (view_in before).backend }))
      ⊎ ((status ≡ 4) × (view_in now ≡ view_in before))
  pub counted : KeepsCounted before now
  pub kept : kept_of now ≡ kept_of before
  pub options : options_for now ≡ options_for before
