-- What is filled after one more call.
use Rattle.std.proofs.Common.{◌≡◌, List, [], ◌∷◌, ◌++◌, length, drop, Option, Some, None}
use Rattle.std.proofs.Common.{refl, ap, sym, ◌∙◌, arith}
use Rattle.std.specs.Option.{option_map}
use Rattle.std.proofs.lemmas.List.{drop-append-le, length_push}
use Rattle.std.proofs.lemmas.List.Sums.{fold-append}
use Rattle.hevc_queue.specs.declared.controls.SegmentControls.{SegmentControls}
use Rattle.hevc_queue.specs.declared.controls.Controls.{Controls}
use Rattle.hevc_queue.specs.declared.given.BegunPicture.{BegunPicture}
use Rattle.hevc_queue.specs.declared.given.GivenSlice.{GivenSlice}
use Rattle.hevc_queue.specs.declared.given.Given.{Given}
use Rattle.hevc_queue.specs.declared.given.Given.TheVariants.{Begun, Slice}
use Rattle.hevc_queue.specs.Given.{begun_after, latest_begun, latest_slice, slice_after}
use Rattle.hevc_queue.specs.Controls.{AreOfCalls, begun_controls, controls_of, segment_of_picture}
use Rattle.hevc_queue.specs.Controls.{with_begun, with_slice}

begun_more : (given : List Given) (g : Given)
    → latest_begun (given ++ g ∷ []) ≡ begun_after (latest_begun given) g
begun_more given g = fold-append begun_after None given (g ∷ [])

slice_more : (given : List Given) (g : Given)
    → latest_slice (given ++ g ∷ []) ≡ slice_after (latest_slice given) g
slice_more given g = fold-append slice_after None given (g ∷ [])

-- what is filled changes with a picture that begins
filled_begins : (given : List Given) (b : BegunPicture)
    → controls_of (given ++ Begun b ∷ []) ≡ with_begun b (controls_of given)
filled_begins given b = rw (begun_more given (Begun b), slice_more given (Begun b)) refl

-- with a slice segment that comes
filled_slices : (given : List Given) (s : GivenSlice)
    → controls_of (given ++ Slice s ∷ []) ≡ with_slice s (controls_of given)
filled_slices given s =
    rw (begun_more given (Slice s), slice_more given (Slice s))
    (of_latest (latest_begun given) (segment_of_picture (latest_begun given) (latest_slice given)))
  where
    filled : Option BegunPicture → Option SegmentControls → Controls
    filled latest slice = record { begun = option_map begun_controls latest; slice = slice }

    of_latest : (latest : Option BegunPicture) (before : Option SegmentControls)
        → filled latest (segment_of_picture latest (Some s)) ≡ with_slice s (filled latest before)
    of_latest None before = refl
    of_latest (Some b) before = refl

-- and with no other call
filled_stays : (given : List Given) (g : Given)
    → ((latest : Option BegunPicture) → begun_after latest g ≡ latest)
    → ((latest : Option GivenSlice) → slice_after latest g ≡ latest)
    → controls_of (given ++ g ∷ []) ≡ controls_of given
filled_stays given g same_begun same_slice =
    rw (begun_more given g ∙ same_begun (latest_begun given), slice_more given g ∙ same_slice (latest_slice given)) refl

-- the calls since structs are wanted are one more
filled_more : (before given : List Given) (g : Given) (controls controls' : Controls)
    → AreOfCalls (Some controls) before given
    → controls_of (drop (length before) given ++ g ∷ []) ≡ controls'
    → AreOfCalls (Some controls') before (given ++ g ∷ [])
filled_more before given g controls controls' held is =
    let more = drop-append-le (length before) given (g ∷ []) held.0 in
    (omega (arith, held.0, length_push given g), sym (ap controls_of more ∙ is))

-- the call changes neither the latest picture nor its latest slice segment
pub latest_stay : (before given : List Given) (g : Given) (controls : Option Controls)
    → ((latest : Option BegunPicture) → begun_after latest g ≡ latest)
    → ((latest : Option GivenSlice) → slice_after latest g ≡ latest)
    → AreOfCalls controls before given → AreOfCalls controls before (given ++ g ∷ [])
latest_stay before given g None same_begun same_slice held = tt
latest_stay before given g (Some controls) same_begun same_slice held =
    filled_more before given g controls controls held
    (filled_stays (drop (length before) given) g same_begun same_slice ∙ sym held.1)

-- a picture begins: its structs are filled, where any are wanted
pub latest_begins : (before given : List Given) (b : BegunPicture) (controls controls' : Option Controls)
    → controls' ≡ option_map (with_begun b) controls
    → AreOfCalls controls before given → AreOfCalls controls' before (given ++ Begun b ∷ [])
latest_begins before given b None controls' is held = rw is tt
latest_begins before given b (Some controls) controls' is held =
    rw is
    (filled_more before given (Begun b) controls (with_begun b controls) held
    (filled_begins (drop (length before) given) b))

-- a slice segment comes: its struct is filled, where those of its picture were
pub latest_slices : (before given : List Given) (s : GivenSlice) (controls controls' : Option Controls)
    → controls' ≡ option_map (with_slice s) controls
    → AreOfCalls controls before given → AreOfCalls controls' before (given ++ Slice s ∷ [])
latest_slices before given s None controls' is held = rw is tt
latest_slices before given s (Some controls) controls' is held =
    rw is
    (filled_more before given (Slice s) controls (with_slice s controls) held
    (filled_slices (drop (length before) given) s ∙ ap (with_slice s) (sym held.1)))
