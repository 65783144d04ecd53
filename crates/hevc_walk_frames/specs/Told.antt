-- The ends that are told of pictures as units are gone through.
use Rattle.std.specs.Prelude.{ℕ, if◌then◌else◌, List, [], ◌∷◌}
use Rattle.hevc_walk.specs.Walk.{Event, Called, Output, NewSequence, NewPicture, BeginPicture}
use Rattle.hevc_walk.specs.Walk.{DecodeSlice, SubmitPicture}

-- the numbers of the pictures that aren't to be output, as they begin, and of those that are output
abbrev pub ends_in : List Event → List ℕ
ends_in [] = []
ends_in (Called (NewPicture number nal_unit_type order_count output timestamp) ∷ es) =
    if output then ends_in es else number ∷ ends_in es
ends_in (Called (NewSequence info) ∷ es) = ends_in es
ends_in (Called (BeginPicture number set) ∷ es) = ends_in es
ends_in (Called (DecodeSlice number address bytes list0 list1) ∷ es) = ends_in es
ends_in (Called (SubmitPicture number) ∷ es) = ends_in es
ends_in (Output number order_count ∷ es) = number ∷ ends_in es
