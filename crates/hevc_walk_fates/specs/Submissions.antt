-- The pictures that are submitted.
use Rattle.std.specs.Prelude.{ℕ, List, [], ◌∷◌}
use Rattle.hevc_walk.specs.Meanings.{Meaning}
use Rattle.hevc_walk.specs.Walk.{Call, NewSequence, NewPicture, BeginPicture, DecodeSlice}
use Rattle.hevc_walk.specs.Walk.{SubmitPicture}
use Rattle.hevc_walk.specs.Results.{calls}

abbrev pub submitted_in : List (ℕ × Call) → List ℕ
submitted_in [] = []
submitted_in ((k, SubmitPicture number) ∷ cs) = number ∷ submitted_in cs
submitted_in ((k, NewSequence info) ∷ cs) = submitted_in cs
submitted_in ((k, NewPicture number t c o s) ∷ cs) = submitted_in cs
submitted_in ((k, BeginPicture number set) ∷ cs) = submitted_in cs
submitted_in ((k, DecodeSlice number address bytes list0 list1) ∷ cs) = submitted_in cs

abbrev pub submitted_numbers : List Meaning → List ℕ
submitted_numbers us = submitted_in (calls us)
