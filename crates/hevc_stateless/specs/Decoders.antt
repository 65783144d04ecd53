-- What contracts see of a decoder.
use Rattle.std.specs.Prelude.{List, Option, Result}
use Rattle.hevc_stream.specs.Kept.{Kept}
use Rattle.hevc_stream.specs.Options.{Options}
use Rattle.hevc_kept_sets.specs.Kept.{kept_of, options_in}
use Rattle.hevc_backend.specs.declared.call.Call.{Call}
use Rattle.hevc_backend.specs.Handed.{Handed}
use Rattle.hevc_backend.specs.Trait.{Counts, Frames}
use Rattle.hevc_driver.specs.declared.decode_error.DecodeError.{DecodeError}
use Rattle.hevc_stateless.specs.declared.decoder.StatelessDecoder.{StatelessDecoder}
use Rattle.hevc_stateless.specs.Views.{View, IsFairSeen}
use Rattle.hevc_stateless.specs.Steps.{Seen, seen}

-- its backend, its state, and what the pictures so far mean
abbrev pub view_of : {B H P : Type 0} → StatelessDecoder B H P → View B H
view_of d = d.session

-- the parameter sets that it keeps, and the units that wait
abbrev pub kept_in : {B H P : Type 0} → StatelessDecoder B H P → Kept
kept_in d = kept_of d.kept

-- what is set for decoding
abbrev pub set_for : {B H P : Type 0} → StatelessDecoder B H P → Options
set_for d = options_in d.kept

-- all of it, where backends expose these logs, and this of the questions for frames
abbrev pub seen_by : {B H P : Type 0} → (log : B → Option (List (Call H)))
    → (handed : B → Option (List Handed)) → (frames : B → Frames) → StatelessDecoder B H P
    → Seen B H
seen_by log handed frames d =
    seen (log d.session.backend) (handed d.session.backend) (frames d.session.backend).asked
    d.session d.kept

-- what an answer says of a decoder's backend
abbrev pub IsFairOver : {B H P I T : Type 0} → (counts : B → Counts) → (is_faultless : B → Type 0)
    → (tells : B → I) → (before now : StatelessDecoder B H P) → Result T DecodeError → Type 0
IsFairOver counts is_faultless tells before now result =
    IsFairSeen counts is_faultless tells (view_of before) (view_of now) result
