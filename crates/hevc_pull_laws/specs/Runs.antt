-- A run of a decoder's calls, and the ends of pictures that are told by it.
use Rattle.std.specs.Prelude.{◌≡◌, ℕ, ◌+◌, List, [], ◌∷◌, if◌then◌else◌, Option, Some, None}
use Rattle.hevc_walk.specs.Fates.{times}
use Rattle.hevc_pull.specs.declared.decoder.PullDecoder.{PullDecoder}
use Rattle.hevc_pull.specs.declared.calls.DecodeCall.{DecodeCall}
use Rattle.hevc_pull.specs.declared.pulled.Pulled.{Pulled}
use Rattle.hevc_pull.specs.declared.pulled.Pulled.TheVariants.{Asked, Output, Dropped, Skipped}
use Rattle.hevc_pull.specs.declared.pulled.Pulled.TheVariants.{FormatChanged}
use Rattle.hevc_pull.specs.Calls.{Accepts, Decodes, FlushesAll, SeeksNext}
use Rattle.hevc_pull.specs.Counting.{is_hiding}
use Rattle.hevc_pull.specs.Pulling.{PullsNext, telling}

-- A call of a decoder.
pub data Step : Type 0 where
  -- the first unit of these bytes is given
  Given : (bytes : List ℕ) → Step
  -- the next of what came of the units is taken, or none is left
  Taken : Option Pulled → Step
  -- the format that is awaited is accepted
  Accepted : Step
  -- the stream ends, or is left
  Flushed : Step
  Sought : Step

-- what it does, whatever it answers
abbrev pub Does : Step → (before now : PullDecoder) → Type 0
Does (Given bytes) before now =
    (given told : DecodeCall) × (status : ℕ) × Decodes bytes before now given told status
Does (Taken pulled) before now = PullsNext pulled (telling before) (telling now)
Does Accepted before now = (status : ℕ) × Accepts before now status
Does Flushed before now = (status : ℕ) × FlushesAll before now status
Does Sought before now = (status : ℕ) × SeeksNext before now status

-- one call after another
abbrev pub Runs : List Step → (before now : PullDecoder) → Type 0
Runs [] before now = now ≡ before
Runs (step ∷ steps) before now =
    (between : PullDecoder) × Does step before between × Runs steps between now

-- The end that is told of a picture, by its number: it is output, it never will be, it isn't decoded;
-- or it begins, and isn't to be output.
abbrev pub end_in : Option Pulled → List ℕ
end_in (Some (Asked event)) = if is_hiding event then event.number ∷ [] else []
end_in (Some (Output frame counted)) = frame.number ∷ []
end_in (Some (Dropped counted)) = counted.number ∷ []
end_in (Some (Skipped counted)) = counted.number ∷ []
end_in (Some FormatChanged) = []
end_in None = []

abbrev pub end_told : Step → List ℕ
end_told (Taken pulled) = end_in pulled
end_told other = []

-- how often the end of a picture is told
abbrev pub times_told : (number : ℕ) → List Step → ℕ
times_told number [] = 0
times_told number (step ∷ steps) = times number (end_told step) + times_told number steps
