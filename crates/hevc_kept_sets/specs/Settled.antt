-- Which of the units that wait are worth another try: those that name a sequence set which changed.
use Rattle.std.specs.Prelude.{ℕ, Bool, true, false, ◌||◌, ◌==◌, List, Option, Some, None}
use Rattle.std.specs.Int.{bit_at}
use Rattle.std.specs.List.{list_any}
use Rattle.hevc_stream.specs.Options.{Options}
use Rattle.hevc_stream.specs.Kept.{Kept}
use Rattle.hevc_stream.specs.Contents.{Content, unread_picture_set, content}
use Rattle.hevc_stream_laws.specs.KeptWell.{sequence_set_named}

-- the id of the sequence set that the unit of a picture set names, if its first two rows can be
-- read; its temporal id doesn't count
abbrev pub named_set : List ℕ → Option ℕ
named_set bytes = sequence_set_named 0 bytes

-- an id is one of these, which have a bit each
abbrev pub has_id : ℕ → ℕ → Bool
has_id ids id = bit_at ids id == 1

-- there is no id, or it is one of these
abbrev pub is_none_or_among : ℕ → Option ℕ → Bool
is_none_or_among ids None = true
is_none_or_among ids (Some id) = has_id ids id

-- there is an id, and it is this one
abbrev pub is_id : ℕ → Option ℕ → Bool
is_id k None = false
is_id k (Some id) = k == id

-- the sequence set of an id is named by one of these units
abbrev pub is_named_by : List (List ℕ) → ℕ → Bool
is_named_by units k = list_any (λ bytes. is_id k (named_set bytes)) units

-- a unit names no sequence set but those of these ids
abbrev pub names_no_other : ℕ → List ℕ → Bool
names_no_other ids bytes = is_none_or_among ids (named_set bytes)

-- a sequence set is named, by one of these ids
abbrev pub is_among : ℕ → Option ℕ → Bool
is_among ids None = false
is_among ids (Some id) = has_id ids id

-- a picture set that can't be read
abbrev pub is_unread : Content → Bool
is_unread unread_picture_set = true
is_unread other = false

-- a unit names a sequence set that changed, or it can't be read with the sets that are kept
abbrev pub is_settled : ℕ → Options → Kept → List ℕ → Bool
is_settled changed options kept bytes =
    is_among changed (named_set bytes) || is_unread (content options kept bytes)
