-- What a whole list of units asks for: calls, outputs and the verdict.
use Rattle.std.specs.Prelude.{ℕ, ℤ, List, [], ◌∷◌, ◌++◌, length, filter, flat_map, nat_lt, nat_eq}
use Rattle.std.specs.Prelude.{if◌then◌else◌, Option, Some, None, Result, Ok, Err}
use Rattle.hevc_walk.specs.Meanings.{Meaning}
use Rattle.hevc_walk.specs.Pictures.{Stream, pictures}
use Rattle.hevc_walk.specs.Walk.{Call, Event, Called, Output, at_unit, picture_events, store}
use Rattle.hevc_walk.specs.Walk.{latest_head, closing, is_full, full_store, earlier_of}
use Rattle.hevc_walk.specs.Refusals.{Refusal, DpbFull, stop, covered_stream}

abbrev pub walk_events : Stream → List (ℕ × Event)
walk_events v = picture_events v.first_set v.pictures

-- after the last unit, if nothing stops before; k is the number of units
abbrev pub ending : Option Refusal → ℕ → Stream → List (ℕ × Event)
ending None k v = at_unit k (closing (latest_head v.pictures) (store v.first_set v.pictures)).events
ending (Some refusal) k v = []

-- all that happens, each at its unit
abbrev pub events : List Meaning → List (ℕ × Event)
events us = walk_events (covered_stream us) ++ ending (stop us) (length us) (covered_stream us)

-- A picture that is output, and the unit at which it is.
pub record OutputPicture : Type 0 where
  pub number : ℕ
  pub order_count : ℤ
  pub unit : ℕ

abbrev pub call_at : ℕ → Event → List (ℕ × Call)
call_at k (Called call) = (k, call) ∷ []
call_at k (Output number order_count) = []

abbrev pub output_at : ℕ → Event → List OutputPicture
output_at k (Called call) = []
output_at k (Output number order_count) =
    record { number = number; order_count = order_count; unit = k } ∷ []

abbrev pub calls_in : List (ℕ × Event) → List (ℕ × Call)
calls_in es = flat_map (λ e. call_at e.0 e.1) es

abbrev pub outputs_in : List (ℕ × Event) → List OutputPicture
outputs_in es = flat_map (λ e. output_at e.0 e.1) es

-- the calls that the units ask for, each with its unit
abbrev pub calls : List Meaning → List (ℕ × Call)
calls us = calls_in (events us)

-- the pictures that are output, in this order (C.5.2)
abbrev pub outputs : List Meaning → List OutputPicture
outputs us = outputs_in (events us)

-- what is asked and output before unit k, at it, and after it
abbrev pub calls_below : ℕ → List (ℕ × Call) → List (ℕ × Call)
calls_below k cs = filter (λ c. nat_lt c.0 k) cs

abbrev pub calls_of_unit : ℕ → List (ℕ × Call) → List (ℕ × Call)
calls_of_unit k cs = filter (λ c. nat_eq c.0 k) cs

abbrev pub calls_above : ℕ → List (ℕ × Call) → List (ℕ × Call)
calls_above k cs = filter (λ c. nat_lt k c.0) cs

abbrev pub outputs_below : ℕ → List OutputPicture → List OutputPicture
outputs_below k os = filter (λ o. nat_lt o.unit k) os

abbrev pub outputs_of_unit : ℕ → List OutputPicture → List OutputPicture
outputs_of_unit k os = filter (λ o. nat_eq o.unit k) os

abbrev pub outputs_above : ℕ → List OutputPicture → List OutputPicture
outputs_above k os = filter (λ o. nat_lt k o.unit) os

-- what has been output as unit k is reached
abbrev pub so_far : ℕ → List Meaning → List OutputPicture
so_far k us = outputs_below k (outputs us)

abbrev pub full_at_end : Option Refusal → ℕ → Stream → Option ℕ
full_at_end None k v =
    if is_full (latest_head v.pictures) (store v.first_set v.pictures) then Some k else None
full_at_end (Some refusal) k v = None

-- the unit at which a picture is first to be stored into a full buffer
abbrev pub full : List Meaning → Option ℕ
full us =
    earlier_of (full_store (covered_stream us).first_set (covered_stream us).pictures)
    (full_at_end (stop us) (length us) (covered_stream us))

abbrev pub full_or : Option ℕ → Result ℕ Refusal → Result ℕ Refusal
full_or (Some k) later = Err (record { unit = k; cause = DpbFull })
full_or None later = later

abbrev pub stop_or : Option Refusal → Result ℕ Refusal → Result ℕ Refusal
stop_or (Some refusal) later = Err refusal
stop_or None later = later

-- a full store, else the stop, else how many pictures there are
abbrev pub verdict : List Meaning → Result ℕ Refusal
verdict us = full_or (full us) (stop_or (stop us) (Ok (length (pictures us))))
