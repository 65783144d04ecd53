-- What contracts see of a decoder that calls nobody.
use Rattle.std.specs.Prelude.{◌≡◌, ℕ, Option, Some, List}
use Rattle.hevc_stream.specs.Kept.{Kept}
use Rattle.hevc_stream.specs.Options.{Options}
use Rattle.hevc_backend.specs.declared.call.Call.{Call}
use Rattle.hevc_backend.specs.Handed.{Handed}
use Rattle.hevc_backend.specs.Trait.{Frames}
use Rattle.hevc_driver.specs.Does.{Traces}
use Rattle.hevc_stateless.specs.Decoders.{kept_in, seen_by, set_for, view_of}
use Rattle.hevc_stateless.specs.Steps.{Seen}
use Rattle.hevc_stateless.specs.Views.{View, traces_at}
use Rattle.hevc_queue.specs.Queue.{Queue, handed_of, log_of}
use Rattle.hevc_pull.specs.declared.decoder.PullDecoder.{PullDecoder}

-- what its backend tells
abbrev pub told_log : Queue → Option (List (Call ℕ))
told_log q = Some (log_of q)

abbrev pub told_handed : Queue → Option (List Handed)
told_handed q = Some (handed_of q)

-- how often it was asked for free frames
abbrev pub told_frames : Queue → Frames
told_frames q = q.frames

-- its queue of events, its state, and what the pictures so far mean
abbrev pub view_in : PullDecoder → View Queue ℕ
view_in p = view_of p.decoder

-- the parameter sets that it keeps, and the units that wait
abbrev pub kept_of : PullDecoder → Kept
kept_of p = kept_in p.decoder

-- what is set for decoding
abbrev pub options_for : PullDecoder → Options
options_for p = set_for p.decoder

-- after how many calls on the backend structs were wanted
abbrev pub wanted_after : PullDecoder → Option ℕ
wanted_after p = (view_in p).backend.counts.set_after

-- how many of its events were taken
abbrev pub num_taken : PullDecoder → ℕ
num_taken p = (view_in p).backend.counts.taken

-- all of it
abbrev pub seen_of : PullDecoder → Seen Queue ℕ
seen_of p = seen_by told_log told_handed told_frames p.decoder

abbrev pub pulled_traces : PullDecoder → Traces ℕ
pulled_traces p = traces_at told_log told_handed told_frames (view_in p)

-- so many frames are free
abbrev pub with_free_frames : (free_frames : ℕ) → Seen Queue ℕ → Seen Queue ℕ
with_free_frames free_frames s = record s {
  view = record s.view { backend = record s.view.backend { free_frames = free_frames } };
}

-- The sets that are kept, and what is set for decoding, stay.
pub record KeepsSets (before now : PullDecoder) : Type 0 where
  pub kept : kept_of now ≡ kept_of before
  pub options : options_for now ≡ options_for before

-- Whether structs are wanted stays, and no event is thrown away before it is taken.
pub record KeepsTold (before now : PullDecoder) : Type 0 where
  pub wanted : wanted_after now ≡ wanted_after before
  pub taken : num_taken now ≡ num_taken before
