-- The four states of the decoder, and what a unit means in each.
use Rattle.std.specs.Prelude.{◌≡◌, ℕ, ◌&&◌, ◌||◌, nat_le, Bool, true, false, if◌then◌else◌, List}
use Rattle.std.specs.Prelude.{Result, Err}
use Rattle.hevc_spec.specs.UnitTypes.{is_idr}
use Rattle.hevc_spec.specs.UnitHeader.{UnitHeader}
use Rattle.hevc_walk.specs.Meanings.{Meaning, SequenceSet, Other}
use Rattle.hevc_stream.specs.Kept.{Kept}
use Rattle.hevc_stream.specs.Options.{Options}
use Rattle.hevc_stream.specs.Contents.{wants}
use Rattle.hevc_stream.specs.Stream.{meaning}
use Rattle.hevc_driver.specs.declared.decode_error.DecodeError.{DecodeError}
use Rattle.hevc_driver.specs.declared.decode_error.DecodeError.TheVariants as errors
use Rattle.hevc_stateless.specs.declared.state.State.{State}
use Rattle.hevc_stateless.specs.declared.state.State.TheVariants.{AwaitingStreamInfo}
use Rattle.hevc_stateless.specs.declared.state.State.TheVariants.{AwaitingFormat, Decoding, Reset}

-- What a decoder takes: a unit whose header isn't refused.
pub record Unit : Type 0 where
  pub nal_unit_type : ℕ
  -- it is of a sub-layer and a layer that are wanted (8.1.2)
  pub is_wanted : Bool
  -- what it means where some sequence set is kept
  pub meaning : Meaning

abbrev pub unit_at : Options → Kept → UnitHeader → List ℕ → Unit
unit_at options kept header bytes = record {
  nal_unit_type = header.nal_unit_type;
  is_wanted = wants options header;
  meaning = meaning options (record kept { has_sequence_set = true }) bytes;
}

abbrev pub is_sequence_set : Meaning → Bool
is_sequence_set (SequenceSet format) = true
is_sequence_set m = false

-- a slice of an IDR picture, refused or not, or a sequence set
abbrev pub resumes : Unit → Bool
resumes u = u.is_wanted && (is_idr u.nal_unit_type || is_sequence_set u.meaning)

-- it ends the wait after `flush`
abbrev pub state_behind : State → Unit → State
state_behind Reset u = if resumes u then Decoding else Reset
state_behind state u = state

-- a unit of a parameter set (Table 7-1)
abbrev pub is_parameter_set : ℕ → Bool
is_parameter_set nal_unit_type = nat_le 32 nal_unit_type && nat_le nal_unit_type 34

-- a sequence set after the first one opens no negotiation
abbrev pub later_meaning : Meaning → Meaning
later_meaning (SequenceSet format) = Other
later_meaning m = m

-- what is passed over means nothing
abbrev pub meaning_when : State → Unit → Meaning
meaning_when AwaitingStreamInfo u = if is_parameter_set u.nal_unit_type then u.meaning else Other
meaning_when Decoding u = later_meaning u.meaning
meaning_when state u = if is_parameter_set u.nal_unit_type then later_meaning u.meaning else Other

-- what a unit means in a state
abbrev pub meaning_in : State → Unit → Meaning
meaning_in state u = meaning_when (state_behind state u) u

-- the state that a call leaves, where this one follows the unit
abbrev pub MovesBy : {T : Type 0} → Result T DecodeError → State → State → Type 0
MovesBy (Err errors.CheckEvents) behind now = now ≡ AwaitingFormat
MovesBy result behind now = now ≡ behind

abbrev pub is_awaited : State → Bool
is_awaited AwaitingFormat = true
is_awaited state = false

abbrev pub awaits_stream_info : State → Bool
awaits_stream_info AwaitingStreamInfo = true
awaits_stream_info state = false

-- the wait after `flush` is over
abbrev pub decoding_again : State → State
decoding_again Reset = Decoding
decoding_again state = state

abbrev pub is_decoding : State → Bool
is_decoding Decoding = true
is_decoding state = false

-- the wait after `flush` is over at a slice of an IDR picture
abbrev pub state_at : Bool → State → State
state_at true Reset = Decoding
state_at at_idr state = state
