-- The report on a stream, as bytes: what the units ask for, which pictures are output,
-- and how the stream ends.
use Rattle.std.specs.Prelude.{ℕ, ℤ, ◌+◌, Bool, List, [], ◌∷◌, ◌++◌, length, take, codes, decimal, Option, Some, None, Result, Ok, Err, if◌then◌else◌}
use Rattle.std.specs.List.{flat_map}
use Rattle.std.specs.Fmt.{signed_decimal}
use Rattle.hevc_walk.specs.Meanings.{Format}
use Rattle.hevc_walk.specs.ReferenceLists.{RefPicListEntry, CurrentPicture, DpbEntry}
use Rattle.hevc_walk.specs.Walk.{Call, NewSequence, NewPicture, BeginPicture, DecodeSlice, SubmitPicture}
use Rattle.hevc_walk.specs.Results.{OutputPicture, calls, outputs, verdict, calls_below, calls_of_unit, outputs_below}
use Rattle.hevc_stream.specs.Options.{Options}
use Rattle.hevc_stream.specs.Stream.{meanings}
use Rattle.hevc_driver.specs.declared.decode_error.DecodeError.{DecodeError}
use Rattle.hevc_driver.specs.declared.decode_error.DecodeError.TheVariants as errors
use Rattle.hevc_decoder.specs.declared.decoded.Refused.{Refused}
use Rattle.hevc_decoder.specs.Headline.{all_asked}
use Rattle.hevc_decoder.specs.Names.{answer_of}

-- the line of a sequence: its size in luma samples, profile, bit depths, chroma format, and how
-- many pictures the buffer holds
abbrev pub sequence_line : Format → List ℕ
sequence_line format =
    codes "seq " ++ decimal format.coded_width ++ codes "x" ++ decimal format.coded_height
    ++ codes " profile " ++ decimal format.general_profile_idc
    ++ codes " depth " ++ decimal (format.bit_depth_luma_minus8 + 8) ++ codes " "
    ++ decimal (format.bit_depth_chroma_minus8 + 8)
    ++ codes " chroma " ++ decimal format.chroma_format_idc ++ codes " buffer "
    ++ decimal format.max_num_pics ++ codes "\n"

-- the line of a picture: its number, the type of its units, its order count,
-- and whether it is to be output
abbrev pub picture_line : ℕ → ℕ → ℤ → Bool → List ℕ
picture_line number nal_unit_type order_count output =
    codes "pic " ++ decimal number ++ codes " type " ++ decimal nal_unit_type ++ codes " poc "
    ++ signed_decimal order_count
    ++ codes " output " ++ decimal (if output then 1 else 0) ++ codes "\n"

-- a place of a reference picture list: a picture's number, `c` for the current picture,
-- `x` for none
abbrev pub place_text : Option RefPicListEntry → List ℕ
place_text None = codes "x"
place_text (Some CurrentPicture) = codes "c"
place_text (Some (DpbEntry number)) = decimal number

-- places, each after a comma
abbrev pub more_places : List (Option RefPicListEntry) → List ℕ
more_places places = flat_map (λ place. codes "," ++ place_text place) places

-- the places joined by commas, `-` for an empty list
abbrev pub list_text : List (Option RefPicListEntry) → List ℕ
list_text [] = codes "-"
list_text (place ∷ places) = place_text place ++ more_places places

-- the line of a slice: its picture, its address, how many bytes its unit has,
-- and its reference picture lists
abbrev pub slice_line : ℕ → ℕ → ℕ → List (Option RefPicListEntry) → List (Option RefPicListEntry)
    → List ℕ
slice_line number address size list0 list1 =
    codes "slice " ++ decimal number ++ codes " at " ++ decimal address ++ codes " size "
    ++ decimal size
    ++ codes " list0 " ++ list_text list0 ++ codes " list1 " ++ list_text list1 ++ codes "\n"

-- the line of a submitted picture: its number and its handle
abbrev pub submission_line : ℕ → ℕ → List ℕ
submission_line number handle =
    codes "submit " ++ decimal number ++ codes " handle " ++ decimal handle ++ codes "\n"

-- the line of a call, where the next handle is this one;
-- where the slices of a picture come there is none
abbrev pub call_line : ℕ → Call → List ℕ
call_line handle (NewSequence format) = sequence_line format
call_line handle (NewPicture number nal_unit_type order_count output timestamp) =
    picture_line number nal_unit_type order_count output
call_line handle (BeginPicture number set) = []
call_line handle (DecodeSlice number address bytes list0 list1) =
    slice_line number address (length bytes) list0 list1
call_line handle (SubmitPicture number) = submission_line number handle

-- the next handle after a call; a submission takes one
abbrev pub handle_behind : ℕ → Call → ℕ
handle_behind handle (NewSequence format) = handle
handle_behind handle (NewPicture number nal_unit_type order_count output timestamp) = handle
handle_behind handle (BeginPicture number set) = handle
handle_behind handle (DecodeSlice number address bytes list0 list1) = handle
handle_behind handle (SubmitPicture number) = handle + 1

-- the lines of these calls, whose submissions get this handle and those after it, in order
abbrev pub calls_text : ℕ → List Call → List ℕ
calls_text handle [] = []
calls_text handle (call ∷ calls) =
    call_line handle call ++ calls_text (handle_behind handle call) calls

-- the line of a picture that is output: its number, its order count, and the unit at which it is
abbrev pub output_line : OutputPicture → List ℕ
output_line output =
    codes "show " ++ decimal output.number ++ codes " poc " ++ signed_decimal output.order_count
    ++ codes " unit " ++ decimal output.unit ++ codes "\n"

-- the name of a cause, and its numbers
abbrev pub cause_text : DecodeError → List ℕ
cause_text errors.NoNal = codes "NoNal"
cause_text errors.TruncatedNalu = codes "TruncatedNalu"
cause_text (errors.InvalidNaluType nal_unit_type) =
    codes "InvalidNaluType " ++ decimal nal_unit_type
cause_text errors.OutOfBits = codes "OutOfBits"
cause_text (errors.OutOfRange table row) =
    codes "OutOfRange " ++ decimal table ++ codes " " ++ decimal row
cause_text (errors.MissingPps id) = codes "MissingPps " ++ decimal id
cause_text errors.NoIndependentSlice = codes "NoIndependentSlice"
cause_text (errors.ChangedMidPicture accepted named) = codes "ChangedMidPicture"
cause_text errors.PocOutOfRange = codes "PocOutOfRange"
cause_text errors.DpbFull = codes "DpbFull"
cause_text (errors.NotEnoughOutputBuffers count) = codes "NotEnoughOutputBuffers"
cause_text errors.CheckEvents = codes "CheckEvents"
cause_text errors.PictureNumbersSpent = codes "PictureNumbersSpent"
cause_text errors.Backend = codes "Backend"
cause_text errors.NoMemory = codes "NoMemory"

-- the numbers of a cause, each after a blank
abbrev pub cause_numbers : DecodeError → List ℕ
cause_numbers (errors.InvalidNaluType nal_unit_type) = codes " " ++ decimal nal_unit_type
cause_numbers (errors.OutOfRange table row) = codes " " ++ decimal table ++ codes " " ++ decimal row
cause_numbers (errors.MissingPps id) = codes " " ++ decimal id
cause_numbers error = []

-- the line of a refusal
abbrev pub refusal_line : Refused → List ℕ
refusal_line refused =
    codes "refused unit " ++ decimal refused.unit ++ codes " " ++ cause_text refused.error
    ++ codes "\n"

-- the last line, where so many pictures were output
abbrev pub last_line : ℕ → Result ℕ Refused → List ℕ
last_line shown (Ok pictures) =
    codes "end pictures " ++ decimal pictures ++ codes " shown " ++ decimal shown ++ codes "\n"
last_line shown (Err refused) = refusal_line refused

-- how a stream ends under these options: with the number of its pictures, or refused
abbrev pub ending_of : Options → List ℕ → Result ℕ Refused
ending_of options stream = answer_of (verdict (meanings options stream))

-- the calls that are made of those that the units ask for: all, or,
-- where the buffer is full at unit k, those of units before it and the
-- one that submits the picture for which there is no room (C.5.2.3)
abbrev pub calls_until : DecodeError → ℕ → List (ℕ × Call) → List (ℕ × Call)
calls_until errors.DpbFull k all = calls_below k all ++ take 1 (calls_of_unit k all)
calls_until error k all = all

abbrev pub calls_made : Result ℕ Refused → List (ℕ × Call) → List (ℕ × Call)
calls_made (Ok pictures) all = all
calls_made (Err refused) all = calls_until refused.error refused.unit all

-- the pictures that are output: all, or, where the buffer is full at unit k, those of units before
-- it
abbrev pub outputs_until : DecodeError → ℕ → List OutputPicture → List OutputPicture
outputs_until errors.DpbFull k all = outputs_below k all
outputs_until error k all = all

abbrev pub outputs_given : Result ℕ Refused → List OutputPicture → List OutputPicture
outputs_given (Ok pictures) all = all
outputs_given (Err refused) all = outputs_until refused.error refused.unit all

-- a line for each of these calls, one for each of these outputs, and the last
abbrev pub text_for : List Call → List OutputPicture → Result ℕ Refused → List ℕ
text_for made given ending =
    calls_text 0 made ++ flat_map output_line given ++ last_line (length given) ending

-- the report on a stream under these options; the handles are 0, 1, 2 and so on
abbrev pub report_of : Options → List ℕ → List ℕ
report_of options stream =
    text_for (all_asked (calls_made (ending_of options stream) (calls (meanings options stream))))
    (outputs_given (ending_of options stream) (outputs (meanings options stream)))
    (ending_of options stream)
