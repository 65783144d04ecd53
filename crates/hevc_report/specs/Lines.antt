-- What is written of a log and of the pictures that were output.
use Rattle.std.specs.Prelude.{ℕ, ℤ, List, [], ◌++◌, length, map, Result, Ok, Err}
use Rattle.std.specs.List.{flat_map}
use Rattle.hevc_bits.specs.NaluType.{nalu_type_number}
use Rattle.hevc_refs.specs.Lists.{plain_places}
use Rattle.hevc_backend.specs.declared.call.Call.{Call}
use Rattle.hevc_backend.specs.declared.call.Call.TheVariants.{NewSequence, NewPicture, BeginPicture, DecodeSlice, SubmitPicture}
use Rattle.hevc_backend.specs.Negotiation.{format_of}
use Rattle.hevc_decoder.specs.declared.decoded.Shown.{Shown}
use Rattle.hevc_decoder.specs.declared.decoded.Refused.{Refused}
use Rattle.hevc_decoder.specs.Names.{output_picture}
use Rattle.hevc_report.specs.Report.{sequence_line, picture_line, slice_line, submission_line, output_line, refusal_line, last_line}
use Rattle.hevc_report.specs.Summary.{summary_line}

-- the line of a call of the log
abbrev pub log_line : Call ℕ → List ℕ
log_line (NewSequence info) = sequence_line (format_of info)
log_line (NewPicture number nalu_type order_count output timestamp) =
    picture_line number (nalu_type_number nalu_type) order_count output
log_line (BeginPicture number st_curr_before st_curr_after st_foll lt_curr lt_foll) = []
log_line (DecodeSlice number address bytes list0 list1) =
    slice_line number address (length bytes) (plain_places list0) (plain_places list1)
log_line (SubmitPicture number handle) = submission_line number handle

-- the line of an output
abbrev pub shown_line : Shown ℕ → List ℕ
shown_line output = output_line (output_picture output)

-- what comes after the lines of the calls: a line for each output, and the last
abbrev pub rest_text : List (Shown ℕ) → Result ℕ Refused → List ℕ
rest_text shown result = flat_map shown_line shown ++ last_line (length shown) result

-- a line for each call of the log, one for each output, and the last
abbrev pub text_of : List (Call ℕ) → List (Shown ℕ) → Result ℕ Refused → List ℕ
text_of log shown result =
    flat_map log_line log ++ flat_map shown_line shown ++ last_line (length shown) result

-- the order counts of outputs
abbrev pub shown_counts : List (Shown ℕ) → List ℤ
shown_counts shown = map (λ output. output.order_count) shown

-- one line: a summary, or the cause of a refusal
abbrev pub summary_text : List (Shown ℕ) → Result ℕ Refused → List ℕ
summary_text shown (Ok pictures) = summary_line pictures (shown_counts shown)
summary_text shown (Err refused) = refusal_line refused
