-- Why programs give up, and their statuses then.
use Rattle.std.specs.Prelude.{ℕ}
use Rattle.hevc_io.specs.declared.input.InputError.{InputError}
use Rattle.hevc_io.specs.declared.input.InputError.TheVariants as input
use Rattle.hevc_io.specs.declared.sink.SinkError.{SinkError}
use Rattle.hevc_io.specs.declared.sink.SinkError.TheVariants as output
use Rattle.hevc_io.specs.declared.stop.Stop.{Stop}
use Rattle.hevc_io.specs.declared.stop.Stop.TheVariants.{Read, Write, NoMemory, TooLong}
use Rattle.hevc_io.specs.declared.words.WordsError.{WordsError}
use Rattle.hevc_io.specs.declared.words.WordsError.TheVariants as words

abbrev pub status_of : Stop → ℕ
status_of Read = 3
status_of Write = 4
status_of NoMemory = 5
status_of TooLong = 6

-- the status where the words of the command line can't be had
abbrev pub words_status_of : WordsError → ℕ
words_status_of words.NoMemory = 5
words_status_of words.Refused = 8

abbrev pub stop_of_input : InputError → Stop
stop_of_input input.Failed = Read
stop_of_input input.TooLong = TooLong
stop_of_input input.NoMemory = NoMemory

abbrev pub stop_of_output : SinkError → Stop
stop_of_output output.Failed = Write
stop_of_output output.NoMemory = NoMemory
