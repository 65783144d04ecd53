-- What is kept, as the definitions of streams have it.
use Rattle.hevc_stream.specs.Kept.{Kept}
use Rattle.hevc_stream.specs.Options.{Options}
use Rattle.hevc_options.specs.Options.{options_of}
use Rattle.hevc_parser.specs.Kept.{kept_by}
use Rattle.hevc_kept_sets.specs.declared.kept_sets.KeptSets.{KeptSets}

-- the parser's sets, and the units that wait
abbrev pub kept_of : KeptSets → Kept
kept_of sets = record (kept_by sets.parser) { waiting = sets.waiting.items }

-- what is set for decoding
abbrev pub options_in : KeptSets → Options
options_in sets = options_of sets.options
