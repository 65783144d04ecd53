-- What the units before a unit say of it: the sets that are kept there, and the order counts.
use Rattle.std.specs.Prelude.{ℕ, List, length, Result, Ok, Err}
use Rattle.hevc_spec.specs.UnitHeader.{UnitHeader}
use Rattle.hevc_spec.specs.Units.{NalUnit}
use Rattle.hevc_bits.specs.FoundUnit.{FoundUnit}
use Rattle.hevc_bits.specs.ParsedHeader.{parsed_header}
use Rattle.hevc_bits.specs.declared.header.UnitError.{UnitError}
use Rattle.hevc_stream.specs.Kept.{Kept, none_kept}
use Rattle.hevc_stream.specs.Options.{default_options}
use Rattle.hevc_stream.specs.Stream.{kept_behind}
use Rattle.hevc_syntax_text.specs.declared.counting.Counting.{Counting}
use Rattle.hevc_syntax_text.specs.Order.{at_first, counting_behind}

pub record Before : Type 0 where
  pub kept : Kept
  pub counting : Counting

-- before the first unit
abbrev pub at_beginning : Before
at_beginning = record { kept = none_kept; counting = at_first }

-- a unit with its header, where it is found in a stream
abbrev pub found_in : List ℕ → NalUnit → UnitHeader → FoundUnit UnitHeader
found_in stream u header = record {
  header = header;
  stream = stream;
  offset = u.offset;
  size = length u.bytes;
}

-- the order counts after a unit; one whose header is refused counts nothing
abbrev pub counting_after : Before → List ℕ → NalUnit → Result UnitHeader UnitError → Counting
counting_after before stream u (Ok header) =
    counting_behind before.counting before.kept (found_in stream u header)
counting_after before stream u (Err error) = before.counting

-- after a unit of a stream
unfoldable pub behind : Before → List ℕ → NalUnit → Before
behind before stream u = record {
  kept = kept_behind default_options before.kept u.bytes;
  counting = counting_after before stream u (parsed_header u.bytes);
}
