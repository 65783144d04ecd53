-- What is kept while a stream is told.
use Rattle.std.specs.Prelude.{◌≡◌, ℕ, List, Option}
use Rattle.hevc_records.specs.Sps.{PlainSps}
use Rattle.hevc_stream.specs.Kept.{Kept}
use Rattle.hevc_stream.specs.Options.{default_options}
use Rattle.hevc_stream.specs.Stream.{kept_behind}
use Rattle.hevc_parser.specs.Kept.{kept_by}
use Rattle.hevc_kept_sets.specs.Kept.{kept_of, options_in}
use Rattle.hevc_syntax_text.specs.declared.sets.Sets.{Sets}
use Rattle.hevc_syntax_text.specs.Before.{Before}

-- the sets that are kept
abbrev pub sets_of : Sets → Kept
sets_of sets = kept_of sets.kept

-- and the order counts so far
abbrev pub before_of : Sets → Before
before_of sets = record { kept = sets_of sets; counting = sets.counting }

-- all sub-layers are wanted, and the parser has the sequence sets that are kept
pub record AreAlike (sets : Sets) : Type 0 where
  pub options : options_in sets.kept ≡ default_options
  pub sequences : (kept_by sets.parser).sequence_sets ≡ (sets_of sets).sequence_sets

-- these sequence sets are kept after a unit, where those are kept before it
abbrev pub Follow : List ℕ → (before after : ℕ → Option PlainSps) → Type 0
Follow bytes before after =
    (kept : Kept) → before ≡ kept.sequence_sets
    → after ≡ (kept_behind default_options kept bytes).sequence_sets
