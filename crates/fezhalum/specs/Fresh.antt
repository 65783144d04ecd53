-- A decoder that was made.
use Rattle.std.specs.Prelude.{◌≡◌, ℕ, ◌==◌, false, not, min, List, length, slice_index_or}
use Rattle.std.specs.Prelude.{nat_le, if◌then◌else◌}
use Rattle.hevc_stream.specs.Kept.{none_kept}
use Rattle.hevc_stream.specs.Options.{Options}
use Rattle.hevc_pull.specs.declared.decoder.PullDecoder.{PullDecoder}
use Rattle.hevc_pull.specs.Pulling.{nothing_to_tell, telling}
use Rattle.hevc_pull.specs.Views.{kept_of, options_for}

-- It is at the beginning of a stream, keeps no set, and nothing is to be told.
pub record IsFreshWith (options : Options) (decoder : PullDecoder) : Type 0 where
  pub telling : telling decoder ≡ nothing_to_tell
  pub kept : kept_of decoder ≡ none_kept
  pub set : options_for decoder ≡ options

-- The options that numbers give: whether CRA pictures are handled as BLA pictures, 0 for no; the
-- highest sub-layer, of which none is above 6; and the highest layer, of which none is above 63. Those
-- that are not given have their default: of the layers the base layer alone is wanted.
abbrev pub options_given : List ℕ → Options
options_given given = record {
  handle_cra_as_bla = not (slice_index_or given 0 0 == 0);
  highest_tid = min (slice_index_or given 1 6) 6;
  highest_layer = min (slice_index_or given 2 0) 63;
}

-- without any
abbrev pub base_layer : Options
base_layer = record { handle_cra_as_bla = false; highest_tid = 6; highest_layer = 0 }

abbrev pub IsFresh : PullDecoder → Type 0
IsFresh decoder = IsFreshWith base_layer decoder

-- there are three options
abbrev pub status_of_options : List ℕ → ℕ
status_of_options given = if nat_le (length given) 3 then 0 else 30
