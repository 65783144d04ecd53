-- What is decoded from the bytes that are extracted from a stream.
use Rattle.std.specs.Prelude.{◌≡◌, ℕ, Bool, List, map}
use Rattle.hevc_spec.specs.Units.{units}
use Rattle.hevc_bit_writer.specs.WrittenUnits.{placed}
use Rattle.hevc_walk.specs.Results.{calls, outputs, verdict}
use Rattle.hevc_walk_drop.specs.Dropping.{renumbered_call, renumbered_output, renumbered_verdict}
use Rattle.hevc_stream.specs.Kept.{none_kept}
use Rattle.hevc_stream.specs.Options.{Options}
use Rattle.hevc_stream.specs.Stream.{meanings, meanings_behind}
use Rattle.hevc_extract.specs.Extracting.{bytes_of_all, is_kept, kept_units, up_to}

-- Exactly the kept units are found in the bytes, byte for byte and in order, and the bytes mean
-- what these units mean one after another.
pub record HoldsKept (highest_tid highest_layer : ℕ) (stream bytes : List ℕ) : Type 0 where
  pub found : units bytes
      ≡ placed 0 (bytes_of_all (kept_units highest_tid highest_layer (units stream)))
  pub meant : (options : Options) → meanings options bytes
      ≡ meanings_behind options none_kept (kept_units highest_tid highest_layer (units stream))

-- for each unit of a stream, whether it is kept
abbrev pub flags_of : ℕ → ℕ → List ℕ → List Bool
flags_of highest_tid highest_layer stream =
    map (is_kept highest_tid highest_layer) (units stream)

-- Where sub-layers and layers up to these are wanted, the bytes ask for the calls and outputs of the
-- stream and end as it does, each unit number replaced by how many units are kept before it.
pub record DecodesAlike (highest_tid highest_layer : ℕ) (stream bytes : List ℕ) : Type 0 where
  pub calls : calls (meanings (up_to highest_tid highest_layer) bytes)
      ≡ map (renumbered_call (flags_of highest_tid highest_layer stream))
      (calls (meanings (up_to highest_tid highest_layer) stream))
  pub outputs : outputs (meanings (up_to highest_tid highest_layer) bytes)
      ≡ map (renumbered_output (flags_of highest_tid highest_layer stream))
      (outputs (meanings (up_to highest_tid highest_layer) stream))
  pub verdict : verdict (meanings (up_to highest_tid highest_layer) bytes)
      ≡ renumbered_verdict (flags_of highest_tid highest_layer stream)
      (verdict (meanings (up_to highest_tid highest_layer) stream))
