-- What is decoded from bytes that begin a stream at one of its pictures.
use Rattle.std.specs.Prelude.{◌≡◌, ℕ, ◌-◌, List, length, map, Ok}
use Rattle.hevc_spec.specs.Units.{units}
use Rattle.hevc_walk.specs.Pictures.{Picture}
use Rattle.hevc_walk.specs.Results.{calls, outputs, verdict}
use Rattle.hevc_walk_splice.specs.Splicing.{without_sequences, calls_for, outputs_for, moved_call, moved_output, moved_back_call, moved_back_output}
use Rattle.hevc_stream.specs.Options.{Options}
use Rattle.hevc_stream.specs.Stream.{meanings}
use Rattle.hevc_index_laws.specs.SplicedUnits.{sets_before}

-- how many parameter sets come before a picture's first slice
abbrev pub sets_in_front : Picture → List ℕ → ℕ
sets_in_front p stream = length (sets_before p.unit (units stream))

-- Bytes are decoded as a stream of m pictures is from picture p on (8.1.3, 8.3.2): they aren't
-- refused, and but for negotiated formats they ask for the calls and outputs of the stream for p
-- and the pictures after it. Pictures count from p, and p's first slice is the unit after the sets.
-- All that the stream asks for these pictures is told from the bytes, too: none refers to a picture
-- before p.
pub record BeginsAt (options : Options) (p : Picture) (m : ℕ) (stream bytes : List ℕ) : Type 0 where
  pub verdict : verdict (meanings options bytes) ≡ Ok (m - p.number)
  pub whole_calls : calls_for p.number (calls (meanings options stream))
      ≡ map (moved_back_call p.number p.unit (sets_in_front p stream))
      (without_sequences (calls (meanings options bytes)))
  pub whole_outputs : outputs_for p.number (outputs (meanings options stream))
      ≡ map (moved_back_output p.number p.unit (sets_in_front p stream))
      (outputs (meanings options bytes))
  pub calls : without_sequences (calls (meanings options bytes))
      ≡ map (moved_call p.number p.unit (sets_in_front p stream))
      (calls_for p.number (calls (meanings options stream)))
  pub outputs : outputs (meanings options bytes)
      ≡ map (moved_output p.number p.unit (sets_in_front p stream))
      (outputs_for p.number (outputs (meanings options stream)))
