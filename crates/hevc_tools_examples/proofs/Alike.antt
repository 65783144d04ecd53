-- What is decoded of worked streams, by what they mean.
use Rattle.std.proofs.Common.{◌≡◌, ℕ, List, [], ◌∷◌, length, map, sym, subst}
use Rattle.hevc_spec.specs.Units.{NalUnit}
use Rattle.hevc_walk.specs.Meanings.{Meaning}
use Rattle.hevc_walk.specs.Results.{OutputPicture, calls, outputs, verdict}
use Rattle.hevc_walk.specs.Walk.{Call, NewSequence, NewPicture, BeginPicture, DecodeSlice, SubmitPicture}
use Rattle.hevc_walk_drop.specs.Dropping.{renumbered_call, renumbered_output, renumbered_verdict}
use Rattle.hevc_stream.specs.Options.{default_options}
use Rattle.hevc_stream.specs.Stream.{meanings}
use Rattle.hevc_extract.specs.Alike.{DecodesAlike, flags_of}

-- where the first unit of a list is, and how long it is
abbrev pub first_offset : List NalUnit → ℕ
first_offset [] = 0
first_offset (u ∷ us) = u.offset

abbrev pub first_bytes : List NalUnit → List ℕ
first_bytes [] = []
first_bytes (u ∷ us) = u.bytes

-- how long the bytes of each slice are
abbrev pub sizes : List (ℕ × Call) → List ℕ
sizes [] = []
sizes ((unit, NewSequence format) ∷ cs) = sizes cs
sizes ((unit, NewPicture number t c o s) ∷ cs) = sizes cs
sizes ((unit, BeginPicture number set) ∷ cs) = sizes cs
sizes ((unit, DecodeSlice number address bytes list0 list1) ∷ cs) = length bytes ∷ sizes cs
sizes ((unit, SubmitPicture number) ∷ cs) = sizes cs

-- at which unit each picture is output
abbrev pub output_units : List OutputPicture → List ℕ
output_units os = map (λ o. o.unit) os

-- the same decoding, of two lists of meanings
pub record MeanAlike (stream : List ℕ) (us vs : List Meaning) : Type 0 where
  pub calls : calls vs ≡ map (renumbered_call (flags_of 6 63 stream)) (calls us)
  pub outputs : outputs vs ≡ map (renumbered_output (flags_of 6 63 stream)) (outputs us)
  pub verdict : verdict vs ≡ renumbered_verdict (flags_of 6 63 stream) (verdict us)

module _ (stream bytes : List ℕ) (us vs : List Meaning)
    (e : meanings default_options stream ≡ us) (f : meanings default_options bytes ≡ vs)
  where
    pub mean_alike : DecodesAlike 6 63 stream bytes → MeanAlike stream us vs
    mean_alike alike =
        let of_stream = meanings default_options stream in
        let whole : MeanAlike stream of_stream (meanings default_options bytes) = record {
          calls = alike.calls;
          outputs = alike.outputs;
          verdict = alike.verdict;
        } in
        let meant = subst (λ (ms : List Meaning). MeanAlike stream of_stream ms) f whole in
        subst (λ (ms : List Meaning). MeanAlike stream ms vs) e meant

    pub decode_alike : MeanAlike stream us vs → DecodesAlike 6 63 stream bytes
    decode_alike alike =
        let of_bytes = meanings default_options bytes in
        let meant = subst (λ (ms : List Meaning). MeanAlike stream us ms) (sym f) alike in
        let whole = subst (λ (ms : List Meaning). MeanAlike stream ms of_bytes) (sym e) meant in
        record { calls = whole.calls; outputs = whole.outputs; verdict = whole.verdict }
