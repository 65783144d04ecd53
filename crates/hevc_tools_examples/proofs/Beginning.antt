-- What is decoded from the first picture of worked streams on, by what they mean.
use Rattle.std.proofs.Common.{◌≡◌, ℕ, ◌-◌, List, length, map, sym, subst, Ok}
use Rattle.hevc_spec.specs.Units.{units}
use Rattle.hevc_walk.specs.Meanings.{Meaning}
use Rattle.hevc_walk.specs.Pictures.{Picture}
use Rattle.hevc_walk.specs.Results.{calls, outputs, verdict}
use Rattle.hevc_walk_splice.specs.Splicing.{without_sequences, calls_for, outputs_for}
use Rattle.hevc_walk_splice.specs.Splicing.{moved_call, moved_output, moved_back_call, moved_back_output}
use Rattle.hevc_stream.specs.Options.{default_options}
use Rattle.hevc_stream.specs.Stream.{meanings}
use Rattle.hevc_index_laws.specs.SplicedUnits.{sets_before}
use Rattle.hevc_tools_examples.specs.Begun.{Begins, IsFirst}

-- lists of meanings in the place of a stream and of bytes, and numbers in that of a picture
pub record MeanBegun (number unit m sets : ℕ) (us vs : List Meaning) : Type 0 where
  pub verdict : verdict vs ≡ Ok (m - number)
  pub whole_calls : calls_for number (calls us)
      ≡ map (moved_back_call number unit sets) (without_sequences (calls vs))
  pub whole_outputs : outputs_for number (outputs us)
      ≡ map (moved_back_output number unit sets) (outputs vs)
  pub calls : without_sequences (calls vs)
      ≡ map (moved_call number unit sets) (calls_for number (calls us))
  pub outputs : outputs vs ≡ map (moved_output number unit sets) (outputs_for number (outputs us))

module _ (p : Picture) (first : IsFirst p) (m : ℕ) (stream bytes : List ℕ) (us vs : List Meaning)
    (e : meanings default_options stream ≡ us) (f : meanings default_options bytes ≡ vs)
  where
    abbrev sets_in : ℕ → ℕ
    sets_in unit = length (sets_before unit (units stream))

    abbrev Are : List Meaning → List Meaning → Type 0
    Are us vs = MeanBegun 0 2 m (sets_in 2) us vs

    abbrev From : (number unit : ℕ) → Type 0
    From number unit =
        MeanBegun number unit m (sets_in unit) (meanings default_options stream)
        (meanings default_options bytes)

    pub mean_begun : Begins p m stream bytes → Are us vs
    mean_begun begun =
        let whole : From p.number p.unit = record {
          verdict = begun.verdict;
          whole_calls = begun.whole_calls;
          whole_outputs = begun.whole_outputs;
          calls = begun.calls;
          outputs = begun.outputs;
        } in
        let numbered = subst (λ (n : ℕ). From n p.unit) first.0 whole in
        let placed = subst (λ (n : ℕ). From 0 n) first.1 numbered in
        let meant = subst (λ (ms : List Meaning). Are (meanings default_options stream) ms) f placed in
        subst (λ (ms : List Meaning). Are ms vs) e meant

    pub begins : Are us vs → Begins p m stream bytes
    begins begun =
        let meant = subst (λ (ms : List Meaning). Are us ms) (sym f) begun in
        let placed = subst (λ (ms : List Meaning). Are ms (meanings default_options bytes)) (sym e) meant in
        let numbered = subst (λ (n : ℕ). From 0 n) (sym first.1) placed in
        let whole = subst (λ (n : ℕ). From n p.unit) (sym first.0) numbered in
        record {
          verdict = whole.verdict;
          whole_calls = whole.whole_calls;
          whole_outputs = whole.whole_outputs;
          calls = whole.calls;
          outputs = whole.outputs;
        }
