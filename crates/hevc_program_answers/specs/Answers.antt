-- What a program promises that reads its input to the end and answers it with one text.
use Rattle.std.specs.Prelude.{◌≡◌, ◌≤◌, ◌<◌, ◌↔◌, ◌⊎◌, ℕ, List, length, IfSome}
use Rattle.std.specs.declared.option.Option.{Option}
use Rattle.std.specs.declared.option.Option.TheVariants.{None, Some}
use Rattle.std.specs.Io.KnownBytes.{Appends, IsAtEnd}
use Rattle.hevc_fault_counts.specs.Faults.{Rose}
use Rattle.hevc_io.specs.Prefix.{AppendsLess, AppendsPrefix}

-- What is known of a source and of a sink: the bytes that are left and those that were written,
-- where they are exposed, and how many reads and writes failed.
pub record Ends (S K : Type 0) : Type 0 where
  pub left : S → Option (List ℕ)
  pub failed_reads : S → ℕ
  pub written : K → Option (List ℕ)
  pub failed_writes : K → ℕ

abbrev pub ends_of : {S K : Type 0} → (S → Option (List ℕ)) → (S → ℕ) → (K → Option (List ℕ))
    → (K → ℕ) → Ends S K
ends_of left failed_reads written failed_writes = record {
  left = left;
  failed_reads = failed_reads;
  written = written;
  failed_writes = failed_writes;
}

-- a source and a sink at one moment
pub record Moment (S K : Type 0) : Type 0 where
  pub source : S
  pub sink : K

abbrev pub moment : {S K : Type 0} → S → K → Moment S K
moment source sink = record { source = source; sink = sink }

-- What a program answers, by what its words ask for and by its input.
pub record Program (A : Type 0) : Type 1 where
  pub text : A → List ℕ → List ℕ
  pub status : A → List ℕ → ℕ
  -- the statuses by which the text was written, and those with that of a failed allocation
  pub IsAnswer : ℕ → Type 0
  pub IsDone : ℕ → Type 0

-- the statuses that come with a text: 0, 1 and 7, of these the ones up to a highest
abbrev pub IsAnswerUpTo : ℕ → ℕ → Type 0
IsAnswerUpTo highest status = (status ≤ highest) × ((status ≤ 1) ⊎ (status ≡ 7))

-- the program of this text and this status
abbrev pub answering : {A : Type 0} → (A → List ℕ → List ℕ) → (A → List ℕ → ℕ) → ℕ → Program A
answering text status highest = record {
  text = text;
  status = status;
  IsAnswer = IsAnswerUpTo highest;
  IsDone = λ s. IsAnswerUpTo highest s ⊎ (s ≡ 5);
}

-- The program read the source and wrote to the sink, and this is its exit status.
pub record Answers {A S K : Type 0} (ends : Ends S K) (program : Program A) (limit : ℕ)
    (asked : Option A) (old new : Moment S K) (status : ℕ) : Type 0 where
  -- the input was read to its end, and the text for it was written
  pub whole : IfSome asked (λ a. program.IsAnswer status
      → IsAtEnd (ends.left new.source) × IfSome (ends.left old.source) (λ input.
      Appends (ends.written old.sink) (ends.written new.sink) (program.text a input)
      × (status ≡ program.status a input)))
  -- that is so for no longer input than may be
  pub limit_kept : IfSome asked (λ a. program.IsAnswer status
      → IfSome (ends.left old.source) (λ input. length input ≤ limit))
  -- whatever the status, what was written is a prefix of that text; on 4 not the whole, and on 5
  -- neither, unless there is no byte of it
  pub part : IfSome asked (λ a. IfSome (ends.left old.source) (λ input.
      AppendsPrefix (ends.written old.sink) (ends.written new.sink) (program.text a input)))
  pub less : IfSome asked (λ a. status ≡ 4 → IfSome (ends.left old.source) (λ input.
      AppendsLess (ends.written old.sink) (ends.written new.sink) (program.text a input)))
  pub less_by_memory : IfSome asked (λ a. status ≡ 5 → IfSome (ends.left old.source) (λ input.
      0 < length (program.text a input)
      → AppendsLess (ends.written old.sink) (ends.written new.sink) (program.text a input)))
  -- 2 exactly where the words ask for nothing, and then nothing is read or written
  pub nothing_asked : (status ≡ 2) ↔ (asked ≡ None)
  pub untouched : status ≡ 2 → (new.source ≡ old.source) × (new.sink ≡ old.sink)
  -- 3: a read failed, and nothing is written; 4: a write failed
  pub read : status ≡ 3
      → Rose (ends.failed_reads old.source) (ends.failed_reads new.source)
      × (new.sink ≡ old.sink)
  pub write : status ≡ 4 → Rose (ends.failed_writes old.sink) (ends.failed_writes new.sink)
  -- 6: the input is too long, and nothing is written
  pub long : status ≡ 6
      → (new.sink ≡ old.sink) × IfSome (ends.left old.source) (λ input. limit < length input)
  -- by words that ask for something, ends that don't fail, and an input within the limit
  pub completes : IfSome asked (λ a. (input : List ℕ) → ends.left old.source ≡ Some input
      → length input ≤ limit
      → ¬ (Rose (ends.failed_reads old.source) (ends.failed_reads new.source))
      → ¬ (Rose (ends.failed_writes old.sink) (ends.failed_writes new.sink))
      → program.IsDone status)
