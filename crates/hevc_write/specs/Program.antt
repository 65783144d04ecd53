-- What the program writes of a stream.
use Rattle.std.specs.Prelude.{◌≡◌, ◌⊎◌, ℕ, List, [], ◌∷◌, Option, Some, None, IfSome}
use Rattle.hevc_program_answers.specs.Answers.{Answers, Ends, Moment, Program}
use Rattle.hevc_write.specs.Rewriting.{IsRewriting}

-- there are no words
abbrev pub asked : List (List ℕ) → Option (Unit {0})
asked [] = Some tt
asked (word ∷ words) = None

-- 0 or 5
abbrev pub IsDone : ℕ → Type 0
IsDone status = (status ≡ 0) ⊎ (status ≡ 5)

-- the program that answers with these bytes
abbrev pub write_program : List ℕ → Program (Unit {0})
write_program bytes = record {
  text = λ asked stream. bytes;
  status = λ asked stream. 0;
  IsAnswer = λ status. status ≡ 0;
  IsDone = IsDone;
}

-- The program answered with some bytes. They are the stream with its sets written anew, unless the
-- sink is as before and the status isn't 0.
pub record AnswersRewritten {S K : Type 0} (ends : Ends S K) (limit : ℕ) (words : List (List ℕ))
    (old new : Moment S K) (status : ℕ) : Type 0 where
  pub bytes : List ℕ
  pub answers : Answers ends (write_program bytes) limit (asked words) old new status
  pub rewritten : (status ≡ 0) ⊎ (¬ (new.sink ≡ old.sink))
      → IfSome (ends.left old.source) (λ stream. IsRewriting stream bytes)
