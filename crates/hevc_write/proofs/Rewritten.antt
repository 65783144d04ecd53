-- Units that are rewritten one by one.
use Rattle.std.proofs.Common.{◌≡◌, ℕ, ◌+◌, List, [], ◌∷◌, ◌++◌, length, refl, sym, ap, ◌∙◌}
use Rattle.std.proofs.Common.{subst, append_assoc, append-nil}
use Rattle.std.specs.Prelude.{All}
use Rattle.std.proofs.lemmas.List.Elements.{All-cons, All-nil}
use Rattle.hevc_spec.specs.Units.{NalUnit, units}
use Rattle.hevc_bit_writer.specs.WrittenUnits.{started, stream_of}
use Rattle.hevc_stream_pieces.specs.Pieces.{IsPiece, units_of_pieces}
use Rattle.hevc_stream_pieces.proofs.Found.{pieces_found}
use Rattle.hevc_rewrite_laws.specs.Replaced.{StandFor, WantsAll}
use Rattle.hevc_rewrite_laws.proofs.AllWanted.{same_by_default}
use Rattle.hevc_walk.specs.Results.{calls, outputs, verdict}
use Rattle.hevc_records.specs.Sps.{PlainSps}
use Rattle.std.specs.Prelude.{Option}
use Rattle.hevc_stream.specs.Kept.{Kept, none_kept}
use Rattle.hevc_stream.specs.Options.{Options, default_options}
use Rattle.hevc_stream.specs.Stream.{kept_behind, meanings, meanings_behind}
use Rattle.hevc_write.specs.Steps.{IsStep, TakesOne}
use Rattle.hevc_write.specs.Rewriting.{AreRewritten, IsRewriting}

abbrev pub AreSteps : Kept → List NalUnit → List (List ℕ) → Type 0
AreSteps kept [] [] = Unit {0}
AreSteps kept [] (piece ∷ pieces) = ⊥
AreSteps kept (u ∷ us) [] = ⊥
AreSteps kept (u ∷ us) (piece ∷ pieces) = IsStep kept u.bytes piece
    × AreSteps (kept_behind default_options kept u.bytes) us pieces

-- each unit is rewritten
rewritten : (kept : Kept) (us : List NalUnit) (pieces : List (List ℕ)) → AreSteps kept us pieces
    → AreRewritten kept us pieces
rewritten kept [] [] s = tt
rewritten kept [] (piece ∷ pieces) s = absurd s
rewritten kept (u ∷ us) [] s = absurd s
rewritten kept (u ∷ us) (piece ∷ pieces) s =
    (s.0.is, rewritten (kept_behind default_options kept u.bytes) us pieces s.1)

-- what is written are pieces
all_pieces : (kept : Kept) (us : List NalUnit) (pieces : List (List ℕ)) → AreSteps kept us pieces → All IsPiece pieces
all_pieces kept [] [] s = All-nil IsPiece
all_pieces kept [] (piece ∷ pieces) s = absurd s
all_pieces kept (u ∷ us) [] s = absurd s
all_pieces kept (u ∷ us) (piece ∷ pieces) s =
    All-cons IsPiece piece pieces s.0.found (all_pieces (kept_behind default_options kept u.bytes) us pieces s.1)

-- each stands for its unit
stand : (kept : Kept) (us : List NalUnit) (pieces : List (List ℕ)) (place : ℕ) → AreSteps kept us pieces
    → StandFor default_options kept us (units_of_pieces place pieces)
stand kept [] [] place s = tt
stand kept [] (piece ∷ pieces) place s = absurd s
stand kept (u ∷ us) [] place s = absurd s
stand kept (u ∷ us) (piece ∷ pieces) place s =
    (s.0.stands, stand (kept_behind default_options kept u.bytes) us pieces (place + 3 + length piece) s.1)

-- ---- a whole stream

module _ (stream bytes : List ℕ) (pieces : List (List ℕ)) (steps : AreSteps none_kept (units stream) pieces)
    (parts : bytes ≡ stream_of pieces) where
  -- so what is written means the same
  same_meanings : (options : Options) → WantsAll options → meanings options bytes ≡ meanings options stream
  same_meanings options all =
      ap (λ (b : List ℕ). meanings_behind options none_kept (units b)) parts
      ∙ ap (meanings_behind options none_kept) (pieces_found pieces (all_pieces none_kept (units stream) pieces steps))
      ∙ same_by_default options none_kept (units stream) (units_of_pieces 0 pieces) all
      (stand none_kept (units stream) pieces 0 steps)

  -- and is a rewriting of the stream
  pub rewriting : IsRewriting stream bytes
  rewriting = record {
    pieces = pieces;
    are = rewritten none_kept (units stream) pieces steps;
    parts = parts;
    found = ap units parts ∙ pieces_found pieces (all_pieces none_kept (units stream) pieces steps);
    decodes = record {
      calls = λ options all. ap calls (same_meanings options all);
      outputs = λ options all. ap outputs (same_meanings options all);
      verdict = λ options all. ap verdict (same_meanings options all);
    };
  }

-- ---- the units that are left

-- What is written so far and the units that are left make up the whole.
pub record Left (stream old out : List ℕ) (sets : ℕ → Option PlainSps) (us : List NalUnit) : Type 0 where
  pub kept : Kept
  pub sets_are : sets ≡ kept.sequence_sets
  pub done : List (List ℕ)
  pub grown : out ≡ old ++ stream_of done
  pub rest : (pieces : List (List ℕ)) → AreSteps kept us pieces → AreSteps none_kept (units stream) (done ++ pieces)

-- streams of units follow one another
pub stream_of-append : (us vs : List (List ℕ)) → stream_of (us ++ vs) ≡ stream_of us ++ stream_of vs
stream_of-append [] vs = refl
stream_of-append (u ∷ us) vs = ap (λ (x : List ℕ). started u ++ x) (stream_of-append us vs)
    ∙ sym (append_assoc (started u) (stream_of us) (stream_of vs))

-- before the first unit
pub begins : (stream old : List ℕ) (sets : ℕ → Option PlainSps) → sets ≡ none_kept.sequence_sets
    → Left stream old old sets (units stream)
begins stream old sets none = record {
  kept = none_kept;
  sets_are = none;
  done = [];
  grown = sym (append-nil old);
  rest = λ pieces steps. steps;
}

-- after one unit more
pub takes : (stream old out new : List ℕ) (sets more : ℕ → Option PlainSps) (u : NalUnit)
    (us : List NalUnit) (left : Left stream old out sets (u ∷ us)) → TakesOne left.kept u.bytes out new more
    → Left stream old new more us
takes stream old out new sets more u us left one =
    let end : stream_of (left.done ++ one.piece ∷ []) ≡ stream_of left.done ++ started one.piece =
    stream_of-append left.done (one.piece ∷ [])
    ∙ ap (λ (x : List ℕ). stream_of left.done ++ x) (append-nil (started one.piece)) in
    record {
      kept = kept_behind default_options left.kept u.bytes;
      sets_are = one.sets_are;
      done = left.done ++ one.piece ∷ [];
      grown = one.grown ∙ ap (λ (x : List ℕ). x ++ started one.piece) left.grown
          ∙ append_assoc old (stream_of left.done) (started one.piece) ∙ ap (λ (x : List ℕ). old ++ x) (sym end);
      rest = λ pieces steps. subst (λ (ps : List (List ℕ)). AreSteps none_kept (units stream) ps)
          (sym (append_assoc left.done (one.piece ∷ []) pieces)) (left.rest (one.piece ∷ pieces) (one.step, steps));
    }

-- after the last one
pub ends : (stream old out : List ℕ) (sets : ℕ → Option PlainSps) (us : List NalUnit) → us ≡ []
    → Left stream old out sets us → (bytes : List ℕ) × (out ≡ old ++ bytes) × IsRewriting stream bytes
ends stream old out sets us none left =
    let l : Left stream old out sets [] = subst (λ (us : List NalUnit). Left stream old out sets us) none left in (
      stream_of (l.done ++ []),
      l.grown ∙ ap (λ (ps : List (List ℕ)). old ++ stream_of ps)
          (sym (append-nil l.done)),
      rewriting stream (stream_of (l.done ++ [])) (l.done ++ []) (l.rest [] tt) refl,
    )
