-- Pieces that are after a start code each are found.
use Rattle.std.proofs.Common.{◌≡◌, ℕ, ◌+◌, false, List, [], ◌∷◌, ◌++◌, length, refl, ap, ap₂, ◌∙◌, arith, append-nil}
use Rattle.std.specs.Prelude.{All}
use Rattle.std.proofs.lemmas.List.Elements.{All-head, All-tail}
use Rattle.hevc_spec.specs.Units.{NalUnit, begins_with_start_code, before_start_code}
use Rattle.hevc_spec.specs.Units.{without_trailing_zeros, units_at, units_from, units, kept_bytes}
use Rattle.hevc_bit_writer.specs.WrittenUnits.{placed, started, stream_of}
use Rattle.hevc_stream_pieces.specs.Pieces.{IsPiece, IsWholePiece, units_of_pieces}
use Rattle.hevc_stream_pieces.proofs.Joined.{units_joined}
use Rattle.hevc_stream_pieces.proofs.Whole.{whole}

-- bytes without a start code have no unit
no_units : (place : ℕ) (bytes : List ℕ) → before_start_code bytes ≡ bytes → units_at kept_bytes place bytes ≡ []
no_units place [] h = refl
no_units place (byte ∷ bytes) h =
    let w = whole byte bytes h in
    rw w.here (no_units (place + 1) bytes w.after)

one_after : (xs : List ℕ) → begins_with_start_code (0 ∷ 1 ∷ xs) ≡ false
one_after [] = refl
one_after (_ ∷ _) = refl

none_after : (xs : List ℕ) → begins_with_start_code (1 ∷ xs) ≡ false
none_after [] = refl
none_after (_ ∷ []) = refl
none_after (_ ∷ _ ∷ _) = refl

abbrev unit_at : ℕ → List ℕ → NalUnit
unit_at place bytes = record { offset = place + 3; bytes = bytes }

-- one piece after its start code
piece_alone : (place : ℕ) (piece : List ℕ) → IsPiece piece
    → units_at kept_bytes place (started piece) ≡ unit_at place (kept_bytes piece) ∷ []
piece_alone place piece is =
    let found : kept_bytes (without_trailing_zeros (before_start_code piece)) ≡ kept_bytes piece =
    ap (λ (x : List ℕ). kept_bytes (without_trailing_zeros x)) is.whole ∙ ap kept_bytes is.trimmed in
    let more : units_at kept_bytes (place + 1) (0 ∷ 1 ∷ piece) ≡ [] =
    past (place + 1) 0 (1 ∷ piece) (one_after piece) ∙ past (place + 1 + 1) 1 piece (none_after piece)
    ∙ no_units (place + 1 + 1 + 1) piece is.whole in
    ap₂ (λ (x : List ℕ) (y : List NalUnit). unit_at place x ∷ y) found more
  where
    past : (at byte : ℕ) (bytes : List ℕ) → begins_with_start_code (byte ∷ bytes) ≡ false
        → units_at kept_bytes at (byte ∷ bytes) ≡ units_at kept_bytes (at + 1) bytes
    past at byte bytes e = rw e refl

found_at : (place : ℕ) (pieces : List (List ℕ)) → All IsPiece pieces
    → units_at kept_bytes place (stream_of pieces) ≡ units_of_pieces place pieces
found_at place [] all = refl
found_at place (piece ∷ []) all = ap (units_at kept_bytes place) (append-nil (started piece))
    ∙ piece_alone place piece (All-head IsPiece piece [] all)
found_at place (piece ∷ next ∷ pieces) all =
    let rest = stream_of (next ∷ pieces) in
    let far : place + length (started piece) ≡ place + 3 + length piece = omega arith in
    units_joined place (started piece) rest refl
    ∙ ap (λ (us : List NalUnit). us ++ units_at kept_bytes (place + length (started piece)) rest)
    (piece_alone place piece (All-head IsPiece piece (next ∷ pieces) all))
    ∙ ap (λ (n : ℕ). unit_at place (kept_bytes piece) ∷ units_at kept_bytes n rest) far
    ∙ ap (λ (us : List NalUnit). unit_at place (kept_bytes piece) ∷ us)
    (found_at (place + 3 + length piece) (next ∷ pieces) (All-tail IsPiece piece (next ∷ pieces) all))

pub pieces_found : (pieces : List (List ℕ)) → All IsPiece pieces → units (stream_of pieces) ≡ units_of_pieces 0 pieces
unfolding units_from
pieces_found pieces all = found_at 0 pieces all

are_placed : (place : ℕ) (pieces : List (List ℕ)) → All IsWholePiece pieces
    → units_of_pieces place pieces ≡ placed place pieces
are_placed place [] all = refl
are_placed place (piece ∷ pieces) all =
    ap₂ (λ (x : List ℕ) (us : List NalUnit). unit_at place x ∷ us) (All-head IsWholePiece piece pieces all).kept
    (are_placed (place + 3 + length piece) pieces (All-tail IsWholePiece piece pieces all))

pub whole_pieces_found : (pieces : List (List ℕ)) → All IsWholePiece pieces → units (stream_of pieces) ≡ placed 0 pieces
whole_pieces_found pieces all = pieces_found pieces (λ k x e. (all k x e).piece) ∙ are_placed 0 pieces all
