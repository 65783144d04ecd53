-- The kept units are found in the bytes that are extracted.
use Rattle.std.proofs.Common.{◌≡◌, ℕ, ◌+◌, Bool, true, false, cond, List, [], ◌∷◌, length, refl, ap}
use Rattle.std.proofs.Common.{◌∙◌, Result, Ok, Err}
use Rattle.std.specs.Prelude.{All}
use Rattle.std.proofs.lemmas.List.Elements.{All-cons, All-nil, All-head, All-tail}
use Rattle.hevc_spec.specs.UnitHeader.{UnitHeader, HeaderFault, unit_header}
use Rattle.hevc_spec.specs.Units.{NalUnit, units}
use Rattle.hevc_bit_writer.specs.WrittenUnits.{placed}
use Rattle.hevc_stream_pieces.specs.Pieces.{IsWholePiece}
use Rattle.hevc_stream_pieces.proofs.Cut.{headed_units}
use Rattle.hevc_stream_pieces.proofs.Found.{whole_pieces_found}
use Rattle.hevc_walk.specs.Meanings.{Meaning}
use Rattle.hevc_stream.specs.Kept.{Kept, none_kept}
use Rattle.hevc_stream.specs.Options.{Options}
use Rattle.hevc_stream.specs.Stream.{kept_behind, meaning, meanings_behind}
use Rattle.hevc_extract.specs.Alike.{HoldsKept}
use Rattle.hevc_extract.specs.Extracting.{bytes_of_all, extracted, is_kept, is_kept_by, kept_units}

-- a unit that is kept has a header
has_header : (t l : ℕ) (r : Result UnitHeader HeaderFault) → is_kept_by t l r ≡ true → (h : UnitHeader) × (r ≡ Ok h)
has_header t l (Ok h) e = (h, refl)
has_header t l (Err fault) e = absurd cc

abbrev WholeIfHeaded : NalUnit → Type 0
WholeIfHeaded u = (h : UnitHeader) → unit_header u.bytes ≡ Ok h → IsWholePiece u.bytes

whole_pieces : (t l : ℕ) (us : List NalUnit) → All WholeIfHeaded us
    → All IsWholePiece (bytes_of_all (kept_units t l us))
whole_pieces t l [] all = All-nil IsWholePiece
whole_pieces t l (u ∷ us) all = by_test (is_kept t l u) refl (whole_pieces t l us (All-tail WholeIfHeaded u us all))
  where
    by_test : (b : Bool) → is_kept t l u ≡ b → All IsWholePiece (bytes_of_all (kept_units t l us))
        → All IsWholePiece (bytes_of_all (cond b (u ∷ kept_units t l us) (kept_units t l us)))
    by_test true e more =
        let p = has_header t l (unit_header u.bytes) e in
        All-cons IsWholePiece u.bytes (bytes_of_all (kept_units t l us)) (All-head WholeIfHeaded u us all p.0 p.1) more
    by_test false e more = more

-- units mean the same wherever they are
meant_placed : (options : Options) (kept : Kept) (place : ℕ) (us : List NalUnit)
    → meanings_behind options kept (placed place (bytes_of_all us)) ≡ meanings_behind options kept us
meant_placed options kept place [] = refl
meant_placed options kept place (u ∷ us) =
    ap (λ (ms : List Meaning). meaning options kept u.bytes ∷ ms)
    (meant_placed options (kept_behind options kept u.bytes) (place + 3 + length u.bytes) us)

pub holds_kept : (t l : ℕ) (stream : List ℕ) → HoldsKept t l stream (extracted t l stream)
holds_kept t l stream =
    let us = kept_units t l (units stream) in
    let found = whole_pieces_found (bytes_of_all us) (whole_pieces t l (units stream) (headed_units stream)) in
    record {
      found = found;
      meant = λ options. ap (meanings_behind options none_kept) found ∙ meant_placed options none_kept 0 us;
    }
