-- Streams that grow by a unit.
use Rattle.std.proofs.Common.{◌≡◌, ℕ, ◌+◌, List, [], ◌∷◌, ◌++◌, map, sym, ap, ◌∙◌, arith, append_assoc}
use Rattle.std.proofs.lemmas.List.{append-nil}
use Rattle.std.specs.List.{range_with_len}
use Rattle.std.proofs.lemmas.List.FromFn.{map-range_with_len_more}
use Rattle.hevc_bit_writer.specs.WrittenUnits.{started, stream_of}
use Rattle.hevc_stream_maker.specs.Made.{sequence_set, picture_set, first_picture, picture_unit}

pub stream_of-more : (units : List (List ℕ)) (unit : List ℕ)
    → stream_of (units ++ unit ∷ []) ≡ stream_of units ++ started unit
stream_of-more [] unit = append-nil (started unit)
stream_of-more (u ∷ us) unit = ap (λ (x : List ℕ). started u ++ x) (stream_of-more us unit)
    ∙ sym (append_assoc (started u) (stream_of us) (started unit))

-- one more picture
pub more_pictures : (old new : List ℕ) (number : ℕ)
    → old ≡ stream_of (sequence_set ∷ picture_set ∷ first_picture ∷ map picture_unit (range_with_len 0 number))
    → new ≡ old ++ started (picture_unit number)
    → new ≡ stream_of (sequence_set ∷ picture_set ∷ first_picture ∷ map picture_unit (range_with_len 0 (number + 1)))
more_pictures old new number so_far e =
    let before = sequence_set ∷ picture_set ∷ first_picture ∷ map picture_unit (range_with_len 0 number) in
    let next : map picture_unit (range_with_len 0 (number + 1)) ≡ map picture_unit (range_with_len 0 number)
    ++ picture_unit number ∷ [] = map-range_with_len_more picture_unit 0 number number (omega arith) in
    e ∙ ap (λ (x : List ℕ). x ++ started (picture_unit number)) so_far
    ∙ sym (stream_of-more before (picture_unit number))
    ∙ ap (λ (x : List (List ℕ)). stream_of (sequence_set ∷ picture_set ∷ first_picture ∷ x)) (sym next)
