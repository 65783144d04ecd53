-- The bytes that begin a stream at one of its units hold these units, and mean what they mean.
use Rattle.std.proofs.Common.{◌≡◌, ℕ, suc, ◌+◌, List, [], ◌∷◌, drop, length, map, take, refl, sym}
use Rattle.std.proofs.Common.{ap, subst, ◌∙◌, Option, Some, None, Result, Ok, Err}
use Rattle.std.specs.Prelude.{All}
use Rattle.std.proofs.lemmas.List.Elements.{All-append, All-cons, All-drop, All-filter, All-head}
use Rattle.std.proofs.lemmas.List.Elements.{All-map, All-nil, All-tail, All-take}
use Rattle.hevc_spec.specs.UnitHeader.{UnitHeader, HeaderFault, unit_header}
use Rattle.hevc_spec.specs.Units.{NalUnit, units}
use Rattle.hevc_bit_writer.specs.WrittenUnits.{placed}
use Rattle.hevc_stream_pieces.specs.Pieces.{IsWholePiece}
use Rattle.hevc_stream_pieces.proofs.Cut.{headed_units}
use Rattle.hevc_stream_pieces.proofs.Found.{whole_pieces_found}
use Rattle.hevc_walk.specs.Meanings.{Meaning, SequenceSet, CodedSlice, EndOfSequence, EndOfBitstream, Other, Refused}
use Rattle.hevc_walk.specs.Pictures.{Picture, Stream, nothing_yet, pictures, with_unit}
use Rattle.hevc_walk.specs.Refusals.{Cause, Refusal, first_refusal, refusal, stop, stop_from}
use Rattle.hevc_walk.specs.Results.{events, full, full_or, stop_or, verdict}
use Rattle.hevc_walk_splice.specs.Splicing.{IsOfSet, IsPoint, spliced}
use Rattle.hevc_walk_splice.proofs.Found.{spliced-whole}
use Rattle.hevc_walk_splice.proofs.Later.{calls-less, calls-more, outputs-less, outputs-more}
use Rattle.hevc_walk_splice.proofs.Splice.{Whole}
use Rattle.hevc_stream.specs.Contents.{content, headed_content}
use Rattle.hevc_stream.specs.Kept.{Kept, none_kept}
use Rattle.hevc_stream.specs.Options.{Options}
use Rattle.hevc_stream.specs.Stream.{kept_behind, meaning, meaning_of, meanings, meanings_behind}
use Rattle.hevc_stream_laws.proofs.Meanings.{stream_is}
use Rattle.hevc_index_laws.specs.Begun.{BeginsAt, sets_in_front}
use Rattle.hevc_index_laws.specs.SplicedUnits.{is_set_unit, sets_before, spliced_bytes, spliced_units, IsNotRefused}
use Rattle.hevc_index_laws.proofs.Kept.{same_meanings}
use Rattle.hevc_index_laws.proofs.Taken.{sets_mean}

-- ---- units that aren't refused

not_stopped : (us : List Meaning) (m : ℕ) → verdict us ≡ Ok m → stop us ≡ None
not_stopped us m e = by_both (full us) (stop us) e
  where
    by_both : (f : Option ℕ) (s : Option Refusal) → full_or f (stop_or s (Ok (length (pictures us)))) ≡ Ok m → s ≡ None
    by_both (Some k) s e = absurd (cc e)
    by_both None (Some r) e = absurd (cc e)
    by_both None None e = refl

taken_from : (k : ℕ) (v : Stream) (us : List Meaning) → stop_from k v us ≡ None → All IsNotRefused us
taken_from k v [] none = All-nil IsNotRefused
taken_from k v (u ∷ us) none = by_refusal (refusal v u) refl (taken_from (k + 1) (with_unit k u v) us) none
  where
    not_refused : (u : Meaning) → refusal v u ≡ None → IsNotRefused u
    not_refused (SequenceSet format) e = tt
    not_refused (CodedSlice s) e = tt
    not_refused EndOfSequence e = tt
    not_refused EndOfBitstream e = tt
    not_refused Other e = tt
    not_refused (Refused cause) e = absurd (cc e)

    later : Option Refusal
    later = stop_from (k + 1) (with_unit k u v) us

    by_refusal : (r : Option Cause) → refusal v u ≡ r → (later ≡ None → All IsNotRefused us)
        → first_refusal k r later ≡ None → All IsNotRefused (u ∷ us)
    by_refusal None e more none = All-cons IsNotRefused u us (not_refused u e) (more none)
    by_refusal (Some cause) e more none = absurd (cc none)

all_taken : (us : List Meaning) (m : ℕ) → verdict us ≡ Ok m → All IsNotRefused us
all_taken us m e = taken_from 0 nothing_yet us (not_stopped us m e)

-- ---- their bytes

has_header : (options : Options) (kept : Kept) (bytes : List ℕ) → IsNotRefused (meaning options kept bytes)
    → (h : UnitHeader) × (unit_header bytes ≡ Ok h)
unfolding meaning content
has_header options kept bytes taken = by_result (unit_header bytes) refl taken
  where
    by_result : (r : Result UnitHeader HeaderFault) → unit_header bytes ≡ r
        → IsNotRefused (meaning_of options kept bytes (headed_content options kept bytes r))
        → (h : UnitHeader) × (unit_header bytes ≡ Ok h)
    by_result (Ok h) e taken = (h, e)
    by_result (Err fault) e taken = absurd taken

abbrev IsWhole : NalUnit → Type 0
IsWhole u = IsWholePiece u.bytes

abbrev IsWholeIfHeaded : NalUnit → Type 0
IsWholeIfHeaded u = (h : UnitHeader) → unit_header u.bytes ≡ Ok h → IsWholePiece u.bytes

all_whole : (options : Options) (kept : Kept) (us : List NalUnit) → All IsNotRefused (meanings_behind options kept us)
    → All IsWholeIfHeaded us → All IsWhole us
all_whole options kept [] taken whole = All-nil IsWhole
all_whole options kept (u ∷ us) taken whole =
    let next = kept_behind options kept u.bytes in
    let first = meaning options kept u.bytes in
    let later = meanings_behind options next us in
    let h = has_header options kept u.bytes (All-head IsNotRefused first later taken) in
    All-cons IsWhole u us (All-head IsWholeIfHeaded u us whole h.0 h.1)
    (all_whole options next us (All-tail IsNotRefused first later taken) (All-tail IsWholeIfHeaded u us whole))

abbrev bytes_of : NalUnit → List ℕ
bytes_of u = u.bytes

pub found : (options : Options) (stream : List ℕ) (v m : ℕ) → verdict (meanings options stream) ≡ Ok m
    → units (spliced_bytes v stream) ≡ placed 0 (map bytes_of (spliced_units v (units stream)))
found options stream v m ok =
    let us = units stream in
    let whole = all_whole options none_kept us (all_taken (meanings options stream) m ok) (headed_units stream) in
    let sets = All-filter is_set_unit IsWhole (take v us) (All-take IsWhole v us whole) in
    let all = All-append IsWhole (sets_before v us) (drop v us) sets (All-drop IsWhole v us whole) in
    whole_pieces_found (map bytes_of (spliced_units v us)) (All-map IsWholePiece bytes_of (spliced_units v us) all)

-- ---- what they mean

-- units mean the same wherever they are
meant_placed : (options : Options) (kept : Kept) (place : ℕ) (us : List NalUnit)
    → meanings_behind options kept (placed place (map bytes_of us)) ≡ meanings_behind options kept us
meant_placed options kept place [] = refl
meant_placed options kept place (u ∷ us) =
    ap (λ (ms : List Meaning). meaning options kept u.bytes ∷ ms)
    (meant_placed options (kept_behind options kept u.bytes) (place + 3 + length u.bytes) us)

pub length_meant : (options : Options) (kept : Kept) (us : List NalUnit)
    → length (meanings_behind options kept us) ≡ length us
length_meant options kept [] = refl
length_meant options kept (u ∷ us) = ap suc (length_meant options (kept_behind options kept u.bytes) us)

pub begins_at : (options : Options) (stream : List ℕ) (p : Picture) (m : ℕ) → verdict (meanings options stream) ≡ Ok m
    → IsPoint (meanings options stream) p → BeginsAt options p m stream (spliced_bytes p.unit stream)
begins_at options stream p m ok point = record {
  verdict = whole.ok;
  calls = calls-less p.number p.unit k (events us) (events now) whole.events;
  outputs = outputs-less p.number p.unit k (events us) (events now) whole.events;
  whole_calls = calls-more p.number p.unit k (events us) (events now) whole.events;
  whole_outputs = outputs-more p.number p.unit k (events us) (events now) whole.events;
}
  where
    us : List Meaning
    us = meanings options stream

    now : List Meaning
    now = meanings options (spliced_bytes p.unit stream)

    k : ℕ
    k = sets_in_front p stream

    sets : List Meaning
    sets = meanings_behind options none_kept (sets_before p.unit (units stream))

    meant : now ≡ spliced sets p us
    meant =
        ap (meanings_behind options none_kept) (found options stream p.unit m ok)
        ∙ meant_placed options none_kept 0 (spliced_units p.unit (units stream))
        ∙ same_meanings options none_kept (units stream) p.unit

    of_sets : All IsOfSet sets
    of_sets = sets_mean options none_kept (units stream) p.unit (All-take IsNotRefused p.unit us (all_taken us m ok))

    whole : Whole p.number p.unit k m us now
    whole =
        subst (λ (l : List Meaning). Whole p.number p.unit k m us l) (sym meant)
        (subst (λ (j : ℕ). Whole p.number p.unit j m us (spliced sets p us))
        (length_meant options none_kept (sets_before p.unit (units stream)))
        (spliced-whole us sets p m (stream_is options stream) ok point of_sets))
