-- The units that are left are taken one by one.
use Rattle.std.proofs.Common.{◌≡◌, ℕ, ◌+◌, ◌≤◌, Bool, true, false, cond, List, [], ◌∷◌, ◌++◌}
use Rattle.std.proofs.Common.{length, sym, ap, subst, ◌∙◌, arith, Some, None, Result, Ok, Err}
use Rattle.std.proofs.Common.{append_assoc, append-nil}
use Rattle.hevc_spec.specs.UnitHeader.{UnitHeader, HeaderFault, unit_header}
use Rattle.hevc_spec.specs.Units.{NalUnit, units}
use Rattle.hevc_bits.specs.declared.header.UnitError.{UnitError}
use Rattle.hevc_bits.specs.ParsedHeader.{answer_of, parsed_header}
use Rattle.hevc_bit_writer.specs.WrittenUnits.{started, stream_of}
use Rattle.hevc_extract.specs.declared.extraction.Kept.{Kept}
use Rattle.hevc_extract.specs.Extracting.{bytes_of_all, counted, extracted, first_refused}
use Rattle.hevc_extract.specs.Extracting.{refused_or, is_kept, is_kept_by, kept_units, up_to}
use Rattle.hevc_stream.specs.Contents.{wants}

-- What is kept so far and what the units that are left give are the whole.
pub record Left (t l : ℕ) (stream old out : List ℕ) (kept : Kept) (us : List NalUnit) : Type 0 where
  pub bytes : out ++ stream_of (bytes_of_all (kept_units t l us)) ≡ old ++ extracted t l stream
  pub count : kept.units + length (kept_units t l us) ≡ length (kept_units t l (units stream))
  pub all : kept.units + kept.dropped + length us ≡ length (units stream)
  pub refused : first_refused 0 (units stream) ≡ first_refused (kept.units + kept.dropped) us

pub header_is : (bytes : List ℕ) (h : UnitHeader) → parsed_header bytes ≡ Ok h → unit_header bytes ≡ Ok h
header_is bytes h e = by_result (unit_header bytes) e
  where
    by_result : (r : Result UnitHeader HeaderFault) → answer_of r ≡ Ok h → r ≡ Ok h
    by_result (Ok g) e = ap Ok (cc e)
    by_result (Err fault) e = absurd (cc e)

-- one more unit is taken
pub takes : (t l : ℕ) (stream old out : List ℕ) (kept : Kept) (u : NalUnit) (others : List NalUnit) (h : UnitHeader)
    → parsed_header u.bytes ≡ Ok h
    → Left t l stream old out kept (u ∷ others)
    → Left t l stream old (out ++ cond (wants (up_to t l) h) (started u.bytes) []) (counted (wants (up_to t l) h) kept)
    others
takes t l stream old out kept u others h parsed left =
    let is = header_is u.bytes h parsed in
    by_test (wants (up_to t l) h) (ap (is_kept_by t l) is) left.bytes left.count
  where
    none_here : first_refused 0 (units stream) ≡ first_refused (kept.units + kept.dropped + 1) others
    none_here =
        left.refused
        ∙ ap (refused_or (kept.units + kept.dropped) (first_refused (kept.units + kept.dropped + 1) others)) parsed

    by_test : (b : Bool) → is_kept t l u ≡ b
        → out ++ stream_of (bytes_of_all (cond (is_kept t l u) (u ∷ kept_units t l others) (kept_units t l others)))
        ≡ old ++ extracted t l stream
        → kept.units + length (cond (is_kept t l u) (u ∷ kept_units t l others) (kept_units t l others))
        ≡ length (kept_units t l (units stream))
        → Left t l stream old (out ++ cond b (started u.bytes) []) (counted b kept) others
    by_test true e bytes count = record {
      bytes = append_assoc out (started u.bytes) (stream_of (bytes_of_all (kept_units t l others))) ∙ rw e at bytes;
      count = let more = rw e at count in omega (arith, more);
      all = omega (arith, left.all);
      refused = none_here ∙ ap (λ (n : ℕ). first_refused n others) (omega arith);
    }
    by_test false e bytes count = record {
      bytes =
          ap (λ (x : List ℕ). x ++ stream_of (bytes_of_all (kept_units t l others))) (append-nil out) ∙ rw e at bytes;
      count = rw e at count;
      all = omega (arith, left.all);
      refused = none_here ∙ ap (λ (n : ℕ). first_refused n others) (omega arith);
    }

pub counted_sum : (b : Bool) (kept : Kept)
    → (counted b kept).units + (counted b kept).dropped ≡ kept.units + kept.dropped + 1
counted_sum true kept = omega arith
counted_sum false kept = omega arith

-- ---- at the end

-- none is left
pub record Done (t l : ℕ) (stream old out : List ℕ) (kept : Kept) : Type 0 where
  pub bytes : out ≡ old ++ extracted t l stream
  pub count : kept.units ≡ length (kept_units t l (units stream))
  pub all : kept.units + kept.dropped ≡ length (units stream)
  pub refused : first_refused 0 (units stream) ≡ None

pub done : (t l : ℕ) (stream old out : List ℕ) (kept : Kept) (us : List NalUnit) → us ≡ []
    → Left t l stream old out kept us → Done t l stream old out kept
done t l stream old out kept us e left =
    let rest : Left t l stream old out kept [] =
    subst (λ (us : List NalUnit). Left t l stream old out kept us) e left in
    let none = rest.count in
    let all = rest.all in
    record {
      bytes = sym (append-nil out) ∙ rest.bytes;
      count = omega (arith, none);
      all = omega (arith, all);
      refused = rest.refused;
    }

-- the first that is left is refused
pub refuses : (t l : ℕ) (stream old out : List ℕ) (kept : Kept) (us others : List NalUnit) (u : NalUnit)
    (error : UnitError) → us ≡ u ∷ others → parsed_header u.bytes ≡ Err error
    → Left t l stream old out kept us → first_refused 0 (units stream) ≡ Some (kept.units + kept.dropped, error)
refuses t l stream old out kept us others u error e parsed left =
    left.refused ∙ ap (first_refused (kept.units + kept.dropped)) e
    ∙ ap (refused_or (kept.units + kept.dropped) (first_refused (kept.units + kept.dropped + 1) others)) parsed

-- the bytes only grow
pub more_grown : (old mid new added more : List ℕ) → mid ≡ old ++ added → new ≡ mid ++ more
    → (all : List ℕ) × (new ≡ old ++ all)
more_grown old mid new added more e f =
    (added ++ more, f ∙ ap (λ (x : List ℕ). x ++ more) e ∙ append_assoc old added more)
