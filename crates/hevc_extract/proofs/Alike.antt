-- What is extracted is decoded as the stream is.
use Rattle.std.proofs.Common.{◌≡◌, ℕ, ◌+◌, ◌≤◌, Bool, true, false, cond, List, [], ◌∷◌, map, refl}
use Rattle.std.proofs.Common.{sym, ap, subst, ◌∙◌, arith, None, Result, Ok, Err}
use Rattle.hevc_spec.specs.UnitHeader.{UnitHeader, unit_header}
use Rattle.hevc_spec.specs.Units.{NalUnit, units}
use Rattle.hevc_bits.specs.ParsedHeader.{answer_of}
use Rattle.hevc_walk.specs.Meanings.{Meaning, Other}
use Rattle.hevc_walk.specs.Results.{calls, outputs, verdict}
use Rattle.hevc_walk_drop.specs.Dropping.{with_flags, DropsOther}
use Rattle.hevc_walk_drop.proofs.Drop.{dropped_calls, dropped_outputs, dropped_verdict}
use Rattle.hevc_stream.specs.Contents.{Content, nothing, content}
use Rattle.hevc_stream.specs.Kept.{Kept, none_kept}
use Rattle.hevc_stream.specs.Stream.{kept_behind, meaning, meaning_of, meanings, meanings_behind, with_content}
use Rattle.hevc_extract.specs.Alike.{DecodesAlike, flags_of}
use Rattle.hevc_extract.specs.Extracting.{extracted, first_refused, refused_or, is_kept, kept_units, up_to}
use Rattle.hevc_extract.proofs.Held.{holds_kept}

-- ---- a unit that isn't kept

-- the first of units that aren't refused has a header, and so have the others
record Headed (number : ℕ) (u : NalUnit) (us : List NalUnit) : Type 0 where
  header : UnitHeader
  is : unit_header u.bytes ≡ Ok header
  others : first_refused (number + 1) us ≡ None

headed : (number : ℕ) (u : NalUnit) (us : List NalUnit) → first_refused number (u ∷ us) ≡ None → Headed number u us
headed number u us e = by_result (unit_header u.bytes) refl e
  where
    by_result : (r : Result _ _) → unit_header u.bytes ≡ r
        → refused_or number (first_refused (number + 1) us) (answer_of r) ≡ None → Headed number u us
    by_result (Ok h) is none = record { header = h; is = is; others = none }
    by_result (Err fault) is none = absurd (cc none)

-- it isn't wanted, so it asks for nothing
passed_over : (t l : ℕ) (kept : Kept) (u : NalUnit) (h : UnitHeader) → unit_header u.bytes ≡ Ok h
    → is_kept t l u ≡ false → content (up_to t l) kept u.bytes ≡ nothing
unfolding content
passed_over t l kept u h is e = rw (is, rw is at e) refl

other_meaning : (t l : ℕ) (kept : Kept) (bytes : List ℕ) → content (up_to t l) kept bytes ≡ nothing
    → meaning (up_to t l) kept bytes ≡ Other
unfolding meaning
other_meaning t l kept bytes e = ap (meaning_of (up_to t l) kept bytes) e

same_kept : (t l : ℕ) (kept : Kept) (bytes : List ℕ) → content (up_to t l) kept bytes ≡ nothing
    → kept_behind (up_to t l) kept bytes ≡ kept
unfolding kept_behind
same_kept t l kept bytes e = ap (λ (c : Content). with_content (up_to t l) bytes c kept) e

-- ---- all units

-- what the kept units mean is what all mean but those that mean nothing
record Flagged (flags : List Bool) (kept all : List Meaning) : Type 0 where
  same : kept ≡ with_flags flags all
  others : DropsOther flags all

flagged : (t l : ℕ) (number : ℕ) (k : Kept) (us : List NalUnit) → first_refused number us ≡ None
    → Flagged (map (is_kept t l) us) (meanings_behind (up_to t l) k (kept_units t l us))
    (meanings_behind (up_to t l) k us)
flagged t l number k [] none = record { same = refl; others = tt }
flagged t l number k (u ∷ us) none =
    let head = headed number u us none in
    by_test (is_kept t l u) refl head.header head.is
    (λ k. flagged t l (number + 1) k us head.others)
  where
    behind : Kept
    behind = kept_behind (up_to t l) k u.bytes

    by_test : (b : Bool) → is_kept t l u ≡ b → (h : UnitHeader) → unit_header u.bytes ≡ Ok h
        → ((k : Kept)
        → Flagged (map (is_kept t l) us) (meanings_behind (up_to t l) k (kept_units t l us))
        (meanings_behind (up_to t l) k us))
        → Flagged (b ∷ map (is_kept t l) us)
        (meanings_behind (up_to t l) k (cond b (u ∷ kept_units t l us) (kept_units t l us)))
        (meaning (up_to t l) k u.bytes ∷ meanings_behind (up_to t l) behind us)
    by_test true e h is more = record {
      same = ap (λ (ms : List Meaning). meaning (up_to t l) k u.bytes ∷ ms) (more behind).same;
      others = (more behind).others;
    }
    by_test false e h is more =
        let nothing_here = passed_over t l k u h is e in
        let same = same_kept t l k u.bytes nothing_here in
        let rest = more k in
        record {
          same = rest.same
              ∙ ap (λ (k : Kept). with_flags (map (is_kept t l) us) (meanings_behind (up_to t l) k us)) (sym same);
          others = (
            other_meaning t l k u.bytes nothing_here,
            subst (λ (k : Kept). DropsOther (map (is_kept t l) us) (meanings_behind (up_to t l) k us)) (sym same)
                rest.others,
          );
        }

pub decodes_alike : (t l : ℕ) (stream : List ℕ) → first_refused 0 (units stream) ≡ None
    → DecodesAlike t l stream (extracted t l stream)
decodes_alike t l stream none =
    let o = up_to t l in
    let flags = flags_of t l stream in
    let all = meanings o stream in
    let same = flagged t l 0 none_kept (units stream) none in
    let meant : meanings o (extracted t l stream) ≡ with_flags flags all =
    (holds_kept t l stream).meant o ∙ same.same in
    record {
      calls = ap calls meant ∙ dropped_calls flags all same.others;
      outputs = ap outputs meant ∙ dropped_outputs flags all same.others;
      verdict = ap verdict meant ∙ dropped_verdict flags all same.others;
    }
