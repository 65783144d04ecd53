-- What comes with the units of a stream, cut or not.
use Rattle.std.proofs.Common.{◌≡◌, ℕ, ◌+◌, ◌<◌, List, [], ◌∷◌, ◌++◌, drop, length, take, suc, refl}
use Rattle.std.proofs.Common.{sym, ◌∙◌, ap, arith, Option, None, Bool, true, false}
use Rattle.std.specs.Prelude.{get_or}
use Rattle.std.specs.List.{AllByRecursion}
use Rattle.std.proofs.Math.Seq.{take-append_seam, get_or-append_seam}
use Rattle.std.proofs.lemmas.List.{take-append-le, get_or_append_left}
use Rattle.hevc_spec.specs.Units.{NalUnit, begins_with_start_code, before_start_code}
use Rattle.hevc_spec.specs.Units.{without_trailing_zeros, units_at, kept_bytes}
use Rattle.hevc_records.specs.SliceHeader.{PlainSliceSegmentHeader}
use Rattle.hevc_walk.specs.Meanings.{Meaning, Other}
use Rattle.hevc_walk.specs.Pictures.{stream}
use Rattle.hevc_walk.specs.Walk.{Event}
use Rattle.hevc_walk_agree.specs.Standings.{standing}
use Rattle.hevc_walk_agree.proofs.Cuts.{AllBelow}
use Rattle.hevc_stream.specs.Options.{Options}
use Rattle.hevc_stream.specs.Kept.{Kept, none_kept}
use Rattle.hevc_stream.specs.Stream.{meaning, meanings_behind, kept_behind, kept_behind_all}
use Rattle.hevc_stateless.specs.Segments.{ReadUnit, nothing_read, read_at, given_with}
use Rattle.hevc_stateless_laws.specs.Segments.{latest_behind_unit, latest_from, latest_after}
use Rattle.hevc_stateless_laws.specs.Segments.{read_units_from, read_units_of, given_of}
use Rattle.hevc_stateless_laws.specs.Stands.{meant, kept_after, given_next}
use Rattle.hevc_stateless_laws.proofs.Keeping.{meant_behind, length_meant}

-- ---- what is read, unit after unit

pub reads_behind : (o : Options) (k : Kept) (l : Option PlainSliceSegmentHeader) (us vs : List NalUnit)
    → read_units_from o k l (us ++ vs) ≡ read_units_from o k l us
    ++ read_units_from o (kept_behind_all o k us) (latest_from o k l us) vs
reads_behind o k l [] vs = refl
reads_behind o k l (u ∷ us) vs =
    ap (λ ss. read_at o k l u.bytes ∷ ss)
    (reads_behind o (kept_behind o k u.bytes) (latest_behind_unit o k l u.bytes) us vs)

pub length_reads : (o : Options) (k : Kept) (l : Option PlainSliceSegmentHeader) (us : List NalUnit)
    → length (read_units_from o k l us) ≡ length us
length_reads o k l [] = refl
length_reads o k l (u ∷ us) = ap suc (length_reads o (kept_behind o k u.bytes) (latest_behind_unit o k l u.bytes) us)

-- units hand over the same wherever they are
moved_by_test : (o : Options) (p q : ℕ) (x : ℕ) (xs : List ℕ) (t : Bool)
    → begins_with_start_code (x ∷ xs) ≡ t
    → ((k : Kept) (l : Option PlainSliceSegmentHeader)
    → read_units_from o k l (units_at kept_bytes (p + 1) xs) ≡ read_units_from o k l (units_at kept_bytes (q + 1) xs))
    → (k : Kept) (l : Option PlainSliceSegmentHeader)
    → read_units_from o k l (units_at kept_bytes p (x ∷ xs)) ≡ read_units_from o k l (units_at kept_bytes q (x ∷ xs))
moved_by_test o p q x xs true t more k l =
    let bytes = kept_bytes (without_trailing_zeros (before_start_code (drop 2 xs))) in
    rw t (ap (λ ss. read_at o k l bytes ∷ ss) (more (kept_behind o k bytes) (latest_behind_unit o k l bytes)))
moved_by_test o p q x xs false t more k l = rw t (more k l)

pub reads_moved : (o : Options) (p q : ℕ) (xs : List ℕ) (k : Kept) (l : Option PlainSliceSegmentHeader)
    → read_units_from o k l (units_at kept_bytes p xs) ≡ read_units_from o k l (units_at kept_bytes q xs)
reads_moved o p q [] k l = refl
reads_moved o p q (x ∷ xs) k l =
    moved_by_test o p q x xs (begins_with_start_code (x ∷ xs)) refl (reads_moved o (p + 1) (q + 1) xs) k l

-- ---- what comes with each unit

-- it is told by the units up to there
pub given_within : (ms more : List Meaning) (ss others : List ReadUnit) (k : ℕ) → k < length ms
    → length ss ≡ length ms → given_of ms ss k ≡ given_of (ms ++ more) (ss ++ others) k
given_within ms more ss others k within same =
    let there : k < length ss = omega (arith, within, same) in
    ap (λ (m : Meaning). given_with 0 m (get_or ss k nothing_read) (standing (stream (take k ms))))
    (sym (get_or_append_left ms more Other k within))
    ∙ ap (λ (s : ReadUnit). given_with 0 (get_or (ms ++ more) k Other) s (standing (stream (take k ms))))
    (sym (get_or_append_left ss others nothing_read k there))
    ∙ ap (λ (l : List Meaning). given_with 0 (get_or (ms ++ more) k Other)
    (get_or (ss ++ others) k nothing_read) (standing (stream l)))
    (sym (take-append-le k ms more (omega (arith, within))))

-- and is what comes with it after the units before it
given_last : (ms : List Meaning) (y : Meaning) (more : List Meaning) (ss : List ReadUnit) (s : ReadUnit)
    (others : List ReadUnit) (k : ℕ) → length ms ≡ k → length ss ≡ k
    → given_with 0 y s (standing (stream ms)) ≡ given_of (ms ++ y ∷ more) (ss ++ s ∷ others) k
given_last ms y more ss s others k is are =
    ap (λ (m : Meaning). given_with 0 m s (standing (stream ms))) (sym (get_or-append_seam ms y more Other)
    ∙ ap (λ (n : ℕ). get_or (ms ++ y ∷ more) n Other) is)
    ∙ ap (λ (x : ReadUnit). given_with 0 (get_or (ms ++ y ∷ more) k Other) x (standing (stream ms)))
    (sym (get_or-append_seam ss s others nothing_read) ∙ ap (λ (n : ℕ). get_or (ss ++ s ∷ others) n nothing_read) are)
    ∙ ap (λ (l : List Meaning). given_with 0 (get_or (ms ++ y ∷ more) k Other)
    (get_or (ss ++ s ∷ others) k nothing_read) (standing (stream l))) (sym (take-append_seam ms (y ∷ more))
    ∙ ap (λ (n : ℕ). take n (ms ++ y ∷ more)) is)

pub given_here : (o : Options) (all front : List NalUnit) (u : NalUnit) (later : List NalUnit) (k : ℕ)
    → all ≡ front ++ u ∷ later → length front ≡ k
    → given_next 0 o front u ≡ given_of (meant o all) (read_units_of o all) k
given_here o all front u later k whole place =
    let y = meaning o (kept_after o front) u.bytes in
    let s = read_at o (kept_after o front) (latest_after o front) u.bytes in
    let more = meanings_behind o (kept_behind o (kept_after o front) u.bytes) later in
    let others =
    read_units_from o (kept_behind o (kept_after o front) u.bytes)
    (latest_behind_unit o (kept_after o front) (latest_after o front) u.bytes) later in
    given_last (meant o front) y more (read_units_of o front) s others k (length_meant o none_kept front
    ∙ place) (length_reads o none_kept None front ∙ place)
    ∙ ap (λ (ms : List Meaning). given_of ms (read_units_of o front ++ s ∷ others) k)
    (sym (meant_behind o none_kept front (u ∷ later)))
    ∙ ap (λ (ss : List ReadUnit). given_of (meant o (front ++ u ∷ later)) ss k)
    (sym (reads_behind o none_kept None front (u ∷ later)))
    ∙ ap (λ (us : List NalUnit). given_of (meant o us) (read_units_of o us) k) (sym whole)

-- units that come after change nothing of what came
pub given_over : (o : Options) (us more : List NalUnit) (k : ℕ) (es : List (ℕ × Event)) → length us ≡ k
    → AllBelow k es
    → AllByRecursion
    (λ e. given_of (meant o us) (read_units_of o us) e.0 ≡ given_of (meant o (us ++ more))
    (read_units_of o (us ++ more)) e.0) es
given_over o us more k [] is below = tt
given_over o us more k (e ∷ es) is below = (
  (let first = below.0 in let size = length_meant o none_kept us in let many = length_reads o none_kept None us in
      given_within (meant o us) (meanings_behind o (kept_after o us) more) (read_units_of o us)
      (read_units_from o (kept_after o us) (latest_after o us) more) e.0 (omega (arith, first, is, size))
      (many ∙ sym size))
      ∙ ap (λ (ms : List Meaning). given_of ms
      (read_units_of o us ++ read_units_from o (kept_after o us) (latest_after o us) more) e.0)
      (sym (meant_behind o none_kept us more))
      ∙ ap (λ (ss : List ReadUnit). given_of (meant o (us ++ more)) ss e.0)
      (sym (reads_behind o none_kept None us more)),
  given_over o us more k es is below.1,
)
