-- What comes with a unit, given once or twice.
use Rattle.std.proofs.Common.{◌≡◌, ℕ, List, [], ◌∷◌, ◌++◌, refl, sym, ◌∙◌, ap, Option, Some, None}
use Rattle.std.proofs.Common.{Ok, Bool, true, false, if◌then◌else◌}
use Rattle.std.specs.List.{flat_map}
use Rattle.std.specs.Prelude.{option_map}
use Rattle.hevc_spec.specs.Units.{NalUnit}
use Rattle.hevc_spec.specs.UnitHeader.{UnitHeader, unit_header}
use Rattle.hevc_records.specs.SliceHeader.{PlainSliceSegmentHeader, completed_header}
use Rattle.hevc_tables.specs.SliceHeaderTable.{active_sets}
use Rattle.hevc_walk.specs.Meanings.{Format, Slice, Meaning, SequenceSet, CodedSlice, EndOfSequence}
use Rattle.hevc_walk.specs.Meanings.{EndOfBitstream, Other, Refused}
use Rattle.hevc_walk.specs.DependentSlices.{whole_slice}
use Rattle.hevc_walk.specs.Walk.{Event, Called, Output, Part, change_format}
use Rattle.hevc_walk_units.specs.Units.{Standing, on_store, finish_current}
use Rattle.hevc_stream.specs.Options.{Options}
use Rattle.hevc_stream.specs.Kept.{Kept, none_kept}
use Rattle.hevc_stream.specs.Stream.{meaning, kept_behind, kept_behind_all}
use Rattle.hevc_records.specs.Sps.{PlainSps}
use Rattle.hevc_backend.specs.Handed.{Segment, PlainPicture, PlainDpb, dpb_of, first_picture}
use Rattle.hevc_driver.specs.Headers.{latest_behind, shared_header, whole_header}
use Rattle.hevc_driver.specs.Given.{Given, dpb_at, given_at, handed_by, handed_in, picture_at, set_of}
use Rattle.hevc_driver.specs.Does.{call_in}
use Rattle.hevc_driver.specs.Moments.{with_kept, negotiates, negotiates_by, opening, opening_by}
use Rattle.hevc_stateless.specs.declared.state.State.{State}
use Rattle.hevc_stateless.specs.declared.state.State.TheVariants.{Decoding}
use Rattle.hevc_stateless.specs.Segments.{ReadUnit, latest_at, own_header, own_set, read_at}
use Rattle.hevc_stateless.specs.Segments.{with_sets, segment_with, segment_at, given_with}
use Rattle.hevc_stateless.specs.States.{unit_at, later_meaning, meaning_in, is_sequence_set}
use Rattle.hevc_stateless.specs.Steps.{Seen, given_to}
use Rattle.hevc_stateless_laws.specs.Segments.{latest_behind_unit, latest_from, latest_after}
use Rattle.hevc_stateless_laws.specs.Stands.{meant, standing_after, StandsAfter, StandsBetween}
use Rattle.hevc_stateless_laws.specs.Stands.{first_meaning, meant_next, kept_after, given_next}
use Rattle.hevc_stateless_laws.proofs.Keeping.{not_read}
use Rattle.hevc_stateless_laws.proofs.Repeating.{whole_once, finish_none}
use Rattle.hevc_stateless_laws.proofs.Twice.{twice_whole}
use Rattle.hevc_stateless_laws.proofs.Means.{first_is}

-- what comes with the calls of some events
pub handed_calls : (given : Given) (es : List Event)
    → flat_map (handed_in given) es ≡ flat_map (handed_by given) (flat_map call_in es)
handed_calls given [] = refl
handed_calls given (Called c ∷ es) = ap (λ l. handed_by given c ++ l) (handed_calls given es)
handed_calls given (Output n o ∷ es) = handed_calls given es

-- ---- one more unit

pub latest_last : (o : Options) (k : Kept) (l : Option PlainSliceSegmentHeader) (us : List NalUnit)
    (u : NalUnit)
    → latest_from o k l (us ++ u ∷ []) ≡ latest_behind_unit o (kept_behind_all o k us) (latest_from o k l us) u.bytes
latest_last o k l [] u = refl
latest_last o k l (v ∷ us) u = latest_last o (kept_behind o k v.bytes) (latest_behind_unit o k l v.bytes) us u

-- ---- a sequence set that opens no negotiation

later_latest : (m : Meaning) (own l : Option PlainSliceSegmentHeader)
    → latest_at (later_meaning m) own l ≡ latest_at m own l
later_latest (SequenceSet f) own l = refl
later_latest (CodedSlice w) own l = refl
later_latest EndOfSequence own l = refl
later_latest EndOfBitstream own l = refl
later_latest Other own l = refl
later_latest (Refused c) own l = refl

later_given : (t : ℕ) (m : Meaning) (own : ReadUnit) (s : Standing)
    → given_with t (later_meaning m) own s ≡ given_with t m own s
later_given t (SequenceSet f) own s = refl
later_given t (CodedSlice w) own s = refl
later_given t EndOfSequence own s = refl
later_given t EndOfBitstream own s = refl
later_given t Other own s = refl
later_given t (Refused c) own s = refl

first_latest : (a : Option Format) (m : Meaning) (own l : Option PlainSliceSegmentHeader)
    → latest_at (first_meaning a m) own l ≡ latest_at m own l
first_latest None m own l = refl
first_latest (Some f) m own l = later_latest m own l

first_given : (t : ℕ) (a : Option Format) (m : Meaning) (own : ReadUnit) (s : Standing)
    → given_with t (first_meaning a m) own s ≡ given_with t m own s
first_given t None m own s = refl
first_given t (Some f) m own s = later_given t m own s

-- ---- where a decoder is after some units

module _ {B H : Type 0} (o : Options) (us : List NalUnit) (u : NalUnit) (h : UnitHeader) (old : Seen B H)
    (after : StandsAfter o us old) (parsed : unit_header u.bytes ≡ Ok h) where
  abbrev a : Option Format
  a = (standing_after (meant o us)).store.accepted

  means_it : meaning_in old.view.state (unit_at o old.kept h u.bytes) ≡ first_meaning a (meaning o old.kept u.bytes)
  means_it = ap (λ (x : State). meaning_in x (unit_at o old.kept h u.bytes)) after.state_is
      ∙ first_is o old.kept u.bytes h parsed a after.started

  pub given_first : (t : ℕ) → given_to t o h u.bytes old ≡ given_next t o us u
  given_first t =
      ap (λ (m : Meaning). given_with t m (read_at o old.kept old.view.latest u.bytes) old.view.standing) means_it
      ∙ first_given t a (meaning o old.kept u.bytes) (read_at o old.kept old.view.latest u.bytes) old.view.standing
      ∙ ap (λ (k : Kept). given_with t (meaning o k u.bytes)
      (read_at o k old.view.latest u.bytes) old.view.standing) after.kept
      ∙ ap (λ (l : Option PlainSliceSegmentHeader). given_with t (meaning o (kept_after o us) u.bytes)
      (read_at o (kept_after o us) l u.bytes) old.view.standing) after.latest
      ∙ ap (λ (s : Standing). given_with t (meaning o (kept_after o us) u.bytes)
      (read_at o (kept_after o us) (latest_after o us) u.bytes) s) after.stands

  pub latest_first : latest_at (meaning_in old.view.state (unit_at o old.kept h u.bytes))
      (own_header o old.kept u.bytes) old.view.latest ≡ latest_after o (us ++ u ∷ [])
  latest_first =
      ap (λ (m : Meaning). latest_at m (own_header o old.kept u.bytes) old.view.latest) means_it
      ∙ first_latest a (meaning o old.kept u.bytes) (own_header o old.kept u.bytes) old.view.latest
      ∙ ap (λ (k : Kept). latest_behind_unit o k old.view.latest u.bytes) after.kept
      ∙ ap (λ (l : Option PlainSliceSegmentHeader). latest_behind_unit o (kept_after o us) l u.bytes) after.latest
      ∙ sym (latest_last o none_kept None us u)

-- ---- a segment that is taken twice

behind_twice : (l : Option PlainSliceSegmentHeader) (own : PlainSliceSegmentHeader)
    → latest_behind (latest_behind l own) own ≡ latest_behind l own
behind_twice l own = by own.dependent_slice_segment_flag
  where
    by : (d : Bool)
        → (if d then (if d then l else Some (shared_header own)) else Some (shared_header own))
        ≡ (if d then l else Some (shared_header own))
    by true = refl
    by false = refl

whole_twice : (l : Option PlainSliceSegmentHeader) (own : PlainSliceSegmentHeader)
    → whole_header (latest_behind l own) own ≡ whole_header l own
whole_twice l own = by own.dependent_slice_segment_flag
  where
    by : (d : Bool)
        → (if d then option_map (completed_header own) (if d then l else Some (shared_header own)) else Some
        own) ≡ (if d then option_map (completed_header own) l else Some own)
    by true = refl
    by false = refl

latest_twice : (x : Slice) (own l : Option PlainSliceSegmentHeader)
    → latest_at (CodedSlice x) own (latest_at (CodedSlice x) own l) ≡ latest_at (CodedSlice x) own l
latest_twice x None l = refl
latest_twice x (Some own) l = behind_twice l own

segment_twice : (k : Kept) (x : Slice) (own l : Option PlainSliceSegmentHeader)
    → segment_with k (latest_at (CodedSlice x) own l) own ≡ segment_with k l own
segment_twice k x None l = refl
segment_twice k x (Some own) l =
    ap (with_sets (active_sets k.sequence_sets k.picture_sets own.pic_parameter_set_id)) (whole_twice l own)

-- the picture that begins with it is the same
picture_twice : (w : Slice) (segment : Option Segment) (x : Slice) (s : Standing)
    → picture_at (Some w) segment
    (on_store (change_format w.format) (finish_current (with_kept x s)).next).next ≡ picture_at (Some w) segment s
picture_twice w None x s = refl
picture_twice w (Some segment) x s =
    ap (λ (q : Part Standing). first_picture q.next.next w segment.header.st_rps_bits)
    (finish_none (on_store (change_format w.format) (finish_current (with_kept x s)).next).next refl)

-- and so is what is stored while that is decoded
dpb_twice : (x : Slice) (s : Standing) (whole : Option Slice) → whole_slice s.kept x ≡ whole
    → negotiates_by whole s ≡ true → dpb_at x (opening_by whole (with_kept x s)).next ≡ dpb_at x s
dpb_twice x s whole is negotiates =
    ap (λ (o : Option Slice). dpb_at x (opening_by o (with_kept x s)).next) (sym is)
    ∙ sym (ap (λ (q : Part Standing). dpb_of q.next.store) (twice_whole x s whole is negotiates).part)

abbrev given_of_parts : (t : ℕ) → PlainPicture → PlainDpb → Option Segment → Given
given_of_parts t picture dpb segment = record {
  timestamp = t;
  set = set_of segment;
  picture = picture;
  dpb = dpb;
  segment = segment;
}

opened_given : (t : ℕ) (x : Slice) (segment : Option Segment) (s : Standing) (whole : Option Slice)
    → whole_slice s.kept x ≡ whole → negotiates_by whole s ≡ true
    → given_at t x segment (opening_by whole (with_kept x s)).next ≡ given_at t x segment s
opened_given t x segment s None is negotiates = absurd (cc negotiates)
opened_given t x segment s (Some w) is negotiates =
    ap (λ (p : PlainPicture). given_of_parts t p (dpb_at x (opening_by (Some w) (with_kept x s)).next) segment)
    (ap (λ (o : Option Slice). picture_at o segment
    (on_store (change_format w.format) (finish_current (with_kept x s)).next).next) (whole_once s.kept x ∙ is)
    ∙ picture_twice w segment x s
    ∙ ap (λ (o : Option Slice). picture_at o segment s) (sym is))
    ∙ ap (λ (d : PlainDpb). given_of_parts t (picture_at (whole_slice s.kept x) segment s) d segment)
    (dpb_twice x s (Some w) is negotiates)

-- ---- where a decoder is between both calls

module _ {B H : Type 0} (o : Options) (us : List NalUnit) (u : NalUnit) (h : UnitHeader) (old : Seen B H)
    (between : StandsBetween o us u old) (parsed : unit_header u.bytes ≡ Ok h)
    (meant_is : (unit_at o old.kept h u.bytes).meaning ≡ meaning o (kept_after o us) u.bytes)
    (set_is : own_set o old.kept u.bytes ≡ own_set o (kept_after o us) u.bytes)
    (decoding : old.view.state ≡ Decoding) where
  abbrev k : Kept
  k = kept_after o us

  abbrev S : Standing
  S = standing_after (meant o us)

  abbrev y : Meaning
  y = meaning o k u.bytes

  abbrev n : Standing
  n = (opening (meant_next o us u) S).next

  abbrev l : Option PlainSliceSegmentHeader
  l = latest_after o us

  means_later : meaning_in old.view.state (unit_at o old.kept h u.bytes) ≡ later_meaning y
  means_later = ap (λ (x : State). meaning_in x (unit_at o old.kept h u.bytes)) decoding ∙ ap later_meaning meant_is

  latest_is : old.view.latest ≡ latest_behind_unit o k l u.bytes
  latest_is = between.latest ∙ latest_last o none_kept None us u

  -- for a slice the sets stay
  same_kept : (x : Slice) → y ≡ CodedSlice x → old.kept ≡ k
  same_kept x is = between.kept ∙ not_read o k u.bytes h parsed (ap is_sequence_set is)

  opens_by : (a : Option Format) (x : Slice) → y ≡ CodedSlice x → S.store.accepted ≡ a
      → negotiates (first_meaning a y) S ≡ true
      → (n ≡ (opening_by (whole_slice S.kept x) (with_kept x S)).next) × (negotiates_by (whole_slice S.kept x) S ≡ true)
  opens_by None x is at e = (
    ap (λ (b : Option Format). (opening (first_meaning b y) S).next) at ∙ ap (λ (m : Meaning). (opening m S).next) is,
    sym (ap (λ (m : Meaning). negotiates m S) is) ∙ e,
  )
  opens_by (Some f) x is at e = (
    ap (λ (b : Option Format). (opening (first_meaning b y) S).next) at
        ∙ ap (λ (m : Meaning). (opening (later_meaning m) S).next) is,
    sym (ap (λ (m : Meaning). negotiates (later_meaning m) S) is) ∙ e,
  )

  coded : (x : Slice) → y ≡ CodedSlice x → (t : ℕ)
      → given_at t x (segment_at o old.kept old.view.latest u.bytes) old.view.standing ≡ given_at t x
      (segment_at o k l u.bytes) S
  coded x is t =
      let opens = opens_by S.store.accepted x is refl between.negotiates in
      let own = own_header o k u.bytes in
      ap (λ (kk : Kept). given_at t x (segment_at o kk old.view.latest u.bytes) old.view.standing) (same_kept x is)
      ∙ ap (λ (latest : Option PlainSliceSegmentHeader). given_at t x
      (segment_at o k latest u.bytes) old.view.standing) (latest_is ∙ ap (λ (m : Meaning). latest_at m own l) is)
      ∙ ap (λ (segment : Option Segment). given_at t x segment old.view.standing) (segment_twice k x own l)
      ∙ ap (λ (s : Standing). given_at t x (segment_at o k l u.bytes) s) (between.stands ∙ opens.0)
      ∙ opened_given t x (segment_at o k l u.bytes) S (whole_slice S.kept x) refl opens.1

  by_meaning : (m : Meaning) → y ≡ m → (t : ℕ)
      → given_with t m (read_at o old.kept old.view.latest u.bytes) old.view.standing ≡ given_with t m
      (read_at o k l u.bytes) S
  by_meaning (SequenceSet f) is t =
      ap (λ (own : Option PlainSps). given_with t (SequenceSet f) (record { set = own; segment = None }) S) set_is
  by_meaning (CodedSlice x) is t = coded x is t
  by_meaning EndOfSequence is t =
      ap (λ (own : Option PlainSps). given_with t EndOfSequence (record { set = own; segment = None }) S) set_is
  by_meaning EndOfBitstream is t =
      ap (λ (own : Option PlainSps). given_with t EndOfBitstream (record { set = own; segment = None }) S) set_is
  by_meaning Other is t =
      ap (λ (own : Option PlainSps). given_with t Other (record { set = own; segment = None }) S) set_is
  by_meaning (Refused c) is t =
      ap (λ (own : Option PlainSps). given_with t (Refused c) (record { set = own; segment = None }) S) set_is

  pub given_second : (t : ℕ) → given_to t o h u.bytes old ≡ given_next t o us u
  given_second t =
      ap (λ (m : Meaning). given_with t m (read_at o old.kept old.view.latest u.bytes) old.view.standing) means_later
      ∙ later_given t y (read_at o old.kept old.view.latest u.bytes) old.view.standing
      ∙ by_meaning y refl t

  latest_by : (m : Meaning) → y ≡ m
      → latest_at m (own_header o old.kept u.bytes) (latest_at m (own_header o k u.bytes) l) ≡ latest_at m
      (own_header o k u.bytes) l
  latest_by (SequenceSet f) is = refl
  latest_by (CodedSlice x) is =
      ap (λ (kk : Kept). latest_at (CodedSlice x) (own_header o kk u.bytes)
      (latest_at (CodedSlice x) (own_header o k u.bytes) l)) (same_kept x is)
      ∙ latest_twice x (own_header o k u.bytes) l
  latest_by EndOfSequence is = refl
  latest_by EndOfBitstream is = refl
  latest_by Other is = refl
  latest_by (Refused c) is = refl

  pub latest_second : latest_at (meaning_in old.view.state (unit_at o old.kept h u.bytes))
      (own_header o old.kept u.bytes) old.view.latest ≡ latest_after o (us ++ u ∷ [])
  latest_second =
      ap (λ (m : Meaning). latest_at m (own_header o old.kept u.bytes) old.view.latest) means_later
      ∙ later_latest y (own_header o old.kept u.bytes) old.view.latest
      ∙ ap (latest_at y (own_header o old.kept u.bytes)) latest_is
      ∙ latest_by y refl
      ∙ sym (latest_last o none_kept None us u)
