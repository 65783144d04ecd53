-- Headers of slice segments, whole.
use Rattle.std.proofs.Common.{◌≡◌, ℕ, Bool, true, false, refl, sym, ap, ◌∙◌, subst, if◌then◌else◌}
use Rattle.std.specs.Prelude.{Option, Some, None, option_map}
use Rattle.hevc_records.specs.SliceHeader.{PlainSliceSegmentHeader, completed_header}
use Rattle.hevc_sequence_set.specs.declared.sps.Sps.{Sps}
use Rattle.hevc_sequence_set.specs.Sps.{plain_sps}
use Rattle.hevc_picture_slice.specs.declared.pps.Pps.{Pps}
use Rattle.hevc_picture_slice.specs.Pps.{plain_pps}
use Rattle.hevc_picture_slice.specs.declared.slice.Slice as code
use Rattle.hevc_picture_slice.specs.SliceHeader.{plain_slice_header}
use Rattle.hevc_walk.specs.Meanings.{Slice, CodedSlice}
use Rattle.hevc_walk.specs.Walk.{Part}
use Rattle.hevc_walk.specs.DependentSlices.{whole_slice}
use Rattle.hevc_walk_units.specs.Units.{Standing, begins_picture, finish_current, first_slice}
use Rattle.hevc_walk_units.specs.Units.{later_slice, whole_part, unit_part}
use Rattle.hevc_driver.specs.Moments.{with_kept}
use Rattle.hevc_driver.proofs.Taking.{later_next}
use Rattle.hevc_backend.specs.Handed.{Segment, segment_of, dpb_of}
use Rattle.hevc_driver.specs.Headers.{OnTrue, latest_behind, shared_header, whole_header, whole_segment}
use Rattle.hevc_driver.specs.Given.{dpb_at, given_at, given_first, given_slice, next_picture, picture_at}

-- a completed segment with its sets
pub segment_whole : (done : Bool) (latest : Option PlainSliceSegmentHeader) (old new : code.Slice)
    (sps : Sps) (pps : Pps) → done ≡ true
    → OnTrue done
    (whole_header latest (plain_slice_header old.header) ≡ Some (plain_slice_header new.header))
    → whole_segment latest old sps pps ≡ Some (segment_of new sps pps)
segment_whole done latest old new sps pps is header =
    ap (option_map (λ (h : PlainSliceSegmentHeader). record {
      sps = plain_sps sps;
      pps = plain_pps pps;
      header = h;
    })) (subst (λ (b : Bool). OnTrue b
    (whole_header latest (plain_slice_header old.header) ≡ Some (plain_slice_header new.header))) is header)

-- what a slice that isn't lacking asks
pub whole_is : (v w : Slice) (s : Standing) → whole_slice s.kept v ≡ Some w → (begins : Bool)
    → begins_picture s.current w ≡ begins
    → unit_part (CodedSlice v) s ≡ (if begins then first_slice w (with_kept v s) else later_slice w (with_kept v s))
whole_is v w s whole begins is =
    ap (λ (o : Option Slice). whole_part o (with_kept v s)) whole
    ∙ ap (λ (b : Bool). if b then first_slice w (with_kept v s) else later_slice w (with_kept v s)) is

-- what comes with one that begins a picture
pub given_whole : (timestamp : ℕ) (v w : Slice) (whole : Option Segment) (segment : Segment) (s : Standing)
    → whole_slice s.kept v ≡ Some w → begins_picture s.current w ≡ true → whole ≡ Some segment
    → given_first timestamp w segment (finish_current (with_kept v s)).next ≡ given_at timestamp v whole s
given_whole timestamp v w whole segment s slice_is begins segment_is =
    ap (λ (q : Part Standing). given_slice timestamp (next_picture w segment s)
    (dpb_of q.next.store) segment) (sym (whole_is v w s slice_is true begins))
    ∙ ap (λ (o : Option Slice). given_slice timestamp (picture_at o (Some segment) s) (dpb_at v s) segment)
    (sym slice_is)
    ∙ ap (λ (o : Option Segment). given_at timestamp v o s) (sym segment_is)

-- what is stored while a later slice is decoded
pub later_dpb : (v w : Slice) (s : Standing) → whole_slice s.kept v ≡ Some w
    → begins_picture s.current w ≡ false → dpb_at v s ≡ dpb_of s.store
later_dpb v w s slice_is later =
    ap (λ (q : Part Standing). dpb_of q.next.store) (whole_is v w s slice_is false later)
    ∙ ap (λ (r : Standing). dpb_of r.store) (later_next w (with_kept v s))

-- the latest independent header is the same after a segment and after the completed one
pub latest_whole : (done : Bool) (latest : Option PlainSliceSegmentHeader)
    (own whole : PlainSliceSegmentHeader) → done ≡ true → OnTrue done (whole_header latest own ≡ Some whole)
    → latest_behind latest whole ≡ latest_behind latest own
latest_whole done latest own whole is header =
    by own.dependent_slice_segment_flag refl latest
    (subst (λ (b : Bool). OnTrue b (whole_header latest own ≡ Some whole)) is header)
  where
    by : (b : Bool) → own.dependent_slice_segment_flag ≡ b → (l : Option PlainSliceSegmentHeader)
        → whole_header l own ≡ Some whole → latest_behind l whole ≡ latest_behind l own
    by false e l h =
        let same : own ≡ whole = cc (h, e) in
        ap (latest_behind l) (sym same)
    by true e None h = absurd (cc (h, e))
    by true e (Some first) h =
        let same : completed_header own first ≡ whole = cc (h, e) in
        ap (latest_behind (Some first)) (sym same)
        ∙ ap (λ (d : Bool). if d then Some first else Some (shared_header (completed_header own first))) e
        ∙ sym (ap (λ (d : Bool). if d then Some first else Some (shared_header own)) e)
