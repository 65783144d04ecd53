-- Where all sub-layers and layers are wanted, contents are those under the default options.
use Rattle.std.proofs.Common.{◌≡◌, ℕ, ◌≤◌, Bool, true, false, cond, List, [], ◌∷◌, refl, sym, ap}
use Rattle.std.proofs.Common.{◌∙◌, subst, arith, inl, inr, Result, Ok, Err}
use Rattle.std.specs.Prelude.{◌⊎◌, fold, nat_le, ◌==◌}
use Rattle.std.proofs.lemmas.Bool.Decides.{nat_tests}
use Rattle.hevc_spec.specs.Units.{NalUnit}
use Rattle.hevc_spec.specs.UnitHeader.{UnitHeader, HeaderFault, header_fields, checked_header}
use Rattle.hevc_spec.specs.UnitHeader.{temporal_id_zero, unspecified_type, unit_header}
use Rattle.hevc_stream.specs.Options.{Options, default_options}
use Rattle.hevc_stream.specs.Kept.{Kept, with_sequence_set}
use Rattle.hevc_stream.specs.Contents.{Content, refused, video_set, sequence_set, picture_set}
use Rattle.hevc_stream.specs.Contents.{unread_picture_set, slice, end_of_sequence, end_of_bitstream}
use Rattle.hevc_stream.specs.Contents.{nothing, headed_content, content, wants}
use Rattle.hevc_stream.specs.Slices.{temporal_id}
use Rattle.hevc_stream.specs.Stream.{with_content, with_picture_set_unit, with_waited, kept_behind, meanings_behind}
use Rattle.hevc_rewrite_laws.specs.Replaced.{is_all, MeansTheSame, StandFor, WantsAll}
use Rattle.hevc_rewrite_laws.proofs.SameMeanings.{same_meanings}

-- a temporal id is at most 6, a layer id at most 63
low_checked : (h g : UnitHeader) → h.nuh_temporal_id_plus1 ≤ 7 → h.nuh_layer_id ≤ 63 → checked_header h ≡ Ok g
    → (temporal_id g ≤ 6) × (g.nuh_layer_id ≤ 63)
low_checked h g low layer e = by_tests (nat_le 48 h.nal_unit_type) (h.nuh_temporal_id_plus1 == 0) e
  where
    by_tests : (s t : Bool)
        → Path (Result UnitHeader HeaderFault)
        (cond s (Err (unspecified_type h.nal_unit_type)) (cond t (Err temporal_id_zero) (Ok h))) (Ok g)
        → (temporal_id g ≤ 6) × (g.nuh_layer_id ≤ 63)
    by_tests true t e = absurd (cc e)
    by_tests false true e = absurd (cc e)
    by_tests false false e =
        let same : h ≡ g = cc e in
        subst (λ (x : UnitHeader). (temporal_id x ≤ 6) × (x.nuh_layer_id ≤ 63)) same (omega arith, layer)

-- so are those of a header
pub low_header : (bytes : List ℕ) (h : UnitHeader) → unit_header bytes ≡ Ok h
    → (temporal_id h ≤ 6) × (h.nuh_layer_id ≤ 63)
low_header [] h e = absurd (cc e)
low_header (_ ∷ []) h e = absurd (cc e)
low_header (first ∷ second ∷ bytes) h e =
    low_checked (header_fields first second) h (omega arith) (omega arith) e

-- a header is wanted where all are
pub all_wanted : (options : Options) → WantsAll options → (bytes : List ℕ) (h : UnitHeader)
    → unit_header bytes ≡ Ok h → wants options h ≡ true
all_wanted options all bytes h e =
    let low = low_header bytes h e in
    let sub_layer : nat_le (temporal_id h) options.highest_tid ≡ true =
    grind (arith, nat_tests, low.0, all.sub_layers) in
    let layer : nat_le h.nuh_layer_id options.highest_layer ≡ true = grind (arith, nat_tests, low.1, all.layers) in
    rw (sub_layer, layer) refl

-- so by default
pub by_default : WantsAll default_options
by_default = record { sub_layers = omega arith; layers = omega arith }

module _ (options : Options) (all : WantsAll options) where
  -- a unit has the content that it has by default
  pub content_by_default : (kept : Kept) (bytes : List ℕ)
      → content options kept bytes ≡ content default_options kept bytes
  unfolding content
  content_by_default kept bytes = by_header (unit_header bytes) (all_wanted options all bytes) (all_wanted default_options by_default bytes)
    where
      by_header : (r : Result UnitHeader HeaderFault) → ((h : UnitHeader) → r ≡ Ok h → wants options h ≡ true)
          → ((h : UnitHeader) → r ≡ Ok h → wants default_options h ≡ true)
          → headed_content options kept bytes r ≡ headed_content default_options kept bytes r
      by_header (Err fault) here there = refl
      by_header (Ok h) here there = rw (here h refl, there h refl) refl

  -- so have units that waited
  waited_by_default : (waiting : List (List ℕ)) (kept : Kept)
      → fold (with_waited options) kept waiting ≡ fold (with_waited default_options) kept waiting
  waited_by_default [] kept = refl
  waited_by_default (bytes ∷ waiting) kept =
      ap (λ (c : Content). fold (with_waited options) (with_picture_set_unit bytes c kept) waiting)
      (content_by_default kept bytes)
      ∙ waited_by_default waiting (with_waited default_options kept bytes)

  -- what is kept after it is the same
  with_content_by_default : (bytes : List ℕ) (kept : Kept) (c : Content)
      → with_content options bytes c kept ≡ with_content default_options bytes c kept
  with_content_by_default bytes kept (sequence_set set) =
      waited_by_default kept.waiting (record (with_sequence_set set kept) { waiting = [] })
  with_content_by_default bytes kept (video_set set) = refl
  with_content_by_default bytes kept (refused cause) = refl
  with_content_by_default bytes kept (picture_set set) = refl
  with_content_by_default bytes kept unread_picture_set = refl
  with_content_by_default bytes kept (slice h s) = refl
  with_content_by_default bytes kept end_of_sequence = refl
  with_content_by_default bytes kept end_of_bitstream = refl
  with_content_by_default bytes kept nothing = refl

  -- so is what is kept after a unit
  kept_by_default : (kept : Kept) (bytes : List ℕ)
      → kept_behind options kept bytes ≡ kept_behind default_options kept bytes
  unfolding kept_behind
  kept_by_default kept bytes =
      ap (λ (c : Content). with_content options bytes c kept) (content_by_default kept bytes)
      ∙ with_content_by_default bytes kept (content default_options kept bytes)

  -- a unit that stands for another by default stands for it
  one_by_default : (kept : Kept) (bytes others : List ℕ)
      → (others ≡ bytes) ⊎ MeansTheSame default_options kept bytes others
      → (others ≡ bytes) ⊎ MeansTheSame options kept bytes others
  one_by_default kept bytes others (inl e) = inl e
  one_by_default kept bytes others (inr h) = inr (record {
    all = ap is_all (content_by_default kept bytes) ∙ h.all;
    same = content_by_default kept others ∙ h.same ∙ sym (content_by_default kept bytes);
  })

  -- so do all units of a stream
  stand_by_default : (kept : Kept) (us vs : List NalUnit) → StandFor default_options kept us vs
      → StandFor options kept us vs
  stand_by_default kept [] [] h = tt
  stand_by_default kept [] (v ∷ vs) h = absurd h
  stand_by_default kept (u ∷ us) [] h = absurd h
  stand_by_default kept (u ∷ us) (v ∷ vs) h = (
    one_by_default kept u.bytes v.bytes h.0,
    subst (λ (k : Kept). StandFor options k us vs) (sym (kept_by_default kept u.bytes))
        (stand_by_default (kept_behind default_options kept u.bytes) us vs h.1),
  )

-- so the stream means the same
pub same_by_default : (options : Options) (kept : Kept) (us vs : List NalUnit) → WantsAll options
    → StandFor default_options kept us vs → meanings_behind options kept vs ≡ meanings_behind options kept us
same_by_default options kept us vs all h = same_meanings options kept us vs (stand_by_default options all kept us vs h)
