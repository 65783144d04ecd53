-- A unit that is no parameter set leaves what is kept.
use Rattle.std.proofs.Common.{◌≡◌, ℕ, zero, suc, Bool, true, false, cond, List, [], ◌∷◌, ◌++◌, drop}
use Rattle.std.proofs.Common.{refl, sym, ap, ◌∙◌, ◌/◌, ◌%◌, Ok, Err}
use Rattle.std.specs.Prelude.{filter, nat_le, ◌==◌}
use Rattle.hevc_spec.specs.UnitHeader.{UnitHeader, header_fields, nal_unit_type, temporal_id_zero}
use Rattle.hevc_spec.specs.UnitHeader.{unit_header, unspecified_type}
use Rattle.hevc_spec.specs.Units.{NalUnit}
use Rattle.hevc_walk.specs.Meanings.{Meaning}
use Rattle.hevc_stream.specs.Contents.{Content, refused, video_set, sequence_set, picture_set}
use Rattle.hevc_stream.specs.Contents.{unread_picture_set, slice, end_of_sequence, end_of_bitstream}
use Rattle.hevc_stream.specs.Contents.{nothing, content}
use Rattle.hevc_stream.specs.Kept.{Kept}
use Rattle.hevc_stream.specs.Options.{Options}
use Rattle.hevc_stream.specs.Stream.{kept_behind, kept_behind_all, meaning, meanings_behind, with_content}
use Rattle.hevc_stream_laws.specs.UnitMeans.{spells, breaks_off, is_parameter_set, MeansByType}
use Rattle.hevc_stream_laws.specs.UnitMeans.{is_video_set, is_sequence_set, is_picture_set}
use Rattle.hevc_stream_laws.specs.UnitMeans.{is_slice_segment, ends_sequence, ends_bitstream}
use Rattle.hevc_stream_laws.specs.UnitMeans.{comes_first, is_other, Means, is_faulty, is_unwanted}
use Rattle.hevc_stream_laws.specs.UnitMeans.{is_wanted}
use Rattle.hevc_stream_laws.proofs.OneContent.{means_content}
use Rattle.hevc_index_laws.specs.SplicedUnits.{is_set_unit, sets_before, spliced_units}

-- the type of a unit that has a header
pub type_is : (bytes : List ℕ) (h : UnitHeader) → unit_header bytes ≡ Ok h → nal_unit_type bytes ≡ h.nal_unit_type
type_is [] h e = absurd (cc e)
type_is (a ∷ []) h e = absurd (cc e)
type_is (a ∷ b ∷ bytes) h e = by_tests (nat_le 48 (a / 2 % 64)) (b % 8 == 0) e
  where
    by_tests : (s t : Bool)
        → cond s (Err (unspecified_type (a / 2 % 64))) (cond t (Err temporal_id_zero) (Ok (header_fields a b))) ≡ Ok h
        → a / 2 % 64 ≡ h.nal_unit_type
    by_tests true t e = absurd (cc e)
    by_tests false true e = absurd (cc e)
    by_tests false false e = let same : header_fields a b ≡ h = cc e in ap (λ (x : UnitHeader). x.nal_unit_type) same

-- what a unit may be that is no parameter set
abbrev IsNoSet : Content → Type 0
IsNoSet (video_set set) = ⊥
IsNoSet (sequence_set set) = ⊥
IsNoSet (picture_set set) = ⊥
IsNoSet unread_picture_set = ⊥
IsNoSet c = Unit {0}

set_type : (t : ℕ) → is_parameter_set t ≡ false → (n : ℕ) → is_parameter_set n ≡ true → t ≡ n → ⊥
set_type t e n f same = absurd (cc (e, f, same))

no_set : (options : Options) (kept : Kept) (bytes : List ℕ) (c : Content)
    → is_parameter_set (nal_unit_type bytes) ≡ false → Means options kept bytes c → IsNoSet c
no_set options kept bytes c e (is_faulty fault f m) = rw (← m) tt
no_set options kept bytes c e (is_unwanted h f above m) = rw (← m) tt
no_set options kept bytes c e (is_wanted h f below m) = by_type m
  where
    none : is_parameter_set h.nal_unit_type ≡ false
    none = ap is_parameter_set (sym (type_is bytes h f)) ∙ e

    by_type : MeansByType kept h bytes c → IsNoSet c
    by_type (is_video_set t m) = absurd (set_type h.nal_unit_type none 32 refl t)
    by_type (is_sequence_set t m) = absurd (set_type h.nal_unit_type none 33 refl t)
    by_type (is_picture_set t m) = absurd (set_type h.nal_unit_type none 34 refl t)
    by_type (is_slice_segment has t (spells x rest s m)) = rw (← m) tt
    by_type (is_slice_segment has t (breaks_off fault rest b m)) = rw (← m) tt
    by_type (ends_sequence has t m) = rw (← m) tt
    by_type (ends_bitstream has t m) = rw (← m) tt
    by_type (comes_first has t m) = rw (← m) tt
    by_type (is_other t o m) = rw (← m) tt

leaves : (options : Options) (kept : Kept) (bytes : List ℕ) (c : Content) → IsNoSet c
    → with_content options bytes c kept ≡ kept
leaves options kept bytes (refused cause) is = refl
leaves options kept bytes (video_set set) is = absurd is
leaves options kept bytes (sequence_set set) is = absurd is
leaves options kept bytes (picture_set set) is = absurd is
leaves options kept bytes unread_picture_set is = absurd is
leaves options kept bytes (slice header segment) is = refl
leaves options kept bytes end_of_sequence is = refl
leaves options kept bytes end_of_bitstream is = refl
leaves options kept bytes nothing is = refl

pub same_kept : (options : Options) (kept : Kept) (u : NalUnit) → is_set_unit u ≡ false
    → kept_behind options kept u.bytes ≡ kept
unfolding kept_behind
same_kept options kept u e =
    let c = content options kept u.bytes in
    leaves options kept u.bytes c (no_set options kept u.bytes c e (means_content options kept u.bytes))

-- ---- all units

pub sets_keep : (options : Options) (kept : Kept) (us : List NalUnit)
    → kept_behind_all options kept (filter is_set_unit us) ≡ kept_behind_all options kept us
sets_keep options kept [] = refl
sets_keep options kept (u ∷ us) = by_test (is_set_unit u) refl (λ k. sets_keep options k us)
  where
    by_test : (b : Bool) → is_set_unit u ≡ b
        → ((k : Kept) → kept_behind_all options k (filter is_set_unit us) ≡ kept_behind_all options k us)
        → kept_behind_all options kept (cond b (u ∷ filter is_set_unit us) (filter is_set_unit us))
        ≡ kept_behind_all options (kept_behind options kept u.bytes) us
    by_test true e more = more (kept_behind options kept u.bytes)
    by_test false e more =
        more kept ∙ ap (λ (k : Kept). kept_behind_all options k us) (sym (same_kept options kept u e))

pub same_meanings : (options : Options) (kept : Kept) (us : List NalUnit) (v : ℕ)
    → meanings_behind options kept (spliced_units v us) ≡ meanings_behind options kept (sets_before v us)
    ++ drop v (meanings_behind options kept us)
same_meanings options kept us zero = refl
same_meanings options kept [] (suc v) = refl
same_meanings options kept (u ∷ us) (suc v) = by_test (is_set_unit u) refl (λ k. same_meanings options k us v)
  where
    sets : List NalUnit
    sets = sets_before v us

    next : Kept
    next = kept_behind options kept u.bytes

    by_test : (b : Bool) → is_set_unit u ≡ b
        → ((k : Kept)
        → meanings_behind options k (sets ++ drop v us) ≡ meanings_behind options k sets
        ++ drop v (meanings_behind options k us))
        → meanings_behind options kept (cond b (u ∷ sets) sets ++ drop v us)
        ≡ meanings_behind options kept (cond b (u ∷ sets) sets) ++ drop v (meanings_behind options next us)
    by_test true e more = ap (λ (ms : List Meaning). meaning options kept u.bytes ∷ ms) (more next)
    by_test false e more =
        more kept
        ∙ ap (λ (k : Kept). meanings_behind options kept sets ++ drop v (meanings_behind options k us))
        (sym (same_kept options kept u e))
