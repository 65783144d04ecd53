-- A parameter set that isn't refused negotiates a format or means nothing.
use Rattle.std.proofs.Common.{◌≡◌, ℕ, zero, suc, Bool, true, false, cond, List, [], ◌∷◌, refl, sym}
use Rattle.std.proofs.Common.{ap, subst, ◌∙◌, arith}
use Rattle.std.specs.Prelude.{All, take}
use Rattle.std.proofs.lemmas.Bool.Decides.{nat_tests}
use Rattle.std.proofs.lemmas.List.Elements.{All-cons, All-nil, All-head, All-tail}
use Rattle.hevc_spec.specs.UnitHeader.{nal_unit_type}
use Rattle.hevc_spec.specs.UnitTypes.{is_slice}
use Rattle.hevc_spec.specs.Units.{NalUnit}
use Rattle.hevc_walk.specs.Meanings.{Meaning}
use Rattle.hevc_walk_splice.specs.Splicing.{IsOfSet}
use Rattle.hevc_stream.specs.Contents.{Content, content}
use Rattle.hevc_stream.specs.Kept.{Kept}
use Rattle.hevc_stream.specs.Options.{Options}
use Rattle.hevc_stream.specs.Stream.{kept_behind, meaning, meaning_of, meanings_behind}
use Rattle.hevc_stream_laws.specs.UnitMeans.{spells, breaks_off, is_parameter_set, MeansByType}
use Rattle.hevc_stream_laws.specs.UnitMeans.{is_video_set, is_sequence_set, is_picture_set}
use Rattle.hevc_stream_laws.specs.UnitMeans.{is_slice_segment, ends_sequence, ends_bitstream}
use Rattle.hevc_stream_laws.specs.UnitMeans.{comes_first, is_other, Means, is_faulty, is_unwanted}
use Rattle.hevc_stream_laws.specs.UnitMeans.{is_wanted}
use Rattle.hevc_stream_laws.proofs.OneContent.{means_content}
use Rattle.hevc_index_laws.specs.SplicedUnits.{is_set_unit, sets_before, IsNotRefused}
use Rattle.hevc_index_laws.proofs.Kept.{same_kept, type_is}

no_slice : (t : ℕ) → is_parameter_set t ≡ true → is_slice t ≡ true → ⊥
no_slice t e s = grind (arith, nat_tests)

-- what a set means that isn't refused
abbrev IsOfSetUnit : Meaning → Type 0
IsOfSetUnit u = IsNotRefused u → IsOfSet u

of_content : (options : Options) (kept : Kept) (bytes : List ℕ) (c : Content)
    → is_parameter_set (nal_unit_type bytes) ≡ true → Means options kept bytes c
    → IsOfSetUnit (meaning_of options kept bytes c)
of_content options kept bytes c e (is_faulty fault f m) = rw (← m) (λ x. absurd x)
of_content options kept bytes c e (is_unwanted h f above m) = rw (← m) (λ x. tt)
of_content options kept bytes c e (is_wanted h f below m) = by_type m
  where
    set : is_parameter_set h.nal_unit_type ≡ true
    set = ap is_parameter_set (sym (type_is bytes h f)) ∙ e

    by_type : MeansByType kept h bytes c → IsOfSetUnit (meaning_of options kept bytes c)
    by_type (is_video_set t (spells x rest s m)) = rw (← m) (λ x. tt)
    by_type (is_video_set t (breaks_off fault rest b m)) = rw (← m) (λ x. absurd x)
    by_type (is_sequence_set t (spells x rest s m)) = rw (← m) (λ x. tt)
    by_type (is_sequence_set t (breaks_off fault rest b m)) = rw (← m) (λ x. absurd x)
    by_type (is_picture_set t (spells x rest s m)) = rw (← m) (λ x. tt)
    by_type (is_picture_set t (breaks_off fault rest b m)) = rw (← m) (λ x. tt)
    by_type (is_slice_segment has t m) = absurd (no_slice h.nal_unit_type set t)
    by_type (ends_sequence has t m) = absurd (cc (set, t))
    by_type (ends_bitstream has t m) = absurd (cc (set, t))
    by_type (comes_first has t m) = absurd (cc (set, t))
    by_type (is_other t o m) = absurd (cc (set, t))

of_unit : (options : Options) (kept : Kept) (u : NalUnit) → is_set_unit u ≡ true
    → IsOfSetUnit (meaning options kept u.bytes)
unfolding meaning
of_unit options kept u e =
    of_content options kept u.bytes (content options kept u.bytes) e (means_content options kept u.bytes)

pub sets_mean : (options : Options) (kept : Kept) (us : List NalUnit) (v : ℕ)
    → All IsNotRefused (take v (meanings_behind options kept us))
    → All IsOfSet (meanings_behind options kept (sets_before v us))
sets_mean options kept us zero taken = All-nil IsOfSet
sets_mean options kept [] (suc v) taken = All-nil IsOfSet
sets_mean options kept (u ∷ us) (suc v) taken =
    let first = meaning options kept u.bytes in
    let later = take v (meanings_behind options (kept_behind options kept u.bytes) us) in
    by_test (is_set_unit u) refl (All-head IsNotRefused first later taken)
    (sets_mean options (kept_behind options kept u.bytes) us v (All-tail IsNotRefused first later taken))
  where
    sets : List NalUnit
    sets = sets_before v us

    next : Kept
    next = kept_behind options kept u.bytes

    by_test : (b : Bool) → is_set_unit u ≡ b → IsNotRefused (meaning options kept u.bytes)
        → All IsOfSet (meanings_behind options next sets)
        → All IsOfSet (meanings_behind options kept (cond b (u ∷ sets) sets))
    by_test true e first more =
        All-cons IsOfSet (meaning options kept u.bytes) (meanings_behind options next sets)
        (of_unit options kept u e first) more
    by_test false e first more =
        subst (λ (k : Kept). All IsOfSet (meanings_behind options k sets)) (same_kept options kept u e) more
