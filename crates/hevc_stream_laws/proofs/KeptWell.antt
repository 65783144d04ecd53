-- What holds of the sets that are kept, and how they change.
use Rattle.std.proofs.Common.{◌≡◌, ℕ, ◌<◌, Bool, true, false, List, [], ◌∷◌, Some, None, Ok, refl, arith}
use Rattle.std.specs.Prelude.{IfSome, IsSome, Option, ◌==◌, if◌then◌else◌, fold}
use Rattle.std.proofs.lemmas.Bool.Decides.{nat_tests}
use mathlib.Core.Path.{fun_ext}
use Rattle.hevc_spec.specs.UnitHeader.{UnitHeader, unit_header}
use Rattle.hevc_spec.specs.Units.{NalUnit}
use Rattle.hevc_spec.specs.Payload.{payload}
use Rattle.hevc_spec.specs.Table.{Reading, gives, refuses, read}
use Rattle.hevc_records.specs.Sps.{PlainSps}
use Rattle.hevc_records.specs.Pps.{PlainPps, default_pps}
use Rattle.hevc_tables.specs.PpsTable.{ids, picture_parameter_set}
use Rattle.hevc_stream.specs.Options.{Options}
use Rattle.hevc_stream.specs.Kept.{Kept, none_kept, with_set, with_sequence_set}
use Rattle.hevc_stream.specs.Slices.{temporal_id}
use Rattle.hevc_stream.specs.Contents.{Content, refused, video_set, sequence_set, picture_set}
use Rattle.hevc_stream.specs.Contents.{unread_picture_set, slice, end_of_sequence, end_of_bitstream}
use Rattle.hevc_stream.specs.Contents.{nothing, content, wants}
use Rattle.hevc_stream.specs.Stream.{with_picture_set_unit, with_waited, with_content, kept_behind, kept_behind_all}
use Rattle.hevc_stream_laws.specs.UnitMeans.{spells, breaks_off, is_parameter_set, is_video_set}
use Rattle.hevc_stream_laws.specs.UnitMeans.{is_sequence_set, is_picture_set, is_slice_segment}
use Rattle.hevc_stream_laws.specs.UnitMeans.{ends_sequence, ends_bitstream, comes_first, is_other}
use Rattle.hevc_stream_laws.specs.UnitMeans.{Means, is_faulty, is_unwanted, is_wanted}
use Rattle.hevc_stream_laws.specs.KeptWell.{IsKeptWell, sequence_set_named_in, sequence_set_named}
use Rattle.hevc_stream_laws.proofs.Meanings.{AreKept, none_are, IsContent, content_is, behind_are}
use Rattle.hevc_stream_laws.proofs.Meanings.{with_picture_unit_are, sequence_set_are}
use Rattle.hevc_stream_laws.proofs.OneContent.{means_content, only_content}

-- ---- each under its own id, and named sets are there

is_number : (a b : ℕ) → (a == b) ≡ true → a ≡ b
is_number a b e = grind (arith, nat_tests)

with_if : {A : Type 0} (P : ℕ → A → Type 0) (id : ℕ) (set : A) (sets : ℕ → Option A) → P id set
    → ((k : ℕ) → IfSome (sets k) (P k)) → (k : ℕ) → IfSome (with_set id set sets k) (P k)
with_if {A} P id set sets p all k = by_test (k == id) refl
  where
    by_test : (b : Bool) → (k == id) ≡ b → IfSome (if b then Some set else sets k) (P k)
    by_test true e = rw (is_number k id e) p
    by_test false e = all k

still_some : (id : ℕ) (set : PlainSps) (sets : ℕ → Option PlainSps) (k : ℕ) → IsSome (sets k)
    → IsSome (with_set id set sets k)
still_some id set sets k is = by_test (k == id)
  where
    by_test : (b : Bool) → IsSome (if b then Some set else sets k)
    by_test true = refl
    by_test false = is

if_weaker : {A : Type 0} (P Q : A → Type 0) (o : Option A) → ((x : A) → P x → Q x) → IfSome o P → IfSome o Q
if_weaker P Q (Some x) f h = f x h
if_weaker P Q None f h = h

some_is : {A : Type 0} (o : Option A) (x : A) → o ≡ Some x → IsSome o
some_is o x e = rw e refl

none_well : IsKeptWell none_kept
none_well = record {
  video_ids = λ id. tt;
  sequence_ids = λ id. tt;
  picture_ids = λ id. tt;
  named = λ id. tt;
  none_first = λ e id. refl;
}

picture_unit_well : (kept : Kept) (bytes : List ℕ) (c : Content) → IsKeptWell kept → IsContent kept c
    → IsKeptWell (with_picture_set_unit bytes c kept)
picture_unit_well kept bytes (picture_set set) well is = record {
  video_ids = well.video_ids;
  sequence_ids = well.sequence_ids;
  picture_ids =
      with_if (λ id x. x.pic_parameter_set_id ≡ id) set.pic_parameter_set_id set kept.picture_sets refl
      well.picture_ids;
  named = with_if (λ id x. IsSome (kept.sequence_sets x.seq_parameter_set_id)) set.pic_parameter_set_id set
      kept.picture_sets (some_is (kept.sequence_sets set.seq_parameter_set_id) is.sps is.names) well.named;
  none_first = well.none_first;
}
picture_unit_well kept bytes unread_picture_set well is = record {
  video_ids = well.video_ids;
  sequence_ids = well.sequence_ids;
  picture_ids = well.picture_ids;
  named = well.named;
  none_first = well.none_first;
}
picture_unit_well kept bytes (refused cause) well is = well
picture_unit_well kept bytes (video_set set) well is = well
picture_unit_well kept bytes (sequence_set set) well is = well
picture_unit_well kept bytes (slice header segment) well is = well
picture_unit_well kept bytes end_of_sequence well is = well
picture_unit_well kept bytes end_of_bitstream well is = well
picture_unit_well kept bytes nothing well is = well

waited_well : (options : Options) (kept : Kept) (waiting : List (List ℕ)) → AreKept kept → IsKeptWell kept
    → IsKeptWell (fold (with_waited options) kept waiting)
waited_well options kept [] are well = well
waited_well options kept (bytes ∷ waiting) are well =
    let is = content_is kept are options bytes in
    waited_well options (with_waited options kept bytes) waiting
    (with_picture_unit_are kept bytes (content options kept bytes) are is)
    (picture_unit_well kept bytes (content options kept bytes) well is)

content_well : (options : Options) (kept : Kept) (bytes : List ℕ) (c : Content) → AreKept kept
    → IsKeptWell kept → IsContent kept c → IsKeptWell (with_content options bytes c kept)
content_well options kept bytes (video_set set) are well is = record {
  video_ids = with_if
      (λ id x. x.video_parameter_set_id ≡ id) set.video_parameter_set_id set kept.video_sets refl well.video_ids;
  sequence_ids = well.sequence_ids;
  picture_ids = well.picture_ids;
  named = well.named;
  none_first = well.none_first;
}
content_well options kept bytes (sequence_set set) are well is =
    waited_well options _ kept.waiting (sequence_set_are kept set are is) (record {
      video_ids = well.video_ids;
      sequence_ids =
          with_if (λ id x. x.seq_parameter_set_id ≡ id) set.seq_parameter_set_id set kept.sequence_sets refl
          well.sequence_ids;
      picture_ids = well.picture_ids;
      named = λ id. if_weaker (λ x. IsSome (kept.sequence_sets x.seq_parameter_set_id))
          (λ x. IsSome (with_set set.seq_parameter_set_id set kept.sequence_sets x.seq_parameter_set_id))
          (kept.picture_sets id)
          (λ x some. still_some set.seq_parameter_set_id set kept.sequence_sets x.seq_parameter_set_id some)
          (well.named id);
      none_first = λ e id. absurd cc;
    })
content_well options kept bytes (picture_set set) are well is = picture_unit_well kept bytes (picture_set set) well is
content_well options kept bytes unread_picture_set are well is = picture_unit_well kept bytes unread_picture_set well is
content_well options kept bytes (refused cause) are well is = well
content_well options kept bytes (slice header segment) are well is = well
content_well options kept bytes end_of_sequence are well is = well
content_well options kept bytes end_of_bitstream are well is = well
content_well options kept bytes nothing are well is = well

pub behind_well : (options : Options) (kept : Kept) (us : List NalUnit) → AreKept kept → IsKeptWell kept
    → IsKeptWell (kept_behind_all options kept us)
unfolding kept_behind
behind_well options kept [] are well = well
behind_well options kept (u ∷ us) are well =
    behind_well options (kept_behind options kept u.bytes) us (behind_are options kept u.bytes are)
    (content_well options kept u.bytes (content options kept u.bytes) are well (content_is kept are options u.bytes))

pub all_well : (options : Options) (us : List NalUnit) → IsKeptWell (kept_behind_all options none_kept us)
all_well options us = behind_well options none_kept us none_are none_well

-- ---- a sequence set that comes twice

-- the content of a sequence set's unit is the same after any sets
same_set : (options : Options) (kept other : Kept) (bytes : List ℕ) (set : PlainSps)
    → Means options kept bytes (sequence_set set) → Means options other bytes (sequence_set set)
same_set options kept other bytes set (is_faulty fault e m) = absurd cc
same_set options kept other bytes set (is_unwanted h e above m) = absurd cc
same_set options kept other bytes set (is_wanted h e below (is_sequence_set t m)) =
    is_wanted h e below (is_sequence_set t m)
same_set options kept other bytes set (is_wanted h e below (is_video_set t (spells x rest s m))) = absurd cc
same_set options kept other bytes set (is_wanted h e below (is_video_set t (breaks_off fault rest b m))) = absurd cc
same_set options kept other bytes set (is_wanted h e below (is_picture_set t (spells x rest s m))) = absurd cc
same_set options kept other bytes set (is_wanted h e below (is_picture_set t (breaks_off fault rest b m))) = absurd cc
same_set options kept other bytes set (is_wanted h e below (is_slice_segment has t (spells x rest s m))) = absurd cc
same_set options kept other bytes set
    (is_wanted h e below (is_slice_segment has t (breaks_off fault rest b m))) = absurd cc
same_set options kept other bytes set (is_wanted h e below (ends_sequence has t m)) = absurd cc
same_set options kept other bytes set (is_wanted h e below (ends_bitstream has t m)) = absurd cc
same_set options kept other bytes set (is_wanted h e below (comes_first has n m)) = absurd cc
same_set options kept other bytes set (is_wanted h e below (is_other n o m)) = absurd cc

set_twice : {A : Type 0} (id : ℕ) (set : A) (sets : ℕ → Option A)
    → with_set id set (with_set id set sets) ≡ with_set id set sets
set_twice {A} id set sets = fun_ext (λ k. by_test (k == id) (sets k))
  where
    by_test : (b : Bool) (o : Option A)
        → (if b then Some set else if b then Some set else o) ≡ (if b then Some set else o)
    by_test true o = refl
    by_test false o = refl

pub kept_twice : (options : Options) (kept : Kept) (bytes : List ℕ) (set : PlainSps)
    → content options kept bytes ≡ sequence_set set
    → kept_behind options (with_sequence_set set kept) bytes ≡ kept_behind options kept bytes
unfolding kept_behind
kept_twice options kept bytes set e =
    let means : Means options kept bytes (sequence_set set) = rw (← e) (means_content options kept bytes) in
    let again : content options (with_sequence_set set kept) bytes ≡ sequence_set set =
    only_content options (with_sequence_set set kept) bytes (sequence_set set)
    (same_set options kept (with_sequence_set set kept) bytes set means) in
    rw (e, again, set_twice set.seq_parameter_set_id set kept.sequence_sets) refl

-- ---- units that ask for nothing

pub before_first : (options : Options) (kept : Kept) (bytes : List ℕ) (h : UnitHeader)
    → unit_header bytes ≡ Ok h → kept.has_sequence_set ≡ false → is_parameter_set h.nal_unit_type ≡ false
    → content options kept bytes ≡ nothing
before_first options kept bytes h e none n = by_layer (wants options h) refl
  where
    by_layer : (b : Bool) → wants options h ≡ b → content options kept bytes ≡ nothing
    by_layer true t = only_content options kept bytes nothing (is_wanted h e t (comes_first none n refl))
    by_layer false t = only_content options kept bytes nothing (is_unwanted h e t refl)

pub above_wanted : (options : Options) (kept : Kept) (bytes : List ℕ) (h : UnitHeader)
    → unit_header bytes ≡ Ok h → wants options h ≡ false → content options kept bytes ≡ nothing
above_wanted options kept bytes h e above = only_content options kept bytes nothing (is_unwanted h e above refl)

-- ---- what a picture set depends on

module _ (temporal : ℕ) (kept other : ℕ → Option PlainSps) (bits : List Bool) where
  read_same : (r : Reading PlainPps) → read (ids (record default_pps { temporal_id = temporal })) bits ≡ r
      → IfSome (sequence_set_named_in r) (λ id. kept id ≡ other id)
      → read (picture_parameter_set temporal kept) bits ≡ read (picture_parameter_set temporal other) bits
  unfolding picture_parameter_set
  read_same (gives set rest) e same = rw (e, same) refl
  read_same (refuses fault rest) e same = rw e refl

pub same_picture_set : (options : Options) (kept other : Kept) (bytes : List ℕ) (h : UnitHeader)
    → unit_header bytes ≡ Ok h → h.nal_unit_type ≡ 34
    → IfSome (sequence_set_named (temporal_id h) bytes)
    (λ id. kept.sequence_sets id ≡ other.sequence_sets id) → content options kept bytes ≡ content options other bytes
unfolding content
same_picture_set options kept other bytes h e t same =
    let reads : read (picture_parameter_set (temporal_id h) kept.sequence_sets) (payload bytes) ≡ read
    (picture_parameter_set (temporal_id h) other.sequence_sets) (payload bytes) =
    read_same (temporal_id h) kept.sequence_sets other.sequence_sets (payload bytes)
    (read (ids (record default_pps { temporal_id = temporal_id h })) (payload bytes)) refl same in
    rw (e, t, reads) refl
