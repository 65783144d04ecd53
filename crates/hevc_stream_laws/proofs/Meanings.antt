-- What units mean after the sets that are kept.
use Rattle.std.proofs.Common.{◌≡◌, ℕ, ◌+◌, ◌^◌, ◌≤◌, ◌<◌, Bool, true, false, List, [], ◌∷◌, length}
use Rattle.std.proofs.Common.{Some, None, Ok, Err, refl, arith, pow_pos}
use Rattle.std.specs.Prelude.{All, IfSome, Option, Result, option_map, option_and_then, ◌==◌}
use Rattle.std.specs.Prelude.{if◌then◌else◌, fold, not, drop}
use Rattle.std.proofs.lemmas.Bool.Decides.{nat_tests}
use Rattle.std.proofs.lemmas.List.{length-map}
use Rattle.std.proofs.lemmas.List.Elements.{All-nil, All-cons, All-map, All-weaker}
use Rattle.hevc_spec.specs.UnitHeader.{UnitHeader, HeaderFault, unit_header}
use Rattle.hevc_spec.specs.Payload.{payload}
use Rattle.hevc_spec.specs.Table.{Table, Reading, gives, refuses, read}
use Rattle.hevc_spec.specs.Units.{NalUnit, units}
use Rattle.hevc_records.specs.SpsSizes.{max_dpb_size}
use Rattle.hevc_records.specs.Level.{max_luma_ps_of_level}
use Rattle.hevc_records.specs.Profile.{max_dpb_pic_buf_of_profile}
use Rattle.hevc_records.specs.Sps.{PlainSps}
use Rattle.hevc_records.specs.Pps.{PlainPps}
use Rattle.hevc_records.specs.SliceHeader.{PlainSliceSegmentHeader}
use Rattle.hevc_spec.specs.UnitTypes.{is_slice}
use Rattle.hevc_tables.specs.SpsTable.{sequence_parameter_set}
use Rattle.hevc_tables.specs.PpsTable.{picture_parameter_set}
use Rattle.hevc_tables.specs.VpsTable.{video_parameter_set}
use Rattle.hevc_tables.specs.SliceHeaderTable.{ActiveSets, lsb_bits, active_sets, with_named_sequence_set}
use Rattle.hevc_walk.specs.Meanings.{CodedSlice}
use Rattle.hevc_walk.specs.ReferenceLists.{numbers_below}
use Rattle.hevc_walk.specs.Premises.{IsFormat, IsLimits, IsLongTermMember, IsListRule, IsSlice}
use Rattle.hevc_walk.specs.Premises.{IsIndependent, IsMeaning, SetComesFirst, AreMeanings}
use Rattle.hevc_stream.specs.Options.{Options}
use Rattle.hevc_walk_inputs.specs.Sequences.{format_of_set, limits_of_set, highest_sub_layer}
use Rattle.hevc_walk_inputs.specs.Headers.{long_term_member, list_rule}
use Rattle.hevc_stream.specs.Kept.{Kept, none_kept, with_set, with_sequence_set}
use Rattle.hevc_stream.specs.Slices.{coded_slice, temporal_id}
use Rattle.hevc_stream.specs.Contents.{Content, refused, video_set, sequence_set, picture_set}
use Rattle.hevc_stream.specs.Contents.{unread_picture_set, slice, end_of_sequence, end_of_bitstream}
use Rattle.hevc_stream.specs.Contents.{nothing, content_read, picture_set_read, slice_content}
use Rattle.hevc_stream.specs.Contents.{coded_content, content_by_type, headed_content, content, wants}
use Rattle.hevc_stream.specs.Stream.{with_picture_set_unit, with_waited, with_content, kept_behind}
use Rattle.hevc_stream.specs.Stream.{meaning_of, meaning, meanings_behind, meanings}
use Rattle.hevc_stream_laws.proofs.Gives.{Gives}
use Rattle.hevc_stream_laws.proofs.ShortTermSets.{at_or}
use Rattle.hevc_stream_laws.proofs.WalkSets.{length_below, walk_set, walk_sets}
use Rattle.hevc_stream_laws.proofs.SequenceSets.{IsSequenceSet, sequence_set_gives}
use Rattle.hevc_stream_laws.proofs.PictureSets.{IsPictureSet, picture_set_gives}
use Rattle.hevc_stream_laws.proofs.SliceHeaders.{AreSets, IsHeader, header_is}

-- ---- the walk's premises of one set and one header

dpb_size_few : (m b size : ℕ) → b ≤ 16 → max_dpb_size m b size ≤ 16
dpb_size_few m b size few = grind (arith, nat_tests)

picture_buffer_few : (profile : ℕ) → max_dpb_pic_buf_of_profile profile ≤ 16
picture_buffer_few profile = grind (arith, nat_tests)

pub format_is : (s : PlainSps) → IsFormat (format_of_set s)
format_is s = record {
  max_num_pics = dpb_size_few (max_luma_ps_of_level s.profile_tier_level.general_level_idc)
      (max_dpb_pic_buf_of_profile s.profile_tier_level.general_profile_idc) s.pic_size_in_samples_y
      (picture_buffer_few s.profile_tier_level.general_profile_idc);
}

limits_are : (wanted : ℕ) (s : PlainSps) → IsSequenceSet s → IsLimits (limits_of_set wanted s)
limits_are wanted s h = record {
  max_num_reorder_pics =
      at_or (λ n. n < 256) s.max_num_reorder_pics (highest_sub_layer wanted s) 0 h.0.reorder (omega arith);
  max_latency_increase_plus1 =
      at_or (λ n. n < 256) s.max_latency_increase_plus1 (highest_sub_layer wanted s) 0 h.0.latency (omega arith);
  max_dec_pic_buffering_minus1 =
      at_or (λ n. n < 256) s.max_dec_pic_buffering_minus1 (highest_sub_layer wanted s) 0
      (All-weaker (λ n. n ≤ 16) (λ n. n < 256)
      (λ n few. omega arith) s.max_dec_pic_buffering_minus1 h.0.buffering) (omega arith);
}

entries_are : (l : ℕ) (changed : Bool) (entries : List ℕ) → (changed ≡ true → length entries ≡ l + 1)
    → IfSome (if changed then Some entries else None) (λ es. length es ≡ l + 1)
entries_are l true entries h = h refl
entries_are l false entries h = tt

rule_is : (l : ℕ) (changed : Bool) (entries : List ℕ) → l ≤ 14 → (changed ≡ true → length entries ≡ l + 1)
    → IsListRule (list_rule l changed entries)
rule_is l changed entries few h = record {
  some = omega arith;
  few = omega arith;
  entries = entries_are l changed entries h;
}

module _ (options : Options) (header : UnitHeader) (bytes : List ℕ) (h : PlainSliceSegmentHeader) (kept : ℕ
    → Option ActiveSets) (is : IsHeader kept h) where
  slice_is : IsSlice (coded_slice options header bytes h is.sets)
  slice_is = record {
    format = format_is is.sets.sps;
    limits = limits_are options.highest_tid is.sets.sps is.are.sequence_set;
    log2_max_pic_order_cnt_lsb_minus4 = is.sets.sps.log2_max_pic_order_cnt_lsb_minus4;
    log2_bound = is.are.sequence_set.0.log2;
    max_pic_order_cnt_lsb = refl;
    sets = walk_sets is.sets.sps.short_term_ref_pic_set is.are.sequence_set.1.sets;
    first = is.first;
  }

  independent_is : IsIndependent (coded_slice options header bytes h is.sets)
  independent_is = record {
    pic_order_cnt_lsb = is.own.low;
    curr_rps_idx = rw length-map (omega (arith, is.own.index, is.are.sequence_set.1.count));
    own_set = walk_set h.short_term_ref_pic_set is.own.own_set;
    long_term = All-map (IsLongTermMember _) (long_term_member h)
        (numbers_below (h.num_long_term_sps + h.num_long_term_pics))
        (λ k d below. record {
          poc_lsb = at_or (λ n. n < 2 ^ lsb_bits is.sets.sps) h.poc_lsb_lt _ 0 is.own.lsbs
              (pow_pos (lsb_bits is.sets.sps));
        });
    few_long_term =
        rw length-map (omega (arith, length_below (h.num_long_term_sps + h.num_long_term_pics), is.own.few));
    list0 = rule_is h.num_ref_idx_l0_active_minus1 _ _ is.own.list0 is.changed.list0;
    list1 = rule_is h.num_ref_idx_l1_active_minus1 _ _ is.own.list1 is.changed.list1;
  }

  pub coded_slice_is : IsMeaning (CodedSlice (coded_slice options header bytes h is.sets))
  coded_slice_is = (slice_is, λ _. independent_is)

-- ---- what is kept

-- the sets that are kept are as they can be read
pub record AreKept (kept : Kept) : Type 0 where
  pub sequences : (id : ℕ) (s : PlainSps) → kept.sequence_sets id ≡ Some s → IsSequenceSet s
  pub pictures : (id : ℕ) (p : PlainPps) → kept.picture_sets id ≡ Some p → IsPictureSet kept.sequence_sets p

pub none_are : AreKept none_kept
none_are = record { sequences = λ id s e. absurd cc; pictures = λ id p e. absurd cc }

-- one more set is of the same kind as those before
with_all : {A : Type 0} (P : A → Type 0) (id : ℕ) (set : A) (sets : ℕ → Option A) → P set
    → ((k : ℕ) (x : A) → sets k ≡ Some x → P x) → (k : ℕ) (x : A) → with_set id set sets k ≡ Some x → P x
with_all {A} P id set sets p all k x e = by_test (k == id) e
  where
    by_test : (b : Bool) → (if b then Some set else sets k) ≡ Some x → P x
    by_test true f = let same : set ≡ x = cc in rw (← same) p
    by_test false f = all k x f

-- what was kept under an id is so, or something else
still : (id : ℕ) (set : PlainSps) (sets : ℕ → Option PlainSps) (k : ℕ) (x : PlainSps) → sets k ≡ Some x
    → (y : PlainSps) × (with_set id set sets k ≡ Some y)
still id set sets k x e = by_test (k == id)
  where
    by_test : (b : Bool) → (y : PlainSps) × ((if b then Some set else sets k) ≡ Some y)
    by_test true = (set, refl)
    by_test false = (x, e)

named_still : (id : ℕ) (set : PlainSps) (sets : ℕ → Option PlainSps) (p : PlainPps) → IsPictureSet sets p
    → IsPictureSet (with_set id set sets) p
named_still id set sets p h =
    let s = still id set sets p.seq_parameter_set_id h.sps h.names in
    record { list0 = h.list0; list1 = h.list1; sps = s.0; names = s.1 }

module _ (kept : Kept) (are : AreKept kept) where
  active_by : (pps : PlainPps) (o : Option PlainSps) (sets : ActiveSets)
      → kept.sequence_sets pps.seq_parameter_set_id ≡ o → IsPictureSet kept.sequence_sets pps
      → option_map (λ sps. record { sps = sps; pps = pps }) o ≡ Some sets → AreSets sets
  active_by pps None sets e h f = absurd cc
  active_by pps (Some sps) sets e h f =
      let same : record { sps = sps; pps = pps } ≡ sets = cc in
      rw (← same) (record {
        sequence_set = are.sequences pps.seq_parameter_set_id sps e;
        list0 = h.list0;
        list1 = h.list1;
      })

  active_from : (id : ℕ) (o : Option PlainPps) (sets : ActiveSets) → kept.picture_sets id ≡ o
      → option_and_then (with_named_sequence_set kept.sequence_sets) o ≡ Some sets → AreSets sets
  active_from id None sets e f = absurd cc
  active_from id (Some pps) sets e f =
      active_by pps (kept.sequence_sets pps.seq_parameter_set_id) sets refl (are.pictures id pps e) f

  pub active_are : (id : ℕ) (sets : ActiveSets)
      → active_sets kept.sequence_sets kept.picture_sets id ≡ Some sets → AreSets sets
  active_are id sets e = active_from id (kept.picture_sets id) sets refl e

-- ---- what a content tells

-- what holds of a unit's content
abbrev pub IsContent : Kept → Content → Type 0
IsContent kept (refused cause) = Unit {0}
IsContent kept (video_set set) = Unit {0}
IsContent kept (sequence_set set) = IsSequenceSet set
IsContent kept (picture_set set) = IsPictureSet kept.sequence_sets set
IsContent kept unread_picture_set = Unit {0}
IsContent kept (slice header segment) = IsHeader (active_sets kept.sequence_sets kept.picture_sets) segment
    × (kept.has_sequence_set ≡ true)
IsContent kept end_of_sequence = kept.has_sequence_set ≡ true
IsContent kept end_of_bitstream = kept.has_sequence_set ≡ true
IsContent kept nothing = Unit {0}

module _ (kept : Kept) (are : AreKept kept) where
  read_is : {A : Type 0} (P : A → Type 0) (t : Table A) (means : A → Content) (bits : List Bool) → Gives t P
      → ((x : A) → P x → IsContent kept (means x)) → IsContent kept (content_read means (read t bits))
  read_is {A} P t means bits g h = by_reading (read t bits) refl
    where
      by_reading : (r : Reading A) → read t bits ≡ r → IsContent kept (content_read means r)
      by_reading (gives x rest) e = h x (g.each bits x rest e)
      by_reading (refuses fault rest) e = tt

  picture_set_is : (temporal : ℕ) (bits : List Bool)
      → IsContent kept (picture_set_read (read (picture_parameter_set temporal kept.sequence_sets) bits))
  picture_set_is temporal bits = by_reading (read (picture_parameter_set temporal kept.sequence_sets) bits) refl
    where
      by_reading : (r : Reading PlainPps)
          → read (picture_parameter_set temporal kept.sequence_sets) bits ≡ r → IsContent kept (picture_set_read r)
      by_reading (gives x rest) e = (picture_set_gives kept.sequence_sets temporal).each bits x rest e
      by_reading (refuses fault rest) e = tt

  chosen : (b : Bool) (x y : Content) → IsContent kept x → IsContent kept y → IsContent kept (if b then x else y)
  chosen true x y p q = p
  chosen false x y p q = q

  slice_content_is : (header : UnitHeader) (bytes : List ℕ) → kept.has_sequence_set ≡ true
      → IsContent kept (slice_content kept header bytes)
  slice_content_is header bytes has =
      read_is (IsHeader (active_sets kept.sequence_sets kept.picture_sets)) _ (slice header) (payload bytes)
      (header_is (active_sets kept.sequence_sets kept.picture_sets)
      (active_are kept are) header.nal_unit_type (drop 2 bytes)) (λ segment h. (h, has))

  coded_is : (header : UnitHeader) (bytes : List ℕ) → IsContent kept (coded_content kept header bytes)
  coded_is header bytes = by_set kept.has_sequence_set refl
    where
      by_set : (b : Bool) → kept.has_sequence_set ≡ b
          → IsContent kept
          (if not b then nothing else if is_slice header.nal_unit_type then slice_content kept header
          bytes else if header.nal_unit_type == 36 then end_of_sequence else if header.nal_unit_type ==
          37 then end_of_bitstream else nothing)
      by_set false e = tt
      by_set true e = chosen (is_slice header.nal_unit_type) _ _ (slice_content_is header bytes e)
          (chosen (header.nal_unit_type == 36) _ _ e (chosen (header.nal_unit_type == 37) _ _ e tt))

  typed_is : (header : UnitHeader) (bytes : List ℕ) → IsContent kept (content_by_type kept header bytes)
  typed_is header bytes =
      chosen (header.nal_unit_type == 32) _ _
      (read_is (λ vps. Unit {0}) video_parameter_set video_set (payload bytes) (record {
        each = λ bits x rest e. tt;
      }) (λ x p. tt))
      (chosen (header.nal_unit_type == 33) _ _
      (read_is IsSequenceSet sequence_parameter_set sequence_set (payload bytes) sequence_set_gives (λ x p. p))
      (chosen (header.nal_unit_type == 34) _ _ (picture_set_is (temporal_id header) (payload bytes))
      (coded_is header bytes)))

  headed_is : (options : Options) (bytes : List ℕ) (r : Result UnitHeader HeaderFault)
      → IsContent kept (headed_content options kept bytes r)
  headed_is options bytes (Ok header) =
      chosen (wants options header) _ _ (typed_is header bytes) tt
  headed_is options bytes (Err fault) = tt

  pub content_is : (options : Options) (bytes : List ℕ) → IsContent kept (content options kept bytes)
  unfolding content
  content_is options bytes = headed_is options bytes (unit_header bytes)

-- ---- what is kept after a unit

pub with_picture_unit_are : (kept : Kept) (bytes : List ℕ) (c : Content) → AreKept kept → IsContent kept c
    → AreKept (with_picture_set_unit bytes c kept)
with_picture_unit_are kept bytes (picture_set set) are is = record {
  sequences = are.sequences;
  pictures = with_all (IsPictureSet kept.sequence_sets) set.pic_parameter_set_id set kept.picture_sets is are.pictures;
}
with_picture_unit_are kept bytes unread_picture_set are is = record {
  sequences = are.sequences;
  pictures = are.pictures;
}
with_picture_unit_are kept bytes (refused cause) are is = are
with_picture_unit_are kept bytes (video_set set) are is = are
with_picture_unit_are kept bytes (sequence_set set) are is = are
with_picture_unit_are kept bytes (slice header segment) are is = are
with_picture_unit_are kept bytes end_of_sequence are is = are
with_picture_unit_are kept bytes end_of_bitstream are is = are
with_picture_unit_are kept bytes nothing are is = are

waited_are : (options : Options) (kept : Kept) (waiting : List (List ℕ)) → AreKept kept
    → AreKept (fold (with_waited options) kept waiting)
waited_are options kept [] are = are
waited_are options kept (bytes ∷ waiting) are =
    waited_are options (with_waited options kept bytes) waiting
    (with_picture_unit_are kept bytes (content options kept bytes) are (content_is kept are options bytes))

pub sequence_set_are : (kept : Kept) (set : PlainSps) → AreKept kept → IsSequenceSet set
    → AreKept (record (with_sequence_set set kept) { waiting = [] })
sequence_set_are kept set are is = record {
  sequences = with_all IsSequenceSet set.seq_parameter_set_id set kept.sequence_sets is are.sequences;
  pictures = λ id p e. named_still set.seq_parameter_set_id set kept.sequence_sets p (are.pictures id p e);
}

with_content_are : (options : Options) (kept : Kept) (bytes : List ℕ) (c : Content) → AreKept kept
    → IsContent kept c → AreKept (with_content options bytes c kept)
with_content_are options kept bytes (video_set set) are is = record {
  sequences = are.sequences;
  pictures = are.pictures;
}
with_content_are options kept bytes (sequence_set set) are is =
    waited_are options (record (with_sequence_set set kept) { waiting = [] }) kept.waiting
    (sequence_set_are kept set are is)
with_content_are options kept bytes (picture_set set) are is = with_picture_unit_are kept bytes (picture_set set) are is
with_content_are options kept bytes unread_picture_set are is =
    with_picture_unit_are kept bytes unread_picture_set are is
with_content_are options kept bytes (refused cause) are is = are
with_content_are options kept bytes (slice header segment) are is = are
with_content_are options kept bytes end_of_sequence are is = are
with_content_are options kept bytes end_of_bitstream are is = are
with_content_are options kept bytes nothing are is = are

pub behind_are : (options : Options) (kept : Kept) (bytes : List ℕ) → AreKept kept
    → AreKept (kept_behind options kept bytes)
unfolding kept_behind
behind_are options kept bytes are =
    with_content_are options kept bytes (content options kept bytes) are (content_is kept are options bytes)

-- ---- what units mean

meaning_by : (options : Options) (kept : Kept) (bytes : List ℕ) (c : Content) → IsContent kept c
    → IsMeaning (meaning_of options kept bytes c)
meaning_by options kept bytes (sequence_set set) is = format_is set
meaning_by options kept bytes (slice header segment) is =
    rw is.0.names (coded_slice_is options header bytes segment (active_sets kept.sequence_sets kept.picture_sets) is.0)
meaning_by options kept bytes (refused cause) is = tt
meaning_by options kept bytes (video_set set) is = tt
meaning_by options kept bytes (picture_set set) is = tt
meaning_by options kept bytes unread_picture_set is = tt
meaning_by options kept bytes end_of_sequence is = tt
meaning_by options kept bytes end_of_bitstream is = tt
meaning_by options kept bytes nothing is = tt

meaning_is : (options : Options) (kept : Kept) (bytes : List ℕ) → AreKept kept → IsMeaning (meaning options kept bytes)
unfolding meaning
meaning_is options kept bytes are =
    meaning_by options kept bytes (content options kept bytes) (content_is kept are options bytes)

each_is : (options : Options) (kept : Kept) (us : List NalUnit) → AreKept kept
    → All IsMeaning (meanings_behind options kept us)
each_is options kept [] are = All-nil IsMeaning
each_is options kept (u ∷ us) are =
    All-cons IsMeaning (meaning options kept u.bytes)
    (meanings_behind options (kept_behind options kept u.bytes) us) (meaning_is options kept u.bytes are)
    (each_is options (kept_behind options kept u.bytes) us (behind_are options kept u.bytes are))

-- before the first sequence set
first_by : (options : Options) (kept : Kept) (u : NalUnit) (us : List NalUnit) (c : Content)
    → IsContent kept c → kept.has_sequence_set ≡ false
    → ((with_content options u.bytes c kept).has_sequence_set ≡ false
    → SetComesFirst (meanings_behind options (with_content options u.bytes c kept) us))
    → SetComesFirst
    (meaning_of options kept u.bytes c ∷ meanings_behind options (with_content options u.bytes c kept) us)
first_by options kept u us (sequence_set set) is none later = tt
first_by options kept u us (slice header segment) is none later = absurd cc
first_by options kept u us end_of_sequence is none later = absurd cc
first_by options kept u us end_of_bitstream is none later = absurd cc
first_by options kept u us (refused cause) is none later = later none
first_by options kept u us (video_set set) is none later = later none
first_by options kept u us (picture_set set) is none later = later none
first_by options kept u us unread_picture_set is none later = later none
first_by options kept u us nothing is none later = later none

first_is : (options : Options) (kept : Kept) (us : List NalUnit) → AreKept kept
    → kept.has_sequence_set ≡ false → SetComesFirst (meanings_behind options kept us)
unfolding meaning kept_behind
first_is options kept [] are none = tt
first_is options kept (u ∷ us) are none =
    first_by options kept u us (content options kept u.bytes) (content_is kept are options u.bytes) none
    (first_is options (kept_behind options kept u.bytes) us (behind_are options kept u.bytes are))

pub units_are : (options : Options) (us : List NalUnit) → AreMeanings (meanings_behind options none_kept us)
units_are options us = record {
  each = each_is options none_kept us none_are;
  set_first = first_is options none_kept us none_are refl;
}

pub stream_is : (options : Options) (stream : List ℕ) → AreMeanings (meanings options stream)
stream_is options stream = units_are options (units stream)
