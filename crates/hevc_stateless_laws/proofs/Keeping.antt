-- What units mean and keep, one after the other.
use Rattle.std.proofs.Common.{drop, ◌≡◌, ℕ, List, [], ◌∷◌, ◌++◌, length, suc, refl, sym, ◌∙◌, ap}
use Rattle.std.proofs.Common.{arith, Option, Some, None, Ok, Bool, true, false, not, Result, Err}
use Rattle.std.specs.Prelude.{fold, ◌==◌, ◌||◌, if◌then◌else◌}
use Rattle.std.proofs.lemmas.Bool.Decides.{nat_tests}
use Rattle.hevc_spec.specs.Units.{NalUnit}
use Rattle.hevc_spec.specs.UnitHeader.{UnitHeader, unit_header, HeaderFault}
use Rattle.hevc_spec.specs.Payload.{payload}
use Rattle.hevc_spec.specs.Table.{Reading, gives, refuses, read}
use Rattle.hevc_records.specs.Vps.{PlainVps}
use Rattle.hevc_records.specs.Sps.{PlainSps}
use Rattle.hevc_records.specs.Pps.{PlainPps}
use Rattle.hevc_tables.specs.VpsTable.{video_parameter_set}
use Rattle.hevc_tables.specs.SpsTable.{sequence_parameter_set}
use Rattle.hevc_tables.specs.PpsTable.{picture_parameter_set}
use Rattle.hevc_walk.specs.Meanings.{Meaning, CodedSlice, SequenceSet, Format}
use Rattle.hevc_stream.specs.Options.{Options}
use Rattle.std.proofs.Math.Path.{fun_ext}
use Rattle.hevc_spec.specs.UnitTypes.{is_slice}
use Rattle.hevc_records.specs.SliceHeader.{PlainSliceSegmentHeader}
use Rattle.hevc_stream.specs.Kept.{Kept, with_sequence_set}
use Rattle.hevc_stateless.specs.Steps.{with_read_set}
use Rattle.hevc_stateless.specs.Segments.{own_set, set_in}
use Rattle.hevc_stream.specs.Slices.{temporal_id, slice_segment_meaning}
use Rattle.hevc_tables.specs.SliceHeaderTable.{ActiveSets, active_sets, slice_segment_header}
use Rattle.hevc_stream.specs.Contents.{Content, refused, video_set, sequence_set, picture_set}
use Rattle.hevc_stream.specs.Contents.{unread_picture_set, slice, end_of_sequence, end_of_bitstream}
use Rattle.hevc_stream.specs.Contents.{nothing, content_read, picture_set_read, content_by_type}
use Rattle.hevc_stream.specs.Contents.{content, coded_content, wants}
use Rattle.hevc_stream.specs.Stream.{with_picture_set_unit, with_waited, with_content, meaning_of}
use Rattle.hevc_stream.specs.Stream.{meaning, meanings_behind, kept_behind, kept_behind_all}
use Rattle.hevc_stream.specs.Stream.{with_all_waited}
use Rattle.hevc_stateless.specs.States.{is_sequence_set, is_parameter_set}
use Rattle.hevc_stateless.proofs.Coding.{isnt, segment_isnt}

-- ---- one more unit

pub meant_last : (o : Options) (k : Kept) (us : List NalUnit) (u : NalUnit)
    → meanings_behind o k (us ++ u ∷ []) ≡ meanings_behind o k us ++ meaning o (kept_behind_all o k us) u.bytes ∷ []
meant_last o k [] u = refl
meant_last o k (v ∷ us) u = ap (λ ms. meaning o k v.bytes ∷ ms) (meant_last o (kept_behind o k v.bytes) us u)

pub meant_behind : (o : Options) (k : Kept) (us vs : List NalUnit)
    → meanings_behind o k (us ++ vs) ≡ meanings_behind o k us ++ meanings_behind o (kept_behind_all o k us) vs
meant_behind o k [] vs = refl
meant_behind o k (v ∷ us) vs = ap (λ ms. meaning o k v.bytes ∷ ms) (meant_behind o (kept_behind o k v.bytes) us vs)

pub kept_last : (o : Options) (k : Kept) (us : List NalUnit) (u : NalUnit)
    → kept_behind_all o k (us ++ u ∷ []) ≡ kept_behind o (kept_behind_all o k us) u.bytes
kept_last o k [] u = refl
kept_last o k (v ∷ us) u = kept_last o (kept_behind o k v.bytes) us u

pub length_meant : (o : Options) (k : Kept) (us : List NalUnit) → length (meanings_behind o k us) ≡ length us
length_meant o k [] = refl
length_meant o k (v ∷ us) = ap suc (length_meant o (kept_behind o k v.bytes) us)

-- ---- whether a sequence set is kept

set_unit_has : (bytes : List ℕ) (c : Content) (k : Kept)
    → (with_picture_set_unit bytes c k).has_sequence_set ≡ k.has_sequence_set
set_unit_has bytes (picture_set set) k = refl
set_unit_has bytes unread_picture_set k = refl
set_unit_has bytes (refused cause) k = refl
set_unit_has bytes (video_set set) k = refl
set_unit_has bytes (sequence_set set) k = refl
set_unit_has bytes (slice h segment) k = refl
set_unit_has bytes end_of_sequence k = refl
set_unit_has bytes end_of_bitstream k = refl
set_unit_has bytes nothing k = refl

waited_has : (o : Options) (units : List (List ℕ)) (k : Kept)
    → (fold (with_waited o) k units).has_sequence_set ≡ k.has_sequence_set
waited_has o [] k = refl
waited_has o (bytes ∷ units) k = waited_has o units (with_waited o k bytes) ∙ set_unit_has bytes (content o k bytes) k

content_has : (o : Options) (bytes : List ℕ) (c : Content) (k kk : Kept)
    → (with_content o bytes c k).has_sequence_set ≡ (is_sequence_set (meaning_of o kk bytes c) || k.has_sequence_set)
content_has o bytes (sequence_set set) k kk =
    waited_has o k.waiting (record k { sequence_sets = _; has_sequence_set = true; waiting = [] })
content_has o bytes (picture_set set) k kk = refl
content_has o bytes unread_picture_set k kk = refl
content_has o bytes (refused cause) k kk = refl
content_has o bytes (video_set set) k kk = refl
content_has o bytes (slice h segment) k kk =
    slice_isnt (active_sets kk.sequence_sets kk.picture_sets segment.pic_parameter_set_id)
  where
    slice_isnt : (sets : Option ActiveSets)
        → k.has_sequence_set ≡ (is_sequence_set (slice_segment_meaning o h bytes segment sets) || k.has_sequence_set)
    slice_isnt (Some sets) = refl
    slice_isnt None = refl
content_has o bytes end_of_sequence k kk = refl
content_has o bytes end_of_bitstream k kk = refl
content_has o bytes nothing k kk = refl

pub kept_has : (o : Options) (k : Kept) (bytes : List ℕ)
    → (kept_behind o k bytes).has_sequence_set ≡ (is_sequence_set (meaning o k bytes) || k.has_sequence_set)
unfolding kept_behind meaning
kept_has o k bytes = content_has o bytes (content o k bytes) k k

-- ---- before the first sequence set

module _ (o : Options) (k : Kept) (bytes : List ℕ) (h : UnitHeader) (parsed : unit_header bytes ≡ Ok h) where
  abbrev sure : Kept
  sure = record k { has_sequence_set = true }

  by_type : (b c d : Bool) → (h.nal_unit_type == 32) ≡ b → (h.nal_unit_type == 33) ≡ c
      → (h.nal_unit_type == 34) ≡ d → is_parameter_set h.nal_unit_type ≡ true
      → content_by_type sure h bytes ≡ content_by_type k h bytes
  by_type true c d video sequence picture set = rw video refl
  by_type false true d video sequence picture set = rw (video, sequence) refl
  by_type false false true video sequence picture set = rw (video, sequence, picture) refl
  by_type false false false video sequence picture set =
      absurd (grind (arith, nat_tests, video, sequence, picture, set))

  wanted_or_not : (b : Bool) → content_by_type sure h bytes ≡ content_by_type k h bytes
      → (if b then content_by_type sure h bytes else nothing) ≡ (if b then content_by_type k h bytes else nothing)
  wanted_or_not true same = same
  wanted_or_not false same = refl

  -- the unit of a parameter set is the same whether a sequence set is kept or not
  pub set_is_same : is_parameter_set h.nal_unit_type ≡ true → content o sure bytes ≡ content o k bytes
  unfolding content
  set_is_same set =
      rw parsed (wanted_or_not (wants o h)
      (by_type (h.nal_unit_type == 32) (h.nal_unit_type == 33) (h.nal_unit_type == 34) refl refl refl set))

  -- any other means nothing before it
  pub other_is_nothing : is_parameter_set h.nal_unit_type ≡ false → k.has_sequence_set ≡ false
      → content o k bytes ≡ nothing
  unfolding content
  other_is_nothing other none =
      rw (
        parsed,
        isnt h.nal_unit_type 32 other refl,
        isnt h.nal_unit_type 33 other refl,
        isnt h.nal_unit_type 34 other refl,
        none,
      ) (by (wants o h))
    where
      by : (b : Bool) → (if b then nothing else nothing) ≡ nothing
      by true = refl
      by false = refl

-- a slice's meaning
abbrev pub is_coded : Meaning → Bool
is_coded (CodedSlice w) = true
is_coded m = false

module _ (o : Options) (k : Kept) (bytes : List ℕ) (h : UnitHeader) (parsed : unit_header bytes ≡ Ok h) where
  video_isnt : (r : Reading PlainVps) → is_coded (meaning_of o k bytes (content_read video_set r)) ≡ false
  video_isnt (gives set rest) = refl
  video_isnt (refuses fault rest) = refl

  sequence_isnt : (r : Reading PlainSps) → is_coded (meaning_of o k bytes (content_read sequence_set r)) ≡ false
  sequence_isnt (gives set rest) = refl
  sequence_isnt (refuses fault rest) = refl

  picture_isnt : (r : Reading PlainPps) → is_coded (meaning_of o k bytes (picture_set_read r)) ≡ false
  picture_isnt (gives set rest) = refl
  picture_isnt (refuses fault rest) = refl

  typed_isnt : (b c d : Bool) → (h.nal_unit_type == 32) ≡ b → (h.nal_unit_type == 33) ≡ c
      → (h.nal_unit_type == 34) ≡ d → k.has_sequence_set ≡ false
      → is_coded (meaning_of o k bytes (content_by_type k h bytes)) ≡ false
  typed_isnt true c d video sequence picture none = rw video (video_isnt (read video_parameter_set (payload bytes)))
  typed_isnt false true d video sequence picture none =
      rw (video, sequence) (sequence_isnt (read sequence_parameter_set (payload bytes)))
  typed_isnt false false true video sequence picture none =
      rw (video, sequence, picture)
      (picture_isnt (read (picture_parameter_set (temporal_id h) k.sequence_sets) (payload bytes)))
  typed_isnt false false false video sequence picture none = rw (video, sequence, picture, none) refl

  -- before the first sequence set there is none
  pub none_coded : k.has_sequence_set ≡ false → is_coded (meaning o k bytes) ≡ false
  unfolding meaning content
  none_coded none = rw parsed (by (wants o h))
    where
      by : (b : Bool) → is_coded (meaning_of o k bytes (if b then content_by_type k h bytes else nothing)) ≡ false
      by true = typed_isnt (h.nal_unit_type == 32) (h.nal_unit_type == 33) (h.nal_unit_type == 34) refl refl refl none
      by false = refl

-- ---- a sequence set that is read twice

twice_set : (set : PlainSps) (k : Kept) → with_sequence_set set (with_sequence_set set k) ≡ with_sequence_set set k
twice_set set k =
    ap (λ (sets : ℕ → Option PlainSps). record k { sequence_sets = sets; has_sequence_set = true })
    (fun_ext (λ id. by (id == set.seq_parameter_set_id) (Some set) (k.sequence_sets id)))
  where
    by : (b : Bool) (x y : Option PlainSps) → (if b then x else (if b then x else y)) ≡ (if b then x else y)
    by true x y = refl
    by false x y = refl

-- What a unit means, and keeps, that was read once already.
pub record IsReadAgain (o : Options) (k : Kept) (bytes : List ℕ) : Type 0 where
  pub means : meaning o (record (with_read_set (content o k bytes) k) { has_sequence_set = true }) bytes
      ≡ meaning o k bytes
  pub has : (with_read_set (content o k bytes) k).has_sequence_set ≡ true
  pub kept : kept_behind o (with_read_set (content o k bytes) k) bytes ≡ kept_behind o k bytes
  pub set : own_set o (with_read_set (content o k bytes) k) bytes ≡ own_set o k bytes

module _ (o : Options) (k : Kept) (bytes : List ℕ) (h : UnitHeader) (parsed : unit_header bytes ≡ Ok h) where
  -- the content of a sequence set's unit
  abbrev set_content : Content
  set_content = if wants o h then content_read sequence_set
      (read sequence_parameter_set (payload bytes)) else nothing

  is_set_content : h.nal_unit_type ≡ 33 → (kk : Kept) → content o kk bytes ≡ set_content
  unfolding content
  is_set_content typed kk =
      let video : (h.nal_unit_type == 32) ≡ false = ap (λ (n : ℕ). n == 32) typed in
      let sequence : (h.nal_unit_type == 33) ≡ true = ap (λ (n : ℕ). n == 33) typed in
      rw (parsed, video, sequence) refl

  -- a sequence set, or what is refused or passed over
  set_again : (c : Content) → ((kk : Kept) → content o kk bytes ≡ c)
      → is_sequence_set (meaning o k bytes) ≡ true → IsReadAgain o k bytes
  unfolding meaning kept_behind
  set_again (sequence_set set) is negotiated = record {
    means = ap (λ (c : Content). meaning_of o (record (with_read_set c k) { has_sequence_set = true }) bytes
        (content o (record (with_read_set c k) { has_sequence_set = true }) bytes)) (is k)
        ∙ ap (meaning_of o (record (with_sequence_set set k) { has_sequence_set = true }) bytes)
        (is (record (with_sequence_set set k) { has_sequence_set = true })) ∙ ap (meaning_of o k bytes) (sym (is k));
    has = ap (λ (c : Content). (with_read_set c k).has_sequence_set) (is k);
    kept = ap (λ (c : Content). with_content o bytes (content o (with_read_set c k) bytes) (with_read_set c k)) (is k)
        ∙ ap (λ (c : Content). with_content o bytes c (with_sequence_set set k))
        (is (with_sequence_set set k)) ∙ ap (with_all_waited o) (twice_set set k)
        ∙ ap (λ (c : Content). with_content o bytes c k) (sym (is k));
    set = ap set_in (is (record (with_read_set (content o k bytes) k) { has_sequence_set = true })
        ∙ sym (is (record k { has_sequence_set = true })));
  }
  set_again (refused cause) is negotiated =
      absurd (cc (sym (ap (λ (c : Content). is_sequence_set (meaning_of o k bytes c)) (is k)) ∙ negotiated))
  set_again (video_set set) is negotiated =
      absurd (cc (sym (ap (λ (c : Content). is_sequence_set (meaning_of o k bytes c)) (is k)) ∙ negotiated))
  set_again (picture_set set) is negotiated =
      absurd (cc (sym (ap (λ (c : Content). is_sequence_set (meaning_of o k bytes c)) (is k)) ∙ negotiated))
  set_again unread_picture_set is negotiated =
      absurd (cc (sym (ap (λ (c : Content). is_sequence_set (meaning_of o k bytes c)) (is k)) ∙ negotiated))
  set_again (slice g segment) is negotiated =
      absurd (cc (sym (ap (λ (c : Content). is_sequence_set (meaning_of o k bytes c)) (is k)
      ∙ segment_isnt o bytes g segment
      (active_sets k.sequence_sets k.picture_sets segment.pic_parameter_set_id)) ∙ negotiated))
  set_again end_of_sequence is negotiated =
      absurd (cc (sym (ap (λ (c : Content). is_sequence_set (meaning_of o k bytes c)) (is k)) ∙ negotiated))
  set_again end_of_bitstream is negotiated =
      absurd (cc (sym (ap (λ (c : Content). is_sequence_set (meaning_of o k bytes c)) (is k)) ∙ negotiated))
  set_again nothing is negotiated =
      absurd (cc (sym (ap (λ (c : Content). is_sequence_set (meaning_of o k bytes c)) (is k)) ∙ negotiated))

  -- another unit keeps no sequence set
  other_again : with_read_set (content o k bytes) k ≡ k → k.has_sequence_set ≡ true → IsReadAgain o k bytes
  other_again same has = record {
    means = ap (λ (kk : Kept). meaning o (record kk { has_sequence_set = true }) bytes) same
        ∙ ap (λ (b : Bool). meaning o (record k { has_sequence_set = b }) bytes) (sym has);
    has = ap (λ (kk : Kept). kk.has_sequence_set) same ∙ has;
    kept = ap (λ (kk : Kept). kept_behind o kk bytes) same;
    set = ap (λ (kk : Kept). own_set o kk bytes) same;
  }

  not_kept : (c : Content) → is_sequence_set (meaning_of o k bytes c) ≡ false → with_read_set c k ≡ k
  not_kept (sequence_set set) isnt = absurd (cc isnt)
  not_kept (refused cause) isnt = refl
  not_kept (video_set set) isnt = refl
  not_kept (picture_set set) isnt = refl
  not_kept unread_picture_set isnt = refl
  not_kept (slice g segment) isnt = refl
  not_kept end_of_sequence isnt = refl
  not_kept end_of_bitstream isnt = refl
  not_kept nothing isnt = refl

  -- what isn't a sequence set keeps none
  pub not_read : is_sequence_set (meaning o k bytes) ≡ false → with_read_set (content o k bytes) k ≡ k
  unfolding meaning
  not_read isnt = not_kept (content o k bytes) isnt

  -- a unit whose content is a sequence set has its type
  video_other : (r : Reading PlainVps) → is_sequence_set (meaning_of o k bytes (content_read video_set r)) ≡ false
  video_other (gives set rest) = refl
  video_other (refuses fault rest) = refl

  picture_other : (r : Reading PlainPps) → is_sequence_set (meaning_of o k bytes (picture_set_read r)) ≡ false
  picture_other (gives set rest) = refl
  picture_other (refuses fault rest) = refl

  slice_other : (r : Reading PlainSliceSegmentHeader)
      → is_sequence_set (meaning_of o k bytes (content_read (slice h) r)) ≡ false
  slice_other (gives segment rest) = by (active_sets k.sequence_sets k.picture_sets segment.pic_parameter_set_id)
    where
      by : (sets : Option ActiveSets) → is_sequence_set (slice_segment_meaning o h bytes segment sets) ≡ false
      by (Some sets) = refl
      by None = refl
  slice_other (refuses fault rest) = refl

  choice : (b : Bool) (c d : Content) → is_sequence_set (meaning_of o k bytes c) ≡ false
      → is_sequence_set (meaning_of o k bytes d) ≡ false
      → is_sequence_set (meaning_of o k bytes (if b then c else d)) ≡ false
  choice true c d is other = is
  choice false c d is other = other

  coded_other : is_sequence_set (meaning_of o k bytes (coded_content k h bytes)) ≡ false
  coded_other =
      choice (not k.has_sequence_set) nothing _ refl
      (choice (is_slice h.nal_unit_type) _ _
      (slice_other
      (read (slice_segment_header h.nal_unit_type (drop 2 bytes)
      (active_sets k.sequence_sets k.picture_sets)) (payload bytes)))
      (choice (h.nal_unit_type == 36) _ _ refl (choice (h.nal_unit_type == 37) _ _ refl refl)))

  not_typed : (h.nal_unit_type == 33) ≡ false → is_sequence_set (meaning o k bytes) ≡ false
  unfolding meaning content
  not_typed typed =
      rw parsed (choice (wants o h) _ nothing
      (choice (h.nal_unit_type == 32) _ _ (video_other (read video_parameter_set (payload bytes)))
      (rw typed (choice (h.nal_unit_type == 34) _ _
      (picture_other (read (picture_parameter_set (temporal_id h) k.sequence_sets) (payload bytes))) coded_other))) refl)

  pub read_again : (b : Bool) → is_sequence_set (meaning o k bytes) ≡ b
      → (b ≡ false → k.has_sequence_set ≡ true) → IsReadAgain o k bytes
  unfolding meaning
  read_again false is has = other_again (not_kept (content o k bytes) is) (has refl)
  read_again true is has = by (h.nal_unit_type == 33) refl
    where
      by : (b : Bool) → (h.nal_unit_type == 33) ≡ b → IsReadAgain o k bytes
      by true e = let typed : h.nal_unit_type ≡ 33 = grind (arith, nat_tests, e) in
          set_again set_content (is_set_content typed) is
      by false e = absurd (cc (sym (not_typed e) ∙ is))

  -- a sequence set that is meant was read
  found : (c : Content) → ((kk : Kept) → content o kk bytes ≡ c)
      → is_sequence_set (meaning o k bytes) ≡ true → (set : PlainSps) × (own_set o k bytes ≡ Some set)
  unfolding meaning
  found (sequence_set set) is meant = (set, ap set_in (is (record k { has_sequence_set = true })))
  found (refused cause) is meant =
      absurd (cc (sym (ap (λ (c : Content). is_sequence_set (meaning_of o k bytes c)) (is k)) ∙ meant))
  found (video_set set) is meant =
      absurd (cc (sym (ap (λ (c : Content). is_sequence_set (meaning_of o k bytes c)) (is k)) ∙ meant))
  found (picture_set set) is meant =
      absurd (cc (sym (ap (λ (c : Content). is_sequence_set (meaning_of o k bytes c)) (is k)) ∙ meant))
  found unread_picture_set is meant =
      absurd (cc (sym (ap (λ (c : Content). is_sequence_set (meaning_of o k bytes c)) (is k)) ∙ meant))
  found (slice g segment) is meant =
      absurd (cc (sym (ap (λ (c : Content). is_sequence_set (meaning_of o k bytes c)) (is k)
      ∙ segment_isnt o bytes g segment
      (active_sets k.sequence_sets k.picture_sets segment.pic_parameter_set_id)) ∙ meant))
  found end_of_sequence is meant =
      absurd (cc (sym (ap (λ (c : Content). is_sequence_set (meaning_of o k bytes c)) (is k)) ∙ meant))
  found end_of_bitstream is meant =
      absurd (cc (sym (ap (λ (c : Content). is_sequence_set (meaning_of o k bytes c)) (is k)) ∙ meant))
  found nothing is meant =
      absurd (cc (sym (ap (λ (c : Content). is_sequence_set (meaning_of o k bytes c)) (is k)) ∙ meant))

  pub set_found : is_sequence_set (meaning o k bytes) ≡ true → (set : PlainSps) × (own_set o k bytes ≡ Some set)
  set_found meant = by (h.nal_unit_type == 33) refl
    where
      by : (b : Bool) → (h.nal_unit_type == 33) ≡ b → (set : PlainSps) × (own_set o k bytes ≡ Some set)
      by true e = let typed : h.nal_unit_type ≡ 33 = grind (arith, nat_tests, e) in
          found set_content (is_set_content typed) meant
      by false e = absurd (cc (sym (not_typed e) ∙ meant))

-- whatever its header
pub sequence_read : (o : Options) (k : Kept) (bytes : List ℕ) (f : Format)
    → meaning o k bytes ≡ SequenceSet f → (set : PlainSps) × (own_set o k bytes ≡ Some set)
unfolding meaning content
sequence_read o k bytes f meant = by (unit_header bytes) refl
  where
    headerless : (fault : HeaderFault) → unit_header bytes ≡ Err fault → is_sequence_set (meaning o k bytes) ≡ false
    headerless fault parsed = rw parsed refl

    by : (r : Result UnitHeader HeaderFault) → unit_header bytes ≡ r → (set : PlainSps) × (own_set o k bytes ≡ Some set)
    by (Ok h) parsed = set_found o k bytes h parsed (ap is_sequence_set meant)
    by (Err fault) parsed = absurd (cc (sym (headerless fault parsed) ∙ ap is_sequence_set meant))
