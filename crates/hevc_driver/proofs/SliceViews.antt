-- What slices stand for.
use Rattle.std.proofs.Common.{◌≡◌, ℕ, ℤ, length, ◌&&◌, Some, None, to_z, of_z, w32, pos, zero, suc}
use Rattle.std.proofs.Common.{◌+◌, ◌≤◌, ◌^◌, ◌==◌, Bool, true, false, List, [], ◌∷◌, map, get_or}
use Rattle.std.proofs.Common.{refl, sym, ap, ◌∙◌, subst, arith, if◌then◌else◌, Result, Ok, Err}
use Rattle.std.specs.Prelude.{nat_le, IsErr, OnOk, is_ok}
use Rattle.std.proofs.lemmas.Bool.Decides.{nat_tests}
use Rattle.std.proofs.lemmas.Int.{ints}
use Rattle.hevc_pictures.proofs.Powers.{power_most}
use Rattle.hevc_spec.specs.UnitHeader.{UnitHeader, HeaderFault, unit_header, checked_header, header_fields}
use Rattle.hevc_records.specs.Pps.{PlainPps}
use Rattle.hevc_bits.specs.FoundUnit.{FoundUnit, bytes_of}
use Rattle.hevc_bits.specs.ParsedHeader.{parsed_header, answer_of}
use Rattle.hevc_set_parts.specs.declared.short_term_ref_pic_set.ShortTermRefPicSet.{ShortTermRefPicSet}
use Rattle.hevc_set_parts.specs.ShortTermRefPicSet.{plain_short_term_ref_pic_set}
use Rattle.hevc_sequence_set.specs.declared.sps.Sps.{Sps}
use Rattle.hevc_sequence_set.specs.Sps.{plain_sps}
use Rattle.hevc_picture_slice.specs.declared.pps.Pps.{Pps}
use Rattle.hevc_picture_slice.specs.Pps.{plain_pps}
use Rattle.hevc_picture_slice.specs.declared.slice.Slice.{Slice}
use Rattle.hevc_picture_slice.specs.SliceHeader.{plain_slice_header}
use Rattle.hevc_records.specs.SliceHeader.{PlainSliceSegmentHeader, completed_header}
use Rattle.hevc_picture_slice.specs.declared.slice_header.SliceHeader.{SliceHeader}
use Rattle.std.proofs.lemmas.List.{length-map}
use Rattle.hevc_walk.specs.DependentSlices.{whole_slice, with_kept, completes}
use Rattle.hevc_walk.specs.Pictures.{Head}
use Rattle.hevc_walk.specs.ReferenceSets.{RefPicSet}
use Rattle.hevc_walk.specs.ReferenceLists.{ref_pic_list0, ref_pic_list1}
use Rattle.hevc_walk.specs.Walk.{slice_call}
use Rattle.hevc_refs.specs.declared.ref_pic_list.RefPicList.{RefPicList}
use Rattle.hevc_refs.specs.Lists.{places_of, plain_places}
use Rattle.hevc_backend.specs.Calls.{decode_slice_call}
use Rattle.hevc_driver.specs.Calls.{call_of}
use Rattle.hevc_walk.specs.Meanings as walk
use Rattle.hevc_walk_inputs.specs.Headers.{short_term_set_of}
use Rattle.hevc_walk_inputs.specs.Sequences.{format_of_set, limits_of_set}
use Rattle.hevc_stream.specs.Options as stream
use Rattle.hevc_stream.specs.Slices.{coded_slice}
use Rattle.hevc_pictures.specs.NewPicture.{IsFirstSlice}
use Rattle.hevc_refs.specs.Lists.{HasHeader}
use Rattle.hevc_refs.specs.Marking.{HasMembers}
use Rattle.hevc_options.specs.declared.Options.{Options}
use Rattle.hevc_options.specs.Options.{options_of}
use Rattle.hevc_driver.specs.Slices.{slice_of, kept_of}

pub has_header : (o : Options) (s : Slice) (sps : Sps) (pps : Pps)
    → HasHeader (slice_of o s sps pps) s.header (plain_pps pps).scc_extension.curr_pic_ref_enabled_flag
unfolding slice_of
has_header o s sps pps = record { same_header = refl; same_flag = refl }

-- ---- the short-term set

get_or-map : {X Y : Type 0} (f : X → Y) (xs : List X) (k : ℕ) (d : X) → get_or (map f xs) k (f d) ≡ f (get_or xs k d)
get_or-map f [] k d = refl
get_or-map f (x ∷ xs) zero d = refl
get_or-map f (x ∷ xs) (suc k) d = get_or-map f xs k d

-- the set that a slice means, whatever its picture set is
abbrev pub any_slice : stream.Options → Slice → Sps → PlainPps → walk.Slice
any_slice o s sps pps = coded_slice o s.nalu.header (bytes_of s.nalu) (plain_slice_header s.header)
    (record { sps = plain_sps sps; pps = pps })

pub any_members : (o : stream.Options) (s : Slice) (sps : Sps) (pps : PlainPps) (set : ShortTermRefPicSet) (max_lsb : ℤ)
    → plain_short_term_ref_pic_set set ≡ get_or (plain_sps sps).short_term_ref_pic_set s.header.curr_rps_idx
    (plain_slice_header s.header).short_term_ref_pic_set
    → max_lsb ≡ pos (2 ^ ((plain_sps sps).log2_max_pic_order_cnt_lsb_minus4 + 4))
    → HasMembers (any_slice o s sps pps) s.header set max_lsb
any_members o s sps pps set max_lsb is max = record {
  long_term = refl;
  short_term = get_or-map short_term_set_of (plain_sps sps).short_term_ref_pic_set s.header.curr_rps_idx
      (plain_slice_header s.header).short_term_ref_pic_set ∙ ap short_term_set_of (sym is);
  max_pic_order_cnt_lsb = max;
}

pub has_members : (o : Options) (s : Slice) (sps : Sps) (pps : Pps) (set : ShortTermRefPicSet) (max_lsb : ℤ)
    → plain_short_term_ref_pic_set set ≡ get_or (plain_sps sps).short_term_ref_pic_set s.header.curr_rps_idx
    (plain_slice_header s.header).short_term_ref_pic_set
    → max_lsb ≡ pos (2 ^ ((plain_sps sps).log2_max_pic_order_cnt_lsb_minus4 + 4))
    → HasMembers (slice_of o s sps pps) s.header set max_lsb
unfolding slice_of
has_members o s sps pps set max_lsb is max = any_members (options_of o) s sps (plain_pps pps) set max_lsb is max

-- ---- a first slice

checked_positive : (h h' : UnitHeader) → checked_header h ≡ Ok h' → 1 ≤ h'.nuh_temporal_id_plus1
checked_positive h h' is = by (nat_le 48 h.nal_unit_type) (h.nuh_temporal_id_plus1 == 0) refl refl
  where
    by : (a b : Bool) → nat_le 48 h.nal_unit_type ≡ a → h.nuh_temporal_id_plus1 == 0 ≡ b → 1 ≤ h'.nuh_temporal_id_plus1
    by true b ea eb = absurd (cc (is, ea))
    by false true ea eb = absurd (cc (is, ea, eb))
    by false false ea eb = let same : h ≡ h' = cc (is, ea, eb) in let more : 1 ≤ h.nuh_temporal_id_plus1 =
        grind (arith, nat_tests, eb) in subst (λ (u : UnitHeader). 1 ≤ u.nuh_temporal_id_plus1) same more

header_positive : (bytes : List ℕ) (h : UnitHeader) → unit_header bytes ≡ Ok h → 1 ≤ h.nuh_temporal_id_plus1
header_positive [] h is = absurd (cc is)
header_positive (a ∷ []) h is = absurd (cc is)
header_positive (a ∷ b ∷ bytes) h is = checked_positive (header_fields a b) h is

answered : (r : Result UnitHeader HeaderFault) (h : UnitHeader) → answer_of r ≡ Ok h → r ≡ Ok h
answered (Ok u) h is = let same : u ≡ h = cc is in ap Ok same
answered (Err e) h is = absurd (cc is)

pub any_first_slice : (o : stream.Options) (s : Slice) (sps : Sps) (pps : PlainPps) (max_lsb : ℤ)
    → parsed_header (bytes_of s.nalu) ≡ Ok s.nalu.header
    → max_lsb ≡ pos (2 ^ ((plain_sps sps).log2_max_pic_order_cnt_lsb_minus4 + 4))
    → IsFirstSlice (any_slice o s sps pps) s max_lsb o.handle_cra_as_bla
any_first_slice o s sps pps max_lsb parsed max = record {
  nal_unit_type = refl;
  temporal_id =
      (let more = header_positive (bytes_of s.nalu) s.nalu.header
      (answered (unit_header (bytes_of s.nalu)) s.nalu.header parsed) in omega (arith, more));
  no_output_of_prior_pics_flag = refl;
  pic_output_flag = refl;
  pic_order_cnt_lsb = refl;
  max_pic_order_cnt_lsb = max;
  handled_as_bla = refl;
}

pub is_first_slice : (o : Options) (s : Slice) (sps : Sps) (pps : Pps) (max_lsb : ℤ)
    → parsed_header (bytes_of s.nalu) ≡ Ok s.nalu.header
    → max_lsb ≡ pos (2 ^ ((plain_sps sps).log2_max_pic_order_cnt_lsb_minus4 + 4))
    → IsFirstSlice (slice_of o s sps pps) s max_lsb o.handle_cra_as_bla
unfolding slice_of
is_first_slice o s sps pps max_lsb parsed max = any_first_slice (options_of o) s sps (plain_pps pps) max_lsb parsed max

-- what a slice has of its unit's header, and of its sets
pub slice_type : (o : Options) (s : Slice) (sps : Sps) (pps : Pps)
    → (slice_of o s sps pps).nal_unit_type ≡ s.nalu.header.nal_unit_type
unfolding slice_of
slice_type o s sps pps = refl

pub slice_format : (o : Options) (s : Slice) (sps : Sps) (pps : Pps)
    → (slice_of o s sps pps).format ≡ format_of_set (plain_sps sps)
unfolding slice_of
slice_format o s sps pps = refl

pub slice_limits : (o : Options) (s : Slice) (sps : Sps) (pps : Pps)
    → (slice_of o s sps pps).limits ≡ limits_of_set o.highest_tid (plain_sps sps)
unfolding slice_of
slice_limits o s sps pps = refl

-- ---- MaxPicOrderCntLsb

pub signed_lsb : (max : ℤ) (k : ℕ) → k ≤ 12 → max ≡ pos (2 ^ (k + 4)) → to_z w32 (of_z w32 max) ≡ pos (2 ^ (k + 4))
signed_lsb max k le is = let most = power_most k le in let same : to_z w32 (of_z w32 max) ≡ max =
    omega (arith, ints, most, is) in same ∙ is

-- ---- dependent slices

pub completes_as : (o : Options) (s t : Slice) (sps : Sps) (pps : Pps) (h : SliceHeader)
    → s.header.dependent_slice_segment_flag ≡ true
    → (h.pic_parameter_set_id == s.header.pic_parameter_set_id
    && nat_le h.curr_rps_idx sps.num_short_term_ref_pic_sets) ≡ true
    → plain_slice_header t.header ≡ completed_header (plain_slice_header s.header) (plain_slice_header h)
    → t.nalu ≡ s.nalu → whole_slice (Some (kept_of h)) (slice_of o s sps pps) ≡ Some (slice_of o t sps pps)
unfolding slice_of kept_of
completes_as o s t sps pps h dependent fits header unit =
    let many : length (map short_term_set_of (plain_sps sps).short_term_ref_pic_set)
    ≡ sps.num_short_term_ref_pic_sets = length-map (plain_sps sps).short_term_ref_pic_set short_term_set_of
    ∙ length-map sps.short_term_ref_pic_set plain_short_term_ref_pic_set ∙ sps.short_term_sets in
    let form : PlainSliceSegmentHeader → FoundUnit UnitHeader
    → walk.Slice =
    λ (x : PlainSliceSegmentHeader) (u : FoundUnit UnitHeader). coded_slice (options_of o) u.header
    (bytes_of u) x (record { sps = plain_sps sps; pps = plain_pps pps }) in
    let given : walk.Slice = slice_of o s sps pps in
    let kept = kept_of h in
    let fit : completes kept given ≡ true =
    ap (λ (n : ℕ). h.pic_parameter_set_id == s.header.pic_parameter_set_id && nat_le h.curr_rps_idx n) many ∙ fits in
    ap (λ (b : Bool). if b then with_kept (Some kept) given else Some given) dependent
    ∙ ap (λ (b : Bool). if b then Some (record given { header = kept.header }) else None) fit
    ∙ ap Some (ap (λ (x : PlainSliceSegmentHeader). form x s.nalu) (sym header)
    ∙ ap (λ (u : FoundUnit UnitHeader). form (plain_slice_header t.header) u) (sym unit))

-- ---- the call that hands a slice over

pub slice_made : (H : Type 0) (o : Options) (s : Slice) (sps : Sps) (pps : Pps) (p : Head) (set : RefPicSet)
    (list0 list1 : RefPicList) → plain_places (places_of list0) ≡ ref_pic_list0 set (slice_of o s sps pps)
    → plain_places (places_of list1) ≡ ref_pic_list1 set (slice_of o s sps pps)
    → call_of (decode_slice_call {H = H} p.number s list0 list1) ≡ slice_call p set (slice_of o s sps pps)
unfolding slice_of
slice_made H o s sps pps p set list0 list1 first second = rw (first, second) refl

-- ---- results

pub no_error : {T E : Type 0} (r : Result T E) → (IsErr r → ⊥) → is_ok r ≡ true
no_error (Ok v) h = refl
no_error (Err e) h = absurd (h refl)

pub of_ok : {T E : Type 0} (r : Result T E) (P : Type 0) → (IsErr r → ⊥) → OnOk r P → P
of_ok (Ok v) P h p = p
of_ok (Err e) P h p = absurd (h refl)
