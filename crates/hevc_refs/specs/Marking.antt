-- Deriving a reference picture set, and the marks that it leaves (8.3.2).
use Rattle.std.specs.Prelude.{◌≡◌, ℕ, ℤ, pos, Bool, true, false, not, ◌&&◌, map, All, if◌then◌else◌}
use Rattle.hevc_bits.specs.NaluType.{nalu_type_number}
use Rattle.hevc_walk_inputs.specs.Headers.{short_term_set_of, long_term_members}
use Rattle.hevc_set_parts.specs.declared.short_term_ref_pic_set.ShortTermRefPicSet.{ShortTermRefPicSet}
use Rattle.hevc_set_parts.specs.ShortTermRefPicSet.{plain_short_term_ref_pic_set}
use Rattle.hevc_picture_slice.specs.declared.slice_header.SliceHeader.{SliceHeader}
use Rattle.hevc_picture_slice.specs.SliceHeader.{plain_slice_header}
use Rattle.hevc_pictures.specs.declared.picture_data.PictureData.{PictureData}
use Rattle.hevc_walk.specs.Meanings as walk
use Rattle.hevc_walk.specs.Pictures.{Head}
use Rattle.hevc_walk.specs.Buffer.{Buffer, is_reference}
use Rattle.hevc_walk.specs.ReferenceSets.{RefPicSet, short_term_set, reference_set, with_marks}
use Rattle.hevc_walk.specs.ReferenceSets.{five_lists, with_long_term, marked_if, all_members, names}
use Rattle.hevc_walk_marks.specs.Marked.{has_reference, short_term_members}
use Rattle.hevc_walk_marks.specs.Marked as marked
use Rattle.hevc_dpb.specs.declared.dpb.Dpb.{Dpb}
use Rattle.hevc_dpb.specs.Entries.{tickets, unmarked}
use Rattle.hevc_dpb.specs.Plain.{HaveLatency}
use Rattle.hevc_dpb.specs.Views.{stored_entries, max_num_pics_of, room_of, is_stale}

-- What a reference picture set reads of a picture (8.3.2) is what this head says: its type, its
-- order count, and whether it begins a sequence.
pub record RefersAs (h : Head) (p : PictureData) : Type 0 where
  pub nal_unit_type : nalu_type_number p.nalu_type ≡ h.nal_unit_type
  pub order_count : p.pic_order_cnt_val ≡ h.order_count
  pub starts_sequence : (p.is_irap && p.no_rasl_output_flag) ≡ h.starts_sequence

-- the first slice of the walk has these long-term members, this short-term set,
-- and this MaxPicOrderCntLsb
pub record HasMembers (first : walk.Slice) (header : SliceHeader) (set : ShortTermRefPicSet)
    (max_lsb : ℤ) : Type 0 where
  pub long_term : first.long_term_pics ≡ long_term_members (plain_slice_header header)
  pub short_term : short_term_set first ≡ short_term_set_of (plain_short_term_ref_pic_set set)
  pub max_pic_order_cnt_lsb : max_lsb ≡ pos first.max_pic_order_cnt_lsb

-- So it is of each head that the picture has, and each first slice of the walk with these members.
abbrev pub OfPicture : PictureData → SliceHeader → ShortTermRefPicSet → ℤ
    → (Head → walk.Slice → Type 0) → Type 0
OfPicture pic header set max_lsb Fact =
    (p : Head) (first : walk.Slice) → RefersAs p pic → HasMembers first header set max_lsb
    → Fact p first

-- the members of a picture's set among what is stored, and the marks that they leave
pub record FindsMembers (p : Head) (first : walk.Slice) (found : RefPicSet) (old new : Buffer)
    : Type 0 where
  pub lists : found ≡ five_lists p first (short_term_set first) old (with_long_term p first old)
  pub marks : new ≡ map (marked_if (all_members found)) (with_long_term p first old)

-- the reference picture set of a picture over what is stored, and the marks that it leaves
pub record DerivesSet (p : Head) (first : walk.Slice) (found : RefPicSet) (old new : Buffer)
    : Type 0 where
  pub set : found ≡ reference_set p first old
  pub marks : new ≡ with_marks p first old

-- What a list names is used for reference, and nothing else is; no picture is a short-term and a
-- long-term member.
pub record MarksItsMembers (found : RefPicSet) (new : Buffer) : Type 0 where
  pub named : (n : ℕ) → names n (all_members found) ≡ true → has_reference n new ≡ true
  pub exactly : All (λ e. is_reference e.mark ≡ names e.number (all_members found)) new
  pub apart : (n : ℕ) → names n (short_term_members found) ≡ true
      → names n (marked.long_term_members found) ≡ false

-- both
pub record Derives (p : Head) (first : walk.Slice) (found : RefPicSet) (old new : Buffer)
    : Type 0 where
  pub derives : DerivesSet p first found old new
  pub members : MarksItsMembers found new

-- nothing of a buffer but its marks has changed
pub record KeepsAllButMarks {T : Type 0} (old new : Dpb T) : Type 0 where
  pub entries : map unmarked (stored_entries new) ≡ map unmarked (stored_entries old)
  pub handles : tickets (stored_entries new) ≡ tickets (stored_entries old)
  pub size : max_num_pics_of new ≡ max_num_pics_of old
  pub room : room_of new ≡ room_of old
  pub latency : HaveLatency (stored_entries old) → HaveLatency (stored_entries new)
  pub same_order : is_stale new ≡ is_stale old

-- members that the picture itself uses, or those that it doesn't
abbrev pub is_wanted : Bool → walk.ShortTermMember → Bool
is_wanted wanted m = if wanted then m.used_by_curr_pic else not m.used_by_curr_pic
