-- The entries of the buffer, a list in the order in which pictures were stored.
use Rattle.std.specs.Prelude.{◌≡◌, ℕ, ℤ, pos, ◌+ℤ◌, Bool, not, ◌||◌, List, map, filter, Contains}
use Rattle.std.specs.Int.{int_min}
use Rattle.hevc_walk.specs.Pictures.{Head}
use Rattle.hevc_pictures.specs.declared.picture_data.PictureData.{PictureData}
use Rattle.hevc_pictures.specs.declared.reference.Reference.{Reference}
use Rattle.hevc_pictures.specs.declared.reference.Reference.TheVariants.{ShortTerm}
use Rattle.hevc_pictures.specs.declared.reference.Reference.TheVariants.{None as Unmarked}
use Rattle.hevc_pictures.specs.Marks.{is_reference, reference_of, with_reference}
use Rattle.hevc_dpb.specs.declared.entry.DpbEntry.{DpbEntry}

abbrev pub numbers : {T : Type 0} → List (DpbEntry T) → List ℕ
numbers es = map (λ e. e.number) es

-- marked as used for reference
abbrev pub is_ref : {T : Type 0} → DpbEntry T → Bool
is_ref e = is_reference (reference_of e.picture)

-- needed for output
abbrev pub waits : {T : Type 0} → DpbEntry T → Bool
waits e = e.picture.needed_for_output

abbrev pub waits_not : {T : Type 0} → DpbEntry T → Bool
waits_not e = not (waits e)

-- the numbers of the references, in stored order
abbrev pub reference_numbers : {T : Type 0} → List (DpbEntry T) → List ℕ
reference_numbers es = numbers (filter is_ref es)

-- a picture's number with its handle
abbrev pub ticket : {T : Type 0} → DpbEntry T → ℕ × T
ticket e = (e.number, e.handle)

abbrev pub tickets : {T : Type 0} → List (DpbEntry T) → List (ℕ × T)
tickets es = map ticket es

-- each member of the one list is a member of the other
abbrev pub IsPartOf : {X : Type 0} → List X → List X → Type 0
IsPartOf {X} xs ys = (x : X) → Contains xs x → Contains ys x

-- it is needed for output, or is used for reference (C.5.2.2)
abbrev pub is_needed : {T : Type 0} → DpbEntry T → Bool
is_needed e = waits e || is_ref e

abbrev pub with_mark : {T : Type 0} → Reference → DpbEntry T → DpbEntry T
with_mark mark e = record e { picture = with_reference mark e.picture }

abbrev pub unmarked : {T : Type 0} → DpbEntry T → DpbEntry T
unmarked e = with_mark Unmarked e

-- PicLatencyCount, one picture more being stored (C.5.2.3)
abbrev pub raised_count : ℤ → ℤ
raised_count n = int_min (n +ℤ pos 1) (pos 2147483647)

abbrev pub with_latency : {T : Type 0} → DpbEntry T → DpbEntry T
with_latency e = record e {
  picture = record e.picture { pic_latency_cnt = raised_count e.picture.pic_latency_cnt };
}

-- a picture as it is stored (C.5.2.3)
abbrev pub stored_data : PictureData → PictureData
stored_data p = record (with_reference ShortTerm p) {
  pic_latency_cnt = pos 0;
  needed_for_output = p.pic_output_flag;
}

abbrev pub stored_entry : {T : Type 0} → ℕ → PictureData → T → DpbEntry T
stored_entry number picture handle = record {
  number = number;
  picture = stored_data picture;
  handle = handle;
}

-- what a store takes over of a picture, by its number, is what the walk's says
pub record IsStoredAs (p : Head) (number : ℕ) (picture : PictureData) : Type 0 where
  pub same_number : p.number ≡ number
  pub order_count : p.order_count ≡ picture.pic_order_cnt_val
  pub pic_output_flag : p.pic_output_flag ≡ picture.pic_output_flag
