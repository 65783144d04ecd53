-- What a backend was told, by the calls of its log.
use Rattle.std.specs.Prelude.{◌≡◌, ℕ, ℤ, Bool, List, [], ◌∷◌, Option, Some, None, IfSome}
use Rattle.std.specs.Option.{option_map}
use Rattle.hevc_bits.specs.declared.nalu_type.NaluType.{NaluType}
use Rattle.hevc_walk.specs.Meanings.{Format}
use Rattle.hevc_pictures.specs.declared.picture_data.PictureData.{PictureData}
use Rattle.hevc_dpb.specs.declared.entry.DpbEntry.{DpbEntry}
use Rattle.hevc_dpb.specs.Entries.{IsPartOf, tickets}
use Rattle.hevc_backend.specs.declared.call.Call.{Call}
use Rattle.hevc_backend.specs.declared.call.Call.TheVariants.{NewSequence, NewPicture, BeginPicture}
use Rattle.hevc_backend.specs.declared.call.Call.TheVariants.{DecodeSlice, SubmitPicture}
use Rattle.hevc_backend.specs.Negotiation.{format_of}

-- A picture, as a backend is told of it.
pub record BegunPicture : Type 0 where
  pub number : ℕ
  pub nalu_type : NaluType
  pub pic_order_cnt_val : ℤ
  pub pic_output_flag : Bool

abbrev pub begun_picture : (number : ℕ) → PictureData → BegunPicture
begun_picture number p = record {
  number = number;
  nalu_type = p.nalu_type;
  pic_order_cnt_val = p.pic_order_cnt_val;
  pic_output_flag = p.pic_output_flag;
}

pub record Told (H : Type 0) : Type 0 where
  -- the format of the last NewSequence
  pub sequence : Option Format
  -- the picture of the last NewPicture
  pub picture : Option BegunPicture
  -- the numbers with the handles of the submissions, latest first
  pub submitted : List (ℕ × H)

abbrev pub nothing_told : {H : Type 0} → Told H
nothing_told = record { sequence = None; picture = None; submitted = [] }

-- one more call
abbrev pub told_too : {H : Type 0} → Told H → Call H → Told H
told_too t (NewSequence info) = record t { sequence = Some (format_of info) }
told_too t (NewPicture number nalu_type pic_order_cnt_val pic_output_flag timestamp) =
    record t {
      picture =
          Some (record {
            number = number;
            nalu_type = nalu_type;
            pic_order_cnt_val = pic_order_cnt_val;
            pic_output_flag = pic_output_flag;
          });
    }
told_too t (BeginPicture number st_curr_before st_curr_after st_foll lt_curr lt_foll) = t
told_too t (DecodeSlice number address bytes list0 list1) = t
told_too t (SubmitPicture number handle) = record t { submitted = (number, handle) ∷ t.submitted }

abbrev pub told_from : {H : Type 0} → Told H → List (Call H) → Told H
told_from t [] = t
told_from t (call ∷ calls) = told_from (told_too t call) calls

abbrev pub told : {H : Type 0} → List (Call H) → Told H
told log = told_from nothing_told log

-- it holds of what a backend was told, where the backend exposes its log
pub record WhereTold {H : Type 0} (log : Option (List (Call H))) (holds : Told H → Type 0)
    : Type 0 where
  pub of_log : IfSome log (λ calls. holds (told calls))

-- each of these entries has a handle that was given for its number
abbrev pub AreSubmitted : {H : Type 0} → List (DpbEntry H) → Told H → Type 0
AreSubmitted es t = IsPartOf (tickets es) t.submitted

-- the last picture has this number, the last sequence this format,
-- and each entry a handle that was given for its number
pub record IsTold {H : Type 0} (number : ℕ) (format : Format) (es : List (DpbEntry H)) (t : Told H)
    : Type 0 where
  pub handles : AreSubmitted es t
  pub sequence : t.sequence ≡ Some format
  pub picture : option_map (λ p. p.number) t.picture ≡ Some number

-- the last picture is this one
abbrev pub IsBegun : {H : Type 0} → BegunPicture → Told H → Type 0
IsBegun picture t = t.picture ≡ Some picture
