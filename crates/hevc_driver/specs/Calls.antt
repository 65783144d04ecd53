-- The calls of the code, as those of the walk. Handles and timestamps are left out.
use Rattle.std.specs.Prelude.{ℕ, ◌≡◌, List, [], ◌∷◌}
use Rattle.std.specs.List.{flat_map}
use Rattle.hevc_bits.specs.NaluType.{nalu_type_number}
use Rattle.hevc_walk.specs.Walk as walk
use Rattle.hevc_refs.specs.Lists.{plain_places}
use Rattle.hevc_backend.specs.Negotiation.{format_of}
use Rattle.hevc_backend.specs.declared.call.Call.{Call}
use Rattle.hevc_backend.specs.declared.call.Call.TheVariants as code

abbrev pub call_of : {H : Type 0} → Call H → walk.Call
call_of (code.NewSequence info) = walk.NewSequence (format_of info)
call_of (code.NewPicture number nalu_type pic_order_cnt_val pic_output_flag timestamp) =
    walk.NewPicture number (nalu_type_number nalu_type) pic_order_cnt_val pic_output_flag 0
call_of (code.BeginPicture number st_curr_before st_curr_after st_foll lt_curr lt_foll) =
    walk.BeginPicture number (record {
      st_curr_before = st_curr_before;
      st_curr_after = st_curr_after;
      st_foll = st_foll;
      lt_curr = lt_curr;
      lt_foll = lt_foll;
    })
call_of (code.DecodeSlice number address bytes list0 list1) =
    walk.DecodeSlice number address bytes (plain_places list0) (plain_places list1)
call_of (code.SubmitPicture number handle) = walk.SubmitPicture number

-- a new picture has this timestamp
abbrev pub IsTimed : {H : Type 0} → ℕ → Call H → Type 0
IsTimed t (code.NewPicture number nalu_type pic_order_cnt_val pic_output_flag timestamp) =
    timestamp ≡ t
IsTimed t call = Unit {0}

-- a submitted picture's number with its handle
abbrev pub submission : {H : Type 0} → Call H → List (ℕ × H)
submission (code.NewSequence info) = []
submission (code.NewPicture number nalu_type pic_order_cnt_val pic_output_flag timestamp) = []
submission (code.BeginPicture number st_curr_before st_curr_after st_foll lt_curr lt_foll) = []
submission (code.DecodeSlice number address bytes list0 list1) = []
submission (code.SubmitPicture number handle) = (number, handle) ∷ []

abbrev pub submissions : {H : Type 0} → List (Call H) → List (ℕ × H)
submissions calls = flat_map submission calls
