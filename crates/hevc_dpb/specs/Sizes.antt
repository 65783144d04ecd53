-- What calls leave as it is beside the pictures that are stored, and which pictures they leave.
use Rattle.std.specs.Prelude.{◌≡◌, ℕ, [], ◌∷◌, ◌++◌, map, false}
use Rattle.hevc_pictures.specs.declared.picture_data.PictureData.{PictureData}
use Rattle.hevc_dpb.specs.declared.dpb.Dpb.{Dpb}
use Rattle.hevc_dpb.specs.Entries.{tickets, with_latency, stored_entry}
use Rattle.hevc_dpb.specs.Sublists.{IsSublist}
use Rattle.hevc_dpb.specs.Plain.{HaveLatency}
use Rattle.hevc_dpb.specs.Views.{stored_entries, max_num_pics_of, room_of, is_stale}

-- How many pictures a buffer may hold, and has room for, is as it was; no latency count falls below 0.
pub record KeepsSizes {T : Type 0} (old new : Dpb T) : Type 0 where
  pub size : max_num_pics_of new ≡ max_num_pics_of old
  pub room : room_of new ≡ room_of old
  pub latency : HaveLatency (stored_entries old) → HaveLatency (stored_entries new)

-- Pictures leave at most: those that are there are some of those before, in their order.
pub record OnlyLoses {T : Type 0} (old new : Dpb T) : Type 0 where
  pub keeps : KeepsSizes old new
  pub handles : IsSublist (tickets (stored_entries new)) (tickets (stored_entries old))

-- A picture is stored after the others, each of which counts it for its latency (C.5.2.3).
pub record Stores {T : Type 0} (old new : Dpb T) (number : ℕ) (picture : PictureData) (handle : T)
    : Type 0 where
  pub entries : stored_entries new
      ≡ map with_latency (stored_entries old) ++ stored_entry number picture handle ∷ []
  pub handles : tickets (stored_entries new)
      ≡ tickets (stored_entries old) ++ (number, handle) ∷ []
  pub fresh : is_stale new ≡ false
