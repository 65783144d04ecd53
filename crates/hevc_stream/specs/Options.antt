-- What may be set for the decoding process by external means (8.1.2, 8.1.3).
use Rattle.std.specs.Prelude.{ℕ, Bool, false}

pub record Options : Type 0 where
  -- HandleCraAsBlaFlag (8.1.3): CRA pictures are handled as BLA pictures
  pub handle_cra_as_bla : Bool
  -- the TemporalId of the highest sub-layer that is wanted (8.1.2)
  pub highest_tid : ℕ
  -- the nuh_layer_id of the highest layer that is wanted (8.1.2)
  pub highest_layer : ℕ

-- where nothing is set: CRA pictures are handled as such, and all sub-layers and layers are wanted
abbrev pub default_options : Options
default_options = record { handle_cra_as_bla = false; highest_tid = 6; highest_layer = 63 }
