-- Units in whose place others are that mean the same.
use Rattle.std.specs.Prelude.{◌≡◌, ◌≤◌, ◌⊎◌, Bool, true, false, ℕ, List, [], ◌∷◌}
use Rattle.hevc_spec.specs.Units.{NalUnit}
use Rattle.hevc_stream.specs.Options.{Options}
use Rattle.hevc_stream.specs.Kept.{Kept}
use Rattle.hevc_stream.specs.Contents.{Content, unread_picture_set, slice, content}
use Rattle.hevc_stream.specs.Stream.{kept_behind}

-- all sub-layers and layers are wanted (8.1.2)
pub record WantsAll (options : Options) : Type 0 where
  pub sub_layers : 6 ≤ options.highest_tid
  pub layers : 63 ≤ options.highest_layer

-- The content of a unit is all that counts of it. Of a slice its bytes count too, and those of a
-- picture set that waits, since it is read later on.
abbrev pub is_all : Content → Bool
is_all (slice header segment) = false
is_all unread_picture_set = false
is_all other = true

-- bytes have the content of others, which is all that counts of these
pub record MeansTheSame (options : Options) (kept : Kept) (bytes others : List ℕ) : Type 0 where
  pub all : is_all (content options kept bytes) ≡ true
  pub same : content options kept others ≡ content options kept bytes

-- The second units are in the place of the first, one for one: each has the same bytes, or means
-- the same after what is kept of the first ones before it.
abbrev pub StandFor : Options → Kept → List NalUnit → List NalUnit → Type 0
StandFor options kept [] [] = Unit {0}
StandFor options kept [] (v ∷ vs) = ⊥
StandFor options kept (u ∷ us) [] = ⊥
StandFor options kept (u ∷ us) (v ∷ vs) =
    ((v.bytes ≡ u.bytes) ⊎ MeansTheSame options kept u.bytes v.bytes)
    × StandFor options (kept_behind options kept u.bytes) us vs
