-- A dependent slice segment has the header of the latest independent one before it (7.4.7.1).
use Rattle.std.specs.Prelude.{ℕ, Bool, ◌==◌, ◌&&◌, nat_le, length, if◌then◌else◌, Option, Some}
use Rattle.std.specs.Prelude.{None}
use Rattle.hevc_walk.specs.Meanings.{Slice, SliceHeader}

-- What is kept of an independent slice for the dependent ones after it.
pub record KeptHeader : Type 0 where
  pub pic_parameter_set_id : ℕ
  pub header : SliceHeader

-- A dependent slice belongs to it: they name one picture set, and CurrRpsIdx is at most the number
-- of the sequence set's short-term sets. It is that number where the header has a set of its own.
abbrev pub completes : KeptHeader → Slice → Bool
completes kept s =
    kept.pic_parameter_set_id == s.pic_parameter_set_id
    && nat_le kept.header.curr_rps_idx (length s.short_term_ref_pic_sets)

abbrev pub with_kept : Option KeptHeader → Slice → Option Slice
with_kept None s = None
with_kept (Some kept) s =
    if completes kept s then Some (record s { header = kept.header }) else None

-- a slice with its whole header, None where it lacks an independent slice
abbrev pub whole_slice : Option KeptHeader → Slice → Option Slice
whole_slice latest s = if s.dependent_slice_segment_flag then with_kept latest s else Some s

-- the latest independent slice's header after a slice
abbrev pub kept_header : Option KeptHeader → Slice → Option KeptHeader
kept_header latest s =
    if s.dependent_slice_segment_flag then latest
    else Some (record { pic_parameter_set_id = s.pic_parameter_set_id; header = s.header })
