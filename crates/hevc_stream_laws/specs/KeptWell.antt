-- What holds of the sets that are kept at any place of a stream.
use Rattle.std.specs.Prelude.{◌≡◌, ℕ, false, List, Option, Some, None, IfSome, IsSome}
use Rattle.hevc_spec.specs.Table.{Reading, gives, refuses, read}
use Rattle.hevc_records.specs.Pps.{PlainPps, default_pps}
use Rattle.hevc_tables.specs.PpsTable.{ids}
use Rattle.hevc_spec.specs.Payload.{payload}
use Rattle.hevc_stream.specs.Kept.{Kept}

pub record IsKeptWell (kept : Kept) : Type 0 where
  -- each set is under its own id,
  pub video_ids : (id : ℕ) → IfSome (kept.video_sets id) (λ set. set.video_parameter_set_id ≡ id)
  pub sequence_ids : (id : ℕ)
      → IfSome (kept.sequence_sets id) (λ set. set.seq_parameter_set_id ≡ id)
  pub picture_ids : (id : ℕ) → IfSome (kept.picture_sets id) (λ set. set.pic_parameter_set_id ≡ id)
  -- the sequence set that a picture set names is kept,
  pub named : (id : ℕ)
      → IfSome (kept.picture_sets id) (λ set. IsSome (kept.sequence_sets set.seq_parameter_set_id))
  -- and before the first sequence set none is.
  pub none_first : kept.has_sequence_set ≡ false → (id : ℕ) → kept.sequence_sets id ≡ None

abbrev pub sequence_set_named_in : Reading PlainPps → Option ℕ
sequence_set_named_in (gives set rest) = Some set.seq_parameter_set_id
sequence_set_named_in (refuses fault rest) = None

-- the id of the sequence set that the unit of a picture set names,
-- if its first two rows can be read
abbrev pub sequence_set_named : ℕ → List ℕ → Option ℕ
sequence_set_named temporal_id bytes =
    sequence_set_named_in
    (read (ids (record default_pps { temporal_id = temporal_id })) (payload bytes))
