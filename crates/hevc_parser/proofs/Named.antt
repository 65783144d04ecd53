-- A picture set that is read names a sequence set that is kept.
use Rattle.std.proofs.Common.{◌≡◌, ℕ, Bool, refl, sym, subst, List, Option}
use Rattle.std.specs.Prelude.{IsSome}
use Rattle.hevc_spec.specs.Table.{gives, read}
use Rattle.hevc_records.specs.Sps.{PlainSps}
use Rattle.hevc_records.specs.Pps.{PlainPps}
use Rattle.hevc_tables.specs.PpsTable.{picture_parameter_set}
use Rattle.hevc_stream_laws.proofs.PictureSets.{picture_set_gives}

pub named : (kept : ℕ → Option PlainSps) (temporal_id : ℕ) (bits rest : List Bool) (set : PlainPps)
    → read (picture_parameter_set temporal_id kept) bits ≡ gives set rest → IsSome (kept set.seq_parameter_set_id)
named kept temporal_id bits rest set reads =
    let is = (picture_set_gives kept temporal_id).each bits set rest reads in
    subst (λ (o : Option PlainSps). IsSome o) (sym is.names) refl
