-- The unit of a sequence set that was read, and what its payload reads as.
use Rattle.std.specs.Prelude.{◌≡◌, ℕ, List, Option, Some, None}
use Rattle.std.specs.Option.{ForSome}
use Rattle.std.proofs.Props.{props}
use Rattle.hevc_spec.specs.Payload.{payload}
use Rattle.hevc_spec.specs.Table.{Reading, gives, refuses, read}
use Rattle.hevc_records.specs.Sps.{PlainSps}
use Rattle.hevc_tables.specs.SpsTable.{sequence_parameter_set}
use Rattle.hevc_stream.specs.Kept.{Kept}
use Rattle.hevc_kept_sets.specs.declared.read_unit.ReadUnit.{ReadUnit}

abbrev pub value_read : {A : Type 0} → Reading A → Option A
value_read (gives x rest) = Some x
value_read (refuses fault rest) = None

-- the sequence set as which a unit of these bytes reads (7.3.2.2.1), if it does
unfoldable pub set_read : List ℕ → Option PlainSps
set_read bytes = value_read (read sequence_parameter_set (payload bytes))

-- what the unit reads as, if there is one, is kept under its id
unfoldable pub IsKeptAsRead : Kept → Option ReadUnit → Type 0
IsKeptAsRead kept last =
    ForSome last (λ unit. set_read unit.bytes.items ≡ kept.sequence_sets unit.id)

pub IsKeptAsRead-prop : (kept : Kept) (last : Option ReadUnit) → IsProp (IsKeptAsRead kept last)
unfolding IsKeptAsRead
IsKeptAsRead-prop kept last = hlevel props
