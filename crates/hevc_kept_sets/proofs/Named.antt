-- The sequence set that a picture set names: what its first two rows spell (7.3.2.3.1, table 11).
use Rattle.std.proofs.Common.{◌≡◌, ℕ, ◌<◌, Bool, List, None, Result, Ok, Err, refl, arith}
use Rattle.std.specs.Prelude.{IfSome}
use Rattle.std.specs.Result.{result_ok}
use Rattle.hevc_spec.specs.Rows.{row, ue_row}
use Rattle.hevc_spec.specs.Payload.{payload}
use Rattle.hevc_spec.specs.Table.{Fault, out_of_bits, out_of_range, Reading, gives, refuses, reading_then, read}
use Rattle.hevc_records.specs.Pps.{PlainPps, default_pps}
use Rattle.hevc_tables.specs.PpsTable.{ids}
use Rattle.hevc_elements.specs.declared.parse_error.ParseError.{ParseError}
use Rattle.hevc_elements.specs.declared.parse_error.ParseError.TheVariants.{WrongNaluType}
use Rattle.hevc_elements.specs.declared.parse_error.ParseError.TheVariants.{OutOfBits, OutOfRange}
use Rattle.hevc_elements.specs.declared.parse_error.ParseError.TheVariants.{MissingSps, MissingPps}
use Rattle.hevc_elements.specs.declared.parse_error.ParseError.TheVariants.{NoMemory}
use Rattle.hevc_elements.specs.Scan.{Position, left}
use Rattle.hevc_elements.specs.Reads.{IsRefusal, IsAnswer}
use Rattle.hevc_stream_laws.specs.KeptWell.{sequence_set_named_in, sequence_set_named}
use Rattle.hevc_stream_laws.proofs.Gives.{Gives, free, of_done, of_part, of_ue}
use Rattle.hevc_kept_sets.specs.Settled.{named_set}

-- ---- it is at most 15

abbrev P : PlainPps → Type 0
P p = p.seq_parameter_set_id < 16

ids_give : (p : PlainPps) → Gives (ids p) P
unfolding ids
ids_give p = free P (λ own. of_part _ P (of_ue (row 11 2) 0 15) (λ id bound. of_done P _ (omega (arith, bound.1))))

bound_in : (p : PlainPps) (bits : List Bool) (r : Reading PlainPps) → read (ids p) bits ≡ r
    → IfSome (sequence_set_named_in r) (λ id. id < 16)
bound_in p bits (gives x rest) e = (ids_give p).each bits x rest e
bound_in p bits (refuses fault rest) e = tt

pub named_id : (bytes : List ℕ) → IfSome (named_set bytes) (λ id. id < 16)
named_id bytes =
    bound_in (record default_pps { temporal_id = 0 }) (payload bytes)
    (read (ids (record default_pps { temporal_id = 0 })) (payload bytes)) refl

-- ---- the temporal id of the unit doesn't count

second_row : (p q : PlainPps) (r : Reading ℕ)
    → sequence_set_named_in
    (reading_then r (λ id rest. gives (record p { seq_parameter_set_id = id }) rest))
    ≡ sequence_set_named_in (reading_then r (λ id rest. gives (record q { seq_parameter_set_id = id }) rest))
second_row p q (gives id rest) = refl
second_row p q (refuses fault rest) = refl

first_row : (p q : PlainPps) (r : Reading ℕ) →
    sequence_set_named_in
    (reading_then r
    (λ a mid. reading_then (read (ue_row (row 11 2) 0 15) mid)
    (λ id rest. gives (record p { pic_parameter_set_id = a; seq_parameter_set_id = id }) rest)))
    ≡ sequence_set_named_in
    (reading_then r
    (λ a mid. reading_then (read (ue_row (row 11 2) 0 15) mid)
    (λ id rest. gives (record q { pic_parameter_set_id = a; seq_parameter_set_id = id }) rest)))
first_row p q (gives a mid) =
    second_row (record p { pic_parameter_set_id = a }) (record q { pic_parameter_set_id = a })
    (read (ue_row (row 11 2) 0 15) mid)
first_row p q (refuses fault rest) = refl

pub same_named : (p q : PlainPps) (bits : List Bool)
    → sequence_set_named_in (read (ids p) bits) ≡ sequence_set_named_in (read (ids q) bits)
unfolding ids
same_named p q bits = first_row p q (read (ue_row (row 11 1) 0 63) bits)

pub any_temporal_id : (temporal_id : ℕ) (bytes : List ℕ) → sequence_set_named temporal_id bytes ≡ named_set bytes
any_temporal_id temporal_id bytes =
    same_named (record default_pps { temporal_id = temporal_id }) (record default_pps { temporal_id = 0 })
    (payload bytes)

-- ---- what reading the two rows answered

refused : {A : Type 0} (e : ParseError) (new : Position) (r : Reading A) → IsRefusal e new r
    → (fault : Fault) × (rest : List Bool) × (r ≡ refuses fault rest)
refused WrongNaluType new r h = absurd h
refused OutOfBits new r h = (out_of_bits, left new, h)
refused (OutOfRange table number) new r h = (out_of_range (row table number), left new, h)
refused (MissingSps id) new r h = absurd h
refused (MissingPps id) new r h = absurd h
refused NoMemory new r h = absurd h

pub none_named : (p : PlainPps) (payload : List Bool) (e : ParseError) (new : Position)
    → IsRefusal e new (read (ue_row (row 11 1) 0 63) payload) → None ≡ sequence_set_named_in (read (ids p) payload)
unfolding ids
none_named p payload e new h = let first = refused e new (read (ue_row (row 11 1) 0 63) payload) h in rw (first.2) refl

pub id_named : (p : PlainPps) (payload mid : List Bool) (own : ℕ) (r : Result ℕ ParseError) (new : Position)
    → read (ue_row (row 11 1) 0 63) payload ≡ gives own mid
    → IsAnswer (λ n. n) r new (read (ue_row (row 11 2) 0 15) mid)
    → result_ok r ≡ sequence_set_named_in (read (ids p) payload)
unfolding ids
id_named p payload mid own (Ok id) new first second = rw (first, second) refl
id_named p payload mid own (Err e) new first second = let h =
    refused e new (read (ue_row (row 11 2) 0 15) mid) second in rw (first, h.2) refl
