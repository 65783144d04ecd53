-- The units of a stream from one of them on, with the parameter sets that come before it in front.
use Rattle.std.specs.Prelude.{ℕ, Bool, List, ◌++◌, filter, map, take, drop}
use Rattle.hevc_spec.specs.UnitHeader.{nal_unit_type}
use Rattle.hevc_spec.specs.Units.{NalUnit, units}
use Rattle.hevc_bit_writer.specs.WrittenUnits.{stream_of}
use Rattle.hevc_walk.specs.Meanings.{Meaning, Refused}
use Rattle.hevc_stream_laws.specs.UnitMeans.{is_parameter_set}

-- VPS_NUT, SPS_NUT or PPS_NUT (Table 7-1)
abbrev pub is_set_unit : NalUnit → Bool
is_set_unit u = is_parameter_set (nal_unit_type u.bytes)

-- the parameter sets before unit v, in order
abbrev pub sets_before : ℕ → List NalUnit → List NalUnit
sets_before v us = filter is_set_unit (take v us)

-- these, then all units from unit v on
abbrev pub spliced_units : ℕ → List NalUnit → List NalUnit
spliced_units v us = sets_before v us ++ drop v us

-- the bytes of these units of a stream, each after 00 00 01 (B.2.1)
abbrev pub spliced_bytes : ℕ → List ℕ → List ℕ
spliced_bytes v stream = stream_of (map (λ u. u.bytes) (spliced_units v (units stream)))

-- a unit isn't refused by itself
abbrev pub IsNotRefused : Meaning → Type 0
IsNotRefused (Refused cause) = ⊥
IsNotRefused u = Unit {0}
