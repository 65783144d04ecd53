-- The classes of unit types, by nal_unit_type (Table 7-1).
use Rattle.std.specs.Prelude.{ℕ, Bool, ◌==◌, ◌&&◌, ◌||◌, nat_le}

-- IDR_W_RADL, IDR_N_LP: instantaneous decoding refresh
abbrev pub is_idr : ℕ → Bool
is_idr t = t == 19 || t == 20

-- BLA_W_LP, BLA_W_RADL, BLA_N_LP: broken link access
abbrev pub is_bla : ℕ → Bool
is_bla t = nat_le 16 t && nat_le t 18

-- CRA_NUT: clean random access
abbrev pub is_cra : ℕ → Bool
is_cra t = t == 21

-- intra random access point, the two reserved types too
abbrev pub is_irap : ℕ → Bool
is_irap t = nat_le 16 t && nat_le t 23

-- RADL_N, RADL_R: random access decodable leading
abbrev pub is_radl : ℕ → Bool
is_radl t = t == 6 || t == 7

-- RASL_N, RASL_R: random access skipped leading
abbrev pub is_rasl : ℕ → Bool
is_rasl t = t == 8 || t == 9

-- sub-layer non-reference: the even types below 16
abbrev pub is_slnr : ℕ → Bool
is_slnr t = t == 0 || t == 2 || t == 4 || t == 6 || t == 8 || t == 10 || t == 12 || t == 14

-- a slice segment whose type is not reserved
abbrev pub is_slice : ℕ → Bool
is_slice t = nat_le t 9 || (nat_le 16 t && nat_le t 21)

-- EOS_NUT, EOB_NUT: an end of sequence, and of bitstream
abbrev pub is_end : ℕ → Bool
is_end t = t == 36 || t == 37
