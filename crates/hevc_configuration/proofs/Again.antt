-- What is in the rows of the table is read.
use Rattle.std.proofs.Common.{◌≡◌, ℕ, zero, suc, ◌+◌, ◌*◌, ◌/◌, ◌%◌, ◌^◌, ◌<◌, ◌≤◌, Bool, true, false, cond, eqb, ltb, List, [], ◌∷◌}
use Rattle.std.proofs.Common.{◌++◌, length, get_or, take, drop, Result, Ok, Err, refl, sym, ap, subst, ◌∙◌, arith}
use Rattle.std.specs.Int.{w16, w32, from_be_bytes, from_bool}
use Rattle.std.proofs.lemmas.Bool.{le-ltb}
use Rattle.std.proofs.lemmas.List.{length-take, length-drop, drop-drop}
use Rattle.hevc_configuration.specs.declared.error.ConfigurationError.{ConfigurationError}
use Rattle.hevc_configuration.specs.declared.length_size.LengthSize.{LengthSize}
use Rattle.hevc_configuration.specs.declared.length_size.LengthSize.TheVariants.{One, Two, Four}
use Rattle.hevc_configuration.specs.LengthSizes.{length_size_of, size_minus_one}
use Rattle.hevc_configuration.specs.Configuration.{PlainArray, PlainConfiguration, unit_rows, array_rows, arrays_rows, configuration_rows}
use Rattle.hevc_configuration.specs.Rows.{Row, field, two_bytes, text, AreRows}
use Rattle.hevc_configuration.specs.Reading.{◌>>=◌, unit_at, units_at, array_at, arrays_at, front_at, with_front, configuration_at}
use Rattle.hevc_configuration.proofs.Cells.{IsBytes, IsBytes-drop, cells, cells_are}

-- a value is read, and the bytes after it are in other rows
record ReadsAgain {A : Type 0} (read : Result (A × List ℕ) ConfigurationError) (x : A) (rows : List Row) : Type 0 where
  pub after : List ℕ
  pub is : read ≡ Ok (x, after)
  pub rows_are : AreRows rows after
  pub fits : IsBytes after

unit_again : (bytes unit : List ℕ) (rows : List Row) → IsBytes bytes
    → AreRows (two_bytes (field 16 (length unit) ∷ []) ∷ text unit ∷ rows) bytes → ReadsAgain (unit_at bytes) unit rows
unfolding unit_at
unit_again bytes unit rows fits are =
    let n = from_be_bytes w16 bytes in
    let d = drop 2 bytes in
    let f0 = fits 0 in
    let f1 = fits 1 in
    let n-is : n ≡ length unit = omega (arith, are.0.1.0, f0, f1) in
    let short : ltb (length bytes) 2 ≡ false = le-ltb _ _ are.0.0 in
    let enough : ltb (length d) n ≡ false =
    le-ltb _ _ (omega (arith, length-take (length unit) d, ap length are.1.0, n-is)) in
    let first : unit_at bytes ≡ Ok (take n d, drop n d) = rw (short, enough) refl in
    record {
      after = drop (length unit) d;
      is =
          first ∙ ap (λ (k : ℕ). Ok (take k d, drop k d)) n-is
          ∙ ap (λ (u : List ℕ). Ok (u, drop (length unit) d)) are.1.0;
      rows_are = are.1.1;
      fits = IsBytes-drop (length unit) d (IsBytes-drop 2 bytes fits);
    }

units_again : (units : List (List ℕ)) (bytes : List ℕ) (rows : List Row) → IsBytes bytes
    → AreRows (unit_rows units ++ rows) bytes → ReadsAgain (units_at (length units) bytes) units rows
unfolding units_at
units_again [] bytes rows fits are = record { after = bytes; is = refl; rows_are = are; fits = fits }
units_again (u ∷ us) bytes rows fits are =
    let first = unit_again bytes u (unit_rows us ++ rows) fits are in
    let second = units_again us first.after rows first.fits first.rows_are in
    record {
      after = second.after;
      is = let e1 = first.is in let e2 = second.is in rw (e1, e2) refl;
      rows_are = second.rows_are;
      fits = second.fits;
    }

flag_again : (n : ℕ) (flag : Bool) → n ≡ from_bool flag → eqb n 1 ≡ flag
flag_again n true e = ap (λ (k : ℕ). eqb k 1) e
flag_again n false e = ap (λ (k : ℕ). eqb k 1) e

array_again : (a : PlainArray) (bytes : List ℕ) (rows : List Row) → IsBytes bytes
    → AreRows (array_rows a ++ rows) bytes → ReadsAgain (array_at bytes) a rows
unfolding array_at
array_again a bytes rows fits are =
    let long : 3 ≤ length bytes = omega (arith, are.1.0.0, length-drop 1 bytes) in
    let shape : bytes ≡ cells 0 3 bytes = cells_are 3 0 bytes long in
    let there : AreRows (array_rows a ++ rows) (cells 0 3 bytes) =
    subst (λ (bs : List ℕ). AreRows (array_rows a ++ rows) bs) shape are in
    let f0 = fits 0 in
    let f1 = fits 1 in
    let f2 = fits 2 in
    let number : from_be_bytes w16 (drop 1 bytes) ≡ from_be_bytes w16 (drop 1 (cells 0 3 bytes)) =
    ap (λ (bs : List ℕ). from_be_bytes w16 (drop 1 bs)) shape in
    let small : from_be_bytes w16 (drop 1 (cells 0 3 bytes)) ≡ length a.units = omega (arith, there.1.0.1.0) in
    let count : from_be_bytes w16 (drop 1 bytes) ≡ length a.units = number ∙ small in
    let units = units_again a.units (drop 3 bytes) rows (IsBytes-drop 3 bytes fits) there.1.1 in
    let flag = flag_again (get_or bytes 0 0 / 128 % 2) a.array_completeness there.0.1.0 in
    let kind : get_or bytes 0 0 % 64 ≡ a.nal_unit_type = omega (arith, there.0.1.1.0) in
    let some : ltb (length bytes) 1 ≡ false = le-ltb _ _ (omega arith) in
    let whole : ltb (length bytes) 3 ≡ false = le-ltb _ _ long in
    let read : units_at (from_be_bytes w16 (drop 1 bytes)) (drop 3 bytes) ≡ Ok (a.units, units.after) =
    ap (λ (k : ℕ). units_at k (drop 3 bytes)) count ∙ units.is in
    let made : array_at bytes ≡ Ok (
      record {
        array_completeness = eqb (get_or bytes 0 0 / 128 % 2) 1;
        nal_unit_type = get_or bytes 0 0 % 64;
        units = a.units;
      },
      units.after,
    ) = rw (some, whole) (ap (λ (r : Result (List (List ℕ) × List ℕ) ConfigurationError). r >>= λ us. Ok (
      record {
        array_completeness = eqb (get_or bytes 0 0 / 128 % 2) 1;
        nal_unit_type = get_or bytes 0 0 % 64;
        units = us.0;
      },
      us.1,
    )) read) in
    record {
      after = units.after;
      is =
          made ∙ ap (λ (f : Bool). Ok (record { array_completeness = f; nal_unit_type = get_or bytes 0 0 % 64; units = a.units }, units.after)) flag
          ∙ ap (λ (k : ℕ). Ok (record { array_completeness = a.array_completeness; nal_unit_type = k; units = a.units }, units.after)) kind;
      rows_are = units.rows_are;
      fits = units.fits;
    }

arrays_again : (arrays : List PlainArray) (bytes : List ℕ) → IsBytes bytes → AreRows (arrays_rows arrays) bytes
    → ReadsAgain (arrays_at (length arrays) bytes) arrays []
unfolding arrays_at
arrays_again [] bytes fits are = record { after = bytes; is = refl; rows_are = tt; fits = fits }
arrays_again (a ∷ others) bytes fits are =
    let first = array_again a bytes (arrays_rows others) fits are in
    let second = arrays_again others first.after first.fits first.rows_are in
    record {
      after = second.after;
      is = let e1 = first.is in let e2 = second.is in rw (e1, e2) refl;
      rows_are = second.rows_are;
      fits = second.fits;
    }

-- ---- the whole

size_again : (n : ℕ) (size : LengthSize) → n ≡ size_minus_one size → length_size_of n ≡ Ok size
size_again n One e = ap length_size_of e
size_again n Two e = ap length_size_of e
size_again n Four e = ap length_size_of e

is_long : (c : PlainConfiguration) (bytes : List ℕ) → AreRows (configuration_rows c) bytes → 23 ≤ length bytes
is_long c bytes are =
    let last = are.1.1.1.1.1.1.1.1.1.1.1.1.1.0.0 in
    let more = simp length-drop at last in
    omega (arith, more)

fields_are : (c : PlainConfiguration) (bytes : List ℕ) → IsBytes bytes
    → AreRows (configuration_rows c) (cells 0 23 bytes)
    → with_front (cells 0 23 bytes) c.length_size c.arrays ≡ c
fields_are c bytes fits are =
    let bs = cells 0 23 bytes in
    let f1 = fits 1 in
    let f2 = fits 2 in
    let f3 = fits 3 in
    let f4 = fits 4 in
    let f5 = fits 5 in
    let f6 = fits 6 in
    let f7 = fits 7 in
    let f8 = fits 8 in
    let f9 = fits 9 in
    let f10 = fits 10 in
    let f11 = fits 11 in
    let f12 = fits 12 in
    let f19 = fits 19 in
    let f20 = fits 20 in
    let f21 = fits 21 in
    let r1 = are.1.0.1 in
    let r2 = are.1.1.0.1 in
    let r3 = are.1.1.1.0.1 in
    let r4 = are.1.1.1.1.0.1 in
    let r5 = are.1.1.1.1.1.0.1 in
    let r6 = are.1.1.1.1.1.1.0.1 in
    let r7 = are.1.1.1.1.1.1.1.0.1 in
    let r8 = are.1.1.1.1.1.1.1.1.0.1 in
    let r9 = are.1.1.1.1.1.1.1.1.1.0.1 in
    let r10 = are.1.1.1.1.1.1.1.1.1.1.0.1 in
    let r11 = are.1.1.1.1.1.1.1.1.1.1.1.0.1 in
    let r12 = are.1.1.1.1.1.1.1.1.1.1.1.1.0.1 in
    let e1 : get_or bytes 1 0 / 64 ≡ c.general_profile_space = omega (arith, r1.0) in
    let e2 : eqb (get_or bytes 1 0 / 32 % 2) 1 ≡ c.general_tier_flag = flag_again _ c.general_tier_flag r1.1.0 in
    let e3 : get_or bytes 1 0 % 32 ≡ c.general_profile_idc = omega (arith, r1.1.1.0) in
    let e4 : from_be_bytes w32 (drop 2 bs) ≡ c.general_profile_compatibility_flags = omega (arith, r2.0) in
    let e5 : from_be_bytes w32 (drop 6 bs) * 2 ^ 16 + from_be_bytes w16 (drop 10 bs)
    ≡ c.general_constraint_indicator_flags = omega (arith, r3.0, r4.0) in
    let e6 : get_or bytes 12 0 ≡ c.general_level_idc = omega (arith, r5.0) in
    let e7 : from_be_bytes w16 (drop 13 bs) % 4096 ≡ c.min_spatial_segmentation_idc = omega (arith, r6.0) in
    let e8 : get_or bytes 15 0 % 4 ≡ c.parallelism_type = omega (arith, r7.0) in
    let e9 : get_or bytes 16 0 % 4 ≡ c.chroma_format_idc = omega (arith, r8.0) in
    let e10 : get_or bytes 17 0 % 8 ≡ c.bit_depth_luma_minus8 = omega (arith, r9.0) in
    let e11 : get_or bytes 18 0 % 8 ≡ c.bit_depth_chroma_minus8 = omega (arith, r10.0) in
    let e12 : from_be_bytes w16 (drop 19 bs) ≡ c.avg_frame_rate = omega (arith, r11.0) in
    let e13 : get_or bytes 21 0 / 64 ≡ c.constant_frame_rate = omega (arith, r12.0) in
    let e14 : get_or bytes 21 0 / 8 % 8 ≡ c.num_temporal_layers = omega (arith, r12.1.0) in
    let e15 : eqb (get_or bytes 21 0 / 4 % 2) 1 ≡ c.temporal_id_nested = flag_again _ c.temporal_id_nested r12.1.1.0 in
    rw (e1, e2, e3, e4, e5, e6, e7, e8, e9, e10, e11, e12, e13, e14, e15) refl

pub configuration_again : (bytes : List ℕ) (c : PlainConfiguration) → IsBytes bytes
    → AreRows (configuration_rows c) bytes → configuration_at bytes ≡ Ok c
unfolding configuration_at front_at
configuration_again bytes c fits are =
    let long = is_long c bytes are in
    let shape : bytes ≡ cells 0 23 bytes = cells_are 23 0 bytes long in
    let there : AreRows (configuration_rows c) (cells 0 23 bytes) =
    subst (λ (bs : List ℕ). AreRows (configuration_rows c) bs) shape are in
    let f0 = fits 0 in
    let f21 = fits 21 in
    let f22 = fits 22 in
    let r12 = there.1.1.1.1.1.1.1.1.1.1.1.1.0.1 in
    let r13 = there.1.1.1.1.1.1.1.1.1.1.1.1.1.0.1 in
    let version : get_or bytes 0 0 ≡ 1 = omega (arith, there.0.1.0) in
    let one : eqb (get_or bytes 0 0) 1 ≡ true = ap (λ (k : ℕ). eqb k 1) version in
    let some : ltb (length bytes) 1 ≡ false = le-ltb _ _ (omega arith) in
    let more : ltb (length bytes) 22 ≡ false = le-ltb _ _ (omega arith) in
    let whole : ltb (length bytes) 23 ≡ false = le-ltb _ _ long in
    let sized : length_size_of (get_or bytes 21 0 % 4) ≡ Ok c.length_size =
    size_again (get_or bytes 21 0 % 4) c.length_size (omega (arith, r12.1.1.1.0)) in
    let front : front_at bytes ≡ Ok c.length_size = rw (some, one, more, sized, whole) refl in
    let count : get_or bytes 22 0 ≡ length c.arrays = omega (arith, r13.0) in
    let arrays = arrays_again c.arrays (drop 23 bytes) (IsBytes-drop 23 bytes fits)
    there.1.1.1.1.1.1.1.1.1.1.1.1.1.1 in
    let read : arrays_at (get_or bytes 22 0) (drop 23 bytes) ≡ Ok (c.arrays, arrays.after) =
    ap (λ (k : ℕ). arrays_at k (drop 23 bytes)) count ∙ arrays.is in
    let same : with_front bytes c.length_size c.arrays ≡ c =
    ap (λ (bs : List ℕ). with_front bs c.length_size c.arrays) shape ∙ fields_are c bytes fits there in
    let first : configuration_at bytes ≡ Ok (with_front bytes c.length_size c.arrays) = rw (front, read) refl in
    first ∙ ap Ok same
