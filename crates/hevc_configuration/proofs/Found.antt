-- What is read is in the rows of the table.
use Rattle.std.proofs.Common.{◌≡◌, ℕ, zero, suc, ◌+◌, ◌*◌, ◌/◌, ◌%◌, ◌^◌, ◌<◌, ◌≤◌, Bool, true, false, cond, eqb, ltb, List, [], ◌∷◌}
use Rattle.std.proofs.Common.{◌++◌, length, get_or, take, drop, Result, Ok, Err, refl, sym, ap, subst, ◌∙◌, arith}
use Rattle.std.specs.Int.{w16, w32, from_be_bytes, from_bool}
use Rattle.std.proofs.lemmas.Bool.{eqb-true, ltb-false}
use Rattle.std.proofs.lemmas.List.{length-take, length-drop, take_all, append_assoc}
use Rattle.hevc_configuration.specs.declared.error.ConfigurationError.{ConfigurationError}
use Rattle.hevc_configuration.specs.declared.error.ConfigurationError.TheVariants as errors
use Rattle.hevc_configuration.specs.declared.error.ConfigurationField.TheVariants as fields
use Rattle.hevc_configuration.specs.declared.length_size.LengthSize.{LengthSize}
use Rattle.hevc_configuration.specs.declared.length_size.LengthSize.TheVariants.{One, Two, Four}
use Rattle.hevc_configuration.specs.LengthSizes.{length_size_of, size_minus_one}
use Rattle.hevc_configuration.specs.Configuration.{PlainArray, PlainConfiguration, unit_rows, array_rows, arrays_rows, configuration_rows}
use Rattle.hevc_configuration.specs.Rows.{Row, field, two_bytes, text, BeginsWith, AreRows}
use Rattle.hevc_configuration.specs.Reading.{◌>>=◌, unit_at, units_at, array_at, arrays_at, front_at, field_beyond, with_front, configuration_at}
use Rattle.std.specs.Prelude.{IfOk}
use Rattle.hevc_configuration.specs.declared.record.HevcConfiguration.{HevcConfiguration}
use Rattle.hevc_configuration.specs.Reading.{Gives}
use Rattle.hevc_configuration.specs.Views.{plain}
use Rattle.hevc_configuration.proofs.Cells.{IsBytes, IsBytes-drop, cells, cells_are}

pub bind_ok : {A B : Type 0} (r : Result A ConfigurationError) (f : A → Result B ConfigurationError) (y : B)
    → (r >>= f) ≡ Ok y → (x : A) × (r ≡ Ok x) × (f x ≡ Ok y)
bind_ok (Ok x) f y e = (x, refl, e)
bind_ok (Err d) f y e = absurd cc

-- a test that wasn't met
pub guard_ok : {A : Type 0} (b : Bool) (d : ConfigurationError) (r : Result A ConfigurationError) (y : A)
    → cond b (Err d) r ≡ Ok y → (b ≡ false) × (r ≡ Ok y)
guard_ok true d r y e = absurd cc
guard_ok false d r y e = (refl, e)

abbrev done : {A : Type 0} → A → Result A ConfigurationError
done x = Ok x

pub ok_is : {A : Type 0} (x y : A) → done x ≡ done y → x ≡ y
ok_is x y e = cc

pub flag_is : (n : ℕ) → n < 2 → n ≡ from_bool (eqb n 1)
flag_is zero lt = refl
flag_is (suc zero) lt = refl
flag_is (suc (suc n)) lt = absurd (omega arith)

-- ---- units

record TakesRows (rows_of : List Row → List Row) (bytes after : List ℕ) : Type 0 where
  pub rows : (rows : List Row) → AreRows rows after → AreRows (rows_of rows) bytes
  pub fits : IsBytes after

unit_takes : (bytes unit after : List ℕ) → IsBytes bytes → unit_at bytes ≡ Ok (unit, after)
    → TakesRows (λ rows. two_bytes (field 16 (length unit) ∷ []) ∷ text unit ∷ rows) bytes after
unfolding unit_at
unit_takes bytes unit after fits e =
    let n = from_be_bytes w16 bytes in
    let a = guard_ok (ltb (length bytes) 2) (errors.TooShort fields.NalUnitLength) _ (unit, after) e in
    let b = guard_ok (ltb (length (drop 2 bytes)) n) (errors.TooShort fields.NalUnit) _ (unit, after) a.1 in
    let long : 2 ≤ length bytes = ltb-false _ _ a.0 in
    let enough : n ≤ length (drop 2 bytes) = ltb-false _ _ b.0 in
    let is = ok_is (take n (drop 2 bytes), drop n (drop 2 bytes)) (unit, after) b.1 in
    let len : length (take n (drop 2 bytes)) ≡ n = omega (arith, length-take n (drop 2 bytes)) in
    let below : n < 65536 = omega (arith, fits 0, fits 1) in
    let made : TakesRows (λ rows. two_bytes (field 16 (length (take n (drop 2 bytes))) ∷ []) ∷ text (take n (drop 2 bytes)) ∷ rows)
    bytes (drop n (drop 2 bytes)) = record {
      rows = λ rows more. ((long, (omega (arith, len, below), tt)), (ap (λ (k : ℕ). take k (drop 2 bytes)) len, rw len more));
      fits = IsBytes-drop n (drop 2 bytes) (IsBytes-drop 2 bytes fits);
    } in
    subst (λ (x : List ℕ × List ℕ). TakesRows (λ rows. two_bytes (field 16 (length x.0) ∷ []) ∷ text x.0 ∷ rows) bytes x.1) is made

units_take : (n : ℕ) (bytes : List ℕ) (x : List (List ℕ) × List ℕ) → IsBytes bytes → units_at n bytes ≡ Ok x
    → TakesRows (λ rows. unit_rows x.0 ++ rows) bytes x.1 × (length x.0 ≡ n)
unfolding units_at
units_take zero bytes x fits e =
    subst (λ (y : List (List ℕ) × List ℕ). TakesRows (λ rows. unit_rows y.0 ++ rows) bytes y.1 × (length y.0 ≡ 0))
    (ok_is ([], bytes) x e) (record { rows = λ rows more. more; fits = fits }, refl)
units_take (suc n) bytes x fits e =
    let a = bind_ok (unit_at bytes) (λ first. units_at n first.1 >>= λ others. Ok (first.0 ∷ others.0, others.1)) x e in
    let b = bind_ok (units_at n a.0.1) (λ others. Ok (a.0.0 ∷ others.0, others.1)) x a.2 in
    let first = unit_takes bytes a.0.0 a.0.1 fits a.1 in
    let second = units_take n a.0.1 b.0 first.fits b.1 in
    let made : List (List ℕ) × List ℕ = (a.0.0 ∷ b.0.0, b.0.1) in
    subst (λ (y : List (List ℕ) × List ℕ). TakesRows (λ rows. unit_rows y.0 ++ rows) bytes y.1 × (length y.0 ≡ suc n))
    (ok_is made x b.2) (
      record { rows = λ rows more. first.rows (unit_rows b.0.0 ++ rows) (second.0.rows rows more); fits = second.0.fits },
      ap suc second.1,
    )

-- ---- arrays

array_takes : (bytes : List ℕ) (x : PlainArray × List ℕ) → IsBytes bytes → array_at bytes ≡ Ok x
    → TakesRows (λ rows. array_rows x.0 ++ rows) bytes x.1
unfolding array_at
array_takes bytes x fits e =
    let a = guard_ok (ltb (length bytes) 1) (errors.TooShort fields.ArrayCompleteness) _ x e in
    let b = guard_ok (ltb (length bytes) 3) (errors.TooShort fields.NumNalus) _ x a.1 in
    let long : 3 ≤ length bytes = ltb-false _ _ b.0 in
    let c = bind_ok (units_at (from_be_bytes w16 (drop 1 bytes)) (drop 3 bytes)) _ x b.1 in
    let units = units_take (from_be_bytes w16 (drop 1 bytes)) (drop 3 bytes) c.0 (IsBytes-drop 3 bytes fits) c.1 in
    let f0 = fits 0 in
    let f1 = fits 1 in
    let f2 = fits 2 in
    let shape : bytes ≡ cells 0 3 bytes = cells_are 3 0 bytes long in
    let made : PlainArray × List ℕ = (
      record {
        array_completeness = eqb (get_or bytes 0 0 / 128 % 2) 1;
        nal_unit_type = get_or bytes 0 0 % 64;
        units = c.0.0;
      },
      c.0.1,
    ) in
    let flag = flag_is (get_or bytes 0 0 / 128 % 2) (omega arith) in
    let number : from_be_bytes w16 (drop 1 bytes) ≡ from_be_bytes w16 (drop 1 (cells 0 3 bytes)) =
    ap (λ (bs : List ℕ). from_be_bytes w16 (drop 1 bs)) shape in
    let count : from_be_bytes w16 (drop 1 (cells 0 3 bytes)) ≡ length c.0.0 = sym number ∙ sym units.1 in
    let rows_are : (rows : List Row) → AreRows rows c.0.1 → AreRows (array_rows made.0 ++ rows) (cells 0 3 bytes) =
    λ rows more. ((omega arith, (flag, (omega arith, tt))), ((omega arith, (omega (arith, count), tt)), units.0.rows rows more)) in
    subst (λ (y : PlainArray × List ℕ). TakesRows (λ rows. array_rows y.0 ++ rows) bytes y.1) (ok_is made x c.2)
    (record {
      rows = λ rows more. subst (λ (bs : List ℕ). AreRows (array_rows made.0 ++ rows) bs) (sym shape) (rows_are rows more);
      fits = units.0.fits;
    })

arrays_take : (n : ℕ) (bytes : List ℕ) (x : List PlainArray × List ℕ) → IsBytes bytes → arrays_at n bytes ≡ Ok x
    → AreRows (arrays_rows x.0) bytes × (length x.0 ≡ n)
unfolding arrays_at
arrays_take zero bytes x fits e =
    subst (λ (y : List PlainArray × List ℕ). AreRows (arrays_rows y.0) bytes × (length y.0 ≡ 0))
    (ok_is ([], bytes) x e) (tt, refl)
arrays_take (suc n) bytes x fits e =
    let a = bind_ok (array_at bytes) (λ first. arrays_at n first.1 >>= λ others. Ok (first.0 ∷ others.0, others.1)) x e in
    let b = bind_ok (arrays_at n a.0.1) (λ others. Ok (a.0.0 ∷ others.0, others.1)) x a.2 in
    let first = array_takes bytes a.0 fits a.1 in
    let second = arrays_take n a.0.1 b.0 first.fits b.1 in
    let made : List PlainArray × List ℕ = (a.0.0 ∷ b.0.0, b.0.1) in
    subst (λ (y : List PlainArray × List ℕ). AreRows (arrays_rows y.0) bytes × (length y.0 ≡ suc n))
    (ok_is made x b.2) (first.rows (arrays_rows b.0.0) second.0, ap suc second.1)

-- ---- the bytes before the arrays

size_is : (n : ℕ) (size : LengthSize) → n < 4 → length_size_of n ≡ Ok size → n ≡ size_minus_one size
size_is zero size lt e = let same : One ≡ size = ok_is One size e in ap size_minus_one same
size_is (suc zero) size lt e = let same : Two ≡ size = ok_is Two size e in ap size_minus_one same
size_is (suc (suc zero)) size lt e = absurd cc
size_is (suc (suc (suc zero))) size lt e = let same : Four ≡ size = ok_is Four size e in ap size_minus_one same
size_is (suc (suc (suc (suc n)))) size lt e = absurd (omega arith)

-- what holds of bytes whose front has no fault
record HasFront (bytes : List ℕ) (size : LengthSize) : Type 0 where
  pub version : get_or bytes 0 0 ≡ 1
  pub long : 23 ≤ length bytes
  pub sized : length_size_of (get_or bytes 21 0 % 4) ≡ Ok size

chosen_ok : {A : Type 0} (b : Bool) (d : ConfigurationError) (r : Result A ConfigurationError) (y : A)
    → cond b r (Err d) ≡ Ok y → (b ≡ true) × (r ≡ Ok y)
chosen_ok true d r y e = (refl, e)
chosen_ok false d r y e = absurd cc

has_front : (bytes : List ℕ) (size : LengthSize) → front_at bytes ≡ Ok size → HasFront bytes size
unfolding front_at
has_front bytes size e =
    let a = guard_ok (ltb (length bytes) 1) (errors.TooShort fields.ConfigurationVersion) _ size e in
    let b = chosen_ok (eqb (get_or bytes 0 0) 1) (errors.UnsupportedVersion (get_or bytes 0 0)) _ size a.1 in
    let c = guard_ok (ltb (length bytes) 22) (errors.TooShort (field_beyond (length bytes))) _ size b.1 in
    let d = bind_ok (length_size_of (get_or bytes 21 0 % 4))
    (λ found. cond (ltb (length bytes) 23) (Err (errors.TooShort fields.NumOfArrays)) (Ok found)) size c.1 in
    let f = guard_ok (ltb (length bytes) 23) (errors.TooShort fields.NumOfArrays) (Ok d.0) size d.2 in
    record {
      version = eqb-true _ _ b.0;
      long = ltb-false _ _ f.0;
      sized = d.1 ∙ f.1;
    }

front_rows : (bytes : List ℕ) (size : LengthSize) (arrays : List PlainArray) → IsBytes bytes → HasFront bytes size
    → length arrays ≡ get_or bytes 22 0 → AreRows (arrays_rows arrays) (drop 23 bytes)
    → AreRows (configuration_rows (with_front (cells 0 23 bytes) size arrays)) (cells 0 23 bytes)
front_rows bytes size arrays fits front count more =
    let f1 = fits 1 in
    let f2 = fits 2 in
    let f3 = fits 3 in
    let f4 = fits 4 in
    let f5 = fits 5 in
    let f6 = fits 6 in
    let f7 = fits 7 in
    let f8 = fits 8 in
    let f9 = fits 9 in
    let f10 = fits 10 in
    let f11 = fits 11 in
    let f12 = fits 12 in
    let f13 = fits 13 in
    let f14 = fits 14 in
    let f19 = fits 19 in
    let f20 = fits 20 in
    let f21 = fits 21 in
    let f22 = fits 22 in
    let version = front.version in
    let tier = flag_is (get_or bytes 1 0 / 32 % 2) (omega arith) in
    let nested = flag_is (get_or bytes 21 0 / 4 % 2) (omega arith) in
    let sized = size_is (get_or bytes 21 0 % 4) size (omega arith) front.sized in (
      (omega arith, (omega (arith, version), tt)),
      (
        (omega arith, (omega (arith, f1), (tier, (omega arith, tt)))),
        (
          (omega arith, (omega (arith, f2, f3, f4, f5), tt)),
          (
            (omega arith, (omega (arith, f6, f7, f8, f9, f10, f11), tt)),
            (
              (omega arith, (omega (arith, f10, f11), tt)),
              (
                (omega arith, (omega (arith, f12), tt)),
                (
                  (omega arith, (omega arith, tt)),
                  (
                    (omega arith, (omega arith, tt)),
                    (
                      (omega arith, (omega arith, tt)),
                      (
                        (omega arith, (omega arith, tt)),
                        (
                          (omega arith, (omega arith, tt)),
                          (
                            (omega arith, (omega (arith, f19, f20), tt)),
                            (
                              (omega arith, (omega (arith, f21), (omega arith, (nested, (omega (arith, sized), tt))))),
                              ((omega arith, (omega (arith, f22, count), tt)), more),
                            ),
                          ),
                        ),
                      ),
                    ),
                  ),
                ),
              ),
            ),
          ),
        ),
      ),
    )

pub configuration_found : (bytes : List ℕ) (c : PlainConfiguration) → IsBytes bytes → configuration_at bytes ≡ Ok c
    → AreRows (configuration_rows c) bytes
unfolding configuration_at
configuration_found bytes c fits e =
    let a = bind_ok (front_at bytes) _ c e in
    let b = bind_ok (arrays_at (get_or bytes 22 0) (drop 23 bytes)) _ c a.2 in
    let front = has_front bytes a.0 a.1 in
    let arrays = arrays_take (get_or bytes 22 0) (drop 23 bytes) b.0 (IsBytes-drop 23 bytes fits) b.1 in
    let shape : bytes ≡ cells 0 23 bytes = cells_are 23 0 bytes front.long in
    let there = front_rows bytes a.0 b.0.0 fits front arrays.1 arrays.0 in
    subst (λ (x : PlainConfiguration). AreRows (configuration_rows x) bytes) (ok_is (with_front bytes a.0 b.0.0) c b.2)
    (subst (λ (bs : List ℕ). AreRows (configuration_rows (with_front bs a.0 b.0.0)) bs) (sym shape) there)

pub is_found : (bytes : List ℕ) (r : Result HevcConfiguration ConfigurationError) → IsBytes bytes
    → Gives plain r (configuration_at bytes) → IfOk r (λ c. AreRows (configuration_rows (plain c)) bytes)
is_found bytes (Ok c) fits given = configuration_found bytes (plain c) fits given
is_found bytes (Err e) fits given = tt
