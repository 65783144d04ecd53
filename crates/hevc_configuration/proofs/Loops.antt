-- Reading one after another, as a loop does.
use Rattle.std.proofs.Common.{◌≡◌, ℕ, suc, ◌-◌, ◌+◌, ◌≤◌, ◌<◌, List, [], ◌∷◌, ◌++◌, Result, Ok, Err, refl, sym}
use Rattle.std.proofs.Common.{ap, ◌∙◌, append_assoc, arith}
use Rattle.std.proofs.lemmas.List.{append-nil}
use Rattle.hevc_configuration.specs.declared.error.ConfigurationError.{ConfigurationError}
use Rattle.hevc_configuration.specs.declared.error.ConfigurationError.TheVariants as errors
use Rattle.hevc_configuration.specs.Configuration.{PlainArray}
use Rattle.hevc_configuration.specs.Reading.{◌>>=◌, Fails, unit_at, units_at, array_at, arrays_at}

-- what was read before, and what is still read
abbrev pub with_units : {A : Type 0} → List A → Result (List A × List ℕ) ConfigurationError
    → Result (List A × List ℕ) ConfigurationError
with_units before read = read >>= λ x. Ok (before ++ x.0, x.1)

regroup : {A : Type 0} (before : List A) (a : A) (read : Result (List A × List ℕ) ConfigurationError)
    → with_units before (read >>= λ x. Ok (a ∷ x.0, x.1)) ≡ with_units (before ++ a ∷ []) read
regroup {A} before a (Ok x) = ap (λ (xs : List A). Ok (xs, x.1)) (sym (append_assoc before (a ∷ []) x.0))
regroup before a (Err e) = refl

pub fails_at : {Y Z : Type 0} (e : ConfigurationError) (r : Result Y ConfigurationError) (total : Result Z ConfigurationError)
    → Fails e r → ((d : ConfigurationError) → r ≡ Err d → total ≡ Err d) → Fails e total
fails_at errors.NoMemory r total failed leads = tt
fails_at (errors.TooShort field) r total failed leads = leads (errors.TooShort field) failed
fails_at (errors.UnsupportedVersion version) r total failed leads = leads (errors.UnsupportedVersion version) failed
fails_at errors.UnsupportedLengthSize r total failed leads = leads errors.UnsupportedLengthSize failed

-- ---- units

pub unit_goes_on : (before : List (List ℕ)) (count i : ℕ) (bytes unit after : List ℕ)
    (total : Result (List (List ℕ) × List ℕ) ConfigurationError) → i < count → unit_at bytes ≡ Ok (unit, after)
    → with_units before (units_at (count - i) bytes) ≡ total
    → with_units (before ++ unit ∷ []) (units_at (count - (i + 1)) after) ≡ total
unfolding units_at
unit_goes_on before count i bytes unit after total lt h so_far =
    let k : count - i ≡ suc (count - (i + 1)) = omega arith in
    let one : with_units before (units_at (count - i) bytes)
    ≡ with_units (before ++ unit ∷ []) (units_at (count - (i + 1)) after) =
    rw (k, h) (regroup before unit (units_at (count - (i + 1)) after)) in
    sym one ∙ so_far

pub unit_fails : (e : ConfigurationError) (before : List (List ℕ)) (count i : ℕ) (bytes : List ℕ)
    (total : Result (List (List ℕ) × List ℕ) ConfigurationError) → i < count → Fails e (unit_at bytes)
    → with_units before (units_at (count - i) bytes) ≡ total → Fails e total
unfolding units_at
unit_fails e before count i bytes total lt failed so_far = fails_at e (unit_at bytes) total failed (λ d is.
    let k : count - i ≡ suc (count - (i + 1)) = omega arith in
    let one : with_units before (units_at (count - i) bytes) ≡ Err d = rw (k, is) refl in
    sym so_far ∙ one)

pub units_end : (before : List (List ℕ)) (count i : ℕ) (bytes : List ℕ)
    (total : Result (List (List ℕ) × List ℕ) ConfigurationError) → count ≤ i
    → with_units before (units_at (count - i) bytes) ≡ total → total ≡ Ok (before, bytes)
unfolding units_at
units_end before count i bytes total le so_far =
    let k : count - i ≡ 0 = omega arith in
    let one : with_units before (units_at (count - i) bytes) ≡ Ok (before, bytes) =
    rw k (ap (λ (us : List (List ℕ)). Ok (us, bytes)) (append-nil before)) in
    sym so_far ∙ one

-- ---- arrays

pub array_goes_on : (before : List PlainArray) (count i : ℕ) (bytes : List ℕ) (a : PlainArray) (after : List ℕ)
    (total : Result (List PlainArray × List ℕ) ConfigurationError) → i < count → array_at bytes ≡ Ok (a, after)
    → with_units before (arrays_at (count - i) bytes) ≡ total
    → with_units (before ++ a ∷ []) (arrays_at (count - (i + 1)) after) ≡ total
unfolding arrays_at
array_goes_on before count i bytes a after total lt h so_far =
    let k : count - i ≡ suc (count - (i + 1)) = omega arith in
    let one : with_units before (arrays_at (count - i) bytes)
    ≡ with_units (before ++ a ∷ []) (arrays_at (count - (i + 1)) after) =
    rw (k, h) (regroup before a (arrays_at (count - (i + 1)) after)) in
    sym one ∙ so_far

pub array_fails : (e : ConfigurationError) (before : List PlainArray) (count i : ℕ) (bytes : List ℕ)
    (total : Result (List PlainArray × List ℕ) ConfigurationError) → i < count → Fails e (array_at bytes)
    → with_units before (arrays_at (count - i) bytes) ≡ total → Fails e total
unfolding arrays_at
array_fails e before count i bytes total lt failed so_far = fails_at e (array_at bytes) total failed (λ d is.
    let k : count - i ≡ suc (count - (i + 1)) = omega arith in
    let one : with_units before (arrays_at (count - i) bytes) ≡ Err d = rw (k, is) refl in
    sym so_far ∙ one)

pub arrays_end : (before : List PlainArray) (count i : ℕ) (bytes : List ℕ)
    (total : Result (List PlainArray × List ℕ) ConfigurationError) → count ≤ i
    → with_units before (arrays_at (count - i) bytes) ≡ total → total ≡ Ok (before, bytes)
unfolding arrays_at
arrays_end before count i bytes total le so_far =
    let k : count - i ≡ 0 = omega arith in
    let one : with_units before (arrays_at (count - i) bytes) ≡ Ok (before, bytes) =
    rw k (ap (λ (us : List PlainArray). Ok (us, bytes)) (append-nil before)) in
    sym so_far ∙ one
