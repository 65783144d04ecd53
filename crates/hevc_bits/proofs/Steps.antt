-- One more bit, in the loops that read a number.
use Rattle.std.proofs.Common.{◌≡◌, ℕ, zero, suc, ◌+◌, ◌*◌, ◌^◌, ◌<◌, ◌≤◌, Bool, true, false, List}
use Rattle.std.proofs.Common.{[], ◌∷◌, ◌++◌, length, take, drop, Result, Ok, Err, refl, sym, ap}
use Rattle.std.proofs.Common.{◌∙◌, arith, ◌⊎◌, inl, inr}
use Rattle.std.proofs.Math.ListN.{length-take, length-drop}
use Rattle.std.proofs.lemmas.List.{take-append-drop}
use Rattle.hevc_spec.proofs.UnitLaws.{drop-drop}
use Rattle.hevc_spec.specs.Payload.{Place, bits}
use Rattle.hevc_bits.specs.declared.bit_error.BitError.{BitError}
use Rattle.hevc_bits.specs.declared.bit_error.BitError.TheVariants.{OutOfBits, OutOfRange}
use Rattle.std.proofs.lemmas.Bool.{cases_lt}
use Rattle.hevc_bits.specs.Reading.{Finds}
use Rattle.std.specs.Prelude.{if◌then◌else◌, IfOk}
use Rattle.hevc_spec.specs.Bits.{u, IsAtFront, number, bits_at, Found, found, out_of_bounds, ended}
use Rattle.hevc_spec.specs.Bits.{bits_after, golomb_at, less_one, number_after}
use Rattle.hevc_spec.proofs.BitSteps.{bits_at-found, bits_at-ended, bits_at-front, spelled-bound}
use Rattle.hevc_spec.proofs.BitSteps.{golomb_after, bits_after-zero, bits_after-nil}
use Rattle.hevc_spec.proofs.BitSteps.{bits_after-cons, golomb_after-zero, golomb_after-nil}
use Rattle.hevc_spec.proofs.BitSteps.{golomb_after-one, golomb_after-more, golomb_after-many}

number_least : (v : ℕ) (bits : List Bool) → v ≤ number_after v bits
number_least v [] = omega arith
number_least v (b ∷ bits) = let h = number_least (2 * v + (if b then 1 else 0)) bits in omega arith

-- a number is at least the one before it
pub bits_least : (v n : ℕ) (all : List Bool) (w : ℕ) (rest : List Bool) → bits_after v n all ≡ found w rest → v ≤ w
bits_least v zero all w rest e = let f : v ≡ w = cc (e, bits_after-zero v all) in omega arith
bits_least v (suc n) [] w rest e = absurd (cc (e, bits_after-nil v n))
bits_least v (suc n) (b ∷ all) w rest e = let h =
    bits_least (2 * v + (if b then 1 else 0)) n all w rest (sym (bits_after-cons v n b all) ∙ e) in omega arith

-- ---- Exp-Golomb numbers

pub golomb_start : (bits : List Bool) → golomb_after 0 bits ≡ golomb_at bits
golomb_start bits = golomb_after-zero bits

pub golomb_more : (z : ℕ) (all rest : List Bool) (total : Found) → all ≡ false ∷ rest
    → golomb_after z all ≡ total → golomb_after (z + 1) rest ≡ total
golomb_more z all rest total e so_far =
    let k : z + 1 ≡ suc z = omega arith in
    let one : golomb_after z all ≡ golomb_after (z + 1) rest = rw (e, k) (golomb_after-more z rest) in
    sym one ∙ so_far

pub golomb_too_many : (z : ℕ) (all rest : List Bool) (total : Found) → all ≡ false ∷ rest → z ≡ 31
    → golomb_after z all ≡ total → total ≡ out_of_bounds
golomb_too_many z all rest total e h so_far =
    let one : golomb_after z all ≡ out_of_bounds = rw (e, h) (golomb_after-more 31 rest ∙ golomb_after-many rest) in
    sym so_far ∙ one

pub golomb_end : (z : ℕ) (all : List Bool) (total : Found) → z ≤ 31 → all ≡ [] → golomb_after z all ≡ total
    → total ≡ ended
golomb_end z all total few e so_far =
    let one : golomb_after z all ≡ ended = rw e (golomb_after-nil z few) in
    sym so_far ∙ one

pub golomb_one : (z : ℕ) (all rest : List Bool) (total : Found) → z ≤ 31 → all ≡ true ∷ rest
    → golomb_after z all ≡ total → total ≡ less_one (bits_after 1 z rest)
golomb_one z all rest total few e so_far =
    let one : golomb_after z all ≡ less_one (bits_after 1 z rest) = rw e (golomb_after-one z rest few) in
    sym so_far ∙ one

-- ---- bits that are read or passed over

pub front_found : (r : Result ℕ BitError) (old new : Place) (n : ℕ)
    → Finds (λ v. v) r old new (bits_after 0 n (bits old)) → IfOk r (λ v. IsAtFront (u n) v (bits old) (bits new))
unfolding bits_at
front_found (Ok v) old new n e = bits_at-front n (bits old) v (bits new) e
front_found (Err e) old new n f = tt

pub front_bound : (r : Result ℕ BitError) (old new : Place) (n : ℕ)
    → Finds (λ v. v) r old new (bits_after 0 n (bits old)) → IfOk r (λ v. v < 2 ^ n)
unfolding bits_at
front_bound (Ok v) old new n e = spelled-bound n v (bits old) (bits new) (bits_at-front n (bits old) v (bits new) e)
front_bound (Err e) old new n f = tt

-- bits that are at the front of some that are left
record Stand (m v : ℕ) (here rest : List Bool) : Type 0 where
  pub enough : m ≤ length here
  pub behind : rest ≡ drop m here

stand : (m v : ℕ) (here rest : List Bool) → bits_at m here ≡ found v rest → Stand m v here rest
stand m v here rest e = by_order (cases_lt (length here) m)
  where
    by_order : (length here < m) ⊎ (m ≤ length here) → Stand m v here rest
    by_order (inl few) = absurd (cc (e, bits_at-ended m here few))
    by_order (inr enough) =
        let f = sym (bits_at-found m here enough) ∙ e in
        let same : drop m here ≡ rest = cc in
        record { enough = enough; behind = sym same }

-- so many bits are passed over, after others that were
pub skip_more : (i m : ℕ) (all here : List Bool) (v : ℕ) (rest : List Bool) → i ≤ length all
    → here ≡ drop i all → bits_at m here ≡ found v rest → (i + m ≤ length all) × (rest ≡ drop (i + m) all)
skip_more i m all here v rest before same e =
    let k = stand m v here rest e in
    (omega (arith, k.enough, ap length same, length-drop i all), k.behind ∙ ap (drop m) same ∙ drop-drop i m all)

pub skip_all : (n : ℕ) (all here : List Bool) → n ≤ length all → here ≡ drop n all
    → bits_at n all ≡ found (number (take n all)) here
skip_all n all here enough same = bits_at-found n all enough
    ∙ ap (λ (x : List Bool). found (number (take n all)) x) (sym same)

skip_ended : (n m i : ℕ) (all here : List Bool) → here ≡ drop i all → i + m ≤ n → bits_at m here ≡ ended
    → bits_at n all ≡ ended
skip_ended n m i all here same le e = by_order (cases_lt (length here) m)
  where
    by_order : (length here < m) ⊎ (m ≤ length here) → bits_at n all ≡ ended
    by_order (inl few) = bits_at-ended n all (omega (arith, few, ap length same, length-drop i all))
    by_order (inr enough) = absurd (cc (e, bits_at-found m here enough))

never_out : (m : ℕ) (here : List Bool) → bits_at m here ≡ out_of_bounds → ⊥
never_out m here e = by_order (cases_lt (length here) m)
  where
    by_order : (length here < m) ⊎ (m ≤ length here) → ⊥
    by_order (inl few) = absurd (cc (e, bits_at-ended m here few))
    by_order (inr enough) = absurd (cc (e, bits_at-found m here enough))

pub skip_refused : {X : Type 0} (value : X → ℕ) (e : BitError) (n m i : ℕ) (all : List Bool)
    (here after p : Place) → bits here ≡ drop i all → i + m ≤ n
    → Finds (λ v. v) (Err e) here after (bits_at m (bits here)) → Finds value (Err e) p p (bits_at n all)
skip_refused value OutOfBits n m i all here after p same le f = (skip_ended n m i all (bits here) same le f.0, refl)
skip_refused value OutOfRange n m i all here after p same le f = absurd (never_out m (bits here) f.0)

pub passed_front : (n : ℕ) (all here : List Bool) → n ≤ length all → here ≡ drop n all
    → (passed : List Bool) × (all ≡ passed ++ here) × (length passed ≡ n)
passed_front n all here enough same = (
  take n all,
  sym (take-append-drop n all) ∙ ap (λ (x : List Bool). take n all ++ x) (sym same),
  grind (arith, length-take),
)
