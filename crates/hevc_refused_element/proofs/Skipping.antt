-- Bits that are passed over.
use Rattle.std.proofs.Common.{◌≡◌, ℕ, Bool, true, false, cond, List, [], length, drop, take, refl, sym, ap, ◌∙◌}
use Rattle.std.proofs.Common.{arith}
use Rattle.std.specs.Prelude.{nat_le, is_err, Result, Ok, Err}
use Rattle.std.proofs.lemmas.Bool.Decides.{nat_tests}
use Rattle.std.proofs.lemmas.List.{drop_all}
use Rattle.hevc_spec.specs.Bits.{found, ended, number_after, bits_at, bits_after, ue_at, golomb_at}
use Rattle.hevc_spec.specs.Payload.{Place, bits}
use Rattle.hevc_bits.specs.Reading.{Finds}
use Rattle.hevc_bits.specs.declared.bit_error.BitError.{BitError}
use Rattle.hevc_bits.specs.declared.bit_error.BitError.TheVariants.{OutOfBits, OutOfRange}
use Rattle.hevc_elements.proofs.LongBits.{never_out}
use Rattle.hevc_refused_element.specs.Refused.{is_out_of_bounds}

-- those that are left
pub skipped : (n : ℕ) (bits rest : List Bool) (v : ℕ) → bits_at n bits ≡ found v rest → rest ≡ drop n bits
unfolding bits_at bits_after
skipped n bits rest v e = by_test (nat_le n (length bits)) e
  where
    by_test : (t : Bool) → cond t (found (number_after 0 (take n bits)) (drop n bits)) ended ≡ found v rest
        → rest ≡ drop n bits
    by_test true e = cc
    by_test false e = absurd (cc e)

-- where there are too few, none
none_left : (n : ℕ) (bits : List Bool) → bits_at n bits ≡ ended → drop n bits ≡ []
unfolding bits_at bits_after
none_left n bits e = by_test (nat_le n (length bits)) refl e
  where
    by_test : (t : Bool) → nat_le n (length bits) ≡ t
        → cond t (found (number_after 0 (take n bits)) (drop n bits)) ended ≡ ended → drop n bits ≡ []
    by_test true le e = absurd (cc e)
    by_test false le e = drop_all n bits (grind (arith, nat_tests, le))

-- no bits are no number that is too long
nothing_long : is_out_of_bounds (ue_at []) ≡ false
unfolding ue_at golomb_at bits_at bits_after
nothing_long = refl

pub none_long : (n : ℕ) (bits : List Bool) → bits_at n bits ≡ ended → false ≡ is_out_of_bounds (ue_at (drop n bits))
none_long n bits e = sym (ap (λ (rest : List Bool). is_out_of_bounds (ue_at rest)) (none_left n bits e) ∙ nothing_long)

-- where bits can't be passed over none are left
pub not_skipped : {X : Type 0} (view : X → ℕ) (r : Result X BitError) (old new : Place) (n : ℕ) → is_err r ≡ true
    → Finds view r old new (bits_at n (bits old)) → false ≡ is_out_of_bounds (ue_at (drop n (bits old)))
not_skipped view (Ok x) old new n is f = absurd (cc is)
not_skipped view (Err OutOfBits) old new n is f = none_long n (bits old) f.0
not_skipped view (Err OutOfRange) old new n is f = absurd (never_out n (bits old) f.0)
