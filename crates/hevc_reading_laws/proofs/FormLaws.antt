-- What is at the front of bits is what spells it, for each form.
use Rattle.std.proofs.Common.{◌≡◌, ◌≢◌, ℕ, zero, suc, ◌+◌, ◌-◌, ◌*◌, ◌<◌, ◌≤◌, Bool, true, false}
use Rattle.std.proofs.Common.{cond, eqb, List, [], ◌∷◌, ◌++◌, length, refl, sym, ap, ◌∙◌}
use Rattle.std.proofs.Common.{append_assoc, arith, inl, inr}
use Rattle.std.specs.Prelude.{replicate, if◌then◌else◌, ◌==◌, ◌⊎◌}
use Rattle.std.proofs.lemmas.List.{append-nil, length-append}
use Rattle.std.proofs.lemmas.Bool.{eqb-true, eqb-false}
use Rattle.hevc_spec.specs.Bits.{Form, u, ue, se, skip, check, number, number_after, IsSpelled}
use Rattle.hevc_spec.specs.Bits.{IsExpGolomb, Found, found, out_of_bounds, ended, less_one, bits_at}
use Rattle.hevc_spec.specs.Bits.{golomb_at, form_at, bits_after as bits_behind}
use Rattle.hevc_spec.proofs.BitSteps.{bits_after-zero, bits_after-nil, bits_after-cons}
use Rattle.hevc_spec.proofs.BitSteps.{golomb_after as golomb_behind, golomb_after-zero}
use Rattle.hevc_spec.proofs.BitSteps.{golomb_after-nil, golomb_after-one, golomb_after-more}
use Rattle.hevc_spec.proofs.BitSteps.{golomb_after-many}
use Rattle.hevc_spec.specs.Lines.{IsGolomb, BeginsWithZeros, EndsWithin}

-- ---- the same by recursion on the bits

-- so many bits after a number
abbrev pub bits_after : ℕ → ℕ → List Bool → Found
bits_after n zero bits = found n bits
bits_after n (suc more) [] = ended
bits_after n (suc more) (b ∷ bits) = bits_after (2 * n + (if b then 1 else 0)) more bits

bits_behind-is : (n more : ℕ) (bits : List Bool) → bits_behind n more bits ≡ bits_after n more bits
bits_behind-is n zero bits = bits_after-zero n bits
bits_behind-is n (suc more) [] = bits_after-nil n more
bits_behind-is n (suc more) (b ∷ bits) = bits_after-cons n more b bits
    ∙ bits_behind-is (2 * n + (if b then 1 else 0)) more bits

-- an Exp-Golomb number after some of its zeros
abbrev pub golomb_after : ℕ → List Bool → Found
golomb_after count [] = ended
golomb_after count (false ∷ bits) = if count == 31 then out_of_bounds else golomb_after (count + 1) bits
golomb_after count (true ∷ bits) = less_one (bits_after 1 count bits)

golomb_behind-is : (count : ℕ) (bits : List Bool) → count ≤ 31 → golomb_behind count bits ≡ golomb_after count bits
golomb_behind-is count [] few = golomb_after-nil count few
golomb_behind-is count (true ∷ bits) few = golomb_after-one count bits few ∙ ap less_one (bits_behind-is 1 count bits)
golomb_behind-is count (false ∷ bits) few = golomb_after-more count bits ∙ by_count
    (λ more. golomb_behind-is (suc count) bits more) (eqb count 31) refl
  where
    by_count : (suc count ≤ 31 → golomb_behind (suc count) bits ≡ golomb_after (suc count) bits)
        → (t : Bool) → eqb count 31 ≡ t
        → golomb_behind (suc count) bits ≡ cond t out_of_bounds (golomb_after (count + 1) bits)
    by_count again true e =
        let is : count ≡ 31 = eqb-true count 31 e in
        rw is (golomb_after-many bits)
    by_count again false e =
        let ne : count ≢ 31 = eqb-false count 31 e in
        let k : count + 1 ≡ suc count = omega arith in
        rw k (again (omega arith))

bits_at-is : (n : ℕ) (bits : List Bool) → bits_at n bits ≡ bits_after 0 n bits
unfolding bits_at
bits_at-is n bits = bits_behind-is 0 n bits

golomb_at-is : (bits : List Bool) → golomb_at bits ≡ golomb_after 0 bits
golomb_at-is bits = sym (golomb_after-zero bits) ∙ golomb_behind-is 0 bits (omega arith)

-- ---- so many bits

-- the bits that were taken, and what they spell
pub record Taken (n k : ℕ) (bits : List Bool) (v : ℕ) (rest : List Bool) : Type 0 where
  pub front : List Bool
  pub long : length front ≡ k
  pub spelled : number_after n front ≡ v
  pub parts : bits ≡ front ++ rest

bits_taken : (n k : ℕ) (bits : List Bool) (v : ℕ) (rest : List Bool) → bits_after n k bits ≡ found v rest
    → Taken n k bits v rest
bits_taken n zero bits v rest e = record { front = []; long = refl; spelled = cc; parts = cc }
bits_taken n (suc k) [] v rest e = absurd cc
bits_taken n (suc k) (b ∷ bits) v rest e =
    let t = bits_taken (2 * n + (if b then 1 else 0)) k bits v rest e in
    record {
      front = b ∷ t.front;
      long = ap suc t.long;
      spelled = t.spelled;
      parts = ap (λ (x : List Bool). b ∷ x) t.parts;
    }

bits_again : (n : ℕ) (front rest : List Bool)
    → bits_after n (length front) (front ++ rest) ≡ found (number_after n front) rest
bits_again n [] rest = refl
bits_again n (b ∷ front) rest = bits_again (2 * n + (if b then 1 else 0)) front rest

bits_short : (n k : ℕ) (bits : List Bool) → bits_after n k bits ≡ ended → length bits < k
bits_short n zero bits e = absurd cc
bits_short n (suc k) [] e = omega arith
bits_short n (suc k) (b ∷ bits) e = let h = bits_short (2 * n + (if b then 1 else 0)) k bits e in omega arith

bits_fit : (n k : ℕ) (bits : List Bool) → bits_after n k bits ≡ out_of_bounds → ⊥
bits_fit n zero bits e = cc
bits_fit n (suc k) [] e = cc
bits_fit n (suc k) (b ∷ bits) e = bits_fit (2 * n + (if b then 1 else 0)) k bits e

number_least : (n : ℕ) (bits : List Bool) → n ≤ number_after n bits
number_least n [] = omega arith
number_least n (b ∷ bits) = let h = number_least (2 * n + (if b then 1 else 0)) bits in omega arith

-- ---- Exp-Golomb numbers

zeros_of : ℕ → List Bool
zeros_of k = replicate k false

record TakenGolomb (z : ℕ) (bits : List Bool) (v : ℕ) (rest : List Bool) : Type 0 where
  pub more : ℕ
  pub front : List Bool
  pub long : length front ≡ z + more
  pub few : z + more ≤ 31
  pub spelled : v + 1 ≡ number_after 1 front
  pub parts : bits ≡ replicate more false ++ true ∷ (front ++ rest)

less_found : (f : Found) (v : ℕ) (rest : List Bool) → less_one f ≡ found v rest
    → (w : ℕ) × (f ≡ found w rest) × (w - 1 ≡ v)
less_found (found w r) v rest e = (w, cc, cc)
less_found out_of_bounds v rest e = absurd cc
less_found ended v rest e = absurd cc

chosen : (b : Bool) (x y z : Found) → cond b x y ≡ z → ((b ≡ true) × (x ≡ z)) ⊎ ((b ≡ false) × (y ≡ z))
chosen true x y z e = inl (refl, e)
chosen false x y z e = inr (refl, e)

golomb_taken : (z : ℕ) (bits : List Bool) (v : ℕ) (rest : List Bool) → z ≤ 31
    → golomb_after z bits ≡ found v rest → TakenGolomb z bits v rest
golomb_taken z [] v rest small e = absurd cc
golomb_taken z (true ∷ bits) v rest small e =
    let l = less_found (bits_after 1 z bits) v rest e in
    let t = bits_taken 1 z bits l.0 rest l.1 in
    let least = number_least 1 t.front in
    let spelled = t.spelled in
    let v_is = l.2 in
    record {
      more = 0;
      front = t.front;
      long = omega (arith, t.long);
      few = omega arith;
      spelled = omega (arith, spelled, least, v_is);
      parts = ap (λ (x : List Bool). true ∷ x) t.parts;
    }
golomb_taken z (false ∷ bits) v rest small e =
    elim (chosen (eqb z 31) out_of_bounds (golomb_after (z + 1) bits) (found v rest) e) [
      | inl p ↦ absurd (cc (p.1))
      | inr p ↦
          let ne : z ≢ 31 = eqb-false z 31 p.0 in
          let t = golomb_taken (z + 1) bits v rest (omega arith) p.1 in
          record {
            more = suc t.more;
            front = t.front;
            long = omega (arith, t.long);
            few = omega (arith, t.few);
            spelled = t.spelled;
            parts = ap (λ (x : List Bool). false ∷ x) t.parts;
          }
    ]

golomb_again : (z more : ℕ) (front rest : List Bool) → length front ≡ z + more → z + more ≤ 31
    → golomb_after z (replicate more false ++ true ∷ (front ++ rest)) ≡ found (number_after 1 front - 1) rest
golomb_again z zero front rest long few =
    let e : z ≡ length front = omega arith in
    rw (e, bits_again 1 front rest) refl
golomb_again z (suc more) front rest long few =
    let ne : eqb z 31 ≡ false = grind arith in
    rw ne (golomb_again (z + 1) more front rest (omega arith) (omega arith))

record AllZeros (z : ℕ) (bits : List Bool) : Type 0 where
  pub more : ℕ
  pub behind : List Bool
  pub many : z + more ≡ 32
  pub parts : bits ≡ replicate more false ++ behind

less_out_of_bounds : (f : Found) → less_one f ≡ out_of_bounds → f ≡ out_of_bounds
less_out_of_bounds (found w r) e = cc
less_out_of_bounds out_of_bounds e = refl
less_out_of_bounds ended e = cc

less_ended : (f : Found) → less_one f ≡ ended → f ≡ ended
less_ended (found w r) e = cc
less_ended out_of_bounds e = cc
less_ended ended e = refl

golomb_zeros : (z : ℕ) (bits : List Bool) → z ≤ 31 → golomb_after z bits ≡ out_of_bounds → AllZeros z bits
golomb_zeros z [] small e = absurd cc
golomb_zeros z (true ∷ bits) small e = absurd (bits_fit 1 z bits (less_out_of_bounds (bits_after 1 z bits) e))
golomb_zeros z (false ∷ bits) small e =
    elim (chosen (eqb z 31) out_of_bounds (golomb_after (z + 1) bits) out_of_bounds e) [
      | inl p ↦ let is : z ≡ 31 = eqb-true z 31 p.0 in record {
        more = 1;
        behind = bits;
        many = omega arith;
        parts = refl;
      }
      | inr p ↦
          let ne : z ≢ 31 = eqb-false z 31 p.0 in
          let t = golomb_zeros (z + 1) bits (omega arith) p.1 in
          record {
            more = suc t.more;
            behind = t.behind;
            many = omega (arith, t.many);
            parts = ap (λ (x : List Bool). false ∷ x) t.parts;
          }
    ]

golomb_zeros_again : (z more : ℕ) (behind : List Bool) → z ≤ 31 → z + more ≡ 32
    → golomb_after z (replicate more false ++ behind) ≡ out_of_bounds
golomb_zeros_again z zero behind small many = absurd (omega arith)
golomb_zeros_again z (suc zero) behind small many =
    let e : eqb z 31 ≡ true = grind arith in
    rw e refl
golomb_zeros_again z (suc (suc more)) behind small many =
    let ne : eqb z 31 ≡ false = grind arith in
    rw ne (golomb_zeros_again (z + 1) (suc more) behind (omega arith) (omega arith))

-- how the bits end within a number: among its zeros, or after its one
record EndsGolomb (z : ℕ) (bits : List Bool) : Type 0 where
  pub more : ℕ
  pub front : List Bool
  pub lacking : List Bool
  pub some : lacking ≢ []
  pub long : length front ≡ z + more
  pub few : z + more ≤ 31
  pub parts : bits ++ lacking ≡ replicate more false ++ true ∷ front

length-zeros : (k : ℕ) → length (replicate k false) ≡ k
length-zeros zero = refl
length-zeros (suc k) = ap suc (length-zeros k)

nonempty : (xs : List Bool) (n : ℕ) → length xs ≡ suc n → xs ≢ []
nonempty [] n e = λ h. omega arith
nonempty (x ∷ xs) n e = λ h. cc

golomb_ends : (z : ℕ) (bits : List Bool) → z ≤ 31 → golomb_after z bits ≡ ended → EndsGolomb z bits
golomb_ends z [] small e = record {
  more = 0;
  front = replicate z false;
  lacking = true ∷ replicate z false;
  some = λ h. cc;
  long = omega (arith, length-zeros z);
  few = omega arith;
  parts = refl;
}
golomb_ends z (true ∷ bits) small e =
    let short = bits_short 1 z bits (less_ended (bits_after 1 z bits) e) in
    let gap = z - length bits in
    let tail : List Bool = replicate gap false in
    let len : length tail ≡ gap = length-zeros gap in
    record {
      more = 0;
      front = bits ++ tail;
      lacking = tail;
      some = nonempty tail (gap - 1) (omega arith);
      long = omega (arith, length-append bits tail);
      few = omega arith;
      parts = refl;
    }
golomb_ends z (false ∷ bits) small e =
    elim (chosen (eqb z 31) out_of_bounds (golomb_after (z + 1) bits) ended e) [
      | inl p ↦ absurd (cc (p.1))
      | inr p ↦
          let ne : z ≢ 31 = eqb-false z 31 p.0 in
          let t = golomb_ends (z + 1) bits (omega arith) p.1 in
          record {
            more = suc t.more;
            front = t.front;
            lacking = t.lacking;
            some = t.some;
            long = omega (arith, t.long);
            few = omega (arith, t.few);
            parts = ap (λ (x : List Bool). false ∷ x) t.parts;
          }
    ]

-- ---- each form

-- the bits that were taken for a value
pub record Front (form : Form) (bits : List Bool) (v : ℕ) (rest : List Bool) : Type 0 where
  pub front : List Bool
  pub spelled : IsSpelled form v front
  pub parts : bits ≡ front ++ rest

bits_front : (n : ℕ) (bits : List Bool) (v : ℕ) (rest : List Bool) → bits_at n bits ≡ found v rest
    → Taken 0 n bits v rest
bits_front n bits v rest e = bits_taken 0 n bits v rest (sym (bits_at-is n bits) ∙ e)

golomb_front : (bits : List Bool) (v : ℕ) (rest : List Bool) → golomb_at bits ≡ found v rest → Front ue bits v rest
golomb_front bits v rest e =
    let t = golomb_taken 0 bits v rest (omega arith) (sym (golomb_at-is bits) ∙ e) in
    let long : t.more ≡ length t.front = omega (arith, t.long) in
    record {
      front = replicate (length t.front) false ++ true ∷ t.front;
      spelled = record { rest = t.front; short = omega (arith, t.few, t.long); parts = refl; value_is = t.spelled };
      parts = rw (← long) (t.parts ∙ sym (append_assoc (replicate t.more false) (true ∷ t.front) rest));
    }

pub form_front : (form : Form) (bits : List Bool) (v : ℕ) (rest : List Bool)
    → form_at form bits ≡ found v rest → Front form bits v rest
form_front (u n) bits v rest e = let t = bits_front n bits v rest e in record {
  front = t.front;
  spelled = (t.long, t.spelled);
  parts = t.parts;
}
form_front ue bits v rest e = golomb_front bits v rest e
form_front se bits v rest e = let t = golomb_front bits v rest e in record {
  front = t.front;
  spelled = t.spelled;
  parts = t.parts;
}
form_front (skip n) bits v rest e = let t = bits_front n bits v rest e in record {
  front = t.front;
  spelled = (t.long, t.spelled);
  parts = t.parts;
}
form_front check bits v rest e = record { front = []; spelled = (refl, cc); parts = cc }

bits_spelled : (n v : ℕ) (front rest : List Bool) → length front ≡ n → number front ≡ v
    → bits_at n (front ++ rest) ≡ found v rest
bits_spelled n v front rest long is =
    rw (← long, ← is) (bits_at-is (length front) (front ++ rest) ∙ bits_again 0 front rest)

golomb_spelled : (v : ℕ) (front rest : List Bool) → IsExpGolomb v front → golomb_at (front ++ rest) ≡ found v rest
golomb_spelled v front rest s =
    let is : number_after 1 s.rest - 1 ≡ v = omega (arith, s.value_is) in
    let e : front ++ rest ≡ replicate (length s.rest) false ++ true ∷ (s.rest ++ rest) =
    ap (λ (x : List Bool). x ++ rest) s.parts ∙ append_assoc (replicate (length s.rest) false) (true ∷ s.rest) rest in
    golomb_at-is (front ++ rest)
    ∙ rw e (golomb_again 0 (length s.rest) s.rest rest (omega arith) (omega (arith, s.short))
    ∙ ap (λ (x : ℕ). found x rest) is)

pub form_spelled : (form : Form) (v : ℕ) (front rest : List Bool) → IsSpelled form v front
    → form_at form (front ++ rest) ≡ found v rest
form_spelled (u n) v front rest s = bits_spelled n v front rest s.0 s.1
form_spelled ue v front rest s = golomb_spelled v front rest s
form_spelled se v front rest s = golomb_spelled v front rest s
form_spelled (skip n) v front rest s = bits_spelled n v front rest s.0 s.1
form_spelled check v front rest s = rw (s.0, s.1) refl

bits_never : (n : ℕ) (bits : List Bool) → bits_at n bits ≡ out_of_bounds → ⊥
bits_never n bits e = bits_fit 0 n bits (sym (bits_at-is n bits) ∙ e)

golomb_great : (bits : List Bool) → golomb_at bits ≡ out_of_bounds → BeginsWithZeros bits
golomb_great bits e =
    let t = golomb_zeros 0 bits (omega arith) (sym (golomb_at-is bits) ∙ e) in
    let many : t.more ≡ 32 = omega (arith, t.many) in
    record { behind = t.behind; parts = t.parts ∙ ap (λ (k : ℕ). replicate k false ++ t.behind) many }

pub form_great : (form : Form) (bits : List Bool) → form_at form bits ≡ out_of_bounds
    → IsGolomb form × BeginsWithZeros bits
form_great (u n) bits e = absurd (bits_never n bits e)
form_great ue bits e = (tt, golomb_great bits e)
form_great se bits e = (tt, golomb_great bits e)
form_great (skip n) bits e = absurd (bits_never n bits e)
form_great check bits e = absurd cc

golomb_great_again : (bits : List Bool) → BeginsWithZeros bits → golomb_at bits ≡ out_of_bounds
golomb_great_again bits z = golomb_at-is bits ∙ ap (golomb_after 0) z.parts
    ∙ golomb_zeros_again 0 32 z.behind (omega arith) (omega arith)

pub form_great_again : (form : Form) (bits : List Bool) → IsGolomb form → BeginsWithZeros bits
    → form_at form bits ≡ out_of_bounds
form_great_again (u n) bits g z = absurd g
form_great_again ue bits g z = golomb_great_again bits z
form_great_again se bits g z = golomb_great_again bits z
form_great_again (skip n) bits g z = absurd g
form_great_again check bits g z = absurd g

bits_ended : (n : ℕ) (bits : List Bool) → bits_at n bits ≡ ended → length bits < n
bits_ended n bits e = bits_short 0 n bits (sym (bits_at-is n bits) ∙ e)

bits_end : (n : ℕ) (bits : List Bool) → length bits < n
    → (lacking : List Bool) × (lacking ≢ []) × (length (bits ++ lacking) ≡ n)
bits_end n bits short =
    let gap = n - length bits in
    let tail : List Bool = replicate gap false in
    let len : length tail ≡ gap = length-zeros gap in
    (tail, nonempty tail (gap - 1) (omega arith), omega (arith, length-append bits tail))

golomb_ended : (bits : List Bool) → golomb_at bits ≡ ended → EndsWithin ue bits
golomb_ended bits e =
    let t = golomb_ends 0 bits (omega arith) (sym (golomb_at-is bits) ∙ e) in
    let long : t.more ≡ length t.front = omega (arith, t.long) in
    let least = number_least 1 t.front in
    record {
      value = number_after 1 t.front - 1;
      lacking = t.lacking;
      some = t.some;
      spelled = record {
        rest = t.front;
        short = omega (arith, t.few, t.long);
        parts = rw (← long) t.parts;
        value_is = omega arith;
      };
    }

pub form_ended : (form : Form) (bits : List Bool) → form_at form bits ≡ ended → EndsWithin form bits
form_ended (u n) bits e = let t = bits_end n bits (bits_ended n bits e) in record {
  value = number (bits ++ t.0);
  lacking = t.0;
  some = t.1;
  spelled = (t.2, refl);
}
form_ended ue bits e = golomb_ended bits e
form_ended se bits e = let t = golomb_ended bits e in record {
  value = t.value;
  lacking = t.lacking;
  some = t.some;
  spelled = t.spelled;
}
form_ended (skip n) bits e = let t = bits_end n bits (bits_ended n bits e) in record {
  value = number (bits ++ t.0);
  lacking = t.0;
  some = t.1;
  spelled = (t.2, refl);
}
form_ended check bits e = absurd cc

-- a list that something follows is not empty
append-not_nil : (a b : List Bool) → b ≢ [] → a ++ b ≢ []
append-not_nil [] b h = h
append-not_nil (x ∷ a) b h = λ e. cc

pub form_ended_again : (form : Form) (bits : List Bool) → EndsWithin form bits → form_at form bits ≡ ended
form_ended_again form bits t = by_cases (form_at form bits) refl
  where
    whole : form_at form (bits ++ t.lacking) ≡ found t.value []
    whole = ap (form_at form) (sym (append-nil (bits ++ t.lacking)))
        ∙ form_spelled form t.value (bits ++ t.lacking) [] t.spelled

    by_cases : (f : Found) → form_at form bits ≡ f → form_at form bits ≡ ended
    by_cases ended e = e
    by_cases out_of_bounds e =
        let g = form_great form bits e in
        let z : BeginsWithZeros (bits ++ t.lacking) = record {
          behind = g.1.behind ++ t.lacking;
          parts = ap (λ (x : List Bool). x ++ t.lacking) g.1.parts
              ∙ append_assoc (replicate 32 false) g.1.behind t.lacking;
        } in
        let great = form_great_again form (bits ++ t.lacking) g.0 z in
        absurd (cc (whole, great))
    by_cases (found v rest) e =
        let f = form_front form bits v rest e in
        let regrouped : bits ++ t.lacking ≡ f.front ++ (rest ++ t.lacking) =
        ap (λ (x : List Bool). x ++ t.lacking) f.parts ∙ append_assoc f.front rest t.lacking in
        let again : form_at form (bits ++ t.lacking) ≡ found v (rest ++ t.lacking) =
        ap (form_at form) regrouped ∙ form_spelled form v f.front (rest ++ t.lacking) f.spelled in
        let empty : rest ++ t.lacking ≡ [] = cc (whole, again) in
        absurd (append-not_nil rest t.lacking t.some empty)
