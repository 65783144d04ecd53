-- A payload doesn't end in 00 where the body of its value doesn't.
use Rattle.std.proofs.Common.{◌≡◌, ◌≢◌, ℕ, ◌+◌, ◌-◌, ◌*◌, ◌%◌, ◌≤◌, Bool, true, false, cond, eqb}
use Rattle.std.proofs.Common.{List, [], ◌∷◌, ◌++◌, length, get_or, refl, sym, ap, ◌∙◌, arith}
use Rattle.std.specs.Prelude.{◌&&◌, replicate}
use Rattle.hevc_spec.specs.Bits.{number, number_after}
use Rattle.hevc_spec.specs.Units.{is_empty, without_trailing_zeros}
use Rattle.hevc_bit_writer.specs.Writing.{packed, trailing_bits}
use Rattle.hevc_write_units.specs.Payloads.{with_trailing_bits}

-- ---- bytes one after another

-- the bytes after the first don't end in 00, and where there are none the first isn't 00
record IsEnding (byte : ℕ) (bytes : List ℕ) : Type 0 where
  pub rest : without_trailing_zeros bytes ≡ bytes
  pub last : bytes ≡ [] → eqb byte 0 ≡ false

-- how bytes end that do not end in zeros
ending : (byte : ℕ) (bytes : List ℕ) → without_trailing_zeros (byte ∷ bytes) ≡ byte ∷ bytes → IsEnding byte bytes
ending byte bytes e = by_test (eqb byte 0) (is_empty (without_trailing_zeros bytes)) refl refl e
  where
    by_test : (z none : Bool) → eqb byte 0 ≡ z → is_empty (without_trailing_zeros bytes) ≡ none
        → cond (z && none) [] (byte ∷ without_trailing_zeros bytes) ≡ byte ∷ bytes → IsEnding byte bytes
    by_test true true f g h = absurd cc
    by_test true false f g h =
        let same : without_trailing_zeros bytes ≡ bytes = cc in
        record { rest = same; last = λ none. absurd (cc (g, ap is_empty (same ∙ none))) }
    by_test false none f g h = record { rest = cc; last = λ empty. f }

-- what is not so is not so with more
and_false : (t : Bool) → (t && false) ≡ false
and_false true = refl
and_false false = refl

-- a byte before such bytes
pub trimmed_cons : (byte : ℕ) (bytes : List ℕ) → without_trailing_zeros bytes ≡ bytes
    → (bytes ≡ [] → eqb byte 0 ≡ false) → without_trailing_zeros (byte ∷ bytes) ≡ byte ∷ bytes
trimmed_cons byte [] rest last = rw (last refl) refl
trimmed_cons byte (b ∷ bytes) rest last =
    rw (rest, and_false (eqb byte 0)) refl

-- a list that begins with an item is not empty
nonempty : (xs ys : List ℕ) (x : ℕ) → (x ∷ xs) ++ ys ≡ [] → ⊥
nonempty xs ys x e = cc

-- bytes that do not end in zeros, after others that do not
pub trimmed_append : (xs ys : List ℕ) → without_trailing_zeros xs ≡ xs → without_trailing_zeros ys ≡ ys
    → without_trailing_zeros (xs ++ ys) ≡ xs ++ ys
trimmed_append [] ys e f = f
trimmed_append (x ∷ []) ys e f = trimmed_cons x ys f (λ none. (ending x [] e).last refl)
trimmed_append (x ∷ y ∷ xs) ys e f =
    let end = ending x (y ∷ xs) e in
    trimmed_cons x ((y ∷ xs) ++ ys) (trimmed_append (y ∷ xs) ys end.rest f) (λ none. absurd (nonempty xs ys y none))

-- ---- the bytes of bits that end in a one and zeros

-- more bits make no smaller number
number_least : (n : ℕ) (bits : List Bool) → n ≤ number_after n bits
number_least n [] = omega arith
number_least n (b ∷ bits) = let h = number_least (2 * n + cond b 1 0) bits in omega arith

-- a one after bits isn't lost
some_after : (n : ℕ) (front back : List Bool) → 1 ≤ number_after n (front ++ true ∷ back)
some_after n [] back = let h = number_least (2 * n + 1) back in omega arith
some_after n (b ∷ front) back = some_after (2 * n + cond b 1 0) front back

-- a byte with a one in it is not 0
is_some : (front back : List Bool) → eqb (number (front ++ true ∷ back)) 0 ≡ false
is_some front back = let h = some_after 0 front back in grind arith

-- so it is no zero at the end
one_byte : (front back : List Bool)
    → without_trailing_zeros (number (front ++ true ∷ back) ∷ []) ≡ number (front ++ true ∷ back) ∷ []
one_byte front back = trimmed_cons (number (front ++ true ∷ back)) [] refl (λ none. is_some front back)

-- they aren't none
is_whole : (bits : List Bool) → packed (with_trailing_bits bits) ≡ [] → ⊥
is_whole [] e = cc
is_whole (a ∷ []) e = cc
is_whole (a ∷ b ∷ []) e = cc
is_whole (a ∷ b ∷ c ∷ []) e = cc
is_whole (a ∷ b ∷ c ∷ d ∷ []) e = cc
is_whole (a ∷ b ∷ c ∷ d ∷ f ∷ []) e = cc
is_whole (a ∷ b ∷ c ∷ d ∷ f ∷ g ∷ []) e = cc
is_whole (a ∷ b ∷ c ∷ d ∷ f ∷ g ∷ h ∷ []) e = cc
is_whole (a ∷ b ∷ c ∷ d ∷ f ∷ g ∷ h ∷ i ∷ bits) e = cc

-- trailing bits go by the place in a byte
trailing_again : (n m : ℕ) → n ≡ m + 8 → trailing_bits n ≡ trailing_bits m
trailing_again n m e =
    let same : 7 - n % 8 ≡ 7 - m % 8 = omega arith in
    ap (λ (k : ℕ). true ∷ replicate k false) same

-- bits with trailing bits do not end in a byte 0
pub packed_trimmed : (bits : List Bool)
    → without_trailing_zeros (packed (with_trailing_bits bits)) ≡ packed (with_trailing_bits bits)
packed_trimmed [] = one_byte [] (replicate 7 false)
packed_trimmed (a ∷ []) = one_byte (a ∷ []) (replicate 6 false)
packed_trimmed (a ∷ b ∷ []) = one_byte (a ∷ b ∷ []) (replicate 5 false)
packed_trimmed (a ∷ b ∷ c ∷ []) = one_byte (a ∷ b ∷ c ∷ []) (replicate 4 false)
packed_trimmed (a ∷ b ∷ c ∷ d ∷ []) = one_byte (a ∷ b ∷ c ∷ d ∷ []) (replicate 3 false)
packed_trimmed (a ∷ b ∷ c ∷ d ∷ e ∷ []) = one_byte (a ∷ b ∷ c ∷ d ∷ e ∷ []) (replicate 2 false)
packed_trimmed (a ∷ b ∷ c ∷ d ∷ e ∷ f ∷ []) = one_byte (a ∷ b ∷ c ∷ d ∷ e ∷ f ∷ []) (replicate 1 false)
packed_trimmed (a ∷ b ∷ c ∷ d ∷ e ∷ f ∷ g ∷ []) = one_byte (a ∷ b ∷ c ∷ d ∷ e ∷ f ∷ g ∷ []) []
packed_trimmed (a ∷ b ∷ c ∷ d ∷ e ∷ f ∷ g ∷ h ∷ bits) =
    let n = length bits in
    let again : trailing_bits (length (a ∷ b ∷ c ∷ d ∷ e ∷ f ∷ g ∷ h ∷ bits)) ≡ trailing_bits n =
    trailing_again (length (a ∷ b ∷ c ∷ d ∷ e ∷ f ∷ g ∷ h ∷ bits)) n (omega arith) in
    let first = number (a ∷ b ∷ c ∷ d ∷ e ∷ f ∷ g ∷ h ∷ []) in
    let parts : packed (with_trailing_bits (a ∷ b ∷ c ∷ d ∷ e ∷ f ∷ g ∷ h ∷ bits)) ≡ first ∷ packed
    (with_trailing_bits bits) = ap (λ (t : List Bool). first ∷ packed (bits ++ t)) again in
    ap without_trailing_zeros parts ∙ trimmed_cons first (packed (with_trailing_bits bits))
    (packed_trimmed bits) (λ none. absurd (is_whole bits none)) ∙ sym parts

-- nor do they with a body that does not
pub payload_trimmed : (bits : List Bool) (body : List ℕ) → without_trailing_zeros body ≡ body
    → without_trailing_zeros (packed (with_trailing_bits bits) ++ body) ≡ packed (with_trailing_bits bits) ++ body
payload_trimmed bits body trimmed = trimmed_append (packed (with_trailing_bits bits)) body (packed_trimmed bits) trimmed

-- ---- the last byte

-- the last byte of such bytes is not 0
pub last_byte : (byte : ℕ) (bytes : List ℕ) → without_trailing_zeros (byte ∷ bytes) ≡ byte ∷ bytes
    → get_or (byte ∷ bytes) (length bytes) 0 ≢ 0
last_byte byte [] e = let h = (ending byte [] e).last refl in grind (arith, h)
last_byte byte (b ∷ bytes) e = last_byte b bytes (ending byte (b ∷ bytes) e).rest

-- and the other way round
pub by_last : (byte : ℕ) (bytes : List ℕ) → get_or (byte ∷ bytes) (length bytes) 0 ≢ 0
    → without_trailing_zeros (byte ∷ bytes) ≡ byte ∷ bytes
by_last byte [] some = trimmed_cons byte [] refl (λ none. grind (arith, some))
by_last byte (b ∷ bytes) some = trimmed_cons byte (b ∷ bytes) (by_last b bytes some)
    (λ none. absurd (nonempty [] bytes b none))
