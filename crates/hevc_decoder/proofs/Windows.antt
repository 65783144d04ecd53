-- Where the last start code of a window is.
use Rattle.std.proofs.Common.{◌≡◌, ◌≤◌, ◌<◌, ◌+◌, ◌-◌, ℕ, Bool, true, false, List, ◌++◌, take, drop}
use Rattle.std.proofs.Common.{get_or, length, refl, sym, ap, subst, ◌∙◌, arith}
use Rattle.std.specs.Prelude.{◌⊎◌, nat_le, ◌==◌, if◌then◌else◌}
use Rattle.std.proofs.lemmas.Bool.{eqb-true}
use Rattle.std.proofs.lemmas.Bool.Decides.{nat_tests}
use Rattle.std.proofs.lemmas.List.{get_or-drop, get_or-take, length-take}
use Rattle.std.proofs.Math.ListN.{length-drop, get_or-append}
use Rattle.memchr.specs.Find.{Nowhere, Passes, is_byte}
use Rattle.hevc_bits.specs.StartCode.{StandsAt, NoneStands}
use Rattle.hevc_spec.specs.Units.{begins_with_start_code}
use Rattle.hevc_bits.proofs.StartCodes.{begins_at, none_joined}
use Rattle.hevc_decoder.specs.Windows.{IsLastStart, lead_length}

-- the bytes of a window from one place to another
abbrev part : List ℕ → (from to : ℕ) → List ℕ
part bytes from to = take (to - from) (drop from bytes)

part_at : (bytes : List ℕ) (from to place : ℕ) → from ≤ place → place < to
    → get_or (part bytes from to) (place - from) 0 ≡ get_or bytes place 0
part_at bytes from to place low high =
    get_or-take (to - from) (drop from bytes) (place - from) 0 (omega (arith, low, high))
    ∙ get_or-drop from bytes (place - from) 0 ∙ grind (arith, low)

length-part : (bytes : List ℕ) (from to : ℕ) → to ≤ length bytes → length (part bytes from to) ≡ to - from
length-part bytes from to within = length-take (to - from) (drop from bytes)
    ∙ grind (arith, length-drop from bytes, within)

-- a start code is at a place, and ends after the bytes that were seen
abbrev pub EndsBehind : List ℕ → (seen place : ℕ) → Type 0
EndsBehind bytes seen place = (seen ≤ place + 2) × StandsAt bytes place

-- no start code ends after a place
abbrev pub NoneBehind : List ℕ → (seen place : ℕ) → Type 0
NoneBehind bytes seen place = (start : ℕ) → place ≤ start + 2 → ¬ EndsBehind bytes seen start

-- where no byte is 1, no start code ends
pub none_ends : (bytes : List ℕ) (seen to low : ℕ) → to ≤ length bytes
    → Nowhere (Passes (is_byte 1) (part bytes seen to)) low (length (part bytes seen to))
    → NoneBehind bytes seen to → NoneBehind bytes seen (seen + low)
none_ends bytes seen to low within nowhere behind start at ends = by_place (nat_le to (start + 2)) refl
  where
    by_place : (b : Bool) → nat_le to (start + 2) ≡ b → ⊥
    by_place true t = behind start (grind (arith, nat_tests, t)) ends
    by_place false t =
        let here : start + 2 < to = grind (arith, nat_tests, t) in
        let one : get_or (part bytes seen to) (start + 2 - seen) 0 ≡ 1 =
        part_at bytes seen to (start + 2) (omega (arith, at)) here ∙ ends.1.3 in
        let long = length-part bytes seen to within in
        nowhere (start + 2 - seen) (omega (arith, at)) (omega (arith, at, here, long)) (rw one refl)

-- the last 1 isn't the end of a start code
pub none_here : (bytes : List ℕ) (seen one : ℕ) → NoneBehind bytes seen (one + 1)
    → (2 ≤ one → StandsAt bytes (one - 2) → ⊥) → NoneBehind bytes seen one
none_here bytes seen one behind other start at ends = by_place (one == start + 2) refl
  where
    by_place : (b : Bool) → (one == start + 2) ≡ b → ⊥
    by_place true t =
        let is : one - 2 ≡ start = grind (arith, nat_tests, t) in
        other (grind (arith, nat_tests, t)) (subst (λ (k : ℕ). StandsAt bytes k) (sym is) ends.1)
    by_place false t = behind start (grind (arith, nat_tests, t, at)) ends

pub stands_at : (bytes : List ℕ) (one : ℕ) → 2 ≤ one → one < length bytes → get_or bytes (one - 2) 0 ≡ 0
    → get_or bytes (one - 1) 0 ≡ 0 → get_or bytes one 0 ≡ 1 → StandsAt bytes (one - 2)
stands_at bytes one above within a b c =
    let second : one - 2 + 1 ≡ one - 1 = omega (arith, above) in
    let third : one - 2 + 2 ≡ one = omega (arith, above) in (
      omega (arith, third, within),
      a,
      ap (λ (k : ℕ). get_or bytes k 0) second ∙ b,
      ap (λ (k : ℕ). get_or bytes k 0) third ∙ c,
    )

-- what is at the place of the last 1
pub one_at : (bytes : List ℕ) (seen to k : ℕ) → to ≤ length bytes → k < length (part bytes seen to)
    → Passes (is_byte 1) (part bytes seen to) k → (seen + k < length bytes) × (get_or bytes (seen + k) 0 ≡ 1)
one_at bytes seen to k within below here =
    let long = length-part bytes seen to within in
    let place : seen + k < to = omega (arith, long, below) in
    let same : seen + k - seen ≡ k = omega arith in (
      omega (arith, place, within),
      sym (part_at bytes seen to (seen + k) (omega arith) place)
          ∙ ap (λ (n : ℕ). get_or (part bytes seen to) n 0) same ∙ eqb-true _ 1 here,
    )

pub second : (bytes : List ℕ) (one : ℕ) → 2 ≤ one → StandsAt bytes (one - 2) → get_or bytes (one - 1) 0 ≡ 0
second bytes one above stands =
    let same : one - 1 ≡ one - 2 + 1 = omega (arith, above) in
    ap (λ (k : ℕ). get_or bytes k 0) same ∙ stands.2

-- it is the last start code
pub last_start : (bytes : List ℕ) (seen found : ℕ) → (found ≡ 0) ⊎ EndsBehind bytes seen found
    → NoneBehind bytes seen (found + 3) → IsLastStart bytes seen found
last_start bytes seen found there none =
    (there, λ k low high stands. none k (omega (arith, low)) (omega (arith, low), stands))

-- ---- what is left in the window

-- after the last start code, and before it where none was seen, no other is
pub one_left : (window : List ℕ) (seen found : ℕ) → IsLastStart window seen found
    → NoneStands window 1 (seen - 2) → NoneStands (drop found window) 1 (length (drop found window))
one_left window seen found last before place behind within stands = by_place (nat_le seen (found + place + 2)) refl
  where
    moved : (k v : ℕ) → get_or (drop found window) (place + k) 0 ≡ v → get_or window (found + place + k) 0 ≡ v
    moved k v e = let same : found + (place + k) ≡ found + place + k =
        omega arith in ap (λ (n : ℕ). get_or window n 0) (sym same) ∙ sym (get_or-drop found window (place + k) 0) ∙ e

    there : StandsAt window (found + place)
    there =
        let long = length-drop found window in (
          omega (arith, stands.0, long),
          sym (get_or-drop found window place 0) ∙ stands.1,
          moved 1 0 stands.2,
          moved 2 1 stands.3,
        )

    by_place : (b : Bool) → nat_le seen (found + place + 2) ≡ b → ⊥
    by_place true t =
        let low : seen ≤ found + place + 2 = grind (arith, nat_tests, t) in
        last.1 (found + place) (omega (arith, behind, low)) (omega (arith, there.0)) there
    by_place false t =
        let low : found + place + 2 < seen = grind (arith, nat_tests, t) in
        before (found + place) (omega (arith, behind)) (omega (arith, low)) there

-- more bytes come after a window
pub one_seen : (window more : List ℕ) (from : ℕ) → NoneStands window from (length window)
    → NoneStands (window ++ more) from (length window - 2)
one_seen window more from one place behind seen stands =
    one place behind (omega (arith, seen)) (
      omega (arith, seen),
      at place (omega (arith, seen)) ∙ stands.1,
      at (place + 1) (omega (arith, seen)) ∙ stands.2,
      at (place + 2) (omega (arith, seen)) ∙ stands.3,
    )
  where
    at : (k : ℕ) → k < length window → get_or window k 0 ≡ get_or (window ++ more) k 0
    at k within = sym (get_or-append window more 0 k within)

-- ---- what is before the first start code

-- a start code that isn't at the front is nowhere
none_there : (window : List ℕ) → begins_with_start_code window ≡ false → NoneStands window 1 (length window)
    → NoneStands window 0 (length window)
none_there window other one = none_joined window 0 1 (length window)
    (λ place _ first stands. grind (arith, begins_at window place stands, other, first)) one

-- none begins in the bytes that are given up, whatever comes after the window
pub lead_without : (window more : List ℕ) → NoneStands window 1 (length window)
    → NoneStands (window ++ more) 0 (lead_length window)
lead_without window more one = by_test (begins_with_start_code window) refl
  where
    by_test : (b : Bool) → begins_with_start_code window ≡ b
        → NoneStands (window ++ more) 0 (if b then 0 else length window - 2)
    by_test true is = λ place _ below. absurd (omega (arith, below))
    by_test false is = one_seen window more 0 (none_there window is one)

pub lead_within : (window : List ℕ) → lead_length window ≤ length window
lead_within window = by_test (begins_with_start_code window)
  where
    by_test : (b : Bool) → (if b then 0 else length window - 2) ≤ length window
    by_test true = omega arith
    by_test false = omega arith

-- bytes of which some are given up keep their only start code
pub one_kept : (window : List ℕ) → NoneStands window 1 (length window)
    → NoneStands (drop (lead_length window) window) 1 (length (drop (lead_length window) window))
one_kept window one = by_test (begins_with_start_code window) refl
  where
    few : NoneStands (drop (length window - 2) window) 1 (length (drop (length window - 2) window))
    few place behind within stands = let long = length-drop (length window - 2) window in
        absurd (omega (arith, long, behind, stands.0))

    by_test : (b : Bool) → begins_with_start_code window ≡ b
        → NoneStands (drop (if b then 0 else length window - 2) window) 1
        (length (drop (if b then 0 else length window - 2) window))
    by_test true is = one
    by_test false is = few
