-- Which matrices table 6 gives.
use Rattle.std.proofs.Common.{◌≡◌, ℕ, zero, suc, ◌+◌, ◌-◌, ◌*◌, ◌/◌, ◌<◌, ◌≤◌, Bool, true, false}
use Rattle.std.proofs.Common.{List, [], ◌∷◌, length, set, get_or, replicate, refl, sym, subst, ◌∙◌}
use Rattle.std.proofs.Common.{arith}
use Rattle.std.specs.Prelude.{ℤ, pos, negsuc, ◌+ℤ◌, ◌≤ℤ◌, ◌==◌, unsigned_abs, slice_get, unwrap_or, if◌then◌else◌}
use Rattle.std.proofs.lemmas.Int.{ints}
use Rattle.std.proofs.lemmas.List.{length-set, length-replicate}
use Rattle.std.proofs.lemmas.Bool.{true≢false}
use Rattle.std.proofs.lemmas.Bool.Decides.{nat_tests}
use Rattle.std.proofs.lemmas.Grind.{common_steps}
use Rattle.hevc_spec.specs.Bits.{signed, in_signed_range}
use Rattle.hevc_spec.specs.Table.{done, part}
use Rattle.hevc_spec.specs.Rows.{row}
use Rattle.hevc_records.specs.DefaultScalingLists.{flat_list, default_lists_8x8}
use Rattle.hevc_tables.specs.ScalingListTable.{Size, size_4x4, size_8x8, size_16x16, size_32x32}
use Rattle.hevc_tables.specs.ScalingListTable.{coef_num, has_dc_coef, matrix_step, has_matrix}
use Rattle.hevc_tables.specs.ScalingListTable.{Coefs, sum_modulo_256, next_entry, coefs, Matrices}
use Rattle.hevc_tables.specs.ScalingListTable.{no_matrices, list_of, with_matrix, with_default}
use Rattle.hevc_tables.specs.ScalingListTable.{with_copy, ref_matrix, coded_matrix}
use Rattle.hevc_tables.specs.ScalingListTable.{predicted_matrix, matrix, next_matrix, matrices}
use Rattle.hevc_write_elements.proofs.Given.{EachGiven, done_given, then_given, flag_given}
use Rattle.hevc_write_elements.proofs.Given.{ue_given, se_given, when_given, either_given}
use Rattle.hevc_write_elements.proofs.Given.{turns_given}

-- ---- shapes

abbrev pub AllBytes : List ℕ → Type 0
AllBytes [] = Unit {0}
AllBytes (e ∷ es) = (e < 256) × AllBytes es

pub record IsList (size : Size) (l : List ℕ) : Type 0 where
  pub long : length l ≡ coef_num size
  pub bytes : AllBytes l

pub record IsDc (d : ℤ) : Type 0 where
  pub least : negsuc 6 ≤ℤ d
  pub most : d ≤ℤ pos 247

-- a matrix that a size doesn't have is zeros
pub record IsOne (size : Size) (i : ℕ) (d : ℤ) (l : List ℕ) : Type 0 where
  pub dc : IsDc d
  pub entries : IsList size l
  pub lacking : has_matrix size i ≡ false → (d ≡ pos 0) × (l ≡ replicate (coef_num size) 0)

abbrev pub AreShaped : Size → ℕ → List ℤ → List (List ℕ) → Type 0
AreShaped size i [] [] = Unit {0}
AreShaped size i [] (l ∷ ls) = ⊥
AreShaped size i (d ∷ ds) [] = ⊥
AreShaped size i (d ∷ ds) (l ∷ ls) = IsOne size i d l × AreShaped size (i + 1) ds ls

-- zeros are bytes
zeros_bytes : (n : ℕ) → AllBytes (replicate n 0)
zeros_bytes zero = tt
zeros_bytes (suc n) = (omega arith, zeros_bytes n)

-- bytes stay bytes where one is set
set_bytes : (l : List ℕ) (i v : ℕ) → v < 256 → AllBytes l → AllBytes (set l i v)
set_bytes [] i v lt h = tt
set_bytes (e ∷ es) zero v lt h = (lt, h.1)
set_bytes (e ∷ es) (suc i) v lt h = (h.0, set_bytes es i v lt h.1)

-- 0 is a first entry, less 8
zero_dc : IsDc (pos 0)
zero_dc = record { least = grind arith; most = grind arith }

-- zeros are a list of the size
zeros_list : (size : Size) → IsList size (replicate (coef_num size) 0)
zeros_list size = record { long = length-replicate (coef_num size) 0; bytes = zeros_bytes (coef_num size) }

-- where nothing was read the lists have their shape
none_shaped : (size : Size) (n i : ℕ)
    → AreShaped size i (replicate n (pos 0)) (replicate n (replicate (coef_num size) 0))
none_shaped size zero i = tt
none_shaped size (suc n) i =
    (record { dc = zero_dc; entries = zeros_list size; lacking = λ _. (refl, refl) }, none_shaped size n (i + 1))

-- they have it where a matrix is set
set_shaped : (size : Size) (s i : ℕ) (ds : List ℤ) (ls : List (List ℕ)) (d : ℤ) (l : List ℕ)
    → IsOne size (s + i) d l → AreShaped size s ds ls → AreShaped size s (set ds i d) (set ls i l)
set_shaped size s i [] [] d l one h = tt
set_shaped size s i [] (k ∷ ls) d l one h = absurd h
set_shaped size s i (c ∷ ds) [] d l one h = absurd h
set_shaped size s zero (c ∷ ds) (k ∷ ls) d l one h =
    let here : s + 0 ≡ s = omega arith in
    (subst (λ (j : ℕ). IsOne size j d l) here one, h.1)
set_shaped size s (suc i) (c ∷ ds) (k ∷ ls) d l one h =
    let here : s + suc i ≡ s + 1 + i = omega arith in
    (h.0, set_shaped size (s + 1) i ds ls d l (subst (λ (j : ℕ). IsOne size j d l) here one) h.1)

-- each matrix of them has its own
at_shaped : (size : Size) (s i : ℕ) (ds : List ℤ) (ls : List (List ℕ)) → i < length ds
    → AreShaped size s ds ls → IsDc (unwrap_or (slice_get ds i) (pos 0)) × IsList size (list_of ls i)
at_shaped size s i [] [] lt h = absurd (omega arith)
at_shaped size s i [] (k ∷ ls) lt h = absurd h
at_shaped size s i (c ∷ ds) [] lt h = absurd h
at_shaped size s zero (c ∷ ds) (k ∷ ls) lt h = (h.0.dc, h.0.entries)
at_shaped size s (suc i) (c ∷ ds) (k ∷ ls) lt h = at_shaped size (s + 1) i ds ls (omega arith) h.1

-- ---- what the table gives

-- a sum modulo 256 is a byte
sum_byte : (n : ℕ) (delta : ℤ) → sum_modulo_256 n delta < 256
sum_byte n delta = omega arith

-- entries that are read are bytes, as many as were asked for
coefs_given : (count start : ℕ) → EachGiven (coefs count start) (λ c. (length c.entries ≡ count) × AllBytes c.entries)
unfolding coefs next_entry
coefs_given count start = turns_given next_entry (λ (c : Coefs). (length c.entries ≡ count) × AllBytes c.entries) count
    (λ i c lt h. then_given (se_given (row 6 4) (negsuc 127) (pos 127)
    (λ v ok. done_given (
      length-set c.entries i _ ∙ h.0,
      set_bytes c.entries i _ (sum_byte c.next_coef (signed v)) h.1,
    ))))
    (record { next_coef = start; entries = replicate count 0 }) (length-replicate count 0, zeros_bytes count)

-- a first entry that is allowed is one
dc_range : (v : ℕ) → in_signed_range (negsuc 6) (pos 247) v ≡ true → IsDc (signed v)
dc_range v ok = record {
  least = grind (arith, common_steps, nat_tests, ok);
  most = grind (arith, common_steps, nat_tests, ok);
}

module _ (size : Size) where
  abbrev pub Shaped : Matrices → Type 0
  Shaped m = (length m.dc_coef_minus8 ≡ 6) × AreShaped size 0 m.dc_coef_minus8 m.entries

  -- lists with a matrix more have their shape
  with_shaped : (m : Matrices) (i : ℕ) (d : ℤ) (l : List ℕ) → has_matrix size i ≡ true → IsDc d
      → IsList size l → Shaped m → Shaped (with_matrix m i d l)
  unfolding with_matrix
  with_shaped m i d l there dc entries h =
      let here : 0 + i ≡ i = omega arith in (
        length-set m.dc_coef_minus8 i d ∙ h.0,
        set_shaped size 0 i m.dc_coef_minus8 m.entries d l
            (subst (λ (j : ℕ). IsOne size j d l) (sym here) (record {
              dc = dc;
              entries = entries;
              lacking = λ none. absurd (true≢false (sym there ∙ none));
            })) h.1,
      )

  -- so do those with a matrix that was read
  coded_given : (i : ℕ) (m : Matrices) → has_matrix size i ≡ true → Shaped m → EachGiven (coded_matrix size i m) Shaped
  unfolding coded_matrix
  coded_given i m there h =
      then_given (when_given
      (λ _. se_given (row 6 3) (negsuc 6) (pos 247) (λ v ok. entries (signed v) (dc_range v ok)))
      (λ _. entries (pos 0) zero_dc))
    where
      entries : (d : ℤ) → IsDc d
          → EachGiven (part (coefs (coef_num size) (unsigned_abs (d +ℤ pos 8)))
          (λ c. done (with_matrix m i d c.entries))) Shaped
      entries d dc = then_given (record {
        all = λ c lines has good.
            let e = (coefs_given (coef_num size) (unsigned_abs (d +ℤ pos 8))).all c lines has good in
            done_given (with_shaped m i d c.entries there dc (record { long = e.0; bytes = e.1 }) h);
      })

  module _ (defaults : List (List ℕ)) (are : (i : ℕ) → i < 6 → IsList size (list_of defaults i)) where
    predicted_given : (i : ℕ) (m : Matrices) → i < 6 → has_matrix size i ≡ true → Shaped m
        → EachGiven (predicted_matrix size defaults i m) Shaped
    unfolding predicted_matrix
    predicted_given i m lt there h =
        then_given (ue_given (row 6 2) 0 (i / matrix_step size) (λ delta. done_given (by_test delta (delta == 0))))
      where
        eight : IsDc (pos 8)
        eight = record { least = grind arith; most = grind arith }

        by_test : (delta : ℕ) (t : Bool)
            → Shaped (if t then with_default defaults i m else with_copy (ref_matrix size i delta) i m)
        by_test delta true = with_shaped m i (pos 8) (list_of defaults i) there eight (are i lt) h
        by_test delta false =
            let r = at_shaped size 0 (ref_matrix size i delta) m.dc_coef_minus8 m.entries (omega (arith, h.0)) h.1 in
            with_shaped m i _ _ there r.0 r.1 h

    pub matrices_given : EachGiven (matrices size defaults) Shaped
    unfolding matrices next_matrix matrix
    matrices_given = turns_given (next_matrix size defaults) Shaped 6
        (λ i m lt h. when_given
        (λ there. then_given
        (flag_given (row 6 1)
        (λ b. either_given b (coded_given i m there h) (predicted_given i m lt there h)))) (λ _. h))
        (no_matrices size) (refl, none_shaped size 6 0)
