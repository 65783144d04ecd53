-- Lines of matrices that have their own entries.
use Rattle.std.proofs.Common.{◌≡◌, ℕ, zero, suc, ◌+◌, ◌-◌, ◌<◌, ◌≤◌, Bool, true, false, List, []}
use Rattle.std.proofs.Common.{◌∷◌, ◌++◌, length, set, map, replicate, refl, sym, ap, ap₂, subst}
use Rattle.std.proofs.Common.{◌∙◌, arith, append_assoc}
use Rattle.std.proofs.lemmas.List.{append-nil, length-append, length-replicate}
use Rattle.std.specs.Prelude.{ℤ, pos, negsuc, ◌+ℤ◌, ◌-ℤ◌, ◌≤ℤ◌, ◌%◌, ◌==◌, unsigned_abs, if◌then◌else◌, nat_lt, ◌&&◌}
use Rattle.std.proofs.lemmas.Int.{ints}
use Rattle.std.proofs.lemmas.Bool.Decides.{nat_tests}
use Rattle.std.proofs.lemmas.Grind.{common_steps}
use Rattle.hevc_spec.specs.declared.Row.{Row}
use Rattle.hevc_spec.specs.Bits.{se, signed, in_signed_range}
use Rattle.hevc_spec.specs.Table.{Table, done, part}
use Rattle.hevc_spec.specs.Rows.{row, flag_row, ue_row, se_row, when, either, repeat}
use Rattle.hevc_bit_writer.specs.Writing.{CanSpell, spelled, code_number}
use Rattle.hevc_bit_writer.proofs.Spellings.{signed_back}
use Rattle.hevc_records.specs.ScalingLists.{PlainScalingLists}
use Rattle.hevc_records.specs.DefaultScalingLists.{flat_list, intra_list, inter_list, default_lists_8x8}
use Rattle.hevc_tables.specs.ScalingListTable.{Size, size_4x4, size_8x8, size_16x16, size_32x32}
use Rattle.hevc_tables.specs.ScalingListTable.{coef_num, has_dc_coef, matrix_step, has_matrix}
use Rattle.hevc_tables.specs.ScalingListTable.{Coefs, sum_modulo_256, next_entry, coefs, Matrices}
use Rattle.hevc_tables.specs.ScalingListTable.{list_of, with_matrix, coded_matrix, predicted_matrix}
use Rattle.hevc_tables.specs.ScalingListTable.{matrix, next_matrix, matrices, scaling_list_data}
use Rattle.hevc_write_elements.specs.Choices.{IsFormed, is_chosen}
use Rattle.hevc_write_elements.specs.Filling.{EachFilling, WritesTable}
use Rattle.hevc_write_elements.proofs.Fillings.{weakened, instead_filled, done_filled}
use Rattle.hevc_write_elements.proofs.Counting.{SetsNone, none_filled, done_none, element_none}
use Rattle.hevc_write_elements.proofs.Counting.{then_none, when_none, either_none, turns_none}
use Rattle.hevc_write_elements.proofs.Parts.{IsFillable}
use Rattle.hevc_spec.specs.Lines.{Line, HasLines}
use Rattle.hevc_write_elements.proofs.Forming.{done_formed, part_formed, element_formed, flag_formed}
use Rattle.hevc_write_scaling.specs.Matrices.{step_modulo_256, signed_bits, coef_bits, kept_dc}
use Rattle.hevc_write_scaling.specs.Matrices.{matrix_bits, matrices_bits, no_dc, scaling_list_bits}
use Rattle.hevc_write_scaling.proofs.Shapes.{AllBytes, IsList, IsDc, IsOne, AreShaped, Shaped, matrices_given}

-- ---- numbers

-- a difference leads from one entry to the next
step_sum : (from to : ℕ) → from < 256 → to < 256 → sum_modulo_256 from (step_modulo_256 from to) ≡ to
step_sum from to a b = by_test (nat_lt ((to + 256 - from) % 256) 128)
  where
    by_test : (t : Bool)
        → sum_modulo_256 from
        (if t then pos ((to + 256 - from) % 256) else pos ((to + 256 - from) % 256) -ℤ pos 256) ≡ to
    by_test true = omega (arith, ints)
    by_test false = omega (arith, ints)

-- a difference has 8 bits with its sign
step_range : (from to : ℕ)
    → (code_number (step_modulo_256 from to) < 1000) × (negsuc 127 ≤ℤ step_modulo_256 from to)
    × (step_modulo_256 from to ≤ℤ pos 127)
step_range from to = by_test (nat_lt ((to + 256 - from) % 256) 128) refl
  where
    by_test : (t : Bool) → nat_lt ((to + 256 - from) % 256) 128 ≡ t
        → (code_number (if t then pos ((to + 256 - from) % 256) else pos ((to + 256 - from) % 256) -ℤ pos 256) < 1000)
        × (negsuc 127 ≤ℤ
        (if t then pos ((to + 256 - from) % 256) else pos ((to + 256 - from) % 256) -ℤ pos 256))
        × ((if t then pos ((to + 256 - from) % 256) else pos ((to + 256 - from) % 256) -ℤ pos 256) ≤ℤ pos 127)
    by_test true e = let small : (to + 256 - from) % 256 < 128 = grind (arith, nat_tests, e) in
        (omega (arith, small), omega (arith, ints, small), omega (arith, ints, small))
    by_test false e = let big : 128 ≤ (to + 256 - from) % 256 = grind (arith, nat_tests, e) in (
      code_of (pos ((to + 256 - from) % 256) -ℤ pos 256) (omega (arith, ints, big))
          (omega (arith, ints, big)),
      omega (arith, ints, big),
      omega (arith, ints, big),
    )
      where
        code_of : (d : ℤ) → negsuc 127 ≤ℤ d → d ≤ℤ pos 0 → code_number d < 1000
        code_of (pos n) low high = omega (arith, ints, low, high)
        code_of (negsuc n) low high = omega (arith, ints, low, high)

-- a first entry, less 8, can be spelled
dc_small : (d : ℤ) → negsuc 6 ≤ℤ d → d ≤ℤ pos 247 → code_number d < 1000
dc_small (pos n) low high = omega (arith, ints, low, high)
dc_small (negsuc n) low high = omega (arith, ints, low, high)

-- and is a byte with 8 added
start_byte : (d : ℤ) → negsuc 6 ≤ℤ d → d ≤ℤ pos 247 → unsigned_abs (d +ℤ pos 8) < 256
start_byte d low high = omega (arith, ints, low, high)

-- a signed number in the range of a row
signed_formed : (r : Row) (min max d : ℤ) → code_number d < 1000 → min ≤ℤ d → d ≤ℤ max
    → is_chosen r se (code_number d) ≡ true → IsFormed (se_row r min max) d (signed_bits d)
unfolding se_row
signed_formed r min max d small least most chosen =
    let allowed : in_signed_range min max (code_number d) ≡ true =
    rw (signed_back d) (grind (arith, common_steps, nat_tests)) in
    subst (λ (z : ℤ). IsFormed (se_row r min max) z (signed_bits d)) (signed_back d)
    (element_formed r se (in_signed_range min max) signed (code_number d) allowed (omega arith) chosen)

-- ---- the entries of one matrix

-- an entry is put after those before it
set_next : (pre : List ℕ) (k v : ℕ) → set (pre ++ replicate (suc k) 0) (length pre) v ≡ (pre ++ v ∷ []) ++ replicate k 0
set_next [] k v = refl
set_next (p ∷ pre) k v = ap (λ (l : List ℕ). p ∷ l) (set_next pre k v)

-- all entries of a matrix are spelled
coefs_formed : (pre es : List ℕ) (next : ℕ) → next < 256 → AllBytes es
    → (last : ℕ)
    × IsFormed (repeat next_entry (length pre) (length es) (record {
      next_coef = next;
      entries = pre ++ replicate (length es) 0;
    })) (record { next_coef = last; entries = pre ++ es }) (coef_bits next es)
unfolding repeat next_entry is_chosen
coefs_formed pre [] next small bytes = (next, done_formed _)
coefs_formed pre (e ∷ es) next small bytes =
    let d = step_modulo_256 next e in
    let sums : sum_modulo_256 next d ≡ e = step_sum next e small bytes.0 in
    let r = step_range next e in
    let start : Coefs = record { next_coef = next; entries = pre ++ replicate (suc (length es)) 0 } in
    let after : Coefs = record { next_coef = e; entries = (pre ++ e ∷ []) ++ replicate (length es) 0 } in
    let same : record {
      next_coef = sum_modulo_256 next d;
      entries = set start.entries (length pre) (sum_modulo_256 next d);
    } ≡ after =
    ap (λ (v : ℕ). record { next_coef = v; entries = set start.entries (length pre) v }) sums
    ∙ ap (λ (l : List ℕ). record { next_coef = e; entries = l }) (set_next pre (length es) e) in
    let long : length (pre ++ e ∷ []) ≡ length pre + 1 = length-append pre (e ∷ []) in
    let all : (pre ++ e ∷ []) ++ es ≡ pre ++ e ∷ es = append_assoc pre (e ∷ []) es in
    let rest = coefs_formed (pre ++ e ∷ []) es e bytes.0 bytes.1 in
    let here : IsFormed (repeat next_entry (length pre + 1) (length es) after) (record {
      next_coef = rest.0;
      entries = pre ++ e ∷ es;
    }) (coef_bits e es) =
    subst (λ (l : List ℕ). IsFormed (repeat next_entry (length pre + 1) (length es) after) (record {
      next_coef = rest.0;
      entries = l;
    }) (coef_bits e es)) all
    (subst (λ (n : ℕ). IsFormed (repeat next_entry n (length es) after) (record {
      next_coef = rest.0;
      entries = (pre ++ e ∷ []) ++ es;
    }) (coef_bits e es)) long rest.1) in
    let first = part_formed {k = λ delta. done (record {
      next_coef = sum_modulo_256 next delta;
      entries = set start.entries (length pre) (sum_modulo_256 next delta);
    })} (signed_formed (row 6 4) (negsuc 127) (pos 127) d r.0 r.1 r.2 refl)
    (done_formed (record {
      next_coef = sum_modulo_256 next d;
      entries = set start.entries (length pre) (sum_modulo_256 next d);
    })) in
    let one = subst (λ (c : Coefs). IsFormed (next_entry (length pre) start) c (signed_bits d ++ [])) same first in (
      rest.0,
      subst (λ (b : List Bool). IsFormed (repeat next_entry (length pre) (suc (length es)) start) (record {
        next_coef = rest.0;
        entries = pre ++ e ∷ es;
      }) b)
          (ap (λ (b : List Bool). b ++ coef_bits e es) (append-nil (signed_bits d))) (part_formed one here),
    )

-- ---- a matrix

-- a first entry is spelled
dc_formed : (d : ℤ) → IsDc d → IsFormed (se_row (row 6 3) (negsuc 6) (pos 247)) d (signed_bits d)
unfolding is_chosen
dc_formed d dc = signed_formed (row 6 3) (negsuc 6) (pos 247) d (dc_small d dc.least dc.most) dc.least dc.most refl

-- the entries of a matrix are spelled, the first one apart where the size has it so
coded_formed : (size : Size) (i : ℕ) (m : Matrices) (d : ℤ) (l : List ℕ) → IsDc d → IsList size l
    → IsFormed (coded_matrix size i m) (with_matrix m i (kept_dc (has_dc_coef size) d) l)
    ((if has_dc_coef size then signed_bits d else [])
    ++ coef_bits (unsigned_abs (kept_dc (has_dc_coef size) d +ℤ pos 8)) l)
unfolding coded_matrix coefs when
coded_formed size i m d l dc is = by_test (has_dc_coef size)
  where
    entries : (z : ℤ) → IsDc z
        → IsFormed (part
        (repeat next_entry 0 (coef_num size) (record {
          next_coef = unsigned_abs (z +ℤ pos 8);
          entries = replicate (coef_num size) 0;
        })) (λ c. done (with_matrix m i z c.entries))) (with_matrix m i z l) (coef_bits (unsigned_abs (z +ℤ pos 8)) l)
    entries z ok =
        let c = coefs_formed [] l (unsigned_abs (z +ℤ pos 8)) (start_byte z ok.least ok.most) is.bytes in
        let long : length l ≡ coef_num size = is.long in
        let first = subst
        (λ (n : ℕ). IsFormed
        (repeat next_entry 0 n (record { next_coef = unsigned_abs (z +ℤ pos 8); entries = replicate n 0 }))
        (record { next_coef = c.0; entries = l }) (coef_bits (unsigned_abs (z +ℤ pos 8)) l)) long c.1 in
        subst (λ (b : List Bool). IsFormed
        (part (repeat next_entry 0 (coef_num size) (record {
          next_coef = unsigned_abs (z +ℤ pos 8);
          entries = replicate (coef_num size) 0;
        })) (λ c. done (with_matrix m i z c.entries))) (with_matrix m i z l) b) (append-nil _)
        (part_formed first (done_formed (with_matrix m i z l)))

    by_test : (t : Bool)
        → IsFormed (part (when t (pos 0) (se_row (row 6 3) (negsuc 6) (pos 247)))
        (λ z. part (repeat next_entry 0 (coef_num size) (record {
          next_coef = unsigned_abs (z +ℤ pos 8);
          entries = replicate (coef_num size) 0;
        })) (λ c. done (with_matrix m i z c.entries))))
        (with_matrix m i (kept_dc t d) l) ((if t then signed_bits d else [])
        ++ coef_bits (unsigned_abs (kept_dc t d +ℤ pos 8)) l)
    by_test true = part_formed (dc_formed d dc) (entries d dc)
    by_test false =
        part_formed (done_formed (pos 0)) (entries (pos 0) (record { least = grind arith; most = grind arith }))

-- a matrix is spelled with its own entries
matrix_formed : (size : Size) (defaults : List (List ℕ)) (i : ℕ) (m : Matrices) (d : ℤ) (l : List ℕ)
    → IsDc d → IsList size l
    → IsFormed (matrix size defaults i m) (with_matrix m i (kept_dc (has_dc_coef size) d) l)
    (matrix_bits (has_dc_coef size) d l)
unfolding matrix either is_chosen
matrix_formed size defaults i m d l dc is =
    part_formed (flag_formed (row 6 1) true refl) (coded_formed size i m d l dc is)

-- ---- the matrices of a size

-- an item is put after those before it
set_after : {X : Type 0} (pre : List X) (k : ℕ) (none v : X)
    → set (pre ++ replicate (suc k) none) (length pre) v ≡ (pre ++ v ∷ []) ++ replicate k none
set_after [] k none v = refl
set_after (p ∷ pre) k none v = ap (λ l. p ∷ l) (set_after pre k none v)

-- or left as it was
keep_after : {X : Type 0} (pre : List X) (k : ℕ) (none : X)
    → pre ++ replicate (suc k) none ≡ (pre ++ none ∷ []) ++ replicate k none
keep_after pre k none = sym (append_assoc pre (none ∷ []) (replicate k none))

module _ (size : Size) (defaults : List (List ℕ)) where
  abbrev zeros : List ℕ
  zeros = replicate (coef_num size) 0

  -- some first matrices, and none after them
  abbrev state : List ℤ → List (List ℕ) → ℕ → Matrices
  state ds ls k = record { dc_coef_minus8 = ds ++ replicate k (pos 0); entries = ls ++ replicate k zeros }

  -- the next matrix is spelled, if the size has it
  next_formed : (pds : List ℤ) (pls : List (List ℕ)) (i k : ℕ) (d : ℤ) (l : List ℕ) → i ≡ length pds
      → i ≡ length pls → IsOne size i d l
      → IsFormed (next_matrix size defaults i (state pds pls (suc k)))
      (state (pds ++ kept_dc (has_dc_coef size) d ∷ []) (pls ++ l ∷ []) k)
      (if i % matrix_step size == 0 then matrix_bits (has_dc_coef size) d l else [])
  unfolding next_matrix when with_matrix
  next_formed pds pls i k d l at_d at_l one = by_test (i % matrix_step size == 0) refl
    where
      set_both : with_matrix (state pds pls (suc k)) i (kept_dc (has_dc_coef size) d) l ≡ state
          (pds ++ kept_dc (has_dc_coef size) d ∷ []) (pls ++ l ∷ []) k
      set_both = ap₂ (λ (a : List ℤ) (b : List (List ℕ)). record { dc_coef_minus8 = a; entries = b })
          (subst (λ (n : ℕ). set (pds ++ replicate (suc k) (pos 0)) n (kept_dc (has_dc_coef size) d)
          ≡ (pds ++ kept_dc (has_dc_coef size) d ∷ []) ++ replicate k (pos 0)) (sym at_d)
          (set_after pds k (pos 0) (kept_dc (has_dc_coef size) d)))
          (subst (λ (n : ℕ). set (pls ++ replicate (suc k) zeros) n l ≡ (pls ++ l ∷ [])
          ++ replicate k zeros) (sym at_l) (set_after pls k zeros l))

      kept_zero : (t : Bool) → kept_dc t (pos 0) ≡ pos 0
      kept_zero true = refl
      kept_zero false = refl

      by_test : (t : Bool) → (i % matrix_step size == 0) ≡ t
          → IsFormed (when t (state pds pls (suc k)) (matrix size defaults i (state pds pls (suc k))))
          (state (pds ++ kept_dc (has_dc_coef size) d ∷ []) (pls ++ l ∷ []) k)
          (if t then matrix_bits (has_dc_coef size) d l else [])
      by_test true is =
          subst (λ (m : Matrices). IsFormed (matrix size defaults i (state pds pls (suc k))) m
          (matrix_bits (has_dc_coef size) d l)) set_both
          (matrix_formed size defaults i (state pds pls (suc k)) d l one.dc one.entries)
      by_test false is =
          let none = one.lacking is in
          let kept : kept_dc (has_dc_coef size) d ≡ pos 0 = ap (kept_dc (has_dc_coef size)) none.0
          ∙ kept_zero (has_dc_coef size) in
          let same : state pds pls (suc k) ≡ state (pds ++ kept_dc (has_dc_coef size) d ∷ []) (pls ++ l ∷ []) k =
          ap₂ (λ (a : List ℤ) (b : List (List ℕ)). record { dc_coef_minus8 = a; entries = b })
          (keep_after pds k (pos 0)) (keep_after pls k zeros)
          ∙ ap₂ (λ (z : ℤ) (b : List ℕ). state (pds ++ z ∷ []) (pls ++ b ∷ []) k) (sym kept) (sym none.1) in
          subst (λ (m : Matrices). IsFormed (done (state pds pls (suc k))) m []) same
          (done_formed (state pds pls (suc k)))

  -- and so are all that are left
  all_formed : (pds : List ℤ) (pls : List (List ℕ)) (i : ℕ) (ds : List ℤ) (ls : List (List ℕ))
      → i ≡ length pds → i ≡ length pls → AreShaped size i ds ls
      → IsFormed (repeat (next_matrix size defaults) i (length ds) (state pds pls (length ds))) (record {
        dc_coef_minus8 = pds ++ map (kept_dc (has_dc_coef size)) ds;
        entries = pls ++ ls;
      }) (matrices_bits (has_dc_coef size) (matrix_step size) i ds ls)
  unfolding repeat
  all_formed pds pls i [] [] at_d at_l shaped = done_formed _
  all_formed pds pls i [] (l ∷ ls) at_d at_l shaped = absurd shaped
  all_formed pds pls i (d ∷ ds) [] at_d at_l shaped = absurd shaped
  all_formed pds pls i (d ∷ ds) (l ∷ ls) at_d at_l shaped =
      let k = kept_dc (has_dc_coef size) d in
      let rest = all_formed (pds ++ k ∷ []) (pls ++ l ∷ []) (i + 1) ds ls
      (omega (arith, at_d, length-append pds (k ∷ []))) (omega (arith, at_l, length-append pls (l ∷ []))) shaped.1 in
      let all : record {
        dc_coef_minus8 = (pds ++ k ∷ []) ++ map (kept_dc (has_dc_coef size)) ds;
        entries = (pls ++ l ∷ []) ++ ls;
      } ≡ record { dc_coef_minus8 = pds ++ k ∷ map (kept_dc (has_dc_coef size)) ds; entries = pls ++ l ∷ ls } =
      ap₂ (λ (a : List ℤ) (b : List (List ℕ)). record { dc_coef_minus8 = a; entries = b })
      (append_assoc pds (k ∷ []) (map (kept_dc (has_dc_coef size)) ds)) (append_assoc pls (l ∷ []) ls) in
      subst (λ (m : Matrices). IsFormed
      (repeat (next_matrix size defaults) i (suc (length ds)) (state pds pls (suc (length ds)))) m
      (matrices_bits (has_dc_coef size) (matrix_step size) i (d ∷ ds) (l ∷ ls))) all
      (part_formed (next_formed pds pls i (length ds) d l at_d at_l shaped.0) rest)

  -- all matrices of a size are spelled
  pub matrices_formed : (m : Matrices) → Shaped size m
      → IsFormed (matrices size defaults) (record {
        dc_coef_minus8 = map (kept_dc (has_dc_coef size)) m.dc_coef_minus8;
        entries = m.entries;
      }) (matrices_bits (has_dc_coef size) (matrix_step size) 0 m.dc_coef_minus8 m.entries)
  unfolding matrices
  matrices_formed m shaped =
      subst (λ (n : ℕ). IsFormed (repeat (next_matrix size defaults) 0 n (state [] [] n)) (record {
        dc_coef_minus8 = map (kept_dc (has_dc_coef size)) m.dc_coef_minus8;
        entries = m.entries;
      }) (matrices_bits (has_dc_coef size) (matrix_step size) 0 m.dc_coef_minus8 m.entries))
      shaped.0 (all_formed [] [] 0 m.dc_coef_minus8 m.entries refl refl shaped.1)

-- ---- the default lists

-- all are bytes, as a test
bytes_test : List ℕ → Bool
bytes_test [] = true
bytes_test (e ∷ es) = nat_lt e 256 && bytes_test es

-- the test tells it
bytes_tested : (l : List ℕ) → bytes_test l ≡ true → AllBytes l
unfolding bytes_test
bytes_tested [] e = tt
bytes_tested (n ∷ es) e = by_test (λ more. bytes_tested es more) (nat_lt n 256) refl e
  where
    by_test : (bytes_test es ≡ true → AllBytes es) → (t : Bool) → nat_lt n 256 ≡ t
        → (t && bytes_test es) ≡ true → (n < 256) × AllBytes es
    by_test again true small more = (grind (arith, nat_tests, small), again more)
    by_test again false small more = absurd cc

-- a list of bytes of the right length is one of the size
list_tested : (size : Size) (l : List ℕ) → length l ≡ coef_num size → bytes_test l ≡ true → IsList size l
list_tested size l long bytes = record { long = long; bytes = bytes_tested l bytes }

-- the flat lists are lists of their size
flat_are : (i : ℕ) → i < 6 → IsList size_4x4 (list_of (replicate 6 flat_list) i)
unfolding bytes_test
flat_are zero lt = list_tested size_4x4 flat_list refl refl
flat_are (suc zero) lt = list_tested size_4x4 flat_list refl refl
flat_are (suc (suc zero)) lt = list_tested size_4x4 flat_list refl refl
flat_are (suc (suc (suc zero))) lt = list_tested size_4x4 flat_list refl refl
flat_are (suc (suc (suc (suc zero)))) lt = list_tested size_4x4 flat_list refl refl
flat_are (suc (suc (suc (suc (suc zero))))) lt = list_tested size_4x4 flat_list refl refl
flat_are (suc (suc (suc (suc (suc (suc i)))))) lt = absurd (omega arith)

-- so are the default lists of larger sizes
larger_are : (size : Size) → coef_num size ≡ 64 → (i : ℕ) → i < 6 → IsList size (list_of default_lists_8x8 i)
unfolding bytes_test
larger_are size e zero lt = list_tested size intra_list (sym e) refl
larger_are size e (suc zero) lt = list_tested size intra_list (sym e) refl
larger_are size e (suc (suc zero)) lt = list_tested size intra_list (sym e) refl
larger_are size e (suc (suc (suc zero))) lt = list_tested size inter_list (sym e) refl
larger_are size e (suc (suc (suc (suc zero)))) lt = list_tested size inter_list (sym e) refl
larger_are size e (suc (suc (suc (suc (suc zero))))) lt = list_tested size inter_list (sym e) refl
larger_are size e (suc (suc (suc (suc (suc (suc i)))))) lt = absurd (omega arith)

-- ---- table 6

-- numbers that a size doesn't have aren't looked at
bits_any : (step i : ℕ) (ds es : List ℤ) (ls : List (List ℕ)) → length ds ≡ length es
    → matrices_bits false step i ds ls ≡ matrices_bits false step i es ls
bits_any step i [] [] ls e = refl
bits_any step i [] (c ∷ es) ls e = absurd (omega (arith, e))
bits_any step i (d ∷ ds) [] ls e = absurd (omega (arith, e))
bits_any step i (d ∷ ds) (c ∷ es) [] e = refl
bits_any step i (d ∷ ds) (c ∷ es) (l ∷ ls) e =
    ap (λ (b : List Bool). (if i % step == 0 then matrix_bits false d l else []) ++ b)
    (bits_any step (i + 1) ds es ls (omega (arith, e)))

-- all first entries are kept as they are
kept_all : (ds : List ℤ) → map (kept_dc true) ds ≡ ds
kept_all [] = refl
kept_all (d ∷ ds) = ap (λ (es : List ℤ). d ∷ es) (kept_all ds)

-- no row of them is row 5 of table 7
matrices_none : (size : Size) (defaults : List (List ℕ)) → SetsNone (matrices size defaults)
unfolding matrices next_matrix matrix coded_matrix predicted_matrix coefs next_entry flag_row ue_row se_row
matrices_none size defaults =
    turns_none (λ i m. when_none _ _ (then_none (element_none _ _ _ _ refl) (λ flag. either_none flag
    (then_none (when_none _ _ (element_none _ _ _ _ refl))
    (λ d. then_none (turns_none (λ j c. then_none (element_none _ _ _ _ refl) (λ delta. done_none)) 0 _ _)
    (λ c. done_none)))
    (then_none (element_none _ _ _ _ refl) (λ delta. done_none))))) 0 6 _

module _ {B : Type 0} (size : Size) (defaults : List (List ℕ)) (are : (i : ℕ) → i < 6
    → IsList size (list_of defaults i)) (k : Matrices → Table B) {w : List Bool} {Q : B → List Bool → Type 0} where
  -- a size without numbers of its own for first entries
  plain_then : has_dc_coef size ≡ false
      → ((m : Matrices) (ds : List ℤ) (z : B) (rest : List Line) → HasLines (k m) z rest
      → HasLines (k (record { dc_coef_minus8 = ds; entries = m.entries })) z rest)
      → ((m : Matrices)
      → EachFilling (k m) (w ++ matrices_bits false (matrix_step size) 0 no_dc m.entries) Q)
      → EachFilling (part (matrices size defaults) k) w Q
  plain_then plain same f = instead_filled (matrices size defaults) k w Q (λ m lines has good.
      let shaped = (matrices_given size defaults are).all m lines has good in
      let formed = matrices_formed size defaults m shaped in
      let bits : matrices_bits (has_dc_coef size) (matrix_step size) 0 m.dc_coef_minus8 m.entries
      ≡ matrices_bits false (matrix_step size) 0 no_dc m.entries =
      ap (λ (t : Bool). matrices_bits t (matrix_step size) 0 m.dc_coef_minus8 m.entries) plain
      ∙ bits_any (matrix_step size) 0 m.dc_coef_minus8 no_dc m.entries shaped.0 in
      let mine = subst
      (λ (b : List Bool). IsFormed (matrices size defaults) (record {
        dc_coef_minus8 = map (kept_dc (has_dc_coef size)) m.dc_coef_minus8;
        entries = m.entries;
      }) b) bits formed in (
        record { dc_coef_minus8 = map (kept_dc (has_dc_coef size)) m.dc_coef_minus8; entries = m.entries },
        matrices_bits false (matrix_step size) 0 no_dc m.entries,
        none_filled (matrices_none size defaults) mine lines,
        same m (map (kept_dc (has_dc_coef size)) m.dc_coef_minus8),
        f m,
      ))

  -- a size with such numbers
  numbered_then : has_dc_coef size ≡ true
      → ((m : Matrices)
      → EachFilling (k m) (w ++ matrices_bits true (matrix_step size) 0 m.dc_coef_minus8 m.entries) Q)
      → EachFilling (part (matrices size defaults) k) w Q
  numbered_then numbered f = instead_filled (matrices size defaults) k w Q (λ m lines has good.
      let shaped = (matrices_given size defaults are).all m lines has good in
      let formed = matrices_formed size defaults m shaped in
      let all : map (kept_dc (has_dc_coef size)) m.dc_coef_minus8 ≡ m.dc_coef_minus8 =
      ap (λ (t : Bool). map (kept_dc t) m.dc_coef_minus8) numbered ∙ kept_all m.dc_coef_minus8 in
      let kept = subst
      (λ (ds : List ℤ). IsFormed (matrices size defaults) (record {
        dc_coef_minus8 = ds;
        entries = m.entries;
      }) (matrices_bits (has_dc_coef size) (matrix_step size) 0 m.dc_coef_minus8 m.entries)) all formed in
      let mine = subst
      (λ (t : Bool). IsFormed (matrices size defaults) m
      (matrices_bits t (matrix_step size) 0 m.dc_coef_minus8 m.entries)) numbered kept in (
        m,
        matrices_bits true (matrix_step size) 0 m.dc_coef_minus8 m.entries,
        none_filled (matrices_none size defaults) mine lines,
        (λ z rest h. h),
        f m,
      ))

-- four pieces after one another
four_joined : (w a b c d : List Bool) → w ++ a ++ b ++ c ++ d ≡ w ++ (a ++ b ++ c ++ d)
four_joined w a b c d =
    ap (λ (o : List Bool). o ++ c ++ d) (append_assoc w a b)
    ∙ ap (λ (o : List Bool). o ++ d) (append_assoc w (a ++ b) c) ∙ append_assoc w (a ++ b ++ c) d

-- the bits of scaling lists are those that are written
pub scaling_list_data_filled : (w : List Bool)
    → EachFilling scaling_list_data w (λ z all. all ≡ w ++ scaling_list_bits z)
unfolding scaling_list_data scaling_list_bits
scaling_list_data_filled w =
    plain_then size_4x4 (replicate 6 flat_list) flat_are _ refl (λ m ds z rest h. h) (λ of_4x4.
    plain_then size_8x8 default_lists_8x8 (larger_are size_8x8 refl) _ refl (λ m ds z rest h. h) (λ of_8x8.
    numbered_then size_16x16 default_lists_8x8 (larger_are size_16x16 refl) _ refl (λ of_16x16.
    numbered_then size_32x32 default_lists_8x8 (larger_are size_32x32 refl) _ refl (λ of_32x32.
    done_filled (four_joined w (matrices_bits false 1 0 no_dc of_4x4.entries)
    (matrices_bits false 1 0 no_dc of_8x8.entries)
    (matrices_bits true 1 0 of_16x16.dc_coef_minus8 of_16x16.entries)
    (matrices_bits true 3 0 of_32x32.dc_coef_minus8 of_32x32.entries))))))

-- there are always lines of scaling list data to write
pub scaling_lists_fillable : IsFillable scaling_list_data
scaling_lists_fillable = record { fill = λ w. weakened (scaling_list_data_filled w) (λ z all e. tt) }

-- the bits of all sizes, added one after another
pub scaling_list_data_written : (x : PlainScalingLists) {old a b c new : List Bool}
    → a ≡ old ++ matrices_bits false 1 0 no_dc x.scaling_list_4x4
    → b ≡ a ++ matrices_bits false 1 0 no_dc x.scaling_list_8x8
    → c ≡ b ++ matrices_bits true 1 0 x.scaling_list_dc_coef_minus8_16x16 x.scaling_list_16x16
    → new ≡ c ++ matrices_bits true 3 0 x.scaling_list_dc_coef_minus8_32x32 x.scaling_list_32x32
    → WritesTable scaling_list_data x old new
unfolding scaling_list_bits
scaling_list_data_written x {old = old} {new = new} p q r s =
    let all : new ≡ old ++ scaling_list_bits x =
    rw (s, r, q, p)
    (four_joined old (matrices_bits false 1 0 no_dc x.scaling_list_4x4)
    (matrices_bits false 1 0 no_dc x.scaling_list_8x8)
    (matrices_bits true 1 0 x.scaling_list_dc_coef_minus8_16x16 x.scaling_list_16x16)
    (matrices_bits true 3 0 x.scaling_list_dc_coef_minus8_32x32 x.scaling_list_32x32)) in
    record {
      written = λ w. weakened (scaling_list_data_filled w)
          (λ z every e is at. e
          ∙ ap₂ (λ (o : List Bool) (y : PlainScalingLists). o ++ scaling_list_bits y) at is ∙ sym all);
    }
