-- What parts that are spread evenly add up to.
use Rattle.std.proofs.Common.{◌≡◌, ℕ, zero, suc, ◌+◌, ◌-◌, ◌*◌, ◌/◌, ◌≤◌, ◌<◌, List, [], ◌∷◌, ◌++◌}
use Rattle.std.proofs.Common.{map, take, replicate, slice_set, arith, sym, ap, subst, ◌∙◌}
use Rattle.std.specs.List.{sum_by, range_with_len}
use Rattle.std.proofs.lemmas.List.{append_assoc, take-append-le}
use Rattle.std.proofs.lemmas.List.FromFn.{map-range_with_len_more, sum_by-map-range_with_len_more}
use Rattle.std.proofs.lemmas.List.FromFn.{length-map-range_with_len, take-map-range_with_len}
use Rattle.std.proofs.lemmas.Nat.{le-div}
use Rattle.std.proofs.Math.Seq.{set-append_seam}
use Rattle.std.proofs.Math.Nat.{div-mul-le_self, mul-div_right}
use Rattle.hevc_tables.specs.PpsTable.{even_size, even_sizes}
use Rattle.hevc_pps.specs.Tiling.{blocks_of}

-- a part has a block: its end is after its beginning
pub part_grows : (size count i : ℕ) → 1 ≤ count → count ≤ size → i * size / count + 1 ≤ (i + 1) * size / count
part_grows size count i some le =
    le-div (i * size / count + 1) ((i + 1) * size) count some (grind (arith, le, div-mul-le_self (i * size) count))

pub ruleset grows = (part_grows)

-- the first parts end where the next one begins
first_parts : (size count k : ℕ) → 1 ≤ count → count ≤ size
    → sum_by (λ (s : ℕ). s + 1) (map (even_size size count) (range_with_len 0 k)) ≡ k * size / count
first_parts size count zero some le = grind (arith, some, le)
first_parts size count (suc k) some le =
    grind (
      arith,
      sum_by-map-range_with_len_more (λ (s : ℕ). s + 1) (even_size size count) 0 k k
          (grind arith),
      first_parts size count k some le,
      part_grows size count k some le,
    )

-- all parts
pub even_all : (places size count : ℕ) → 1 ≤ count → count ≤ size
    → blocks_of count (even_sizes places size count) ≡ size
even_all places size count some le =
    let xs = map (even_size size count) (range_with_len 0 count) in
    let front : take count (xs ++ replicate (places - count) 0) ≡ xs =
    take-append-le count xs (replicate (places - count) 0)
    (grind (arith, length-map-range_with_len (even_size size count) 0 count))
    ∙ take-map-range_with_len (even_size size count) 0 count count (grind arith) in
    ap (sum_by (λ (s : ℕ). s + 1)) front ∙ first_parts size count count some le ∙ mul-div_right size some

-- one more part comes after those before it
pub part_put : (f : ℕ → ℕ) (places i : ℕ) → i < places
    → slice_set (map f (range_with_len 0 i) ++ replicate (places - i) 0) i (f i) ≡ map f
    (range_with_len 0 (i + 1)) ++ replicate (places - (i + 1)) 0
part_put f places i lt =
    let xs = map f (range_with_len 0 i) in
    let ys = replicate (places - (i + 1)) 0 in
    let less : places - i ≡ suc (places - (i + 1)) = grind (arith, lt) in
    let put : slice_set (xs ++ 0 ∷ ys) i (f i) ≡ xs ++ f i ∷ ys =
    subst (λ (n : ℕ). slice_set (xs ++ 0 ∷ ys) n (f i) ≡ xs ++ f i ∷ ys) (length-map-range_with_len f 0 i)
    (set-append_seam xs 0 ys (f i)) in
    let more : map f (range_with_len 0 (i + 1)) ++ ys ≡ xs ++ f i ∷ ys =
    ap (λ (zs : List ℕ). zs ++ ys) (map-range_with_len_more f 0 i i (grind arith)) ∙ append_assoc xs (f i ∷ []) ys in
    ap (λ (n : ℕ). slice_set (xs ++ replicate n 0) i (f i)) less ∙ put ∙ sym more

pub ruleset even = (even_all)
