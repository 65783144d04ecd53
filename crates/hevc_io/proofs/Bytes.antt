-- A read of known bytes.
use Rattle.std.proofs.Common.{◌≡◌, ℕ, ◌+◌, ◌-◌, ◌<◌, ◌≤◌, min, List, [], ◌++◌, length, take, drop}
use Rattle.std.proofs.Common.{sym, ap, ◌∙◌, append_assoc, arith}
use Rattle.std.proofs.lemmas.List.{take-append-drop, take-append-le, drop-drop, take-take, take_at}
use Rattle.std.proofs.lemmas.List.{take_rest, length-drop, length-take, length-take-le}
use Rattle.std.proofs.lemmas.List.{length-append, drop_all}
use Rattle.std.proofs.Math.Seq.{take-append-add}

-- what one read hands over, and what it leaves
pub handed_over : (xs front rest : List ℕ) (at n : ℕ) → front ≡ take n (drop at xs) → n ≤ length xs - at
    → drop at xs ≡ take n (front ++ rest) ++ drop (at + n) xs
handed_over xs front rest at n e h =
    let within : n ≤ length (drop at xs) = rw length-drop h in
    let len : length front ≡ n = ap length e ∙ length-take-le n (drop at xs) within in
    sym (take-append-drop n (drop at xs))
    ∙ ap (λ l. l ++ drop n (drop at xs)) (sym (take_at front rest n len ∙ e))
    ∙ ap (λ l. take n (front ++ rest) ++ l) (drop-drop n at xs)

-- the same for what `&xs[at..]` gives, and nothing is left where a read with room gave nothing
pub read_on : (xs front buf : List ℕ) (at n : ℕ) → at ≤ length xs
    → n ≡ min (length (take (length xs - at) (drop at xs))) (length buf)
    → front ≡ take n (take (length xs - at) (drop at xs))
    → (drop at xs ≡ take n (front ++ drop n buf) ++ drop (at + n) xs)
    × (n ≡ 0 → 0 < length (front ++ drop n buf) → drop (at + n) xs ≡ [])
read_on xs front buf at n inside m e =
    let rest : length (take (length xs - at) (drop at xs)) ≡ length xs - at = ap length (take_rest xs at)
    ∙ length-drop at xs in
    let size : n ≡ min (length xs - at) (length buf) = m ∙ ap (λ k. min k (length buf)) rest in
    let part : front ≡ take n (drop at xs) = e ∙ ap (take n) (take_rest xs at) in
    let taken : length front ≤ n = rw (part, length-take) (omega arith) in (
      handed_over xs front (drop n buf) at n part (omega arith),
      λ none room. drop_all (at + n) xs (omega (arith, simp (length-append, length-drop) at room)),
    )

-- what was read after the first bytes of a buffer comes after them
pub read_behind : (now buf rest more : List ℕ) (len at n : ℕ) → at ≤ length now → at + n ≤ len → n ≤ length buf
    → take (at + n) (take len (take at now ++ (buf ++ rest) ++ more)) ≡ take at now ++ take n buf
read_behind now buf rest more len at n inside room few =
    let front : length (take at now) ≡ at = length-take-le at now inside in
    take-take (at + n) len _ room
    ∙ ap (take (at + n)) (append_assoc (take at now) (buf ++ rest) more)
    ∙ ap (λ k. take (k + n) (take at now ++ ((buf ++ rest) ++ more))) (sym front)
    ∙ take-append-add (take at now) ((buf ++ rest) ++ more) n
    ∙ ap (λ l. take at now ++ l)
    (take-append-le n (buf ++ rest) more (simp length-append (omega (arith, few))) ∙ take-append-le n buf rest few)

-- room after the first bytes leaves them
pub still_there : (items fresh : List ℕ) (at room : ℕ) → at ≤ length items
    → take at (take (at + room) items ++ fresh) ≡ take at items
still_there items fresh at room inside =
    take-append-le at (take (at + room) items) fresh (simp length-take (omega (arith, inside)))
    ∙ take-take at (at + room) items (omega arith)
