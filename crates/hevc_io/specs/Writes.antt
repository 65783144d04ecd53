-- What a sink takes of a piece.
use Rattle.std.specs.Prelude.{ℕ, ◌<◌, List, length, IfOk, Result}

-- a write of bytes that aren't empty takes one at least
abbrev pub TakesSome : {E : Type 0} → Result ℕ E → List ℕ → Type 0
TakesSome result bytes = IfOk result (λ n. 0 < length bytes → 0 < n)
