-- Texts that are ended by a zero.
use Rattle.std.specs.Prelude.{ℕ, ◌-◌, List, ◌++◌, length, min, take, replicate}

-- a text in so many places, as far as they go, and zeros after it, of which there is one at least
abbrev pub ended : List ℕ → ℕ → List ℕ
ended text n = let size = min (length text) (n - 1) in take size text ++ replicate (n - size) 0
