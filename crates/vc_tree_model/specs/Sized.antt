-- A map whose values carry the lengths of their keys. No public clause cites these words.
use Rattle.std.specs.Prelude.{ℕ, ◌+◌, List, length, Option, Some, None}

-- a value with a number
abbrev pub beside : {W : Type 0} → ℕ → Option W → Option (ℕ × W)
beside n None = None
beside n (Some w) = Some (n, w)

-- what f binds at a key, with the length of the key after n components that are before it
abbrev pub sized : {K W : Type 0} → ℕ → (List K → Option W) → List K → Option (ℕ × W)
sized n f k = beside (n + length k) (f k)
