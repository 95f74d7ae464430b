-- When a value of one tree counts as a value of another tree.
use Rattle.std.specs.Prelude.{Option, Some, None, ⊤}

-- both are absent, or the first is kept as the second
abbrev pub IsKept : {V : Type 0} → (V → V → Type 0) → Option V → Option V → Type 0
IsKept keeps None None = ⊤
IsKept keeps None (Some w) = ⊥
IsKept keeps (Some v) None = ⊥
IsKept keeps (Some v) (Some w) = keeps v w

-- the second is the first, or a clone of it over any number of clones
pub data Copies {V : Type 0} (is_clone : V → V → Type 0) : V → V → Type 0 where
  itself : {v : V} → Copies is_clone v v
  cloned : {u v w : V} → is_clone u v → Copies is_clone v w → Copies is_clone u w

-- a copy of a copy is a copy
pub copies_trans : {V : Type 0} {is_clone : V → V → Type 0} {u v w : V} → Copies is_clone u v → Copies is_clone v w
    → Copies is_clone u w
copies_trans itself q = q
copies_trans (cloned c p) q = cloned c (copies_trans p q)
