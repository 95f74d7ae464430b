-- Items that become elements of a set, in any order: of equal ones the last that came is kept.
use Rattle.std.specs.Prelude.{◌≡◌, ◌≤◌, ◌||◌, ℕ, List, Option, Some, length, reverse}
use Rattle.std.specs.Iterator.{YieldsThen}
use Rattle.std.specs.Option.{option_or}
use Rattle.std.specs.declared.cmp.Ordering.{Ordering}
use Rattle.vc_merge.specs.Ascending.{Ascends, member, element_at}

module _ {X : Type 0} (cmp : X → X → Ordering) where
  -- s has the items xs, and of equal ones the last
  pub record IsCollected (xs s : List X) : Type 0 where
    pub ascends : Ascends cmp s
    pub members : (x : X) → member cmp s x ≡ member cmp xs x
    pub kept : (x : X) → element_at cmp s x ≡ element_at cmp (reverse xs) x

  -- new has the elements of old and the items xs: instead of an element that is equal to an item,
  -- the last such item
  pub record IsExtended (old xs new : List X) : Type 0 where
    pub members : (x : X) → member cmp new x ≡ (member cmp xs x || member cmp old x)
    pub kept : (x : X) → element_at cmp new x ≡ option_or (element_at cmp (reverse xs) x) (element_at cmp old x)

-- an iterator may give more than n items
abbrev pub GivesMoreThan : {S X : Type 0} → (S → Option X → S → Type 0) → ℕ → S → Type 0
GivesMoreThan {S} {X} steps n s = (xs : List X) × (x : X) × (rest : S) × YieldsThen steps s xs (Some x) rest × (n ≤ length xs)
