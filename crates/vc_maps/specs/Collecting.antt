-- Pairs that come in any order and become pairs of a map: of those with equal keys the last that came is kept.
use Rattle.std.specs.Prelude.{◌≡◌, List, reverse}
use Rattle.std.specs.Option.{option_or}
use Rattle.std.specs.declared.cmp.Ordering.{Ordering}
use Rattle.vc_joins.specs.Entries.{AscendsByKey, entry_at, value_at}

module _ {K V : Type 0} (cmp : K → K → Ordering) where
  -- m has the pairs xs, and of those with equal keys the last
  pub record IsCollected (xs m : List (K × V)) : Type 0 where
    pub ascends : AscendsByKey cmp m
    pub values : (k : K) → value_at cmp m k ≡ value_at cmp (reverse xs) k
    pub entries : (k : K) → entry_at cmp m k ≡ entry_at cmp (reverse xs) k

  -- new has the pairs xs and those of old with other keys: of pairs xs with equal keys the last
  pub record IsExtended (old xs new : List (K × V)) : Type 0 where
    pub values : (k : K) → value_at cmp new k ≡ option_or (value_at cmp (reverse xs) k) (value_at cmp old k)
    pub entries : (k : K) → entry_at cmp new k ≡ option_or (entry_at cmp (reverse xs) k) (entry_at cmp old k)
