-- The keys that two trees bind.
use Rattle.std.specs.Prelude.{List, IsSome, IsNone}
use Rattle.std.specs.declared.cmp.Ordering.{Ordering}
use Rattle.vc_tree_model.specs.Tree.{Tree}
use Rattle.vc_tree_model.specs.Map.{lookup}

module _ {K V W : Type 0} (cmp : K → K → Ordering) where
  -- some key is bound by both
  abbrev pub ShareKey : Tree K V → Tree K W → Type 0
  ShareKey t u = (k : List K) × IsSome (lookup cmp t k) × IsSome (lookup cmp u k)

  -- no key is bound by both
  abbrev pub AreDisjoint : Tree K V → Tree K W → Type 0
  AreDisjoint t u = (k : List K) → IsSome (lookup cmp t k) → IsSome (lookup cmp u k) → ⊥

  -- u binds each key that t binds
  abbrev pub HasKeysOf : Tree K W → Tree K V → Type 0
  HasKeysOf u t = (k : List K) → IsSome (lookup cmp t k) → IsSome (lookup cmp u k)

  -- some key that t binds is not bound by u
  abbrev pub LacksKeyOf : Tree K W → Tree K V → Type 0
  LacksKeyOf u t = (k : List K) × IsSome (lookup cmp t k) × IsNone (lookup cmp u k)
