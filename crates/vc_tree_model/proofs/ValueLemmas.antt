-- Values that are kept or match, as optional ones.
--     kept_by, kept-refl, kept-trans, kept-else        how they match
--     bound-left, not-lost        where one is there, so is the other
--     maps-flip, maps-by        equal maps
use Rattle.std.proofs.Common.{◌≡◌, List, Option, None, Some, arith}
use Rattle.vc_tree_model.specs.Value.{IsKept}
use Rattle.vc_tree_model.specs.Map.{or_else, IsEqualMap}

module _ {V : Type 0} (matches : V → V → Type 0) where
  -- what equals two that match, matches
  pub kept_by : (a b c d : Option V) → a ≡ c → b ≡ d → IsKept matches a b → IsKept matches c d
  kept_by a b c d p q h = rw (← p, ← q) h

  -- each value keeps itself where the relation says so
  pub kept-refl : ((v : V) → matches v v) → (o : Option V) → IsKept matches o o
  kept-refl r o = grind arith

  -- what keeps a kept value keeps the first, where the relation says so
  pub kept-trans : ((u v w : V) → matches u v → matches v w → matches u w) → (a b c : Option V) → IsKept matches a b
      → IsKept matches b c → IsKept matches a c
  kept-trans t a b c h k = grind arith

  -- the first of two matches the first of two
  pub kept-else : (a b c d : Option V) → IsKept matches a b → IsKept matches c d
      → IsKept matches (or_else a c) (or_else b d)
  kept-else a b c d h k = grind arith

  -- where the right one is there, so is the left one
  pub bound-left : (a b : Option V) (w : V) → IsKept matches a b → b ≡ Some w → (v : V) × (a ≡ Some v)
  bound-left a b w h e = grind arith

  -- what the left one has, the right one does not lack
  pub not-lost : {A : Type 0} (a b : Option V) (v : V) → IsKept matches a b → a ≡ Some v → b ≡ None → A
  not-lost a b v h p q = grind arith

module _ {K V : Type 0} (matches : V → V → Type 0) where
  -- the sides of equal maps may be turned with the relation
  pub maps-flip : (f g : List K → Option V) → IsEqualMap matches f g → IsEqualMap (λ v w. matches w v) g f
  maps-flip f g h k = grind arith

  -- what is the same as an equal map is an equal map
  pub maps-by : (f g h : List K → Option V) → IsEqualMap matches f g → ((k : List K) → h k ≡ g k)
      → IsEqualMap matches f h
  maps-by f g h e s k = rw (s k) (e k)
