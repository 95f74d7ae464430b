-- The first components of children, and the place of a component among them.
--     above-at, rest-children, child_first-map        the first components of children
--     children-ordered        they are in order to each component
--     place-found        a place in that order is one among them
use Rattle.std.proofs.Common.{◌≡◌, ℕ, ◌<◌, ◌≤◌, [], ◌∷◌, List, Option, ◌⊎◌, Some, Result}
use Rattle.std.proofs.Common.{arith, zero, suc, get_or, map, length, take, drop}
use Rattle.std.specs.Cmp.{IsTotalOrder}
use Rattle.std.specs.List.{AllByRecursion, HoldsAt}
use Rattle.std.specs.Prelude.{slice_get, MatchResult}
use Rattle.std.specs.declared.cmp.Ordering.{Ordering}
use Rattle.std.specs.declared.cmp.Ordering.TheVariants.{Less, Equal, Greater}
use Rattle.vc_merge.specs.Place.{IsOrdered, IsPlace}
use Rattle.vc_tree_model.specs.Tree.{Tree, Forest, grow, forest}
use Rattle.vc_tree_model.specs.Canonical.{AllAbove, AreChildren}
use Rattle.vc_tree_nodes.specs.Places.{child_first, first_side, BeginsAt, IsGapAt}
use Rattle.vc_tree_model.proofs.KeyLemmas.{less}

module _ {K V : Type 0} (cmp : K → K → Ordering) where
  -- ---- the first components of children

  -- what begins above x is found above x
  pub above-at : (x : K) (f : Forest K V) (i : ℕ) (z : K) → AllAbove cmp x f → child_first f i ≡ Some z → cmp x z ≡ Less
  above-at x (grow (y ∷ p) v kids rest) (suc i) z a e = grind (arith, above-at x rest i z)
  above-at x f i z a e = grind arith

  -- the trees beside a child are children
  pub rest-children : (p : List K) (v : Option V) (f rest : Forest K V) → AreChildren cmp (grow p v f rest)
      → AreChildren cmp rest
  rest-children p v f rest a = grind arith

  module _ {T : Type 0} (tree : T → Tree K V) where
    -- the first component at a place is that of the tree there
    pub child_first-map : (xs : List T) (i : ℕ) (d : T) → i < length xs
        → child_first (forest (map tree xs)) i ≡ slice_get (tree (get_or xs i d)).prefix 0
    child_first-map (t ∷ ts) (suc i) d h = grind (arith, child_first-map ts i d)
    child_first-map xs i d h = grind arith

    -- ---- a component that is sought among them

    module _ (x : K) where
      -- how a tree stands to the component
      abbrev side : T → Ordering
      side t = first_side cmp x (slice_get (tree t).prefix 0)

      -- what is above a component that x is not above is greater than x
      each-greater : (y : K) (ts : List T) → ((z : K) → cmp y z ≡ Less → cmp z x ≡ Greater)
          → AllAbove cmp y (forest (map tree ts)) → AllByRecursion (λ t. side t ≡ Greater) ts
      each-greater y (t ∷ ts) f a = grind (arith, each-greater y ts)
      each-greater y [] f a = grind arith

      -- a tree is less, or those behind it are greater
      less-or_last : IsTotalOrder cmp → (p : List K) (v : Option V) (kids : Forest K V) (ts : List T)
          → AreChildren cmp (grow p v kids (forest (map tree ts)))
          → (first_side cmp x (slice_get p 0) ≡ Less) ⊎ AllByRecursion (λ t. side t ≡ Greater) ts
      less-or_last o p v kids ts a = grind (arith, each-greater)

      -- children stand in order to a component
      pub children-ordered : IsTotalOrder cmp → (xs : List T) → AreChildren cmp (forest (map tree xs)) → IsOrdered side xs
      children-ordered o [] a = tt
      children-ordered o (t ∷ ts) a = (
        less-or_last o (tree t).prefix (tree t).value (tree t).children ts a,
        children-ordered o ts (rest-children (tree t).prefix (tree t).value (tree t).children (forest (map tree ts)) a),
      )

      -- the tree that stands equal begins with the component
      begins-found : (xs : List T) (i : ℕ) → i < length xs → HoldsAt (λ t. side t ≡ Equal) xs i
          → BeginsAt cmp (forest (map tree xs)) x i
      begins-found (t ∷ ts) zero h e = grind (arith, e t)
      begins-found (t ∷ ts) (suc i) h e = grind (arith, begins-found ts i)
      begins-found xs i h e = grind arith

      -- what is greater than the component is above it
      greater-above : IsTotalOrder cmp → (ts : List T) → AreChildren cmp (forest (map tree ts))
          → AllByRecursion (λ t. side t ≡ Greater) ts → AllAbove cmp x (forest (map tree ts))
      greater-above o (t ∷ ts) a g = grind (arith, greater-above o ts, less)
      greater-above o ts a g = grind arith

      -- between those that are less and those that are greater is its place
      gap-found : IsTotalOrder cmp → (xs : List T) (i : ℕ) → AreChildren cmp (forest (map tree xs)) → i ≤ length xs
          → AllByRecursion (λ t. side t ≡ Less) (take i xs) → AllByRecursion (λ t. side t ≡ Greater) (drop i xs)
          → IsGapAt cmp (forest (map tree xs)) x i
      gap-found o (t ∷ ts) (suc i) a h l g = grind (arith, gap-found o ts i)
      gap-found o xs i a h l g = grind (arith, greater-above)

      -- what a search finds among children is the tree that begins with the component, or the gap for one
      pub place-found : IsTotalOrder cmp → (xs : List T) → AreChildren cmp (forest (map tree xs)) → (r : Result ℕ ℕ)
          → IsPlace side xs r
          → MatchResult r (BeginsAt cmp (forest (map tree xs)) x) (IsGapAt cmp (forest (map tree xs)) x)
      place-found o xs a r f = grind (arith, begins-found, gap-found)
