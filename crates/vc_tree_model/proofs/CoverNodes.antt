-- The cover of a key by the keys of a tree, from node to node along the key.
--     cover-equal, cover-none        the cover by equal maps, and by a map that binds nothing
--     cover-node        of a node, what is below it covers what is left behind its prefix, or otherwise its own value does
--     cover-below        of children, the child covers that begins as the key does
use Rattle.std.proofs.Common.{◌≡◌, [], ◌∷◌, List, Option, None, Some, refl, sym, ap, arith}
use Rattle.std.specs.declared.cmp.Ordering.{Ordering}
use Rattle.vc_tree_model.specs.Key.{behind}
use Rattle.vc_tree_model.specs.Map.{or_else, node_lookup}
use Rattle.vc_tree_model.specs.Cover.{cover}

module _ {K W : Type 0} where
  -- equal maps give one cover
  pub cover-equal : (f g : List K → Option W) → ((k : List K) → f k ≡ g k) → (k : List K) → cover f k ≡ cover g k
  cover-equal f g e (x ∷ k) = grind (arith, cover-equal (λ r. f (x ∷ r)) (λ r. g (x ∷ r)) (λ r. e (x ∷ r)) k)
  cover-equal f g e [] = grind arith

  -- a map that binds nothing covers nothing
  pub cover-none : (f : List K → Option W) → ((k : List K) → f k ≡ None) → (k : List K) → cover f k ≡ None
  cover-none f e (x ∷ k) = grind (arith, cover-none (λ r. f (x ∷ r)) (λ r. e (x ∷ r)) k)
  cover-none f e [] = grind arith

  -- what covers what is left of a key behind the prefix of a node: what is below, or else the node's own value
  abbrev pub node_cover : Option W → (List K → Option W) → Option (List K) → Option W
  node_cover v f None = None
  node_cover v f (Some left) = or_else (cover f left) v

  -- behind the empty prefix
  cover-own : (v : Option W) (f : List K → Option W) → f [] ≡ None → (k : List K)
      → cover (λ r. node_lookup v f (Some r)) k ≡ or_else (cover f k) v
  cover-own v f e [] = ap (λ o. or_else o v) (sym e)
  cover-own v f e (x ∷ k) = grind arith

  module _ (cmp : K → K → Ordering) where
    -- of a node, what is below it covers what is left behind its prefix, or else its own value does
    pub cover-node : (v : Option W) (f : List K → Option W) → f [] ≡ None → (p k : List K)
        → cover (λ r. node_lookup v f (behind cmp p r)) k ≡ node_cover v f (behind cmp p k)
    cover-node v f e [] k = cover-own v f e k
    cover-node v f e (y ∷ p) [] = refl
    cover-node v f e (y ∷ p) (x ∷ k) = grind (arith, cover-node v f e p k, cover-none)

  -- of maps that bind no empty key, those cover alike that bind alike behind the first component
  pub cover-below : (f g : List K → Option W) (x : K) (k : List K) → f [] ≡ None → g [] ≡ None
      → ((r : List K) → f (x ∷ r) ≡ g (x ∷ r)) → cover f (x ∷ k) ≡ cover g (x ∷ k)
  cover-below f g x k e h same = grind arith
