-- The walk of a whole tree.
--     prepended-empty        the empty key before each key changes nothing
--     walk-of_tree        the walk of a canonical tree is that of its map
use Rattle.std.proofs.Common.{◌≡◌, List, [], ◌∷◌, map, refl, ap}
use Rattle.std.specs.declared.cmp.Ordering.{Ordering}
use Rattle.std.specs.Cmp.{IsTotalOrder}
use Rattle.vc_tree_model.specs.Tree.{Tree}
use Rattle.vc_tree_model.specs.Map.{lookup}
use Rattle.vc_tree_model.specs.Canonical.{IsCanonical}
use Rattle.vc_tree_model.specs.Walk.{IsWalk, prepended, walk}
use Rattle.vc_tree_model.proofs.LookupLemmas.{children-ordered}
use Rattle.vc_tree_model.proofs.Walking.{walk-is}

module _ {K V : Type 0} where
  -- the empty key before each key changes nothing
  pub prepended-empty : (l : List (List K × V)) → map (prepended []) l ≡ l
  prepended-empty [] = refl
  prepended-empty (b ∷ l) = ap (λ m. b ∷ m) (prepended-empty l)

  -- the walk of a canonical tree is that of its map
  pub walk-of_tree : (cmp : K → K → Ordering) → IsTotalOrder cmp → (t : Tree K V) → IsCanonical cmp t
      → (l : List (List K × V)) → l ≡ walk t → IsWalk cmp (lookup cmp t) l
  walk-of_tree cmp o t c l e = rw e (walk-is cmp o t (children-ordered cmp t.children c.1))
