-- What a combine leaves of a tree where the right side has none of its keys, and the closure is called at each of its values.
--     value-alone, below-alone        what may be asked of its parts
--     node-alone        what is left of its node is left of it
use Rattle.std.proofs.Common.{◌≡◌, [], ◌∷◌, ◌++◌, List, Option, None, Some, arith}
use Rattle.std.specs.Cmp.{IsTotalOrder}
use Rattle.std.specs.declared.cmp.Ordering.{Ordering}
use Rattle.vc_tree_model.specs.Child.{solid_child, bound_by}
use Rattle.vc_tree_model.specs.Key.{behind}
use Rattle.vc_tree_model.specs.Look.{values}
use Rattle.vc_tree_model.specs.Map.{lookup, lookup_in, node_lookup}
use Rattle.vc_tree_model.specs.Tree.{Tree, Forest, bare}
use Rattle.vc_tree_model.proofs.Joining.{joined-child, joined-same}
use Rattle.vc_tree_model.proofs.KeyLemmas.{behind-itself}
use Rattle.vc_tree_facing.specs.Made.{IsMade}
use Rattle.vc_tree_combines.specs.Making.{AreMadeOf}

module _ {K V W : Type 0} {cmp : K → K → Ordering} (o : IsTotalOrder cmp) (t : Tree K V) where
  module _ (asks : Option V → Option W → Type 0) (h : (k : List K) → asks (lookup cmp t k) None) where
    pub value-alone : asks t.value None
    value-alone = rw (behind-itself cmp o t.prefix []) at (h (t.prefix ++ []))

    pub below-alone : (x : K) (q : List K) → asks (lookup_in cmp t.children (x ∷ q)) None
    below-alone x q = rw (behind-itself cmp o t.prefix (x ∷ q)) at (h (t.prefix ++ x ∷ q))

  module _ (R : Option V → Option W → Option V → Type 0) (none : R None None None) (v : Option V) (f : Forest K V)
      (root : R t.value None v) (m : AreMadeOf cmp R t.children bare f) where
    alone-binds : (k : List K) → R (lookup cmp t k) None (bound_by cmp (solid_child t.prefix v f) k)
    alone-binds k = rw (joined-same cmp (values cmp) t.prefix v f k m.0) (by (behind cmp t.prefix k))
      where
        by : (left : Option (List K))
            → R (node_lookup t.value (lookup_in cmp t.children) left) None (node_lookup v (lookup_in cmp f) left)
        by None = none
        by (Some []) = root
        by (Some (x ∷ q)) = m.1 x q

    pub node-alone : {out : Option (Tree K V)} → out ≡ solid_child t.prefix v f → IsMade cmp (λ v z. R v None z) t out
    node-alone e =
        rw e (record {
          child = joined-child cmp t.prefix v f m.0;
          begins = λ y b. grind arith;
          binds = alone-binds;
        })
