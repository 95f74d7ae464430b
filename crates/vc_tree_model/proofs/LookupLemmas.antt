-- How a look-up continues from node to node, where it ends, and which keys a canonical tree binds.
--     lookup-equal, lookup-other, lookup-begins        one component of a key and of a prefix
--     lookup_in-empty, lookup_in-above, lookup_in-skip        what a list of trees doesn't bind
--     above-less, above-equal        components below those of a list of trees
--     lookup-same, lookup_in-same        equal keys
--     children-ordered        canonical children are in order
--     first-bound, tree-bound        each canonical child, and each node that is solid, binds a key
--     whole-cases, nothing-bound        the empty tree binds none
use Rattle.std.proofs.Common.{◌≡◌, [], ◌∷◌, ◌++◌, List, Option, None, Some, refl, ap, true, false, arith}
use Rattle.std.proofs.Common.{◌⊎◌}
use Rattle.std.specs.declared.cmp.Ordering.{Ordering}
use Rattle.std.specs.declared.cmp.Ordering.TheVariants.{Less, Equal}
use Rattle.std.specs.Ordering.{is_eq}
use Rattle.std.specs.Cmp.{IsTotalOrder}
use Rattle.vc_tree_model.specs.Key.{same_key}
use Rattle.vc_tree_model.specs.Value.{IsKept}
use Rattle.vc_tree_model.specs.Tree.{Tree, Forest, bare, grow, node}
use Rattle.vc_tree_model.specs.Map.{or_else, node_lookup, lookup, lookup_in}
use Rattle.vc_tree_model.specs.Canonical.{AllAbove, AreOrdered, AreChildren, IsSolid, IsWhole}
use Rattle.vc_tree_model.proofs.KeyLemmas.{behind-itself, behind-of_same}

-- a key that a map binds, and its value
pub record Bound {K V : Type 0} (f : List K → Option V) : Type 0 where
  pub key : List K
  pub value : V
  pub is : f key ≡ Some value

module _ {K V : Type 0} (cmp : K → K → Ordering) where
  -- canonical children are in order
  pub children-ordered : (f : Forest K V) → AreChildren cmp f → AreOrdered cmp f
  children-ordered (grow (x ∷ p) v kids rest) a = grind (arith, children-ordered kids, children-ordered rest)
  children-ordered f a = grind arith

  -- children bind no empty key
  pub lookup_in-empty : (f : Forest K V) → AreOrdered cmp f → lookup_in cmp f [] ≡ None
  lookup_in-empty (grow (x ∷ p) v kids rest) a = grind (arith, lookup_in-empty rest)
  lookup_in-empty f a = grind arith

  -- ---- one component

  -- an equal first component is taken off
  pub lookup-equal : (x y : K) (p k : List K) (v : Option V) (f : Forest K V) → cmp x y ≡ Equal
      → lookup cmp (node (x ∷ p) v f) (y ∷ k) ≡ lookup cmp (node p v f) k
  lookup-equal x y p k v f e = grind arith

  -- at another first component nothing is bound
  pub lookup-other : (x y : K) (p k : List K) (v : Option V) (f : Forest K V) → is_eq (cmp x y) ≡ false
      → lookup cmp (node (x ∷ p) v f) (y ∷ k) ≡ None
  lookup-other x y p k v f e = grind arith

  -- a bound key begins as the prefix does
  pub lookup-begins : (x y : K) (p k : List K) (v : Option V) (f : Forest K V) (a : V)
      → lookup cmp (node (x ∷ p) v f) (y ∷ k) ≡ Some a → cmp x y ≡ Equal
  lookup-begins x y p k v f a h = grind arith

  -- beside a tree that begins with another component, the others alone are asked
  pub lookup_in-skip : (x y : K) (p k : List K) (v : Option V) (kids rest : Forest K V) → is_eq (cmp x y) ≡ false
      → lookup_in cmp (grow (x ∷ p) v kids rest) (y ∷ k) ≡ lookup_in cmp rest (y ∷ k)
  lookup_in-skip x y p k v kids rest e = grind arith

  module _ (o : IsTotalOrder cmp) where
    -- ---- components below those of a list of trees

    -- what is less than a component that all are above
    pub above-less : (x y : K) (f : Forest K V) → cmp x y ≡ Less → AllAbove cmp y f → AllAbove cmp x f
    above-less x y (grow (z ∷ p) v kids rest) l a = grind (arith, above-less x y rest)
    above-less x y f l a = grind arith

    -- what equals one
    pub above-equal : (x y : K) (f : Forest K V) → cmp x y ≡ Equal → AllAbove cmp x f → AllAbove cmp y f
    above-equal x y (grow (z ∷ p) v kids rest) e a = grind (arith, above-equal x y rest)
    above-equal x y f e a = grind arith

    -- trees above a component bind no key that begins with it
    pub lookup_in-above : (x : K) (f : Forest K V) (k : List K) → AllAbove cmp x f → lookup_in cmp f (x ∷ k) ≡ None
    lookup_in-above x (grow (z ∷ p) v kids rest) k a = grind (arith, lookup_in-above x rest k)
    lookup_in-above x f k a = grind arith

    -- ---- equal keys

    -- what a node has at equal rests of a key is the same
    node_lookup-of_same : (v : Option V) (f : List K → Option V)
        → ((j k : List K) → same_key cmp j k ≡ true → f j ≡ f k)
        → (a b : Option (List K)) → IsKept (λ j k. same_key cmp j k ≡ true) a b
        → node_lookup v f a ≡ node_lookup v f b
    node_lookup-of_same v f g a b h = grind arith

    -- a list of trees has one value at equal keys
    pub lookup_in-same : (f : Forest K V) (j k : List K) → same_key cmp j k ≡ true
        → lookup_in cmp f j ≡ lookup_in cmp f k
    lookup_in-same (grow p v kids rest) j k h =
        grind (arith, lookup_in-same kids, lookup_in-same rest j k, behind-of_same, node_lookup-of_same)
    lookup_in-same bare j k h = grind arith

    -- a tree has one value at equal keys
    pub lookup-same : (t : Tree K V) (j k : List K) → same_key cmp j k ≡ true → lookup cmp t j ≡ lookup cmp t k
    lookup-same t j k h = grind (arith, node_lookup-of_same, lookup_in-same, behind-of_same)

    -- ---- which keys are bound

    -- the first of these trees binds a key that begins as its prefix does
    abbrev pub FirstBound : Forest K V → Type 0
    FirstBound bare = Unit {0}
    FirstBound (grow [] v kids rest) = Unit {0}
    FirstBound (grow (x ∷ p) v kids rest) = Bound (λ k. lookup_in cmp (grow (x ∷ p) v kids rest) (x ∷ k))

    -- a solid node binds its prefix, or what its first child binds behind it
    node-bound : (p : List K) (v : Option V) (f : Forest K V) → IsSolid v f → AreChildren cmp f → FirstBound f
        → Bound (λ k. lookup cmp (node p v f) (p ++ k))
    node-bound p (Some v) f s a b = record { key = []; value = v; is = rw (behind-itself cmp o p []) refl }
    node-bound p None (grow (x ∷ q) w more rest) s a b =
        record { key = x ∷ b.key; value = b.value; is = rw (behind-itself cmp o p (x ∷ b.key)) b.is }
    node-bound p v f s a b = grind arith

    -- canonical children bind a key that begins as the first of them
    pub first-bound : (f : Forest K V) → AreChildren cmp f → FirstBound f
    first-bound (grow (x ∷ p) v kids rest) a =
        let b = node-bound (x ∷ p) v kids a.0 a.1 (first-bound kids a.1) in
        record
        { key = p ++ b.key; value = b.value; is = ap (λ m. or_else m (lookup_in cmp rest (x ∷ p ++ b.key))) b.is }
    first-bound f a = grind arith

    -- a solid node over canonical children binds a key that starts with its prefix
    pub tree-bound : (p : List K) (v : Option V) (f : Forest K V) → IsSolid v f → AreChildren cmp f
        → Bound (λ k. lookup cmp (node p v f) (p ++ k))
    tree-bound p v f s a = node-bound p v f s a (first-bound f a)

  -- the three parts of the empty tree
  abbrev pub AreNothing : List K → Option V → Forest K V → Type 0
  AreNothing p v f = (p ≡ []) × (v ≡ None) × (f ≡ bare)

  -- a whole canonical tree is solid, or the empty one
  pub whole-cases : (p : List K) (v : Option V) (f : Forest K V) → IsWhole p v f → IsSolid v f ⊎ AreNothing p v f
  whole-cases p v f h = grind arith

  -- the empty tree, or one of its parts, binds no key
  pub nothing-bound : (p : List K) (v : Option V) (f : Forest K V) → AreNothing p v f → (k : List K)
      → lookup cmp (node p v f) k ≡ None
  nothing-bound p v f e k = grind arith
