-- A node seen from a place in its prefix, a node that is joined with its only child, and the combine of two trees whose
-- prefixes begin alike.
--     opened        a tree is read as the node that is at a place in its prefix
--     opened-children        the children of that node are canonical
--     joined-same, joined-child, joined-begins        the node of some parts, as a child
--     value-asked, children-asked        what holds at each key of two trees, holds at the nodes there
--     trees-combined        all four ways in which one prefix lies on the other
use Rattle.std.proofs.Common.{◌≡◌, [], ◌∷◌, ◌++◌, List, Option, None, Some, sym, ap, subst, ◌∙◌, true, arith}
use Rattle.std.proofs.Common.{append-nil}
use Rattle.std.specs.Cmp.{IsTotalOrder}
use Rattle.std.specs.declared.cmp.Ordering.{Ordering}
use Rattle.std.specs.declared.cmp.Ordering.TheVariants.{Equal}
use Rattle.vc_tree_model.specs.Key.{same_key}
use Rattle.vc_tree_model.specs.Tree.{Tree, Forest, bare, grow, node}
use Rattle.vc_tree_model.specs.Map.{lookup, lookup_in}
use Rattle.vc_tree_model.specs.Canonical.{AreChildren, IsSolid, IsWhole, IsCanonical}
use Rattle.vc_tree_model.specs.Child.{BeginsWith, IsChild, bound_by, solid_child, value_at, children_at}
use Rattle.vc_tree_model.proofs.KeyLemmas.{then_behind, behind-append, behind-same, behind-itself}
use Rattle.vc_tree_model.specs.Look.{Look, told, values}
use Rattle.vc_tree_model.specs.Places.{look}

module _ {K : Type 0} (cmp : K → K → Ordering) where
  -- ---- how a node is read

  module _ {V O : Type 0} (l : Look cmp V O) where
    -- what a node says of what is left of a key behind its prefix
    abbrev pub within : Option V → Forest K V → Option (List K) → O
    within v f left = told l.none (l.at v) (λ q. l.under v (l.of_forest f q)) left

    lowered-by : (y : K) (p : List K) (v : Option V) (f : Forest K V) (left : Option (List K))
        → within v f (then_behind cmp (y ∷ p) left) ≡ within None (grow (y ∷ p) v f bare) left
    lowered-by y p v f left = grind arith

    -- a node reads as a node without a value at the front of its prefix, with one child
    lowered : (h : List K) (y : K) (p : List K) (v : Option V) (f : Forest K V) (k : List K)
        → l.of_tree (node (h ++ y ∷ p) v f) k ≡ l.of_tree (node h None (grow (y ∷ p) v f bare)) k
    lowered h y p v f k = grind (arith, behind-append, lowered-by)

    -- a tree reads as the node that stands at a place in its prefix
    pub opened : (t : Tree K V) (h rest k : List K) → t.prefix ≡ h ++ rest
        → l.of_tree t k ≡ l.of_tree (node h (value_at t rest) (children_at t rest)) k
    opened t h [] k e = ap (λ p. l.of_tree (node p t.value t.children) k) (e ∙ append-nil h)
    opened t h (y ∷ rest) k e =
        ap (λ p. l.of_tree (node p t.value t.children) k) e ∙ lowered h y rest t.value t.children k

    -- a node without a value and without children says nothing
    nothing : (p k : List K) → l.of_tree (node p None bare) k ≡ l.none
    nothing p k = grind arith

    -- a node, made as a child, reads as it did
    pub joined-same : (p : List K) (v : Option V) (f : Forest K V) (k : List K) → AreChildren cmp f
        → look cmp l (solid_child p v f) k ≡ l.of_tree (node p v f) k
    joined-same p None bare k c = sym (nothing p k)
    joined-same p None (grow (y ∷ q) w more bare) k c = lowered p y q w more k
    joined-same p v f k c = grind arith

  -- ---- what a node is as a child

  module _ {V : Type 0} where
    -- a node, made as a child, may stand among children
    pub joined-child : (p : List K) (v : Option V) (f : Forest K V) → AreChildren cmp f → IsChild cmp (solid_child p v f)
    joined-child p v f c = grind arith

    -- and begins as its prefix did
    pub joined-begins : (x y : K) (p : List K) (v : Option V) (f : Forest K V) → cmp x y ≡ Equal
        → BeginsWith cmp x (solid_child (y ∷ p) v f)
    joined-begins x y p v f e = grind arith

    solid-in : (h rest : List K) (y : K) (v : Option V) (f : Forest K V) → IsWhole (h ++ y ∷ rest) v f → IsSolid v f
    solid-in [] rest y v f w = w
    solid-in (x ∷ h) rest y v f w = w

    -- the children of a node that stands in the prefix of a canonical tree
    pub opened-children : (t : Tree K V) (h rest : List K) → t.prefix ≡ h ++ rest → IsCanonical cmp t
        → AreChildren cmp (children_at t rest)
    opened-children t h rest e c = grind (arith, solid-in)

  -- ---- two trees whose prefixes begin alike

  module _ {V W U O : Type 0} (o : IsTotalOrder cmp) (l : Look cmp W O) (R : Option V → O → Option U → Type 0)
      (none : R None l.none None) where
    module _ (v : Option V) (w : Option W) (u : Option U) (f : Forest K V) (g : Forest K W) (h : Forest K U)
        (root : R v (l.at w) u)
        (below : (x : K) (q : List K)
        → R (lookup_in cmp f (x ∷ q)) (l.under w (l.of_forest g (x ∷ q))) (lookup_in cmp h (x ∷ q))) where
      nodes-by : (left : Option (List K))
          → R (within (values cmp) v f left) (within l w g left) (within (values cmp) u h left)
      nodes-by left = grind arith

      -- nodes with equal prefixes: their values and their children are combined
      nodes-combined : (p p' k : List K) → same_key cmp p p' ≡ true
          → R (lookup cmp (node p v f) k) (l.of_tree (node p' w g) k) (lookup cmp (node p u h) k)
      nodes-combined p p' k s = grind (arith, behind-same, nodes-by)

    -- two trees with equal fronts p and p' of their prefixes: the nodes at these places are combined, whatever is left of either
    -- prefix
    pub trees-combined : (s : Tree K V) (t : Tree K W) (p a p' b : List K) (u : Option U) (h : Forest K U)
        → s.prefix ≡ p ++ a → t.prefix ≡ p' ++ b → same_key cmp p p' ≡ true → AreChildren cmp h
        → R (value_at s a) (l.at (value_at t b)) u
        → ((x : K) (q : List K) → R (lookup_in cmp (children_at s a) (x ∷ q))
        (l.under (value_at t b) (l.of_forest (children_at t b) (x ∷ q))) (lookup_in cmp h (x ∷ q)))
        → (k : List K) → R (lookup cmp s k) (l.of_tree t k) (bound_by cmp (solid_child p u h) k)
    trees-combined s t p a p' b u h es et e c root below k =
        rw (opened (values cmp) s p a k es, opened l t p' b k et, joined-same (values cmp) p u h k c)
        (nodes-combined (value_at s a) (value_at t b) u (children_at s a) (children_at t b) h root below p p' k e)

  module _ {V W O : Type 0} (o : IsTotalOrder cmp) (l : Look cmp W O) (P : Option V → O → Type 0) where
    -- what holds at each key of two trees, holds at each key of the nodes at equal fronts of their prefixes
    pub asked-from : (s : Tree K V) (t : Tree K W) (p a p' b k : List K) → s.prefix ≡ p ++ a → t.prefix ≡ p' ++ b
        → same_key cmp p p' ≡ true → P (lookup cmp s (p ++ k)) (l.of_tree t (p ++ k))
        → P (within (values cmp) (value_at s a) (children_at s a) (Some k))
        (within l (value_at t b) (children_at t b) (Some k))
    asked-from s t p a p' b k es et e h =
        let left : lookup cmp s (p ++ k) ≡ within (values cmp) (value_at s a) (children_at s a) (Some k) =
        opened (values cmp) s p a (p ++ k) es
        ∙ (values cmp).tree_is (node p (value_at s a) (children_at s a)) (p ++ k)
        ∙ ap (within (values cmp) (value_at s a) (children_at s a)) (behind-itself cmp o p k) in
        let right : l.of_tree t (p ++ k) ≡ within l (value_at t b) (children_at t b) (Some k) =
        opened l t p' b (p ++ k) et
        ∙ l.tree_is (node p' (value_at t b) (children_at t b)) (p ++ k)
        ∙ ap (within l (value_at t b) (children_at t b))
        (sym (behind-same cmp o p p' (p ++ k) e) ∙ behind-itself cmp o p k) in
        subst (λ w. P (within (values cmp) (value_at s a) (children_at s a) (Some k)) w) right
        (subst (λ v. P v (l.of_tree t (p ++ k))) left h)

    -- what holds at each key of two trees, holds of the values of the nodes at equal fronts of their prefixes
    pub value-asked : (s : Tree K V) (t : Tree K W) (p a p' b : List K) → s.prefix ≡ p ++ a → t.prefix ≡ p' ++ b
        → same_key cmp p p' ≡ true → ((k : List K) → P (lookup cmp s k) (l.of_tree t k)) → P (value_at s a) (l.at (value_at t b))
    value-asked s t p a p' b es et e h = asked-from s t p a p' b [] es et e (h (p ++ []))

    -- and at each key of their children
    pub children-asked : (s : Tree K V) (t : Tree K W) (p a p' b : List K) → s.prefix ≡ p ++ a → t.prefix ≡ p' ++ b
        → same_key cmp p p' ≡ true → ((k : List K) → P (lookup cmp s k) (l.of_tree t k)) → (x : K) (q : List K)
        → P (lookup_in cmp (children_at s a) (x ∷ q)) (l.under (value_at t b) (l.of_forest (children_at t b) (x ∷ q)))
    children-asked s t p a p' b es et e h x q = asked-from s t p a p' b (x ∷ q) es et e (h (p ++ x ∷ q))
