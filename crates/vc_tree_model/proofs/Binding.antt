-- The relation by cases agrees with the look-up.
--     lookup-binds        what is looked up is bound, in any tree
--     binds-lookup, binds-lookup_same        the other way round where children are in order, also at an equal key
--     ordered-binds        both, of a tree whose prefixes are in order
use Rattle.std.proofs.Common.{◌≡◌, [], ◌∷◌, ◌++◌, List, Option, None, Some, refl, sym, ap, ◌∙◌, true, arith}
use Rattle.std.proofs.Common.{append-nil, ◌⊎◌, inl, inr, ◌↔◌}
use Rattle.std.specs.declared.cmp.Ordering.{Ordering}
use Rattle.std.specs.Cmp.{IsTotalOrder}
use Rattle.vc_tree_model.specs.Key.{same_key, behind}
use Rattle.vc_tree_model.specs.Tree.{Tree, Forest, bare, grow, node}
use Rattle.vc_tree_model.specs.Map.{or_else, node_lookup, lookup, lookup_in}
use Rattle.vc_tree_model.specs.Binds.{NodeBinds, BindsIn, Binds}
use Rattle.vc_tree_model.specs.Canonical.{AllAbove, AreOrdered}
use Rattle.vc_tree_model.specs.Conditions.{IsOrdered}
use Rattle.vc_tree_model.proofs.KeyLemmas.{none-some, behind-joins, same-behind, left-behind, same-itself, same-trans}
use Rattle.vc_tree_model.proofs.LookupLemmas.{lookup_in-empty, lookup-other, lookup_in-above, above-equal}
use Rattle.vc_tree_model.proofs.FourConditions.{meets-ordered}

module _ {K V : Type 0} (cmp : K → K → Ordering) (o : IsTotalOrder cmp) where
  -- ---- what is looked up is bound, in any tree

  -- one of two has the value
  else-cases : (a b : Option V) (v : V) → or_else a b ≡ Some v → (a ≡ Some v) ⊎ (b ≡ Some v)
  else-cases a b v h = grind arith

  -- what a node looks up, it binds
  node-binds : (p k : List K) (v : Option V) (f : List K → Option V) (below : List K → V → Type 0)
      → ((rest : List K) (a : V) → f rest ≡ Some a → below rest a)
      → (left : Option (List K)) (a : V) → behind cmp p k ≡ left → node_lookup v f left ≡ Some a
      → NodeBinds cmp p v below k a
  node-binds p k v f below g None a e h = none-some a h
  node-binds p k v f below g (Some []) a e h =
      inl (ap (λ q. same_key cmp q k) (sym (append-nil p)) ∙ behind-joins cmp o p k [] e, h)
  node-binds p k v f below g (Some (x ∷ rest)) a e h = grind (arith, behind-joins cmp o p k (x ∷ rest) e)

  -- what a list of trees looks up, one of them binds
  pub binds-in : (f : Forest K V) (k : List K) (a : V) → lookup_in cmp f k ≡ Some a → BindsIn cmp f k a
  binds-in bare k a h = none-some a h
  binds-in (grow p v kids rest) k a h =
      elim (else-cases _ _ a h) [
        | inl e ↦ inl (node-binds p k v (lookup_in cmp kids) _ (binds-in kids) (behind cmp p k) a refl e)
        | inr e ↦ inr (binds-in rest k a e)
      ]

  -- what a tree looks up, it binds
  pub lookup-binds : (t : Tree K V) (k : List K) (a : V) → lookup cmp t k ≡ Some a → Binds cmp t k a
  lookup-binds t k a h =
      node-binds t.prefix k t.value (lookup_in cmp t.children) (BindsIn cmp t.children) (binds-in t.children)
      (behind cmp t.prefix k) a refl h

  -- ---- what is bound is looked up, where children are in order

  -- a key that a later tree binds is none of the first
  first-lacks : (x : K) (p k : List K) (v : Option V) (f rest : Forest K V) (a : V) → AllAbove cmp x rest
      → lookup_in cmp rest k ≡ Some a → lookup cmp (node (x ∷ p) v f) k ≡ None
  first-lacks x p k v f rest a b h = grind (arith, lookup-other, none-some, lookup_in-above, above-equal)

  -- what children have at a key, their node has where that key is left
  left-below : (v : Option V) (f : Forest K V) (rest : List K) (a : V) → AreOrdered cmp f
      → lookup_in cmp f rest ≡ Some a → node_lookup v (lookup_in cmp f) (Some rest) ≡ Some a
  left-below v f rest a d h = grind (arith, none-some, lookup_in-empty)

  -- what a node binds, it looks up at each equal key
  node-found : (p k s : List K) (v : Option V) (f : Forest K V) (a : V) → AreOrdered cmp f
      → ((rest s : List K) (a : V) → BindsIn cmp f rest a → same_key cmp rest s ≡ true → lookup_in cmp f s ≡ Some a)
      → NodeBinds cmp p v (BindsIn cmp f) k a → same_key cmp k s ≡ true → lookup cmp (node p v f) s ≡ Some a
  node-found p k s v f a d g (inl h) e = grind (arith, same-behind, same-trans)
  node-found p k s v f a d g (inr h) e =
      let l = left-behind cmp p h.0 s (same-trans cmp o (p ++ h.0) k s h.1 e) in
      ap (node_lookup v (lookup_in cmp f)) l.1 ∙ left-below v f l.0 a d (g h.0 l.0 a h.2 l.2)

  -- what one tree of a list binds, the list looks up at each equal key
  found_in : (f : Forest K V) → AreOrdered cmp f → (k s : List K) (a : V) → BindsIn cmp f k a
      → same_key cmp k s ≡ true → lookup_in cmp f s ≡ Some a
  found_in (grow (x ∷ p) v kids rest) d k s a (inl h) e =
      grind (arith, node-found (x ∷ p) k s v kids a d.0 (found_in kids d.0) h e, found_in kids d.0)
  found_in (grow (x ∷ p) v kids rest) d k s a (inr h) e =
      grind (arith, found_in rest d.2 k s a h e, first-lacks x p s v kids rest a d.1 (found_in rest d.2 k s a h e))
  found_in f d k s a h e = grind arith

  -- what a tree binds, it looks up at each equal key
  pub binds-lookup_same : (t : Tree K V) → AreOrdered cmp t.children → (k s : List K) (a : V) → Binds cmp t k a
      → same_key cmp k s ≡ true → lookup cmp t s ≡ Some a
  binds-lookup_same t d k s a h e = node-found t.prefix k s t.value t.children a d (found_in t.children d) h e

  -- what a tree binds, it looks up
  pub binds-lookup : (t : Tree K V) → AreOrdered cmp t.children → (k : List K) (a : V) → Binds cmp t k a
      → lookup cmp t k ≡ Some a
  binds-lookup t d k a h = binds-lookup_same t d k k a h (same-itself cmp o k)

  -- a tree whose prefixes are in order binds what it looks up
  pub ordered-binds : (t : Tree K V) → IsOrdered cmp t → (k : List K) (a : V)
      → Binds cmp t k a ↔ (lookup cmp t k ≡ Some a)
  ordered-binds t m k a = (binds-lookup t (meets-ordered cmp t m) k a, lookup-binds t k a)
