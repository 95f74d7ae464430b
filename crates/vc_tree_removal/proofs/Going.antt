-- Which keys are removed with one: those that equal it, or begin with it.
--     refused        what a refusal leaves
--     begins-tells, same-tells        what is left of a key tells it
--     goes-begins        the first component
--     rest-taken, rest-within        the rest as a part of the key
--     shorter-begins        of two that a key begins with
use Rattle.std.proofs.Common.{◌≡◌, ◌≤◌, [], ◌∷◌, List, drop, length, Option, Some, arith}
use Rattle.std.proofs.Common.{true, append-nil, is_some}
use Rattle.std.specs.Cmp.{IsTotalOrder}
use Rattle.std.specs.Prelude.{IsSome}
use Rattle.std.specs.declared.cmp.Ordering.{Ordering}
use Rattle.std.specs.declared.cmp.Ordering.TheVariants.{Equal}
use Rattle.vc_tree_model.specs.Key.{same_key, behind}
use Rattle.vc_tree_model.proofs.KeyLemmas.{same-append}
use Rattle.vc_tree_model.proofs.AlikeLemmas.{tree-alike_lookup}
use Rattle.vc_tree_nodes.proofs.Events.{always-err}
use Rattle.vc_tree_nodes.proofs.Descending.{behind-length}
use Rattle.vc_tree_removal.specs.Taking.{goes, tells}
use Rattle.vc_tree_removal.specs.declared.removal.Extent.{Extent}
use Rattle.vc_tree_removal.specs.declared.removal.Extent.TheVariants.{Alone, Below}

-- a refusal leaves the nodes, and so what they bind
pub ruleset refused = (always-err, tree-alike_lookup)

-- something is left where all that begins so goes
pub begins-tells : {K : Type 0} (l : Option (List K)) → is_some l ≡ tells l Below
begins-tells l = grind arith

module _ {K : Type 0} (cmp : K → K → Ordering) where
  -- nothing is left where an equal key goes
  pub same-tells : (j k : List K) → same_key cmp j k ≡ tells (behind cmp j k) Alone
  same-tells j k = grind (arith, append-nil j, same-append cmp j [] k)

  -- a key that goes begins as the other does
  pub goes-begins : (e : Extent) (y x : K) (q k : List K) → goes cmp e (y ∷ q) (x ∷ k) ≡ true → cmp y x ≡ Equal
  goes-begins e y x q k h = grind arith

  -- ---- what is left of a key behind a prefix

  -- the key without as many components
  pub rest-taken : (p key : List K) → IsSome (behind cmp p key) → behind cmp p key ≡ Some (drop (length p) key)
  rest-taken (x ∷ p) (y ∷ key) s = grind (arith, rest-taken p key)
  rest-taken p key s = grind arith

  -- which is no shorter
  pub rest-within : (p key : List K) → IsSome (behind cmp p key) → length p ≤ length key
  rest-within p key s = grind (arith, behind-length cmp p key _ (rest-taken p key s))

  module _ (o : IsTotalOrder cmp) where
    -- of two that a key begins with, the longer begins with the other
    pub shorter-begins : (p q k : List K) → IsSome (behind cmp p k) → IsSome (behind cmp q k) → length p ≤ length q
        → IsSome (behind cmp p q)
    shorter-begins (x ∷ p) (y ∷ q) (z ∷ k) a b h = grind (arith, shorter-begins p q)
    shorter-begins p q k a b h = grind arith
