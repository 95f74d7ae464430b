-- The value and the children of a node of a shared tree. No public clause cites these words.
use Rattle.std.specs.Prelude.{◌≡◌, ℕ, ◌+◌, ◌≤◌, List, Option, None, Some, max}
use Rattle.std.proofs.Common.{arith}
use denote.Param.Weighed.{most}
use Rattle.vc_tree_model.specs.Tree.{Tree, shared_forest, nodes, forest_nodes}
use Rattle.vc_tree_model.specs.TreeCode.{most_le-nodes}
use Rattle.vc_tree_nodes.specs.declared.body.Body.{Body}
use Rattle.vc_tree_nodes.specs.declared.body.Body.TheVariants.{Neither, Value, Children, Both}

module _ {V C : Type 0} where
  -- the value
  abbrev pub body_value : Body V C → Option V
  body_value Neither = None
  body_value (Value v) = Some v
  body_value (Children c) = None
  body_value (Both v c) = Some v

  -- the children
  abbrev pub body_children : Body V C → Option C
  body_children Neither = None
  body_children (Value v) = None
  body_children (Children c) = Some c
  body_children (Both v c) = Some c

-- no child of a node has more nodes than there are below it
module _ {K V C : Type 0} (items : C → List (Tree K V)) (weight : Body V C → ℕ) where
  abbrev below : C → ℕ
  below c = max (most (λ t. nodes t + 1) (items c)) 0

  pub body_falls : weight Neither ≡ 0 → ((v : V) → weight (Value v) ≡ 0)
      → ((c : C) → weight (Children c) ≡ max (below c) 0)
      → ((v : V) (c : C) → weight (Both v c) ≡ max (max 0 (below c)) 0)
      → (b : Body V C) → weight b ≤ forest_nodes (shared_forest items (body_children b)) + 1
  body_falls neither value children both Neither = omega (arith, neither)
  body_falls neither value children both (Value v) = let w = value v in omega (arith, w)
  body_falls neither value children both (Children c) =
      let w = children c in let m = most_le-nodes (items c) in omega (arith, m, w)
  body_falls neither value children both (Both v c) =
      let w = both v c in let m = most_le-nodes (items c) in omega (arith, m, w)
