-- What a tree binds, as a relation by cases.
use Rattle.std.specs.Prelude.{◌≡◌, ◌⊎◌, List, ◌++◌, Option, Some, IsTrue}
use Rattle.std.specs.declared.cmp.Ordering.{Ordering}
use Rattle.vc_tree_model.specs.Key.{same_key}
use Rattle.vc_tree_model.specs.Tree.{Tree, Forest, bare, grow}

module _ {K V : Type 0} (cmp : K → K → Ordering) where
  -- the key equals the prefix and the value is there
  abbrev pub OwnBinds : List K → Option V → List K → V → Type 0
  OwnBinds p v k a = IsTrue (same_key cmp p k) × (v ≡ Some a)

  -- the key equals the prefix joined with some rest, which is bound below
  abbrev pub BelowBinds : List K → (List K → V → Type 0) → List K → V → Type 0
  BelowBinds p below k a = (rest : List K) × IsTrue (same_key cmp (p ++ rest) k) × below rest a

  -- a node binds the key itself, or a child of it binds the rest
  abbrev pub NodeBinds : List K → Option V → (List K → V → Type 0) → List K → V → Type 0
  NodeBinds p v below k a = OwnBinds p v k a ⊎ BelowBinds p below k a

  -- some tree of a list binds the key to the value
  abbrev pub BindsIn : Forest K V → List K → V → Type 0
  BindsIn bare k a = ⊥
  BindsIn (grow p v kids rest) k a = NodeBinds p v (BindsIn kids) k a ⊎ BindsIn rest k a

  -- a tree binds the key to the value
  abbrev pub Binds : Tree K V → List K → V → Type 0
  Binds t = NodeBinds t.prefix t.value (BindsIn t.children)
