-- A tree that is made to be among children: none where it binds no key. No public clause cites
-- these words.
use Rattle.std.specs.Prelude.{◌≡◌, List, [], ◌∷◌, ◌++◌, Option, Some, None, ⊤}
use Rattle.std.specs.Option.{option_map_or}
use Rattle.std.specs.declared.cmp.Ordering.{Ordering}
use Rattle.std.specs.declared.cmp.Ordering.TheVariants.{Equal}
use Rattle.vc_tree_model.specs.Tree.{Tree, Forest, bare, grow, node}
use Rattle.vc_tree_model.specs.Map.{lookup}
use Rattle.vc_tree_model.specs.Canonical.{IsSolid, AreChildren}

-- the key begins with a component that equals y
abbrev pub Begins : {K : Type 0} → (K → K → Ordering) → K → List K → Type 0
Begins cmp y [] = ⊥
Begins cmp y (z ∷ p) = cmp y z ≡ Equal

module _ {K V : Type 0} where
  -- the node of these parts as a child: none where it binds no key, and joined with its only child where it has no value
  abbrev pub solid_child : List K → Option V → Forest K V → Option (Tree K V)
  solid_child p (Some v) kids = Some (node p (Some v) kids)
  solid_child p None bare = None
  solid_child p None (grow q w more bare) = Some (node (p ++ q) w more)
  solid_child p None (grow q w more (grow r u most rest)) = Some (node p None (grow q w more (grow r u most rest)))

  -- the value of the node that is where `rest` is left of the prefix of t
  abbrev pub value_at : Tree K V → List K → Option V
  value_at t [] = t.value
  value_at t (x ∷ rest) = None

  -- the children of that node
  abbrev pub children_at : Tree K V → List K → Forest K V
  children_at t [] = t.children
  children_at t (x ∷ rest) = grow (x ∷ rest) t.value t.children bare

  module _ (cmp : K → K → Ordering) where
    -- the tree, if there is one, begins with such a component
    abbrev pub BeginsWith : K → Option (Tree K V) → Type 0
    BeginsWith y None = ⊤
    BeginsWith y (Some t) = Begins cmp y t.prefix

    -- the tree, if there is one, has a value or at least two children, and canonical children
    abbrev pub IsChild : Option (Tree K V) → Type 0
    IsChild None = ⊤
    IsChild (Some t) = IsSolid t.value t.children × AreChildren cmp t.children

    -- the value of a key in the tree, if there is one
    abbrev pub bound_by : Option (Tree K V) → List K → Option V
    bound_by o k = option_map_or (λ t. lookup cmp t k) o None
