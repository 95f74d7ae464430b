-- Canonical trees. The form here goes from a node to its children, and is what the types of trees keep as their
-- invariant; `Conditions` states the same by four conditions on all nodes.
use Rattle.std.specs.Prelude.{◌≡◌, List, [], ◌∷◌, Option, Some, None, ⊤}
use Rattle.std.specs.declared.cmp.Ordering.{Ordering}
use Rattle.std.specs.declared.cmp.Ordering.TheVariants.{Less}
use Rattle.vc_tree_model.specs.Tree.{Tree, Forest, bare, grow}

module _ {K V : Type 0} where
  -- there is a value, or there are at least two children
  abbrev pub IsSolid : Option V → Forest K V → Type 0
  IsSolid (Some v) kids = ⊤
  IsSolid None bare = ⊥
  IsSolid None (grow p v kids bare) = ⊥
  IsSolid None (grow p v kids (grow q w more rest)) = ⊤

  -- the whole tree may also be the empty one
  abbrev pub IsWhole : List K → Option V → Forest K V → Type 0
  IsWhole [] None bare = ⊤
  IsWhole p v kids = IsSolid v kids

module _ {K V : Type 0} (cmp : K → K → Ordering) where
  -- each tree begins with a component that is greater than x
  abbrev pub AllAbove : K → Forest K V → Type 0
  AllAbove x bare = ⊤
  AllAbove x (grow [] v kids rest) = ⊥
  AllAbove x (grow (y ∷ p) v kids rest) = (cmp x y ≡ Less) × AllAbove x rest

  -- no prefix is empty, and first components ascend strictly among siblings, at every depth
  abbrev pub AreOrdered : Forest K V → Type 0
  AreOrdered bare = ⊤
  AreOrdered (grow [] v kids rest) = ⊥
  AreOrdered (grow (x ∷ p) v kids rest) = AreOrdered kids × AllAbove x rest × AreOrdered rest

  -- they are ordered, and each node has a value or at least two children
  abbrev pub AreChildren : Forest K V → Type 0
  AreChildren bare = ⊤
  AreChildren (grow [] v kids rest) = ⊥
  AreChildren (grow (x ∷ p) v kids rest) = IsSolid v kids × AreChildren kids × AllAbove x rest × AreChildren rest

  -- the empty tree, or a node with a value or at least two children, over canonical children
  abbrev pub IsCanonical : Tree K V → Type 0
  IsCanonical t = IsWhole t.prefix t.value t.children × AreChildren t.children
