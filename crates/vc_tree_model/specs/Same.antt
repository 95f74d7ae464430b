-- When two trees are the same.
use Rattle.std.specs.Prelude.{◌≡◌, IsTrue, ⊤}
use Rattle.std.specs.declared.cmp.Ordering.{Ordering}
use Rattle.vc_tree_model.specs.Key.{same_key}
use Rattle.vc_tree_model.specs.Value.{IsKept}
use Rattle.vc_tree_model.specs.Tree.{Tree, Forest, bare, grow}

module _ {K V : Type 0} where
  module _ (cmp : K → K → Ordering) (matches : V → V → Type 0) where
    -- equally many trees, the same pairwise
    abbrev pub IsSameIn : Forest K V → Forest K V → Type 0
    IsSameIn bare bare = ⊤
    IsSameIn bare (grow q w more others) = ⊥
    IsSameIn (grow p v kids rest) bare = ⊥
    IsSameIn (grow p v kids rest) (grow q w more others) =
        IsTrue (same_key cmp p q) × IsKept matches v w × IsSameIn kids more × IsSameIn rest others

    -- equal prefixes, both without a value or with values that match, and the same children pairwise
    abbrev pub IsSame : Tree K V → Tree K V → Type 0
    IsSame t u =
        IsTrue (same_key cmp t.prefix u.prefix) × IsKept matches t.value u.value × IsSameIn t.children u.children

  module _ (keeps : V → V → Type 0) where
    -- equally many trees, alike pairwise
    abbrev pub IsAlikeIn : Forest K V → Forest K V → Type 0
    IsAlikeIn bare bare = ⊤
    IsAlikeIn bare (grow q w more others) = ⊥
    IsAlikeIn (grow p v kids rest) bare = ⊥
    IsAlikeIn (grow p v kids rest) (grow q w more others) =
        (p ≡ q) × IsKept keeps v w × IsAlikeIn kids more × IsAlikeIn rest others

    -- the same prefix, both without a value or with one that is kept, and children alike pairwise
    abbrev pub IsAlike : Tree K V → Tree K V → Type 0
    IsAlike t u = (t.prefix ≡ u.prefix) × IsKept keeps t.value u.value × IsAlikeIn t.children u.children
