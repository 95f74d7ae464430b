-- Whether two trees are the same, as a test that code makes.
use Rattle.std.specs.Prelude.{Bool, true, false, ◌&&◌}
use Rattle.std.specs.Option.{option_eq}
use Rattle.std.specs.declared.cmp.Ordering.{Ordering}
use Rattle.vc_tree_model.specs.Key.{same_key}
use Rattle.vc_tree_model.specs.Tree.{Tree, Forest, bare, grow}

module _ {K V : Type 0} (cmp : K → K → Ordering) (eq : V → V → Bool) where
  -- equally many trees, the same pairwise
  abbrev pub same_tree_in : Forest K V → Forest K V → Bool
  same_tree_in bare bare = true
  same_tree_in bare (grow q w more others) = false
  same_tree_in (grow p v kids rest) bare = false
  same_tree_in (grow p v kids rest) (grow q w more others) =
      (same_key cmp p q && (option_eq eq v w && same_tree_in kids more)) && same_tree_in rest others

  -- equal prefixes, equal values or none, and the same children pairwise
  abbrev pub same_tree : Tree K V → Tree K V → Bool
  same_tree t u = same_key cmp t.prefix u.prefix && (option_eq eq t.value u.value && same_tree_in t.children u.children)
