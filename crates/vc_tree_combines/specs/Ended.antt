-- The node that a combine builds. No public clause cites these words.
use Rattle.std.specs.Prelude.{◌≡◌, List, Option}
use Rattle.vc_tree_model.specs.Tree.{Tree, Forest}
use Rattle.vc_tree_model.specs.Child.{solid_child}

-- a child of this prefix, of a value that is as R says, and of these children
pub record IsEnded {K V : Type 0} (R : Option V → Type 0) (prefix : List K) (kids : Forest K V)
    (o : Option (Tree K V)) : Type 0 where
  pub value : Option V
  pub said : R value
  pub child : o ≡ solid_child prefix value kids
