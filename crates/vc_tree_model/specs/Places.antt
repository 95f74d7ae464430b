-- What is read from the trees at one place of two lists of children, and the combine of both lists.
use Rattle.std.specs.Prelude.{List, ◌∷◌, Option}
use Rattle.std.specs.Option.{option_map_or}
use Rattle.std.specs.declared.cmp.Ordering.{Ordering}
use Rattle.vc_tree_model.specs.Canonical.{AllAbove, AreChildren}
use Rattle.vc_tree_model.specs.Child.{BeginsWith}
use Rattle.vc_tree_model.specs.Tree.{Tree, Forest, forest}
use Rattle.vc_tree_model.specs.Map.{lookup_in}
use Rattle.vc_tree_model.specs.Look.{Look}

module _ {K : Type 0} (cmp : K → K → Ordering) where
  -- what is said of a key by a tree, if there is one
  abbrev pub look : {V O : Type 0} → Look cmp V O → Option (Tree K V) → List K → O
  look l o k = option_map_or (λ t. l.of_tree t k) o l.none

  -- a list of trees is the combine of two lists: at each key with a component, R relates what the
  -- left one binds, what is read from the right one, and what the result binds
  abbrev pub IsCombinedIn : {V W U O : Type 0} → Look cmp W O → (Option V → O → Option U → Type 0) → Forest K V → Forest K W
      → Forest K U → Type 0
  IsCombinedIn l R f g h =
      (x : K) (q : List K) → R (lookup_in cmp f (x ∷ q)) (l.of_forest g (x ∷ q)) (lookup_in cmp h (x ∷ q))

  -- t, if there is one, begins as y, and is before canonical children above y
  pub record IsBefore {V : Type 0} (y : K) (t : Option (Tree K V)) (ts : List (Tree K V)) : Type 0 where
    pub begins : BeginsWith cmp y t
    pub above : AllAbove cmp y (forest ts)
    pub children : AreChildren cmp (forest ts)
