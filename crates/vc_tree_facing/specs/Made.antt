-- What is built from the trees of an event, where two trees are side by side. No public clause
-- cites these words.
use Rattle.std.specs.Prelude.{List, Option, Some}
use Rattle.std.specs.declared.cmp.Ordering.{Ordering}
use Rattle.vc_tree_model.specs.Tree.{Tree}
use Rattle.vc_tree_model.specs.Child.{Begins, BeginsWith, IsChild, bound_by}
use Rattle.vc_tree_model.specs.Look.{Look, values}
use Rattle.vc_tree_model.specs.Places.{look}

module _ {K : Type 0} (cmp : K → K → Ordering) where
  -- of a tree that only one side has: a child that begins as the tree did, and R of what is read of
  -- the tree and of what the child binds
  pub record IsMadeBy {V U O : Type 0} (l : Look cmp V O) (R : O → Option U → Type 0) (t : Tree K V) (o : Option (Tree K U))
      : Type 0 where
    pub child : IsChild cmp o
    pub begins : (y : K) → Begins cmp y t.prefix → BeginsWith cmp y o
    pub binds : (k : List K) → R (l.of_tree t k) (bound_by cmp o k)

  -- the same, and R of what both bind
  abbrev pub IsMade : {V U : Type 0} → (Option V → Option U → Type 0) → Tree K V → Option (Tree K U) → Type 0
  IsMade R t o = IsMadeBy (values cmp) R t o

  module _ {V W U O : Type 0} (l : Look cmp W O) (R : Option V → O → Option U → Type 0) where
    -- of the trees of both sides, where one may have none: a child that begins as both did if they
    -- began alike, and R of what the first binds, of what is read of the second, and of what the
    -- child binds
    pub record IsMadeOf (t : Option (Tree K V)) (u : Option (Tree K W)) (o : Option (Tree K U)) : Type 0 where
      pub child : IsChild cmp o
      pub begins : (y : K) → BeginsWith cmp y t → BeginsWith cmp y u → BeginsWith cmp y o
      pub binds : (k : List K) → R (bound_by cmp t k) (look cmp l u k) (bound_by cmp o k)

    -- of two trees
    abbrev pub IsBothMadeBy : Tree K V → Tree K W → Option (Tree K U) → Type 0
    IsBothMadeBy t u o = IsMadeOf (Some t) (Some u) o

  -- of two trees, and R of what all three bind
  abbrev pub IsBothMade : {V W U : Type 0} → (Option V → Option W → Option U → Type 0) → Tree K V → Tree K W
      → Option (Tree K U) → Type 0
  IsBothMade R t u o = IsBothMadeBy (values cmp) R t u o
