-- What is left of a tree after a change that adds nothing. No public clause cites these words.
use Rattle.std.specs.Prelude.{◌≡◌, Bool, true, cond, ℕ, List, ◌∷◌, Option, Some, None, take, drop}
use Rattle.std.specs.declared.cmp.Ordering.{Ordering}
use Rattle.vc_tree_model.specs.Canonical.{AreChildren}
use Rattle.vc_tree_model.specs.Child.{solid_child, value_at, children_at}
use Rattle.vc_tree_model.specs.Look.{Look}
use Rattle.vc_tree_model.specs.Map.{lookup_in}
use Rattle.vc_tree_model.specs.Tree.{Tree, Forest, bare, grow, shortened}
use Rattle.vc_tree_facing.specs.Made.{IsBothMadeBy}

module _ {K V : Type 0} where
  -- the list of a tree alone, without the first n components of its prefix
  abbrev pub alone : ℕ → Tree K V → Forest K V
  alone n t = grow (drop n t.prefix) t.value t.children bare

  -- the tree without those components, if it stays
  abbrev pub left_of : Bool → ℕ → Tree K V → Option (Tree K V)
  left_of stays n t = cond stays (Some (shortened n t)) None

  -- n components after the first i of its prefix, a tree has the value v and the children f
  pub record IsBehind (i n : ℕ) (t : Tree K V) (v : Option V) (f : Forest K V) : Type 0 where
    pub value : v ≡ value_at (shortened i t) (drop n (drop i t.prefix))
    pub children : f ≡ children_at (shortened i t) (drop n (drop i t.prefix))

  -- where the tree stays, its first n components do
  abbrev pub KeepsFront : ℕ → Tree K V → Bool → Tree K V → Type 0
  KeepsFront n old stays new = stays ≡ true → take n new.prefix ≡ take n old.prefix

module _ {K V W O : Type 0} (cmp : K → K → Ordering) (l : Look cmp W O) (R : Option V → O → Option V → Type 0) where
  -- at each key with a component, R of what f binds, of what is read from g, and of what h binds
  abbrev pub IsLessenedIn : Forest K V → Forest K W → Forest K V → Type 0
  IsLessenedIn f g h = (x : K) (q : List K) → R (lookup_in cmp f (x ∷ q)) (l.of_forest g (x ∷ q)) (lookup_in cmp h (x ∷ q))

  -- the same below a node with the value w
  abbrev pub IsLessenedUnder : Option W → Forest K V → Forest K W → Forest K V → Type 0
  IsLessenedUnder w f g h =
      (x : K) (q : List K) → R (lookup_in cmp f (x ∷ q)) (l.under w (l.of_forest g (x ∷ q))) (lookup_in cmp h (x ∷ q))

  -- after its first i components, t is left as R says of it and of u
  pub record IsLessened (i : ℕ) (t : Tree K V) (u : Tree K W) (stays : Bool) (new : Tree K V) : Type 0 where
    pub made : IsBothMadeBy cmp l R (shortened i t) u (left_of stays i new)
    pub front : KeepsFront i t stays new

  -- of a tree that continues after n components, beside a node with the value w and the children g
  pub record IsInside (n : ℕ) (t : Tree K V) (w : Option W) (g : Forest K W) (stays : Bool) (new : Tree K V) : Type 0 where
    pub said : R None (l.at w) None
    pub below : IsLessenedUnder w (alone n t) g (cond stays (alone n new) bare)
    pub children : AreChildren cmp (cond stays (alone n new) bare)
    pub front : KeepsFront n t stays new

  -- of a node whose prefix ended, beside such a node
  pub record IsNodeLeft (i : ℕ) (t : Tree K V) (w : Option W) (g : Forest K W) (stays : Bool) (new : Tree K V) : Type 0 where
    pub value : Option V
    pub kids : Forest K V
    pub said : R t.value (l.at w) value
    pub below : IsLessenedUnder w t.children g kids
    pub children : AreChildren cmp kids
    pub is : left_of stays i new ≡ solid_child (drop i t.prefix) value kids
    pub front : KeepsFront i t stays new
