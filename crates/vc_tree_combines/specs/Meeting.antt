-- Tests of the keys of two trees. No public clause cites these words.
use Rattle.std.specs.Prelude.{◌≡◌, ◌+◌, ◌≤◌, Bool, true, false, not, List, ◌∷◌, Option, Some, None, is_some, MatchBool, ⊤}
use Rattle.std.specs.declared.cmp.Ordering.{Ordering}
use Rattle.vc_tree_model.specs.Canonical.{AreChildren}
use Rattle.vc_tree_model.specs.Map.{lookup, lookup_in}
use Rattle.vc_tree_model.specs.Tree.{Tree, Forest, nodes, forest_nodes}
use Rattle.vc_tree_nodes.specs.Children.{seen}
use Rattle.vc_tree_nodes.specs.Parting.{Agree}
use Rattle.vc_tree_combines.specs.declared.keys.Next.{Next}
use Rattle.vc_tree_combines.specs.declared.keys.Next.TheVariants.{Meeting, Missed, End}

module _ {V W : Type 0} where
  -- a key of the left is one of the right, if `shared`, and otherwise it is not
  abbrev pub IsMet : Bool → Option V → Option W → Type 0
  IsMet shared None w = ⊤
  IsMet shared (Some v) w = is_some w ≡ shared

  -- the left has the key, and the right has it, unless it is to be shared
  abbrev pub IsMissed : Bool → Option V → Option W → Type 0
  IsMissed shared None w = ⊥
  IsMissed shared (Some v) w = is_some w ≡ not shared

module _ {K V W : Type 0} (cmp : K → K → Ordering) (shared : Bool) where
  -- all keys of two trees are met, or some key is missed
  abbrev pub TellsKeys : Tree K V → Tree K W → Bool → Type 0
  TellsKeys t u answer =
      MatchBool answer ((k : List K) → IsMet shared (lookup cmp t k) (lookup cmp u k))
      ((k : List K) × IsMissed shared (lookup cmp t k) (lookup cmp u k))

  -- the same of two lists of trees, which have no empty key
  abbrev pub TellsKeysIn : Forest K V → Forest K W → Bool → Type 0
  TellsKeysIn f g answer =
      MatchBool answer ((x : K) (q : List K) → IsMet shared (lookup_in cmp f (x ∷ q)) (lookup_in cmp g (x ∷ q)))
      ((x : K) × (q : List K) × IsMissed shared (lookup_in cmp f (x ∷ q)) (lookup_in cmp g (x ∷ q)))

module _ {K V W A B : Type 0} (cmp : K → K → Ordering) (ta : A → Tree K V) (tb : B → Tree K W) (shared : Bool) where
  -- ls and rs are left of xs and ys, and tell of all
  pub record AreTails (xs : List A) (ys : List B) (ls : List A) (rs : List B) : Type 0 where
    pub left : AreChildren cmp (seen ta ls)
    pub right : AreChildren cmp (seen tb rs)
    pub left_nodes : forest_nodes (seen ta ls) ≤ forest_nodes (seen ta xs)
    pub right_nodes : forest_nodes (seen tb rs) ≤ forest_nodes (seen tb ys)
    pub tells : (answer : Bool) → TellsKeysIn cmp shared (seen ta ls) (seen tb rs) answer
        → TellsKeysIn cmp shared (seen ta xs) (seen tb ys) answer

  -- the trees x and y of two lists begin alike. Those before them are met, and those after them are
  -- ls and rs
  pub record IsMeeting (xs : List A) (ys : List B) (x : A) (ls : List A) (y : B) (rs : List B) : Type 0 where
    pub agree : Agree cmp (ta x).prefix (tb y).prefix 1
    pub left_nodes : nodes (ta x) + forest_nodes (seen ta ls) ≤ forest_nodes (seen ta xs)
    pub right_nodes : nodes (tb y) + forest_nodes (seen tb rs) ≤ forest_nodes (seen tb ys)
    pub here_missed : TellsKeys cmp shared (ta x) (tb y) false → TellsKeysIn cmp shared (seen ta xs) (seen tb ys) false
    pub here_met : TellsKeys cmp shared (ta x) (tb y) true → AreTails xs ys ls rs

  -- what comes next of two lists
  abbrev pub IsNext : List A → List B → Next A B → Type 0
  IsNext xs ys (Meeting x ls y rs) = IsMeeting xs ys x.now ls.now y.now rs.now
  IsNext xs ys Missed = TellsKeysIn cmp shared (seen ta xs) (seen tb ys) false
  IsNext xs ys End = TellsKeysIn cmp shared (seen ta xs) (seen tb ys) true
