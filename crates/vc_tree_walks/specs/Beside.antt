-- The pair next to a key. No public clause cites these words.
use Rattle.std.specs.Prelude.{◌≤◌, ◌++◌, List, Option, None, Some, length, take, ⊤}
use Rattle.std.specs.Option.{option_map}
use Rattle.std.specs.declared.cmp.Ordering.{Ordering}
use Rattle.vc_tree_model.specs.Map.{lookup}
use Rattle.vc_tree_model.specs.Tree.{Tree}
use Rattle.vc_tree_model.specs.Value.{IsKept}
use Rattle.vc_tree_model.specs.Walk.{IsSamePair, IsWalk, own_pair, prepended, walk, walk_in}
use Rattle.vc_tree_nodes.specs.Children.{seen}
use Rattle.vc_tree_walks.specs.Bounds.{above, below}
use Rattle.vc_tree_walks.specs.Towards.{end_of}
use Rattle.vc_tree_walks.specs.declared.beside.Beside.{Beside}
use Rattle.vc_tree_walks.specs.declared.beside.Beside.TheVariants.{Own, Within}
use Rattle.vc_tree_walks.specs.declared.ends.End.{End}
use Rattle.vc_tree_walks.specs.declared.ends.End.TheVariants.{First, Last}

-- the part of a map on one side of a key; the pair next to the key is at an end of it
abbrev pub side_of : {K V : Type 0} → (K → K → Ordering) → End → (List K → Option V) → List K → List K → Option V
side_of cmp First f key = above cmp f key
side_of cmp Last f key = below cmp f key

-- the pairs on that side
abbrev pub pairs_beside : {X : Type 0} → End → List X → List X → List X
pairs_beside First lower upper = upper
pairs_beside Last lower upper = lower

module _ {K V T : Type 0} (tree : T → Tree K V) where
  -- of a node and its first and last children the pairs on that side, without the prefix of the node
  abbrev pub near_pairs : End → Tree K V → List T → List T → List (List K × V)
  near_pairs First t lower upper = walk_in (seen tree upper)
  near_pairs Last t lower upper = own_pair t.value ++ walk_in (seen tree lower)

  -- the pair that was found; its key has the components of the given one up to where the two
  -- diverge
  abbrev pub spelled_pair : End → List K → Option (Beside V T) → Option (List K × V)
  spelled_pair end key None = None
  spelled_pair end key (Some (Own n v)) = Some (take n key, v.now)
  spelled_pair end key (Some (Within n t)) = option_map (prepended (take n key)) (end_of end (walk (tree t.now)))

  -- no more of the given key is taken than there is
  abbrev pub Fits : List K → Option (Beside V T) → Type 0
  Fits key None = ⊤
  Fits key (Some (Own n v)) = n ≤ length key
  Fits key (Some (Within n t)) = n ≤ length key

  -- it is the pair at the end of those on that side of the key, up to an equal key
  pub record IsBeside (cmp : K → K → Ordering) (t : Tree K V) (key : List K) (end : End) (found : Option (Beside V T))
      : Type 0 where
    pub pairs : List (List K × V)
    pub walks : IsWalk cmp (side_of cmp end (lookup cmp t) key) pairs
    pub near : IsKept (IsSamePair cmp) (end_of end pairs) (spelled_pair end key found)
    pub fits : Fits key found
