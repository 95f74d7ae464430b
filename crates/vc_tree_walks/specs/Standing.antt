-- Where a key is among those of a node. No public clause cites these words.
use Rattle.std.specs.Prelude.{◌≡◌, ◌<◌, ◌≤◌, ◌++◌, IsTrue, List, [], ◌∷◌, drop, length, map, take}
use Rattle.std.specs.Cmp.Lexicographic.{slice_cmp}
use Rattle.std.specs.List.{AllByRecursion}
use Rattle.std.specs.declared.cmp.Ordering.{Ordering}
use Rattle.std.specs.declared.cmp.Ordering.TheVariants.{Less, Equal, Greater}
use Rattle.vc_tree_model.specs.Canonical.{AreChildren}
use Rattle.vc_tree_model.specs.Key.{same_key}
use Rattle.vc_tree_model.specs.Tree.{Tree, nodes}
use Rattle.vc_tree_model.specs.Walk.{own_pair, prepended, walk, walk_in}
use Rattle.vc_tree_nodes.specs.Children.{seen}
use Rattle.vc_tree_nodes.specs.Parting.{Agree}
use Rattle.vc_tree_walks.specs.declared.seeking.Standing.{Standing}
use Rattle.vc_tree_walks.specs.declared.seeking.Standing.TheVariants.{Before, Own, Between, Into, Behind}

-- the key of each pair of the list compares so with the key
abbrev pub AllStand : {K V : Type 0} → (K → K → Ordering) → Ordering → List (List K × V) → List K → Type 0
AllStand cmp side l key = AllByRecursion (λ b. slice_cmp cmp b.0 key ≡ side) l

module _ {K V T : Type 0} (cmp : K → K → Ordering) (tree : T → Tree K V) (t : Tree K V) where
  -- the pair of the node, and those of its first children
  abbrev pub first_pairs : List T → List (List K × V)
  first_pairs lower = map (prepended t.prefix) (own_pair t.value ++ walk_in (seen tree lower))

  -- the pairs of its last children
  abbrev pub last_pairs : List T → List (List K × V)
  last_pairs upper = map (prepended t.prefix) (walk_in (seen tree upper))

  module _ (key : List K) where
    -- the key starts with the prefix of the node
    pub record IsPast : Type 0 where
      pub long : length t.prefix ≤ length key
      pub same : IsTrue (same_key cmp t.prefix (take (length t.prefix) key))

    -- the pairs of the node and of its children `lower` come before the key, and those of the
    -- children `upper` after it
    pub record Parts (lower upper : List T) : Type 0 where
      pub less : AllStand cmp Less (first_pairs lower) key
      pub greater : AllStand cmp Greater (last_pairs upper) key
      pub lower_children : AreChildren cmp (seen tree lower)

    -- there are no other children
    pub record IsBetween (lower upper : List T) : Type 0 where
      pub parts : Parts lower upper
      pub row_children : AreChildren cmp (seen tree upper)
      pub pairs : walk t ≡ first_pairs lower ++ last_pairs upper
      pub past : IsPast

    -- there is one more, into which the key leads
    pub record LeadsInto (lower row : List T) : Type 0 where
      pub child : T
      pub upper : List T
      pub row_is : row ≡ child ∷ upper
      pub row_children : AreChildren cmp (seen tree row)
      pub parts : Parts lower upper
      pub pairs : walk t ≡ first_pairs lower ++ (map (prepended t.prefix) (walk (tree child)) ++ last_pairs upper)
      pub past : IsPast
      pub agree : Agree cmp (tree child).prefix (drop (length t.prefix) key) 1
      pub fewer : nodes (tree child) < nodes t

    -- it is the node's own
    pub record IsOwn : Type 0 where
      pub tied : AllStand cmp Equal (first_pairs []) key
      pub greater : AllStand cmp Greater (map (prepended t.prefix) (walk_in t.children)) key
      pub past : IsPast

    -- the key is at this place among those of the node
    abbrev pub StandsSo : Standing T → Type 0
    StandsSo Before = AllStand cmp Greater (walk t) key
    StandsSo Own = IsOwn
    StandsSo (Between lower upper) = IsBetween lower.now upper.now
    StandsSo (Into lower row) = LeadsInto lower.now row.now
    StandsSo Behind = AllStand cmp Less (walk t) key
