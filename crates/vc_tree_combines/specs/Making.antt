-- What a combine builds of trees below two fronts that agree. No public clause cites these words.
use Rattle.std.specs.Prelude.{◌≡◌, ℕ, ◌<◌, List, [], ◌∷◌, ◌++◌, Option, Some, None, drop, length}
use Rattle.std.specs.List.{AllByRecursion, cons_option}
use Rattle.std.specs.declared.cmp.Ordering.{Ordering}
use Rattle.std.specs.declared.cmp.Ordering.TheVariants.{Less}
use Rattle.vc_tree_model.specs.Canonical.{AreChildren, IsCanonical}
use Rattle.vc_tree_model.specs.Child.{children_at}
use Rattle.vc_tree_model.specs.Look.{values}
use Rattle.vc_tree_model.specs.Map.{lookup}
use Rattle.vc_tree_model.specs.Places.{IsCombinedIn}
use Rattle.vc_tree_model.specs.Tree.{Tree, Forest}
use Rattle.vc_tree_nodes.specs.Parting.{Agree}
use Rattle.vc_tree_facing.specs.Facing.{Parts}
use Rattle.vc_tree_facing.specs.Made.{IsMadeOf}
use Rattle.vc_tree_facing.specs.Seeking.{side_at, Stops}

module _ {K V W U : Type 0} (cmp : K → K → Ordering) (R : Option V → Option W → Option U → Type 0) where
  -- what R says of the next trees, where one side may have none, was added to those that were built
  pub record IsAdded (t : Option (Tree K V)) (u : Option (Tree K W)) (old new : List (Tree K U)) : Type 0 where
    pub one : Option (Tree K U)
    pub made : IsMadeOf cmp (values cmp) R t u one
    pub is : new ≡ old ++ cons_option one []

  -- the same of each of these trees, which only the left side has
  abbrev pub AreLeftAdded : {T : Type 0} → (T → Tree K V) → List T → List (Tree K U) → List (Tree K U) → Type 0
  AreLeftAdded tree [] old new = new ≡ old
  AreLeftAdded tree (t ∷ ts) old new =
      (next : List (Tree K U)) × IsAdded (Some (tree t)) None old next × AreLeftAdded tree ts next new

  -- which only the right side has
  abbrev pub AreRightAdded : {T : Type 0} → (T → Tree K W) → List T → List (Tree K U) → List (Tree K U) → Type 0
  AreRightAdded tree [] old new = new ≡ old
  AreRightAdded tree (t ∷ ts) old new =
      (next : List (Tree K U)) × IsAdded None (Some (tree t)) old next × AreRightAdded tree ts next new

  -- of two lists of trees this one was made: canonical children, and what R says of both at each key
  abbrev pub AreMadeOf : Forest K V → Forest K W → Forest K U → Type 0
  AreMadeOf f g h = AreChildren cmp h × IsCombinedIn cmp (values cmp) R f g h

  -- the prefixes of t and u agree for n components and diverge there, and this was made of what is
  -- below
  pub record IsMadeBelow (t : Tree K V) (u : Tree K W) (n : ℕ) (h : Forest K U) : Type 0 where
    pub left : IsCanonical cmp t
    pub right : IsCanonical cmp u
    pub agree : Agree cmp t.prefix u.prefix n
    pub parts : Parts cmp (drop n t.prefix) (drop n u.prefix)
    pub made : AreMadeOf (children_at t (drop n t.prefix)) (children_at u (drop n u.prefix)) h

module _ {K V W T : Type 0} (cmp : K → K → Ordering) (asks : Option V → Option W → Type 0) where
  -- each of these trees has a component, and the question may be asked for it with nothing on the
  -- right side
  abbrev pub MayAddLefts : (T → Tree K V) → List T → Type 0
  MayAddLefts tree ts =
      AllByRecursion (λ x. (0 < length (tree x).prefix) × ((k : List K) → asks (lookup cmp (tree x) k) None)) ts

  -- with nothing on the left side
  abbrev pub MayAddRights : (T → Tree K W) → List T → Type 0
  MayAddRights tree ts =
      AllByRecursion (λ y. (0 < length (tree y).prefix) × ((k : List K) → asks None (lookup cmp (tree y) k))) ts

-- the trees before and after the one that continues with x, if there is one
pub record IsAround {K V T : Type 0} (cmp : K → K → Ordering) (tree : T → Tree K V) (x : K) (all before : List T)
    (found : Option T) (after : List T) : Type 0 where
  pub is : all ≡ before ++ cons_option found after
  pub lower : AllByRecursion (λ t. side_at cmp tree 0 x t ≡ Less) before
  pub stops : Stops cmp tree 0 x found after
