-- Runs of ascending keys, and the tree that is built from one at once. No public clause cites these
-- words.
use Rattle.std.specs.Prelude.{◌≡◌, ◌⊎◌, ℕ, zero, suc, ◌<◌, ◌≤◌, Bool, true, false, if◌then◌else◌, List, [], ◌∷◌}
use Rattle.std.specs.Prelude.{length, map, take, drop, Option, Some, None, ⊤}
use Rattle.std.specs.List.{zip}
use Rattle.std.specs.declared.cmp.Ordering.{Ordering}
use Rattle.vc_tree_model.specs.Key.{BeginsBelow, same_key}
use Rattle.vc_tree_model.specs.Tree.{Tree, Forest, bare, grow}
use Rattle.vc_tree_model.specs.Map.{or_else, lookup, lookup_in, IsEqualMap}
use Rattle.vc_tree_model.specs.Pairs.{last_bound, IsCollected}
use Rattle.vc_tree_model.specs.Canonical.{IsSolid, AreChildren}
use Rattle.vc_tree_nodes.specs.Parting.{Agree}

-- the key is greater than the one before it: it agrees with it in n components, and is above it
-- there, or continues
pub record Follows {K : Type 0} (cmp : K → K → Ordering) (before key : List K) (n : ℕ) : Type 0 where
  pub agree : Agree cmp before key n
  pub below : BeginsBelow cmp (drop n before) (drop n key)

module _ {R : Type 0} (common : R → ℕ) where
  -- n is the least number of components that a key shares with the one before
  abbrev pub HasCommon : ℕ → List R → Type 0
  HasCommon n [] = ⊥
  HasCommon n (r ∷ run) = (common r ≡ n) ⊎ HasCommon n run

  -- each key shares n components or more with the one before
  abbrev pub HaveCommon : ℕ → List R → Type 0
  HaveCommon n [] = ⊤
  HaveCommon n (r ∷ run) = (n ≤ common r) × HaveCommon n run

  -- the first n of the keys share more than that many components with the one before, and the next
  -- one does not
  abbrev pub IsGroup : ℕ → ℕ → List R → Type 0
  IsGroup common_all zero [] = ⊤
  IsGroup common_all zero (r ∷ run) = common r ≤ common_all
  IsGroup common_all (suc n) [] = ⊥
  IsGroup common_all (suc n) (r ∷ run) = (common_all < common r) × IsGroup common_all n run

  -- the first n keys are a group, of a key and of those that share more
  abbrev pub IsGroupOf : ℕ → ℕ → List R → Type 0
  IsGroupOf common_all zero run = ⊥
  IsGroupOf common_all (suc n) [] = ⊥
  IsGroupOf common_all (suc n) (r ∷ run) = IsGroup common_all n run

module _ {K R : Type 0} (cmp : K → K → Ordering) (key : R → List K) (common : R → ℕ) where
  -- each key follows the one before it, the first one the key before
  abbrev pub RunsOn : List K → List R → Type 0
  RunsOn before [] = ⊤
  RunsOn before (r ∷ run) = Follows cmp before (key r) (common r) × RunsOn (key r) run

  -- there is a key, each further one follows the one before it, and they share n components
  abbrev pub IsRunBehind : ℕ → List R → Type 0
  IsRunBehind n [] = ⊥
  IsRunBehind n (r ∷ run) = (n ≤ length (key r)) × RunsOn (key r) run × HaveCommon common n run

  -- where they share more, p begins as what is left of the first one
  abbrev pub BeginsAs : ℕ → List R → List K → Type 0
  BeginsAs n [] p = ⊤
  BeginsAs n (r ∷ run) p = n < length (key r) → HaveCommon common (suc n) run → take 1 p ≡ take 1 (drop n (key r))

  -- the keys ascend
  abbrev pub IsAscending : List R → Type 0
  IsAscending [] = ⊤
  IsAscending (r ∷ run) = RunsOn (key r) run

  -- the key k follows the last one of the run, if there is one, and shares n components with it
  abbrev pub FollowsLast : List R → List K → ℕ → Type 0
  FollowsLast [] k n = ⊤
  FollowsLast (r ∷ []) k n = Follows cmp (key r) k n
  FollowsLast (r ∷ q ∷ run) k n = FollowsLast (q ∷ run) k n

  -- the first key has n components
  abbrev pub FirstEnds : ℕ → List R → Type 0
  FirstEnds n [] = ⊥
  FirstEnds n (r ∷ run) = length (key r) ≡ n

  -- the same of no key, or of keys that continue after these components
  abbrev pub GoOnBehind : ℕ → List R → Type 0
  GoOnBehind n [] = ⊤
  GoOnBehind n (r ∷ run) = (n < length (key r)) × RunsOn (key r) run × HaveCommon common n run

module _ {K R V : Type 0} (key : R → List K) where
  -- what is left of the keys after n components, each with its value
  abbrev pub pairs_behind : ℕ → List R → List V → List (List K × V)
  pairs_behind n run values = zip (map (λ r. drop n (key r)) run) values

module _ {K V : Type 0} (cmp : K → K → Ordering) where
  -- the trees g bind what the pairs do, and otherwise what f binds
  abbrev pub IsAdded : List (List K × V) → Forest K V → Forest K V → Type 0
  IsAdded pairs f g = (k : List K) → lookup_in cmp g k ≡ or_else (last_bound cmp pairs k) (lookup_in cmp f k)

  -- the trees begin below the key
  abbrev pub AllBelow : List K → Forest K V → Type 0
  AllBelow k bare = ⊤
  AllBelow k (grow p v kids rest) = BeginsBelow cmp p k × AllBelow k rest

module _ {K R V : Type 0} (cmp : K → K → Ordering) (key : R → List K) where
  -- the trees begin below what the first key has after n components, if there is a key
  abbrev pub HeadAbove : ℕ → Forest K V → List R → Type 0
  HeadAbove n f [] = ⊤
  HeadAbove n f (r ∷ run) = AllBelow cmp (drop n (key r)) f

module _ {K R V : Type 0} (cmp : K → K → Ordering) (key : R → List K) (common : R → ℕ) where
  -- the tree binds what is left of the keys after n components, and may be among children
  pub record IsBuilt (n : ℕ) (run : List R) (values : List V) (t : Tree K V) : Type 0 where
    pub pairs : IsCollected cmp (pairs_behind key n run values) t
    pub solid : IsSolid t.value t.children
    pub children : AreChildren cmp t.children
    pub begins : BeginsAs cmp key common n run t.prefix

  -- the pairs that are kept ascend, as long as pairs are kept
  abbrev pub MayGrow : Bool → List R → List V → Type 0
  MayGrow true run values = IsAscending cmp key common run × (length run ≡ length values)
  MayGrow false run values = ⊤

module _ {K R V : Type 0} (cmp : K → K → Ordering) (key : R → List K) where
  -- what the pairs that came bind: those that are kept, or the tree
  abbrev pub gathered : Bool → List R → List V → Tree K V → List K → Option V
  gathered true run values t = last_bound cmp (pairs_behind key 0 run values)
  gathered false run values t = lookup cmp t

module _ {K V : Type 0} (cmp : K → K → Ordering) where
  -- the key is bound to the value, and otherwise to what f binds it to
  abbrev pub bound_more : List K → V → (List K → Option V) → List K → Option V
  bound_more key value f k = or_else (if same_key cmp key k then Some value else None) (f k)

  -- g binds the key to the value, and otherwise what f binds
  abbrev pub BindsMore : List K → V → (List K → Option V) → (List K → Option V) → Type 0
  BindsMore key value f g = (k : List K) → g k ≡ bound_more key value f k

  -- the same of values that may be kept otherwise
  abbrev pub KeepsMore : (V → V → Type 0) → List K → V → (List K → Option V) → (List K → Option V) → Type 0
  KeepsMore keeps key value f g = IsEqualMap keeps (bound_more key value f) g
