-- The machine that a list of commands drives: its states are maps.
use Rattle.std.specs.Prelude.{Bool, true, false, if◌then◌else◌, List, [], ◌∷◌, Option, Some, None}
use Rattle.std.specs.Option.{option_and}
use Rattle.std.specs.declared.cmp.Ordering.{Ordering}
use Rattle.vc_tree_model.specs.Key.{same_key}
use Rattle.vc_tree_model.specs.Tree.{Tree}
use Rattle.vc_tree_model.specs.Map.{or_else, lookup, IsEqualMap, IsUpdated}
use Rattle.vc_tree_model.specs.Combine.{IsUnionAt}
use Rattle.vc_tree_model.specs.Value.{Copies}
use Rattle.vc_tree_model.specs.Under.{under, prefixed}
use Rattle.vc_tree_model.specs.Cover.{cover}

-- a change of a map: with a key and its value, with a prefix, or with another tree
pub data Command (K V : Type 0) : Type 0 where
  insert : List K → V → Command K V
  prepend : List K → Command K V
  filter : List K → Command K V
  union : Tree K V → Command K V
  intersection : Tree K V → Command K V
  difference : Tree K V → Command K V
  remove_prefix : Tree K V → Command K V
  retain_prefix : Tree K V → Command K V

-- the second value, unless there is a first
abbrev pub unless_some : {V W : Type 0} → Option W → Option V → Option V
unless_some None o = o
unless_some (Some w) o = None

-- the map that binds no key
abbrev pub no_map : {K V : Type 0} → List K → Option V
no_map k = None

module _ {K V : Type 0} (matches : V → V → Type 0)
    (step : (List K → Option V) → Command K V → Bool → (List K → Option V) → Type 0) where
  -- each command takes the map before it to the next by one step, and the last one matches what is
  -- left
  abbrev pub RunBy : (List K → Option V) → List (Command K V) → List Bool → (List K → Option V) → Type 0
  RunBy m [] [] n = IsEqualMap matches m n
  RunBy m (c ∷ cs) (ok ∷ oks) n = (next : List K → Option V) × step m c ok next × RunBy next cs oks n
  RunBy m [] (ok ∷ oks) n = ⊥
  RunBy m (c ∷ cs) [] n = ⊥

module _ {K V : Type 0} (cmp : K → K → Ordering) where
  -- the map after a command that was accepted
  abbrev pub after : Command K V → (List K → Option V) → List K → Option V
  after (insert key v) m k = if same_key cmp key k then Some v else m k
  after (prepend p) m k = prefixed cmp m p k
  after (filter p) m k = under cmp m p k
  after (union t) m k = or_else (m k) (lookup cmp t k)
  after (intersection t) m k = option_and (lookup cmp t k) (m k)
  after (difference t) m k = unless_some (lookup cmp t k) (m k)
  after (remove_prefix t) m k = unless_some (cover (lookup cmp t) k) (m k)
  after (retain_prefix t) m k = option_and (cover (lookup cmp t) k) (m k)

  -- the map after one that was refused: the same, or the empty one where a tree was to be combined in place
  abbrev pub refused : Command K V → (List K → Option V) → List K → Option V
  refused (insert key v) m = m
  refused (prepend p) m = m
  refused (filter p) m = m
  refused (union t) m = no_map
  refused (intersection t) m = no_map
  refused (difference t) m = no_map
  refused (remove_prefix t) m = no_map
  refused (retain_prefix t) m = no_map

  module _ (matches : V → V → Type 0) where
    -- one command takes the map m to n, up to values that match
    abbrev pub Step : (List K → Option V) → Command K V → Bool → (List K → Option V) → Type 0
    Step m c true n = IsEqualMap matches (after c m) n
    Step m c false n = IsEqualMap matches (refused c m) n

    -- a run of such steps
    abbrev pub Run : (List K → Option V) → List (Command K V) → List Bool → (List K → Option V) → Type 0
    Run = RunBy matches Step

  module _ (keeps is_clone : V → V → Type 0) where
    -- one command takes the map m to n, and keeps each value that stays: a filter leaves copies, and what a union adds are clones
    abbrev pub KeptStep : (List K → Option V) → Command K V → Bool → (List K → Option V) → Type 0
    KeptStep m (insert key v) true n = IsUpdated cmp keeps key v m n
    KeptStep m (filter p) true n = IsEqualMap (Copies is_clone) (after (filter p) m) n
    KeptStep m (union t) true n = (k : List K) → IsUnionAt keeps is_clone (m k) (lookup cmp t k) (n k)
    KeptStep m c true n = IsEqualMap keeps (after c m) n
    KeptStep m c false n = IsEqualMap keeps (refused c m) n

    -- a run of such steps
    abbrev pub KeptRun : (List K → Option V) → List (Command K V) → List Bool → (List K → Option V) → Type 0
    KeptRun = RunBy keeps KeptStep
