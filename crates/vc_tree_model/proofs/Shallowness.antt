-- A canonical tree has few levels for its keys.
--     levels-nodes        no more than nodes, in any tree
--     levels-keys        no more than keys, where there is one
--     deepest-in        some key has a component for each level below the root
--     canonical-shallow        all three
use Rattle.std.proofs.Common.{ℕ, ◌+◌, ◌≤◌, [], ◌∷◌, ◌++◌, List, Option, None, Some, length, refl, sym}
use Rattle.std.proofs.Common.{subst, IsSome, inl, inr, length-append, arith}
use Rattle.std.proofs.Math.Nat.{max-le}
use Rattle.std.proofs.lemmas.Bool.{cases_lt}
use Rattle.std.specs.declared.cmp.Ordering.{Ordering}
use Rattle.std.specs.Cmp.{IsTotalOrder}
use Rattle.vc_tree_model.specs.Tree.{Tree, Forest, bare, grow, forest_nodes, own_count, key_count, forest_key_count}
use Rattle.vc_tree_model.specs.Map.{lookup}
use Rattle.vc_tree_model.specs.Binds.{NodeBinds, BindsIn}
use Rattle.vc_tree_model.specs.Canonical.{AreChildren, IsSolid, IsWhole, IsCanonical}
use Rattle.vc_tree_model.specs.Depth.{forest_depth, depth, IsShallow}
use Rattle.vc_tree_model.proofs.Binding.{binds-lookup}
use Rattle.vc_tree_model.proofs.KeyLemmas.{same-itself}
use Rattle.vc_tree_model.proofs.LookupLemmas.{children-ordered}
use Rattle.vc_tree_model.proofs.Smallness.{width}

module _ {K V : Type 0} where
  -- ---- no more levels than nodes, and than keys

  -- a list of trees has no more levels than nodes
  pub levels-nodes : (f : Forest K V) → forest_depth f ≤ forest_nodes f
  levels-nodes (grow p v kids rest) = grind (arith, levels-nodes kids, levels-nodes rest)
  levels-nodes bare = grind arith

  -- a list that has a tree has a level
  some-level : (f : Forest K V) → 1 ≤ width f → 1 ≤ forest_depth f
  some-level bare h = absurd (omega (arith, h))
  some-level (grow p v kids rest) h = grind arith

  -- a list of trees that has no more levels than keys, though each tree but one has keys of its own
  pub record HasKeys (f : Forest K V) : Type 0 where
    levels : forest_depth f + width f ≤ forest_key_count f + 1
    trees : width f ≤ forest_key_count f

  -- a solid node has no more levels than keys
  solid-levels : (v : Option V) (f : Forest K V) → IsSolid v f → HasKeys f
      → forest_depth f + 1 ≤ own_count v + forest_key_count f
  solid-levels (Some v) bare s h = omega arith
  solid-levels (Some v) (grow p w kids rest) s h = grind arith
  solid-levels None (grow p v kids (grow q w more rest)) s h = grind arith
  solid-levels v f s h = grind arith

  -- one tree more
  more-keys : (p : List K) (v : Option V) (f rest : Forest K V)
      → forest_depth f + 1 ≤ own_count v + forest_key_count f → HasKeys rest → HasKeys (grow p v f rest)
  more-keys p v f rest here h = grind arith

  module _ (cmp : K → K → Ordering) where
    -- canonical children have no more levels than keys
    levels-keys_in : (f : Forest K V) → AreChildren cmp f → HasKeys f
    levels-keys_in (grow (x ∷ p) v kids rest) a = grind (arith, levels-keys_in kids, levels-keys_in rest, solid-levels, more-keys)
    levels-keys_in f a = grind arith

    -- nor has a whole tree with a key
    whole-levels : (p : List K) (v : Option V) (f : Forest K V) → IsWhole p v f → HasKeys f
        → 1 ≤ own_count v + forest_key_count f → forest_depth f + 1 ≤ own_count v + forest_key_count f
    whole-levels [] None bare w h k = absurd (omega (arith, k))
    whole-levels [] None (grow q u more rest) w h k = grind arith
    whole-levels [] (Some v) f w h k = solid-levels (Some v) f tt h
    whole-levels (x ∷ p) v f w h k = solid-levels v f w h

    -- a canonical tree with a key has no more levels than keys
    pub levels-keys : (t : Tree K V) → IsCanonical cmp t → 1 ≤ key_count t → depth t ≤ key_count t
    levels-keys t c k = grind (arith, whole-levels, levels-keys_in)

    -- ---- a key with a component for each level

    -- a key that is bound, of at least n components
    pub record IsLong (binds : List K → V → Type 0) (n : ℕ) : Type 0 where
      pub key : List K
      pub value : V
      pub bound : binds key value
      pub long : n ≤ length key

    module _ (o : IsTotalOrder cmp) where
      -- a solid node with a component binds a key with one for itself and for each level below
      deepest-node : (x : K) (p : List K) (v : Option V) (f : Forest K V) → IsSolid v f
          → (1 ≤ forest_depth f → IsLong (BindsIn cmp f) (forest_depth f))
          → IsLong (NodeBinds cmp (x ∷ p) v (BindsIn cmp f)) (forest_depth f + 1)
      deepest-node x p (Some a) bare s h = record
          { key = x ∷ p; value = a; bound = inl (same-itself cmp o (x ∷ p), refl); long = omega arith }
      deepest-node x p None bare s h = absurd s
      deepest-node x p v (grow q w more rest) s h =
          let below = h (some-level (grow q w more rest) (omega arith)) in
          let joined = length-append p below.key in
          let long = below.long in
          record {
            key = (x ∷ p) ++ below.key;
            value = below.value;
            bound = inr (below.key, same-itself cmp o ((x ∷ p) ++ below.key), below.bound);
            long = omega (arith, joined, long);
          }

      -- canonical children bind a key with a component for each level
      pub deepest-in : (f : Forest K V) → AreChildren cmp f → 1 ≤ forest_depth f
          → IsLong (BindsIn cmp f) (forest_depth f)
      deepest-in (grow (x ∷ p) v kids rest) a h =
          elim (cases_lt (forest_depth kids) (forest_depth rest)) [
            | inl less ↦
                let beside = deepest-in rest a.3 (omega (arith, less)) in
                let long = beside.long in
                let most : forest_depth (grow (x ∷ p) v kids rest) ≤ forest_depth rest =
                max-le (omega (arith, less)) (omega arith) in
                record {
                  key = beside.key;
                  value = beside.value;
                  bound = inr beside.bound;
                  long = omega (arith, most, long);
                }
            | inr more ↦
                let here = deepest-node x p v kids a.0 (deepest-in kids a.1) in
                let long = here.long in
                let most : forest_depth (grow (x ∷ p) v kids rest) ≤ forest_depth kids + 1 =
                max-le (omega arith) (omega (arith, more)) in
                record {
                  key = here.key;
                  value = here.value;
                  bound = inl here.bound;
                  long = omega (arith, most, long);
                }
          ]
      deepest-in f a h = grind arith

      -- where no key has more than n components, a canonical tree has at most n + 1 levels
      levels-length : (t : Tree K V) → IsCanonical cmp t → (n : ℕ)
          → ((k : List K) → IsSome (lookup cmp t k) → length k ≤ n) → depth t ≤ n + 1
      levels-length t c n h =
          elim (cases_lt 0 (forest_depth t.children)) [
            | inr none ↦ omega (arith, none)
            | inl some ↦
                let below = deepest-in t.children c.1 some in
                let key = t.prefix ++ below.key in
                let bound = inr (below.key, same-itself cmp o key, below.bound) in
                let found = binds-lookup cmp o t (children-ordered cmp t.children c.1) key below.value bound in
                let most = h key (subst IsSome (sym found) refl) in
                let joined = length-append t.prefix below.key in
                let long = below.long in
                omega (arith, most, joined, long)
          ]

      -- a canonical tree has few levels
      pub canonical-shallow : (t : Tree K V) → IsCanonical cmp t → IsShallow cmp t
      canonical-shallow t c = grind (arith, levels-nodes t.children, levels-length t c, levels-keys t c)
