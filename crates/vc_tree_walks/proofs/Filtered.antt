-- The tree of the keys that start with a prefix, by the walk of these keys.
--     nothing-listed, nothing-below, filtered-none, filtered-bare        no key starts with the prefix
--     bound-below        what the node binds that they are below
--     bare-walk, some-below, something-below        a node that is the empty tree has no pair, and any other has some
--     told-below        so the one test tells whether some key starts so
--     filtered        a copy of the node that they are below, with what is before it
--     copy-solid        such a copy is solid
use Rattle.std.proofs.Common.{◌≡◌, [], ◌++◌, List, Option, None, Some, true, false, Result, IfOk, arith}
use Rattle.std.proofs.Common.{ap, refl, sym, ◌∙◌, map, true≢false, Bool, not, is_some}
use Rattle.std.specs.Prelude.{IsSome, MatchBool}
use Rattle.std.specs.Cmp.{IsTotalOrder}
use Rattle.std.specs.Option.{option_and_then}
use Rattle.std.specs.declared.cmp.Ordering.{Ordering}
use Rattle.vc_tree_model.specs.Tree.{Tree, Forest, bare, grow, node, no_tree, is_bare, lacks_both}
use Rattle.vc_tree_model.specs.Map.{lookup, lookup_in, node_lookup, IsEqualMap}
use Rattle.vc_tree_model.specs.Canonical.{IsCanonical, IsSolid}
use Rattle.vc_tree_model.specs.Same.{IsAlike}
use Rattle.vc_tree_model.specs.Under.{under, prefixed}
use Rattle.vc_tree_model.specs.Walk.{IsWalk, own_pair, prepended, walk, walk_in}
use Rattle.vc_tree_model.proofs.AlikeLemmas.{tree-alike_lookup}
use Rattle.vc_tree_model.proofs.KeyLemmas.{behind-itself, none-some}
use Rattle.vc_tree_model.proofs.LookupLemmas.{children-ordered, tree-bound}
use Rattle.vc_tree_model.proofs.UnderLemmas.{walk-prefixed, lookup-prepended}
use Rattle.vc_tree_model.proofs.ValueLemmas.{kept_by}
use Rattle.vc_tree_model.proofs.Walking.{walk-is}
use Rattle.vc_tree_nodes.proofs.Growing.{not-bare_solid}

-- the empty tree has no pair
pub bare-walk : {K V : Type 0} (front : List K) (t : Tree K V) → is_bare t ≡ true → map (prepended front) (walk t) ≡ []
bare-walk {K} {V} front t b = by t.value t.children b
  where
    by : (v : Option V) (f : Forest K V) → lacks_both v f ≡ true
        → map (prepended front) (map (prepended t.prefix) (own_pair v ++ walk_in f)) ≡ []
    by None bare h = refl
    by None (grow p v kids rest) h = grind arith
    by (Some v) f h = grind arith

module _ {K V : Type 0} (cmp : K → K → Ordering) (o : IsTotalOrder cmp) where
  -- two maps of one walk have the same values
  same-maps : (f g : List K → Option V) (l : List (List K × V)) → IsWalk cmp f l → IsWalk cmp g l → (k : List K) → f k ≡ g k
  same-maps f g l w z k = by (f k) (g k) refl refl
    where
      by : (a b : Option V) → f k ≡ a → g k ≡ b → f k ≡ g k
      by None None e d = e ∙ sym d
      by None (Some v) e d = none-some v (sym e ∙ (w.lists k v).0 ((z.lists k v).1 d))
      by (Some v) b e d = e ∙ sym ((z.lists k v).0 ((w.lists k v).1 e))

  -- without pairs nothing is bound
  pub nothing-listed : (f : List K → Option V) → IsWalk cmp f [] → (k : List K) → f k ≡ None
  nothing-listed f w k = by (f k) refl
    where
      by : (a : Option V) → f k ≡ a → f k ≡ None
      by None e = e
      by (Some v) e = absurd ((w.lists k v).1 e)

  module _ (keeps : V → V → Type 0) (f : List K → Option V) (p : List K) where
    none-kept : (t : Tree K V) → t ≡ no_tree → ((k : List K) → under cmp f p k ≡ None)
        → IsEqualMap keeps (under cmp f p) (lookup cmp t)
    none-kept t e n k = grind arith

    -- no key starts so
    pub filtered-none : (t : Tree K V) → t ≡ no_tree → IsWalk cmp (under cmp f p) []
        → IsEqualMap keeps (under cmp f p) (lookup cmp t)
    filtered-none t e w = none-kept t e (nothing-listed (under cmp f p) w)

    module _ (front : List K) (t : Tree K V) (c : IsCanonical cmp t)
        (w : IsWalk cmp (under cmp f p) (map (prepended front) (walk t))) where
      -- behind what stands before it the node binds what is bound of the keys that start so
      pub bound-below : (k : List K) → under cmp f p k ≡ prefixed cmp (lookup cmp t) front k
      bound-below =
          same-maps (under cmp f p) (prefixed cmp (lookup cmp t) front) (map (prepended front) (walk t)) w
          (walk-prefixed cmp o (lookup cmp t) (walk t) front (walk-is cmp o t (children-ordered cmp t.children c.1)))

      -- the node is the empty tree
      pub nothing-below : is_bare t ≡ true → (k : List K) → under cmp f p k ≡ None
      nothing-below b k = grind (arith, bound-below, lacks_both, node_lookup, lookup_in, true≢false, option_and_then)

      -- any other node binds a key
      pub some-below : is_bare t ≡ false → (k : List K) × IsSome (under cmp f p k)
      some-below b =
          let bound = tree-bound cmp o t.prefix t.value t.children (not-bare_solid t c.0 b) c.1 in
          let k = front ++ (t.prefix ++ bound.key) in
          let is : under cmp f p k ≡ Some bound.value = bound-below k
          ∙ ap (option_and_then (lookup cmp t)) (behind-itself cmp o front (t.prefix ++ bound.key)) ∙ bound.is in
          (k, ap is_some is)

      pub something-below : {X : Type 0} → is_bare t ≡ false → ((k : List K) → under cmp f p k ≡ None) → X
      something-below b n = let some = some-below b in absurd (true≢false (sym some.1 ∙ ap is_some (n some.0)))

      -- so whether it is the empty tree tells whether some key starts so
      pub told-below : (b : Bool) → b ≡ is_bare t
          → MatchBool (not b) ((k : List K) × IsSome (under cmp f p k)) ((k : List K) → under cmp f p k ≡ None)
      told-below true e = nothing-below (sym e)
      told-below false e = some-below (sym e)

      pub filtered-bare : (u : Tree K V) → u ≡ no_tree → is_bare t ≡ true → IsEqualMap keeps (under cmp f p) (lookup cmp u)
      filtered-bare u e b = none-kept u e (nothing-below b)

      -- a copy of the node, with what stands before it
      filtered-copy : (copy u : Tree K V) → IsAlike keeps t copy → u ≡ node (front ++ copy.prefix) copy.value copy.children
          → IsEqualMap keeps (under cmp f p) (lookup cmp u)
      filtered-copy copy u a e k = grind (arith, kept_by, option_and_then, bound-below, lookup-prepended, tree-alike_lookup)

      pub filtered : {T E : Type 0} (tree : T → Tree K V) (copy : Tree K V) (r : Result T E) → IsAlike keeps t copy
          → IfOk r (λ u. tree u ≡ node (front ++ copy.prefix) copy.value copy.children)
          → IfOk r (λ u. IsEqualMap keeps (under cmp f p) (lookup cmp (tree u)))
      filtered tree copy r a h = grind (arith, filtered-copy)

  -- a copy of a node that is not the empty tree is solid
  pub copy-solid : (keeps : V → V → Type 0) (t copy : Tree K V) → IsCanonical cmp t → is_bare t ≡ false → IsAlike keeps t copy
      → IsSolid copy.value copy.children
  copy-solid keeps t copy c b a = grind arith
