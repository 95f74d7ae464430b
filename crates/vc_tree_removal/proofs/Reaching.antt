-- The way to keys that a tree binds: what is left of a key after the prefix, and the child that it leads to.
--     met-solid, met-reaches, met-leads, met-value        where keys that go are bound
--     alone-tells, below-tells        all keys of a tree go, or some below its children
--     found-under        the node below which all keys are that begin with one
use Rattle.std.proofs.Common.{◌≡◌, ℕ, ◌<◌, ◌≤◌, [], ◌∷◌, ◌++◌, List, Option, None, Some, sym, ap}
use Rattle.std.proofs.Common.{◌∙◌, arith, map, drop, length, true, false, Bool}
use Rattle.std.proofs.Common.{is_some}
use Rattle.std.specs.Cmp.{IsTotalOrder}
use Rattle.std.specs.Option.{option_and_then}
use Rattle.std.proofs.lemmas.Bool.{leb-false, leb-true}
use Rattle.std.specs.Prelude.{IsSome, MatchBool, leb, slice_get, ◌==◌}
use Rattle.std.specs.declared.cmp.Ordering.{Ordering}
use Rattle.vc_tree_model.specs.Canonical.{IsCanonical, IsSolid}
use Rattle.vc_tree_model.specs.Child.{IsChild}
use Rattle.vc_tree_model.specs.Key.{behind}
use Rattle.vc_tree_model.specs.Map.{lookup, lookup_in}
use Rattle.vc_tree_model.specs.Tree.{Tree, Forest, forest, is_bare, node}
use Rattle.vc_tree_model.specs.Under.{prefixed, under}
use Rattle.vc_tree_model.proofs.KeyLemmas.{behind-itself, behind-same, same-itself}
use Rattle.vc_tree_model.proofs.LookupLemmas.{lookup-same, lookup_in-same, tree-bound}
use Rattle.vc_tree_model.proofs.UnderLemmas.{lookup-prepended}
use Rattle.vc_tree_nodes.specs.Places.{BeginsAt, IsGapAt}
use Rattle.vc_tree_nodes.proofs.Descending.{behind-length}
use Rattle.vc_tree_nodes.proofs.Finding.{gap-none}
use Rattle.vc_tree_nodes.proofs.Growing.{not-bare_solid}
use Rattle.vc_tree_walks.proofs.Scanning.{behind-parts, first-cons}
use Rattle.vc_tree_removal.specs.Taking.{IsDeep, IsFoundUnder, IsWholly, Meets, MeetsAt, goes}
use Rattle.vc_tree_removal.specs.declared.removal.Extent.{Extent}
use Rattle.vc_tree_removal.specs.declared.removal.Extent.TheVariants.{Alone, Below}
use Rattle.vc_tree_removal.proofs.Going.{goes-begins, rest-taken, rest-within, same-tells}
use Rattle.vc_tree_removal.proofs.Going.{shorter-begins}

-- what goes with a key binds no list of trees that has a gap for its first component
gap-goes : {K V : Type 0} {cmp : K → K → Ordering} (o : IsTotalOrder cmp) (e : Extent) (f : Forest K V) (y : K) (q k : List K)
    (i : ℕ) → IsGapAt cmp f y i → goes cmp e (y ∷ q) k ≡ true → lookup_in cmp f k ≡ None
gap-goes o e f y q [] i g h = grind arith
gap-goes {cmp = cmp} o e f y q (x ∷ k) i g h =
    let same = goes-begins cmp e y x q k h in
    grind (arith, lookup_in-same cmp o f (y ∷ k) (x ∷ k), same-itself cmp o k, gap-none cmp o f y i g k)

module _ {K V : Type 0} {cmp : K → K → Ordering} (o : IsTotalOrder cmp) {e : Extent} {key : List K} (t : Tree K V)
    (m : Meets cmp e key (lookup cmp t)) where
  -- ---- keys that are bound

  -- a tree that binds a key is solid
  pub met-solid : IsCanonical cmp t → IsSolid t.value t.children
  met-solid c = grind (arith, not-bare_solid)

  -- behind the prefix a key is bound that goes with the rest
  pub met-rest : {y : K} {q : List K} → behind cmp t.prefix key ≡ Some (y ∷ q) → Meets cmp e (y ∷ q) (lookup_in cmp t.children)
  met-rest {y} {q} b = grind (arith, behind-parts cmp o t.prefix key (y ∷ q) m.met b)

  -- ---- the child that the rest leads to

  -- it is there
  pub met-reaches : (rest : List K) (y : K) (i : ℕ) → behind cmp t.prefix key ≡ Some rest → slice_get rest 0 ≡ Some y
      → IsGapAt cmp t.children y i → ⊥
  met-reaches rest y i b s gap =
      let below = met-rest (b ∙ ap Some (first-cons rest y s)) in
      grind (arith, gap-goes o e t.children y (drop 1 rest) below.met i gap below.goes_with, below.bound)

  -- the rest leads there, and a key is bound that goes with it
  pub met-leads : IsCanonical cmp t → {p : List K} {v : Option V} {f : Forest K V} → t ≡ node p v f → {rest : List K} {y : K}
      {i : ℕ} → behind cmp t.prefix key ≡ Some rest → slice_get rest 0 ≡ Some y → BeginsAt cmp t.children y i
      → MeetsAt cmp e rest v f i
  met-leads c is b first begins = grind (arith, first-cons, met-rest, met-solid)

module _ {K V : Type 0} {cmp : K → K → Ordering} (o : IsTotalOrder cmp) {key : List K} (t : Tree K V)
    (m : Meets cmp Alone key (lookup cmp t)) where
  -- ---- a key that goes alone

  -- it is bound
  alone-bound : IsSome (lookup cmp t key)
  alone-bound = grind (arith, lookup-same, same-tells)

  -- where it ends at the prefix, its value is there
  pub met-value : behind cmp t.prefix key ≡ Some [] → IsSome t.value
  met-value b = grind (arith, alone-bound)

  -- it is all of a tree without children, and may not be of one with some
  pub alone-tells : {T : Type 0} (tree : T → Tree K V) (xs : List T) (b : Bool) → b ≡ (length xs == 0)
      → forest (map tree xs) ≡ t.children → MatchBool b (IsWholly cmp Alone key t) (IsDeep cmp Alone key t)
  alone-tells tree [] b l c = grind (arith, alone-bound, behind-same, same-tells)
  alone-tells tree (x ∷ xs) b l c = grind (arith, alone-bound, behind-same, same-tells)

module _ {K V : Type 0} {cmp : K → K → Ordering} (o : IsTotalOrder cmp) {key : List K} (t : Tree K V)
    (m : Meets cmp Below key (lookup cmp t)) where
  -- ---- all keys that begin with one

  -- the key that is bound begins with both
  begins-met : IsSome (behind cmp key m.met) × IsSome (behind cmp t.prefix m.met)
  begins-met = grind arith

  -- a tree whose prefix is no shorter goes with them
  below-wholly : length key ≤ length t.prefix → IsWholly cmp Below key t
  below-wholly h k n =
      let begun = shorter-begins cmp o key t.prefix m.met begins-met.0 begins-met.1 h in
      grind (arith, behind-parts cmp o key t.prefix _ k (rest-taken cmp key t.prefix begun))

  -- behind a shorter one the key goes on, below some children
  below-deep : length t.prefix < length key → IsDeep cmp Below key t
  below-deep h = record {
    some = grind (arith, behind-length cmp t.prefix m.met [], rest-within cmp key m.met begins-met.0);
    begins = shorter-begins cmp o t.prefix key m.met begins-met.1 begins-met.0 (omega (arith, h));
    ends = λ b. grind (arith, behind-length cmp t.prefix key [] b);
  }

  pub below-tells : (b : Bool) → b ≡ leb (length key) (length t.prefix)
      → MatchBool b (IsWholly cmp Below key t) (IsDeep cmp Below key t)
  below-tells b l = grind (arith, below-wholly, leb-true, below-deep, leb-false)

-- of a key that begins with another something goes where something is bound
under-meets : {K V : Type 0} (cmp : K → K → Ordering) (f : List K → Option V) (key k : List K) → IsSome (under cmp f key k)
    → Meets cmp Below key f
under-meets cmp f key k s = grind arith

-- a node that is not the empty tree, and binds what is bound of the keys that begin with one, is found under that
pub found-under : {K V : Type 0} (cmp : K → K → Ordering) → IsTotalOrder cmp → (f : List K → Option V) (key front : List K)
    (t : Tree K V) → IsCanonical cmp t → is_bare t ≡ false
    → ((k : List K) → under cmp f key k ≡ prefixed cmp (lookup cmp t) front k) → IsFoundUnder cmp key f front t
found-under cmp o f key front t c n binds =
    let child : IsChild cmp (Some t) = (not-bare_solid t c.0 n, c.1) in
    let bound = tree-bound cmp o t.prefix t.value t.children child.0 child.1 in
    let k = front ++ (t.prefix ++ bound.key) in
    record {
      met = under-meets cmp f key k (ap is_some (binds k
          ∙ ap (option_and_then (lookup cmp t)) (behind-itself cmp o front (t.prefix ++ bound.key)) ∙ bound.is));
      binds = λ k. binds k ∙ sym (lookup-prepended cmp front t k);
      child = child;
    }
