-- What a node and its children are after a change of a bound value.
--     bound-begins, bound-ends, bound-below        where the value of a key is that is bound
--     some-child, none-bound        a child that begins with a component is there, and a value that is bound
--     gap-unbound        a key has no gap for its place
--     kept-comes, kept-asked        what may come of a value that is kept
--     value-written, child-written        a node's own value, or that of a key below it
--     node-written        a node of which a child was written
--     below-kept        what the child binds that the key leads to
--     branch-grown, some-solid, written-both        what is left of a node
use Rattle.std.proofs.Common.{◌≡◌, ℕ, [], ◌∷◌, ◌++◌, List, Option, None, Some, refl, sym, ap, subst, ◌∙◌}
use Rattle.std.proofs.Common.{arith, append-nil, drop, get_or, length, map, take, true}
use Rattle.std.specs.Cmp.{IsTotalOrder, Equal-is}
use Rattle.std.specs.Prelude.{IfOk, IsSome, OnErr, Result, Ok, Err, slice_get}
use Rattle.std.specs.declared.cmp.Ordering.{Ordering}
use Rattle.vc_tree_model.specs.Canonical.{AreChildren, IsCanonical, IsSolid}
use Rattle.vc_tree_model.specs.Key.{behind, same_key}
use Rattle.vc_tree_model.specs.Map.{lookup, lookup_in, node_lookup}
use Rattle.vc_tree_model.specs.Same.{IsAlikeIn}
use Rattle.vc_tree_model.specs.Tree.{Tree, Forest, bare, forest, grow, node}
use Rattle.vc_tree_model.specs.Value.{IsKept}
use Rattle.vc_tree_model.proofs.AlikeLemmas.{alike-lookup}
use Rattle.vc_tree_model.proofs.KeyLemmas.{behind-joins}
use Rattle.vc_tree_nodes.specs.Growth.{Inserted, IsBranch, IsGrown}
use Rattle.vc_tree_nodes.specs.Places.{BeginsAt, IsGapAt, LeadsTo}
use Rattle.vc_tree_nodes.proofs.Events.{child-grown, kept-children, leads-kept, value-set}
use Rattle.vc_tree_nodes.proofs.Finding.{gap-none, lookup_in-at}
use Rattle.vc_tree_nodes.proofs.Growing.{not-bare_solid}
use Rattle.vc_tree_nodes.proofs.Updating.{updated-respelled}
use Rattle.vc_tree_walks.proofs.Scanning.{first-cons}
use Rattle.vc_tree_removal.specs.Changing.{CanChange, ComesOf, Written, WrittenIn}
use Rattle.vc_tree_removal.specs.Taking.{AreSome}

-- ---- where the value of a key stands that is bound

module _ {K V : Type 0} (cmp : K → K → Ordering) (t : Tree K V) (key : List K) where
  -- something is left of it behind the prefix
  pub bound-begins : IsSome (lookup cmp t key) → IsSome (behind cmp t.prefix key)
  bound-begins s = by (behind cmp t.prefix key) s
    where
      by : (o : Option (List K)) → IsSome (node_lookup t.value (lookup_in cmp t.children) o) → IsSome o
      by None h = h
      by (Some rest) h = refl

  -- it is the node's own where nothing is left
  pub bound-ends : behind cmp t.prefix key ≡ Some [] → lookup cmp t key ≡ t.value
  bound-ends e = ap (node_lookup t.value (lookup_in cmp t.children)) e

  -- and else that of a child
  pub bound-below : (rest : List K) (y : K) → behind cmp t.prefix key ≡ Some rest → slice_get rest 0 ≡ Some y
      → lookup cmp t key ≡ lookup_in cmp t.children rest
  bound-below rest y e f = by rest (first-cons rest y f) e
    where
      by : (rest : List K) → rest ≡ y ∷ drop 1 rest → behind cmp t.prefix key ≡ Some rest
          → lookup cmp t key ≡ lookup_in cmp t.children rest
      by [] d e = grind arith
      by (x ∷ rest) d e = ap (node_lookup t.value (lookup_in cmp t.children)) e

module _ {K V : Type 0} (cmp : K → K → Ordering) where
  -- a list in which a tree begins with a component has one
  pub some-child : (f : Forest K V) (x : K) (i : ℕ) → BeginsAt cmp f x i → AreSome f
  some-child bare x i b = grind arith
  some-child (grow p v kids rest) x i b = tt

  -- a key that is bound has no gap for its place
  pub gap-unbound : {X : Type 0} → IsTotalOrder cmp → (f : Forest K V) (x : K) (i : ℕ) (rest : List K) → IsGapAt cmp f x i
      → slice_get rest 0 ≡ Some x → IsSome (lookup_in cmp f rest) → X
  gap-unbound o f x i rest gap first s =
      let none = ap (lookup_in cmp f) (first-cons rest x first) ∙ gap-none cmp o f x i gap (drop 1 rest) in
      grind arith

-- what is not there is not bound
pub none-bound : {V X : Type 0} (o : Option V) → o ≡ None → IsSome o → X
none-bound o e s = grind arith

-- ---- values that are kept

module _ {V : Type 0} (keeps : V → V → Type 0) (trans : (u v w : V) → keeps u v → keeps v w → keeps u w) where
  -- what may come of a kept value may come of the first
  pub kept-comes : {R : Type 0} (may : V → V → R → Type 0) (v w : Option V) (z : V) (r : R) → IsKept keeps v w
      → ComesOf keeps may w z r → ComesOf keeps may v z r
  kept-comes may (Some v) (Some w) z r k h = (h.0, trans v w h.0 k h.1, h.2)
  kept-comes may (Some v) None z r k h = absurd h
  kept-comes may None (Some w) z r k h = absurd k
  kept-comes may None None z r k h = absurd h

  -- and what may be asked of the first may be asked of it
  pub kept-asked : (takes : V → Type 0) (v w : Option V) → IsKept keeps v w → CanChange keeps takes v → CanChange keeps takes w
  kept-asked takes (Some v) (Some w) k h = λ x a. h x (trans v w x k a)
  kept-asked takes (Some v) None k h = tt
  kept-asked takes None (Some w) k h = absurd k
  kept-asked takes None None k h = tt

  -- where the first is there, so is the other
  pub kept-some : (v w : Option V) → IsKept keeps v w → IsSome v → IsSome w
  kept-some v w k s = grind arith

-- ---- a node

module _ {K V : Type 0} {cmp : K → K → Ordering} {keeps : V → V → Type 0} (r : (v : V) → keeps v v)
    (trans : (u v w : V) → keeps u v → keeps v w → keeps u w) (o : IsTotalOrder cmp) where
  -- the value of the key that the prefix is, is new
  pub value-written : (t : Tree K V) {u : Tree K V} {p : List K} {f : Forest K V} (key : List K) (value : V)
      → behind cmp t.prefix key ≡ Some [] → p ≡ t.prefix → f ≡ t.children
      → u ≡ record { prefix = p; value = Some value; children = f } → IsCanonical cmp t
      → Inserted cmp keeps t key value t.prefix u
  value-written t {u} key value e a b d c =
      let made = value-set r trans o t value a b d c in
      record {
        updated =
            updated-respelled cmp keeps o t.prefix key value (lookup cmp t) (lookup cmp u)
            (subst (λ k. same_key cmp k key ≡ true) (append-nil t.prefix) (behind-joins cmp o t.prefix key [] e)) made.updated;
        branch = made.branch;
      }

  -- the value of a key below it is new
  pub child-written : (t : Tree K V) {u : Tree K V} (key rest : List K) (value : V) → behind cmp t.prefix key ≡ Some rest
      → Inserted cmp keeps t (t.prefix ++ rest) value t.prefix u → Inserted cmp keeps t key value t.prefix u
  child-written t {u} key rest value e made = record {
    updated =
        updated-respelled cmp keeps o (t.prefix ++ rest) key value (lookup cmp t) (lookup cmp u)
        (behind-joins cmp o t.prefix key rest e) made.updated;
    branch = made.branch;
  }

  -- a node of which a child was written
  pub node-written : {T R : Type 0} (tree : T → Tree K V) {may : V → V → R → Type 0} (t : Tree K V) {u : Tree K V}
      (old new : List T) {p : List K} {v : Option V} (key rest : List K) {y : K} {answer : R}
      → behind cmp t.prefix key ≡ Some rest → slice_get rest 0 ≡ Some y → t ≡ node p v (forest (map tree old))
      → u ≡ node p v (forest (map tree new)) → IsSolid t.value t.children → length new ≡ length old
      → WrittenIn keeps may cmp rest answer (forest (map tree old)) (forest (map tree new))
      → Written keeps may cmp key answer t u
  node-written tree {may} t old new key rest {y} {answer} b f is e solid n w = record {
    new = w.new;
    comes =
        subst (λ v. ComesOf keeps may v w.new answer)
        (sym (bound-below cmp t key rest y b f ∙ ap (λ t. lookup_in cmp t.children rest) is)) w.comes;
    inserted =
        child-written t key rest w.new b
        (child-grown r trans o tree t old new (ap (λ t. t.prefix) (sym is)) (ap (λ t. t.value) (sym is))
        (ap (λ t. t.children) (sym is)) e solid (first-cons rest y f) n w.canonical w.updated);
  }

  module _ {T : Type 0} (tree : T → Tree K V) (old kept : List T) {i : ℕ} {rest : List K}
      (leads : LeadsTo cmp (forest (map tree old)) rest i)
      (alike : IsAlikeIn keeps (forest (map tree old)) (forest (map tree kept)))
      (canonical : AreChildren cmp (forest (map tree old))) where
    -- the child that the key leads to binds what is kept of what the list bound
    pub below-kept : {child : T} → child ≡ get_or kept i child
        → IsKept keeps (lookup_in cmp (forest (map tree old)) rest) (lookup cmp (tree child) rest)
    below-kept {child} is =
        let equal = (Equal-is (cmp leads.begins.here leads.first)).0 leads.begins.equal in
        let found =
        lookup_in-at cmp tree o kept i child leads.begins.here leads.first leads.others
        (kept-children r trans o tree old kept leads alike canonical)
        (leads-kept r trans o tree old kept leads alike canonical) equal in
        let there =
        ap (lookup_in cmp (forest (map tree kept))) leads.key_is ∙ found
        ∙ ap (λ c. lookup cmp (tree c) (leads.first ∷ leads.others)) (sym is)
        ∙ ap (lookup cmp (tree child)) (sym leads.key_is) in
        subst (IsKept keeps (lookup_in cmp (forest (map tree old)) rest)) there
        (alike-lookup keeps cmp (forest (map tree old)) (forest (map tree kept)) alike rest)

module _ {K V : Type 0} (cmp : K → K → Ordering) where
  -- a node with the same prefix has grown behind it
  pub branch-grown : (t u : Tree K V) → IsBranch cmp t.prefix u → IsGrown cmp 1 t u
  branch-grown t u b = record { begins = ap (take 1) b.prefix; solid = b.solid; children = b.children }

  -- a canonical node with children is solid
  pub some-solid : (t : Tree K V) → IsCanonical cmp t → AreSome t.children → IsSolid t.value t.children
  some-solid t c s = grind (arith, not-bare_solid)

-- what follows from each outcome
pub written-both : {X E B C : Type 0} (r : Result X E) (P : X → Type 0) → IfOk r P → OnErr r B → ((x : X) → P x → C)
    → (B → C) → C
written-both (Ok x) P h k f g = f x h
written-both (Err e) P h k f g = g k
