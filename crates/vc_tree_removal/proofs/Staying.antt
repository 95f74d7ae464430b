-- Where keys below the children of a tree are removed, some of its keys do not begin with the removed one.
--     deep-stays        so it binds a key that stays
use Rattle.std.proofs.Common.{◌≡◌, [], ◌∷◌, ◌++◌, List, Option, None, Some, refl, ap, ◌∙◌, arith}
use Rattle.std.specs.Cmp.{IsTotalOrder}
use Rattle.std.specs.Prelude.{IsSome, is_some}
use Rattle.std.specs.declared.cmp.Ordering.{Ordering}
use Rattle.std.specs.declared.cmp.Ordering.TheVariants.{Equal}
use Rattle.vc_tree_model.specs.Canonical.{AreChildren, IsCanonical, IsWhole}
use Rattle.vc_tree_model.specs.Key.{behind}
use Rattle.vc_tree_model.specs.Map.{lookup, lookup_in, node_lookup, or_else}
use Rattle.vc_tree_model.specs.Tree.{Tree, Forest, bare, grow, node}
use Rattle.vc_tree_model.proofs.KeyLemmas.{behind-itself, then_behind}
use Rattle.vc_tree_model.proofs.LookupLemmas.{tree-bound}
use Rattle.vc_tree_walks.proofs.Scanning.{behind-parts}
use Rattle.vc_tree_removal.specs.Taking.{IsDeep}
use Rattle.vc_tree_removal.specs.declared.removal.Extent.TheVariants.{Below}
use Rattle.vc_tree_removal.proofs.Writing.{none-bound}

-- where the second is there, something is
else-some : {V : Type 0} (a b : Option V) → IsSome b → IsSome (or_else a b)
else-some a b s = grind arith

then-some : {V : Type 0} (a b : Option V) → IsSome a → IsSome (or_else a b)
then-some a b s = grind arith

module _ {K V : Type 0} {cmp : K → K → Ordering} (o : IsTotalOrder cmp) (p : List K) (v : Option V) (f : Forest K V)
    (key : List K) (y : K) (q : List K) (left : behind cmp p key ≡ Some (y ∷ q))
    (all : (k : List K) → IsSome (lookup cmp (node p v f) k) → IsSome (behind cmp key k)) where
  -- what is left of a key that the node binds begins as what is left of the one that goes
  goes-on : (k : List K) → IsSome (node_lookup v (lookup_in cmp f) (Some k)) → IsSome (behind cmp (y ∷ q) k)
  goes-on k s =
      let whole = behind-itself cmp o p k in
      rw (← (behind-parts cmp o p key (y ∷ q) (p ++ k) left ∙ ap (then_behind cmp (y ∷ q)) whole))
      (all (p ++ k) (rw whole s))

  -- so a value of its own would stay
  own-stays : {X : Type 0} → IsSome v → X
  own-stays s = grind (arith, goes-on [] s)

  -- and keys below begin with the same component
  begins-so : (x : K) (k : List K) → IsSome (lookup_in cmp f (x ∷ k)) → cmp y x ≡ Equal
  begins-so x k s = grind (arith, goes-on (x ∷ k) s)

-- of two children one stays
two-stay : {K V X : Type 0} {cmp : K → K → Ordering} (o : IsTotalOrder cmp) (y : K) (f : Forest K V) (a b : List K)
    (v w : Option V) (kids more rest : Forest K V) → f ≡ grow a v kids (grow b w more rest) → AreChildren cmp f
    → ((x : K) (k : List K) → IsSome (lookup_in cmp f (x ∷ k)) → cmp y x ≡ Equal) → X
two-stay {cmp = cmp} o y f (x ∷ a) (z ∷ b) v w kids more rest e c begins =
    let d = rw e at c in
    let first = tree-bound cmp o (x ∷ a) v kids d.0 d.1 in
    let second = tree-bound cmp o (z ∷ b) w more d.3.0 d.3.1 in
    let one = begins x (a ++ first.key) (rw e (then-some _ _ (ap is_some first.is))) in
    let other = begins z (b ++ second.key) (rw e (else-some _ _ (then-some _ _ (ap is_some second.is)))) in
    grind (arith, d.2, one, other, o.congr y x z one)
two-stay o y f a b v w kids more rest e c begins = grind arith

module _ {K V : Type 0} {cmp : K → K → Ordering} (o : IsTotalOrder cmp) where
  -- behind a prefix on which the key goes on
  left-stays : {X : Type 0} (p : List K) (v : Option V) (f : Forest K V) (key : List K) (y : K) (q : List K)
      → IsCanonical cmp (node p v f) → (f ≡ bare → X) → behind cmp p key ≡ Some (y ∷ q)
      → ((k : List K) → IsSome (lookup cmp (node p v f) k) → IsSome (behind cmp key k)) → X
  left-stays p (Some w) f key y q c n left all = own-stays o p (Some w) f key y q left all refl
  left-stays p None bare key y q c n left all = n refl
  left-stays {X = X} p None (grow a v kids bare) key y q c n left all = lone p a v kids c.0
    where
      lone : (p a : List K) (v : Option V) (kids : Forest K V) → IsWhole p None (grow a v kids bare) → X
      lone [] a v kids h = absurd h
      lone (x ∷ p) a v kids h = absurd h
  left-stays p None (grow a v kids (grow b w more rest)) key y q c n left all =
      two-stay o y (grow a v kids (grow b w more rest)) a b v w kids more rest refl c.1
      (begins-so o p None (grow a v kids (grow b w more rest)) key y q left all)

  -- of a tree with children
  pub deep-stays : {X : Type 0} (t : Tree K V) (key : List K) → IsCanonical cmp t → IsDeep cmp Below key t
      → ((k : List K) → IsSome (lookup cmp t k) → IsSome (behind cmp key k)) → X
  deep-stays {X} t key c d all = by (behind cmp t.prefix key) refl
    where
      no_child : t.children ≡ bare → X
      no_child e = absurd (rw e at d.some)

      by : (o : Option (List K)) → behind cmp t.prefix key ≡ o → X
      by None e = none-bound (behind cmp t.prefix key) e d.begins
      by (Some []) e = grind (arith, d.ends e)
      by (Some (y ∷ q)) e = left-stays t.prefix t.value t.children key y q c no_child e all
