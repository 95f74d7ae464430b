-- The components with which trees continue at a place of their prefixes.
--     get-drop        the component at a place is the first one of what is left there
--     agree-first        two keys that begin alike agree for one component
--     children-first        the first of canonical children
use Rattle.std.proofs.Common.{◌≡◌, ℕ, zero, suc, List, [], ◌∷◌, drop, Option, Some, slice_get, arith}
use Rattle.std.specs.Cmp.{IsTotalOrder, tied_back}
use Rattle.std.specs.declared.cmp.Ordering.{Ordering}
use Rattle.std.specs.declared.cmp.Ordering.TheVariants.{Less, Equal}
use Rattle.vc_tree_model.specs.Tree.{Tree, Forest, forest, grow, node}
use Rattle.vc_tree_model.specs.Canonical.{AllAbove, AreChildren}
use Rattle.vc_tree_model.specs.Child.{Begins}
use Rattle.vc_tree_model.proofs.LookupLemmas.{above-less, above-equal}
use Rattle.vc_tree_model.specs.Places.{IsBefore}
use Rattle.vc_tree_nodes.specs.Parting.{Agree}

pub get-drop : {K : Type 0} (i : ℕ) (p : List K) → slice_get (drop i p) 0 ≡ slice_get p i
get-drop (suc i) (x ∷ p) = grind (arith, get-drop i p)
get-drop i p = grind arith

module _ {K : Type 0} (cmp : K → K → Ordering) where
  -- the first of canonical children, of which the prefix goes on with `first`, if it does
  pub record Leads {V : Type 0} (first : Option K) (t : Tree K V) (ts : List (Tree K V)) : Type 0 where
    pub place : K
    pub at : first ≡ Some place
    pub before : (c : K) → cmp c place ≡ Equal → IsBefore cmp c (Some t) ts
    pub lower : (c : K) → cmp c place ≡ Less → AllAbove cmp c (forest (t ∷ ts))
    pub least : (c : K) → AllAbove cmp c (forest (t ∷ ts)) → cmp c place ≡ Less

  module _ (o : IsTotalOrder cmp) where
    -- agree for one component
    pub agree-first : (p q : List K) (c : K) → Begins cmp c p → Begins cmp c q → Agree cmp p q 1
    agree-first p q c a b = grind arith

    -- it begins with a component that the others are above
    pub children-first : {V : Type 0} (n : ℕ) (p : List K) {v : Option V} {kids : Forest K V} {ts : List (Tree K V)}
        → AreChildren cmp (grow (drop n p) v kids (forest ts)) → Leads (slice_get p n) (node (drop n p) v kids) ts
    children-first zero [] a = absurd a
    children-first zero (z ∷ p) {ts = ts} a = grind (arith, above-equal, tied_back, above-less)
    children-first (suc n) [] a = absurd a
    children-first (suc n) (x ∷ p) a = children-first n p a
