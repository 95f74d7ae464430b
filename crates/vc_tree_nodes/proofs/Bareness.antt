-- What a node's value and children say of the tree, and a canonical tree that is not bare binds a key.
use Rattle.std.proofs.Common.{◌≡◌, [], ◌∷◌, ◌++◌, List, Option, None, length, map, arith, ◌==◌, ap}
use Rattle.std.proofs.Common.{Bool, true, false, inl, inr, ◌⊎◌}
use Rattle.std.specs.Option.{is_some}
use Rattle.std.specs.Cmp.{IsTotalOrder}
use Rattle.std.specs.Prelude.{IsSome, MatchBool}
use Rattle.std.specs.declared.cmp.Ordering.{Ordering}
use Rattle.vc_tree_model.specs.Canonical.{IsCanonical, IsSolid}
use Rattle.vc_tree_model.specs.Map.{lookup}
use Rattle.vc_tree_model.specs.Tree.{Tree, Forest, forest, node, is_bare}
use Rattle.vc_tree_model.proofs.LookupLemmas.{AreNothing, nothing-bound, tree-bound, whole-cases}

-- a node with no value is bare exactly where its list of children is empty
pub is_bare-by : {K V T : Type 0} (tree : T → Tree K V) (xs : List T) (p : List K) (v : Option V) (kids : Forest K V)
    → None ≡ v → forest (map tree xs) ≡ kids → (length xs == 0) ≡ is_bare (node p v kids)
is_bare-by tree [] p v kids a b = grind arith
is_bare-by tree (x ∷ xs) p v kids a b = grind arith

module _ {K V : Type 0} (cmp : K → K → Ordering) (o : IsTotalOrder cmp) where
  -- a canonical tree is bare exactly where it binds no key
  pub bare-keys : (t : Tree K V) → IsCanonical cmp t → (b : Bool) → b ≡ is_bare t
      → MatchBool b ((k : List K) → lookup cmp t k ≡ None) ((k : List K) × IsSome (lookup cmp t k))
  bare-keys t c b e = by (whole-cases cmp t.prefix t.value t.children c.0)
    where
      by : IsSolid t.value t.children ⊎ AreNothing cmp t.prefix t.value t.children
          → MatchBool b ((k : List K) → lookup cmp t k ≡ None) ((k : List K) × IsSome (lookup cmp t k))
      by (inl s) =
          let bound = tree-bound cmp o t.prefix t.value t.children s c.1 in
          let full : is_bare t ≡ false = grind arith in
          rw (e, full) (t.prefix ++ bound.key, ap is_some bound.is)
      by (inr n) = let bare : is_bare t ≡ true = grind arith in rw (e, bare) (nothing-bound cmp t.prefix t.value t.children n)
