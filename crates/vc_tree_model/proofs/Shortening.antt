-- Trees without the first components of their prefixes.
--     shortened-canonical        such a tree of a canonical one is canonical
use Rattle.std.proofs.Common.{ℕ, arith}
use Rattle.std.specs.declared.cmp.Ordering.{Ordering}
use Rattle.vc_tree_model.specs.Tree.{Tree, shortened}
use Rattle.vc_tree_model.specs.Canonical.{IsCanonical}

module _ {K V : Type 0} where
  -- a canonical tree without the first components of its prefix is canonical
  pub shortened-canonical : (cmp : K → K → Ordering) (n : ℕ) (t : Tree K V) → IsCanonical cmp t
      → IsCanonical cmp (shortened n t)
  shortened-canonical cmp n t c = grind arith
