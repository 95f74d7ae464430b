-- A copy of a tree that one side alone has.
--     copied-by        a copy is a child that begins as the tree did, and what is said of each value and its copy is said of
-- the two
use Rattle.std.proofs.Common.{ℕ, ◌<◌, List, Option, Some, length, arith}
use Rattle.std.specs.declared.cmp.Ordering.{Ordering}
use Rattle.vc_tree_model.specs.Tree.{Tree, Forest, shortened}
use Rattle.vc_tree_model.specs.Value.{IsKept}
use Rattle.vc_tree_model.specs.Canonical.{IsCanonical, IsWhole, IsSolid}
use Rattle.vc_tree_model.specs.Same.{IsAlike}
use Rattle.vc_tree_model.proofs.AlikeLemmas.{alike-solid, alike-children, tree-alike_lookup}
use Rattle.vc_tree_facing.specs.Made.{IsMade}

solid-at : {K V : Type 0} (i : ℕ) (p : List K) (v : Option V) (f : Forest K V) → IsWhole p v f → i < length p → IsSolid v f
solid-at i p v f w h = grind arith

pub copied-by : {K V : Type 0} (cmp : K → K → Ordering) (keeps : V → V → Type 0) (t u : Tree K V) (i : ℕ) → IsCanonical cmp t
    → i < length t.prefix → IsAlike keeps (shortened i t) u → (S : Option V → Option V → Type 0)
    → ((v z : Option V) → IsKept keeps v z → S v z) → IsMade cmp S (shortened i t) (Some u)
copied-by cmp keeps t u i c h a S f = record {
  child = (
    alike-solid keeps t.value u.value t.children u.children a.1 a.2 (solid-at i t.prefix t.value t.children c.0 h),
    alike-children keeps cmp t.children u.children a.2 c.1,
  );
  begins = grind arith;
  binds = λ k. f _ _ (tree-alike_lookup keeps cmp (shortened i t) u a k);
}
