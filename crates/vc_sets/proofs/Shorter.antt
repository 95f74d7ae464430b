-- A subset has no more elements than its set.
use Rattle.std.proofs.Common.{◌≡◌, ◌≤◌, List, [], ◌∷◌, length, IsTrue, arith}
use Rattle.std.specs.List.{AllByRecursion}
use Rattle.std.specs.List.Sorted.{IsStrictlySortedBy}
use Rattle.std.specs.Cmp.{IsTotalOrder}
use Rattle.std.specs.declared.cmp.Ordering.{Ordering}
use Rattle.std.specs.declared.cmp.Ordering.TheVariants.{Less}
use Rattle.vc_merge.specs.Ascending.{Ascends, member}
use Rattle.vc_merge.proofs.Members.{equal-from_is_eq}
use Rattle.vc_sets.specs.Tests.{IsSubset}

module _ {X : Type 0} (cmp : X → X → Ordering) (total : IsTotalOrder cmp) where
  member-above : (y w : X) (zs : List X) → AllByRecursion (λ z. cmp y z ≡ Less) zs → IsTrue (member cmp zs w) → cmp y w ≡ Less
  member-above y w [] p h = grind arith
  member-above y w (z ∷ zs) p h = grind (arith, member-above y w zs p.1)

  -- what is behind the first element of a subset is in what is behind the first element of the set
  subset-rest : (x y : X) (xs ys : List X) → AllByRecursion (λ z. cmp x z ≡ Less) xs → AllByRecursion (λ z. cmp y z ≡ Less) ys
      → IsSubset cmp (x ∷ xs) (y ∷ ys) → IsSubset cmp xs ys
  subset-rest x y xs ys p q h w m =
      grind (arith, h x, h w, member-above x w xs p m, member-above y x ys q, equal-from_is_eq)

  -- it is no longer
  pub subset-shorter : (xs ys : List X) → Ascends cmp xs → Ascends cmp ys → IsSubset cmp xs ys → length xs ≤ length ys
  unfolding IsStrictlySortedBy
  subset-shorter [] ys p q h = omega arith
  subset-shorter (x ∷ xs) [] p q h = grind (arith, h x)
  subset-shorter (x ∷ xs) (y ∷ ys) p q h = grind (arith, subset-shorter xs ys p.1 q.1 (subset-rest x y xs ys p.0 q.0 h))
