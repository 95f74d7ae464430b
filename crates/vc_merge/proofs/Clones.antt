-- Clones of the elements of an ascending list, where clones are equal to their sources.
use Rattle.std.proofs.Common.{◌≡◌, List, [], ◌∷◌, arith}
use Rattle.std.specs.List.{AllByRecursion, AllZip}
use Rattle.std.specs.List.Sorted.{IsStrictlySortedBy}
use Rattle.std.specs.Cmp.{IsTotalOrder}
use Rattle.std.specs.declared.cmp.Ordering.{Ordering}
use Rattle.std.specs.declared.cmp.Ordering.TheVariants.{Less, Equal}
use Rattle.vc_merge.specs.Ascending.{Ascends}
use Rattle.vc_merge.specs.Clones.{ClonesAreEqual}

-- a clone that compares as its source does is equal to it
pub clone-equal : {X : Type 0} (cmp : X → X → Ordering) → IsTotalOrder cmp → (is_clone : X → X → Type 0)
    → ClonesAreEqual cmp is_clone → (x y : X) → is_clone x y → cmp x y ≡ Equal
clone-equal cmp total is_clone alike x y h = grind arith

module _ {X : Type 0} (cmp : X → X → Ordering) (total : IsTotalOrder cmp) (is_clone : X → X → Type 0)
    (equal : (x y : X) → is_clone x y → cmp x y ≡ Equal) where
  -- the clones of what is above an element are above its clone
  clones-above : (x y : X) (xs ys : List X) → cmp x y ≡ Equal → AllZip is_clone xs ys
      → AllByRecursion (λ z. cmp x z ≡ Less) xs → AllByRecursion (λ z. cmp y z ≡ Less) ys
  clones-above x y [] [] e z p = tt
  clones-above x y (v ∷ xs) (w ∷ ys) e z p = grind (arith, clones-above x y xs ys e z.1 p.1)
  clones-above x y xs ys e z p = absurd z

  -- the clones of an ascending list ascend
  pub clones-ascend : (xs ys : List X) → AllZip is_clone xs ys → Ascends cmp xs → Ascends cmp ys
  unfolding IsStrictlySortedBy
  clones-ascend [] [] z p = tt
  clones-ascend (x ∷ xs) (y ∷ ys) z p = grind (arith, clones-ascend xs ys z.1 p.1, clones-above)
  clones-ascend xs ys z p = absurd z
