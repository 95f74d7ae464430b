-- Elements of a list that a test chooses, or that an iterator moved out.
use Rattle.std.proofs.Common.{◌≡◌, Bool, List, ◌∷◌, None, arith}
use Rattle.std.proofs.lemmas.List.{append-nil}
use Rattle.std.specs.Iterator.{Yields}
use Rattle.std.specs.Map.Iter.{TakesFirst}
use Rattle.std.specs.List.{AllByRecursion, items_where_true}
use Rattle.std.specs.List.Sorted.{IsStrictlySortedBy}
use Rattle.std.specs.declared.cmp.Ordering.{Ordering}
use Rattle.vc_merge.specs.Ascending.{Ascends}
use Rattle.vc_merge.specs.Yielded.{taken}

-- all of the list has come
pub all-taken : {X : Type 0} (s t xs : List X) (u : List X) → Yields (TakesFirst (λ x. x)) s xs t
    → TakesFirst (λ x. x) t None u → xs ≡ s
all-taken s t xs u y n = grind (arith, taken s t xs y, append-nil xs)

module _ {X : Type 0} (P : X → Type 0) where
  -- what holds of each element holds of those that a test chooses
  pub each-chosen : (bs : List Bool) (xs : List X) → AllByRecursion P xs → AllByRecursion P (items_where_true bs xs)
  each-chosen (b ∷ bs) (x ∷ xs) p = grind (arith, each-chosen bs xs)
  each-chosen bs xs p = grind arith

module _ {X : Type 0} (cmp : X → X → Ordering) where
  -- what a test chooses ascends
  pub ascends-chosen : (bs : List Bool) (xs : List X) → Ascends cmp xs → Ascends cmp (items_where_true bs xs)
  unfolding IsStrictlySortedBy
  ascends-chosen (b ∷ bs) (x ∷ xs) p = grind (arith, ascends-chosen bs xs p.1, each-chosen)
  ascends-chosen bs xs p = grind arith
