-- How the fronts of two lists compare: what an event of a merge is told of its elements.
use Rattle.std.specs.Prelude.{◌≡◌, List, [], ◌∷◌, ◌⊎◌}
use Rattle.std.proofs.Common.{inl, inr}
use Rattle.std.specs.List.{AllByRecursion}
use Rattle.std.specs.declared.cmp.Ordering.{Ordering}
use Rattle.std.specs.declared.cmp.Ordering.TheVariants.{Less}

-- each of xs is below each of ys
abbrev pub EachBelow : {X Y : Type 0} → (X → Y → Type 0) → List X → List Y → Type 0
EachBelow Below xs ys = AllByRecursion (λ x. AllByRecursion (λ y. Below x y) ys) xs

module _ {A B : Type 0} (order : A ⊎ B → A ⊎ B → Ordering) where
  -- each left element is less than each right one
  abbrev pub LeftBelow : List A → List B → Type 0
  LeftBelow ls rs = EachBelow (λ x y. order (inl x) (inr y) ≡ Less) ls rs

  -- each right element is less than each left one
  abbrev pub RightBelow : List B → List A → Type 0
  RightBelow rs ls = EachBelow (λ y x. order (inr y) (inl x) ≡ Less) rs ls

  -- both lists have a first element, and these compare as given
  abbrev pub HeadsCompare : List A → List B → Ordering → Type 0
  HeadsCompare [] rs o = ⊥
  HeadsCompare (x ∷ ls) [] o = ⊥
  HeadsCompare (x ∷ ls) (y ∷ rs) o = order (inl x) (inr y) ≡ o
