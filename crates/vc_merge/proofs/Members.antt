-- Members of lists, and the elements that are found at them.
use Rattle.std.proofs.Common.{◌≡◌, true, List, [], ◌∷◌, ◌++◌, None, is_some}
use Rattle.std.proofs.Common.{refl, arith}
use Rattle.std.specs.List.{AllByRecursion}
use Rattle.std.specs.Option.{option_or}
use Rattle.std.specs.Cmp.{IsTotalOrder}
use Rattle.std.specs.Ordering.{eq_by_cmp, is_eq}
use Rattle.std.specs.declared.cmp.Ordering.{Ordering}
use Rattle.std.specs.declared.cmp.Ordering.TheVariants.{Less, Equal}
use Rattle.vc_merge.specs.Ascending.{member, element_at}

pub equal-from_is_eq : (o : Ordering) → is_eq o ≡ true → o ≡ Equal
equal-from_is_eq o e = grind arith

module _ {X : Type 0} (cmp : X → X → Ordering) where
  -- a member is an element that stands there
  pub member-is_some : (xs : List X) (x : X) → member cmp xs x ≡ is_some (element_at cmp xs x)
  member-is_some [] x = refl
  member-is_some (y ∷ ys) x = grind (arith, member-is_some ys x)

  -- the element of two lists, one after the other
  pub element_at-append : (xs ys : List X) (x : X) → element_at cmp (xs ++ ys) x
      ≡ option_or (element_at cmp xs x) (element_at cmp ys x)
  element_at-append [] ys x = refl
  element_at-append (z ∷ zs) ys x = grind (arith, element_at-append zs ys x)

  module _ (total : IsTotalOrder cmp) where
    -- nothing stands at y in a list that is above y
    pub element_at-none : (y x : X) (zs : List X) → AllByRecursion (λ z. cmp y z ≡ Less) zs → eq_by_cmp cmp y x
        ≡ true → element_at cmp zs x ≡ None
    element_at-none y x [] p e = refl
    element_at-none y x (z ∷ zs) p e = grind (arith, element_at-none y x zs p.1 e)

    -- equal elements are equal to the same
    pub equal-alike : (y z x : X) → cmp y z ≡ Equal → eq_by_cmp cmp z x ≡ eq_by_cmp cmp y x
    equal-alike y z x e = grind arith
