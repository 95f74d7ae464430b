-- What a test leaves of an ascending list, element by element.
use Rattle.std.proofs.Common.{◌≡◌, Bool, List, [], ◌∷◌, length}
use Rattle.std.proofs.Common.{IsTrue, refl, arith}
use Rattle.std.specs.List.{items_where_true}
use Rattle.std.specs.List.Retain.{IsFiltered, ReturnsInTurn}
use Rattle.std.specs.List.Sorted.{IsStrictlySortedBy}
use Rattle.std.specs.Cmp.{IsTotalOrder}
use Rattle.std.specs.declared.cmp.Ordering.{Ordering}
use Rattle.std.specs.declared.cmp.Ordering.TheVariants.{Less}
use Rattle.vc_merge.specs.Ascending.{Ascends, member, element_at}
use Rattle.vc_merge.proofs.Members.{member-is_some, element_at-none}
use Rattle.vc_merge.specs.Retaining.{IsRetained}
use Rattle.vc_merge.proofs.Chosen.{each-chosen}

module _ {F X : Type 0} (cmp : X → X → Ordering) (total : IsTotalOrder cmp) (calls : F → X → Bool → F → Type 0) where
  asked-each : (f g : F) (bs : List Bool) (xs : List X) → length bs ≡ length xs → ReturnsInTurn calls f bs xs g
      → Ascends cmp xs → (x : X)
      → IsRetained calls (element_at cmp xs x) (element_at cmp (items_where_true bs xs) x)
  unfolding IsStrictlySortedBy
  asked-each f g [] [] n r p x = refl
  asked-each f g (b ∷ bs) (y ∷ xs) n r p x =
      grind (arith, element_at-none cmp total y x, each-chosen (λ z. cmp y z ≡ Less) bs xs p.0, asked-each r.0 g bs xs)
  asked-each f g bs xs n r p x = absurd (omega arith)

  -- what is left after the test was asked at each element
  pub asked : (f : F) (xs ys : List X) → Ascends cmp xs → IsFiltered calls f xs ys → (x : X)
      → IsRetained calls (element_at cmp xs x) (element_at cmp ys x)
  asked f xs ys p h x = grind (arith, asked-each)

  -- nothing new is left
  pub asked-member : (xs ys : List X) (x : X) → IsRetained calls (element_at cmp xs x) (element_at cmp ys x)
      → IsTrue (member cmp ys x) → IsTrue (member cmp xs x)
  asked-member xs ys x h e = grind (arith, member-is_some)
