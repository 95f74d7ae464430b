-- Where a key diverges from a prefix, component by component.
--     agree-more, parts-here        one more component agrees, or doesn't
use Rattle.std.proofs.Common.{◌≡◌, ℕ, suc, ◌+◌, ◌<◌, ◌∷◌, take, List, length, get_or, Some}
use Rattle.std.proofs.Common.{arith, refl, true}
use Rattle.std.proofs.lemmas.Option.{slice_get_read}
use Rattle.std.specs.Prelude.{slice_get}
use Rattle.std.specs.declared.cmp.Ordering.{Ordering}
use Rattle.std.specs.declared.cmp.Ordering.TheVariants.{Equal}
use Rattle.vc_tree_model.specs.Key.{same_key}
use Rattle.vc_tree_nodes.specs.Parting.{Agree, PartsAt}

module _ {K : Type 0} (cmp : K → K → Ordering) where
  -- keys that agree up to a place, and there too
  same-more : (p k : List K) (n : ℕ) (x y : K) → same_key cmp (take n p) (take n k) ≡ true → slice_get p n ≡ Some x
      → slice_get k n ≡ Some y → cmp x y ≡ Equal
      → same_key cmp (take (suc n) p) (take (suc n) k) ≡ true
  same-more (a ∷ p) (b ∷ k) (suc n) x y s d e h = grind (arith, same-more p k n x y)
  same-more p k n x y s d e h = grind arith

  -- one more component agrees
  pub agree-more : (p k : List K) (n : ℕ) (x y : K) → Agree cmp p k n → n < length p → n < length k → x ≡ get_or p n x
      → y ≡ get_or k n y → cmp x y ≡ Equal → Agree cmp p k (n + 1)
  agree-more p k n x y a g h d e c =
      grind (arith, same-more, slice_get_read p (length p) n x refl g d, slice_get_read k (length k) n y refl h e)

  -- the next component does not agree
  pub parts-here : (order : Ordering) (p k : List K) (n : ℕ) (x y : K) → Agree cmp p k n → n < length p → n < length k
      → x ≡ get_or p n x → y ≡ get_or k n y → cmp x y ≡ order → PartsAt cmp order p k n
  parts-here order p k n x y a g h d e c =
      grind (arith, slice_get_read p (length p) n x refl g d, slice_get_read k (length k) n y refl h e)
