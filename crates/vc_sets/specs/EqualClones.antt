-- Why clones are equal to their sources, for impls of `ClonesEqual`.
use Rattle.std.specs.Prelude.{◌≡◌, [], ◌∷◌, Option, Some, None, refl}
use Rattle.std.proofs.Common.{sym, ap, ◌∙◌}
use Rattle.std.specs.Cmp.Lexicographic.{slice_cmp}
use Rattle.std.specs.List.{AllZip}
use Rattle.std.specs.Option.{option_cmp}
use Rattle.std.specs.Ordering.{ordering_then}
use Rattle.std.specs.declared.cmp.Ordering.{Ordering}
use Rattle.vc_merge.specs.Clones.{ClonesAreEqual}

-- a clone that is the same as its source
pub same_equal : {X : Type 0} (cmp : X → X → Ordering) → ClonesAreEqual cmp (λ x y. y ≡ x)
same_equal cmp x y h z = ap (λ v. cmp v z) (sym h)

-- a clone that is seen as the same, by an order of what is seen
pub seen_equal : {X Y : Type 0} (see : X → Y) (cmp : Y → Y → Ordering)
    → ClonesAreEqual (λ x y. cmp (see x) (see y)) (λ x y. see y ≡ see x)
seen_equal see cmp x y h z = ap (λ v. cmp v (see z)) (sym h)

-- pairs, part by part
pub pairs_equal : {X Y : Type 0} {cmp : X → X → Ordering} {order : Y → Y → Ordering} {R : X → X → Type 0} {S : Y → Y → Type 0}
    → ClonesAreEqual cmp R → ClonesAreEqual order S
    → ClonesAreEqual {X = X × Y} (λ x y. ordering_then (cmp x.0 y.0) (order x.1 y.1)) (λ x y. R x.0 y.0 × S x.1 y.1)
pairs_equal {order = order} f g x y h z =
    ap (λ o. ordering_then o (order x.1 z.1)) (f x.0 y.0 h.0 z.0) ∙ ap (ordering_then _) (g x.1 y.1 h.1 z.1)

-- triples, part by part
pub triples_equal : {X Y Z : Type 0} {cmp : X → X → Ordering} {order : Y → Y → Ordering} {last : Z → Z → Ordering}
    {R : X → X → Type 0} {S : Y → Y → Type 0} {P : Z → Z → Type 0}
    → ClonesAreEqual cmp R → ClonesAreEqual order S → ClonesAreEqual last P
    → ClonesAreEqual {X = X × Y × Z} (λ x y. ordering_then (ordering_then (cmp x.0 y.0) (order x.1 y.1)) (last x.2 y.2))
    (λ x y. R x.0 y.0 × S x.1 y.1 × P x.2 y.2)
triples_equal {last = last} f g p x y h z =
    ap (λ o. ordering_then o (last x.2 z.2)) (pairs_equal f g (x.0, x.1) (y.0, y.1) (h.0, h.1) (z.0, z.1))
    ∙ ap (ordering_then _) (p x.2 y.2 h.2 z.2)

-- a value or none: a clone of a value is a clone of what is in it, and that of none is none
pub options_equal : {X : Type 0} {cmp : X → X → Ordering} {R : X → X → Type 0} (S : Option X → Option X → Type 0)
    → ((x y : X) → S (Some x) (Some y) → R x y) → ((y : X) → S None (Some y) → ⊥) → ((x : X) → S (Some x) None → ⊥)
    → ClonesAreEqual cmp R → ClonesAreEqual (option_cmp cmp) S
options_equal S both none some f None None h z = refl
options_equal S both none some f None (Some y) h z = absurd (none y h)
options_equal S both none some f (Some x) None h z = absurd (some x h)
options_equal S both none some f (Some x) (Some y) h None = refl
options_equal S both none some f (Some x) (Some y) h (Some z) = f x y (both x y h) z

-- lists, element by element
pub lists_equal : {X : Type 0} {cmp : X → X → Ordering} {R : X → X → Type 0} → ClonesAreEqual cmp R
    → ClonesAreEqual (slice_cmp cmp) (AllZip R)
lists_equal f [] [] h z = refl
lists_equal f [] (y ∷ ys) h z = absurd h
lists_equal f (x ∷ xs) [] h z = absurd h
lists_equal f (x ∷ xs) (y ∷ ys) h [] = refl
lists_equal {cmp = cmp} f (x ∷ xs) (y ∷ ys) h (z ∷ zs) =
    ap (λ o. ordering_then o (slice_cmp cmp xs zs)) (f x y h.0 z)
    ∙ ap (ordering_then (cmp y z)) (lists_equal f xs ys h.1 zs)
