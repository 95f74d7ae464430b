-- The trees around the one that begins with a component.
--     around-found, around-gap        by the place of that one, and where there is none
use Rattle.std.proofs.Common.{◌≡◌, ℕ, zero, suc, [], ◌∷◌, ◌++◌, List, None, Some, sym, ap, ◌∙◌, arith}
use Rattle.std.proofs.Common.{take, drop, slice_get}
use Rattle.std.proofs.lemmas.List.{take-append-drop}
use Rattle.std.proofs.lemmas.Option.{get_or_from_slice_get, slice_get_within}
use Rattle.std.specs.Cmp.{IsTotalOrder}
use Rattle.std.specs.List.{AllByRecursion}
use Rattle.std.specs.declared.cmp.Ordering.{Ordering}
use Rattle.std.specs.declared.cmp.Ordering.TheVariants.{Less, Equal, Greater}
use Rattle.vc_merge.specs.Place.{IsOrdered}
use Rattle.vc_merge.proofs.Members.{equal-from_is_eq}
use Rattle.vc_tree_model.specs.Canonical.{AreChildren}
use Rattle.vc_tree_model.specs.Tree.{Tree}
use Rattle.vc_tree_nodes.proofs.Firsts.{child_first-map, children-ordered}
use Rattle.vc_tree_nodes.specs.Children.{seen}
use Rattle.vc_tree_nodes.specs.Places.{BeginsAt, IsGapAt}
use Rattle.vc_tree_facing.proofs.Components.{get-drop}
use Rattle.vc_tree_facing.specs.Seeking.{side_at, Stops}
use Rattle.vc_tree_combines.specs.Making.{IsAround}

module _ {X : Type 0} where
  all-at : (P : X → Type 0) (xs : List X) (n : ℕ) (x : X) → AllByRecursion P xs → slice_get xs n ≡ Some x → P x
  all-at P (y ∷ xs) (suc n) x a e = all-at P xs n x a.1 e
  all-at P xs n x a e = grind arith

  -- those before one that is equal are less
  before-equal : (side : X → Ordering) (xs : List X) (n : ℕ) (x : X) → IsOrdered side xs → slice_get xs n ≡ Some x
      → side x ≡ Equal → AllByRecursion (λ y. side y ≡ Less) (take n xs)
  before-equal side (y ∷ xs) (suc n) x o e h =
      grind (arith, before-equal side xs n x o.1 e h, all-at (λ z. side z ≡ Greater) xs n x)
  before-equal side xs n x o e h = grind arith

module _ {K V T : Type 0} (cmp : K → K → Ordering) (tree : T → Tree K V) (c : K) where
  pub around-found : IsTotalOrder cmp → (ts : List T) (n : ℕ) (t : T) {before rest after : List T}
      → AreChildren cmp (seen tree ts) → BeginsAt cmp (seen tree ts) c n → before ≡ take n ts → rest ≡ drop n ts
      → rest ≡ t ∷ after → IsAround cmp tree c ts before (Some t) after
  around-found o ts n t {before} {rest} {after} a b e f h =
      let k : drop n ts ≡ t ∷ after = sym f ∙ h in
      let at : slice_get ts n ≡ Some t = sym (get-drop n ts) ∙ ap (λ l. slice_get l 0) k in
      let here = rw (get_or_from_slice_get ts n t t at) at (child_first-map cmp tree ts n t (slice_get_within ts n t at)) in
      let equal : side_at cmp tree 0 c t ≡ Equal = rw (sym here ∙ b.at) (equal-from_is_eq (cmp b.here c) b.equal) in
      rw e (record {
        is = sym (take-append-drop n ts) ∙ ap (λ l. take n ts ++ l) k;
        lower = before-equal (side_at cmp tree 0 c) ts n t (children-ordered cmp tree c o ts a) at equal;
        stops = equal;
      })

  gap-lower : (ts : List T) (n : ℕ) → IsGapAt cmp (seen tree ts) c n
      → AllByRecursion (λ t. side_at cmp tree 0 c t ≡ Less) (take n ts)
  gap-lower (t ∷ ts) (suc n) h = grind (arith, gap-lower ts n)
  gap-lower ts zero h = tt
  gap-lower [] (suc n) h = absurd h

  gap-stops : IsTotalOrder cmp → (ts : List T) (n : ℕ) → IsGapAt cmp (seen tree ts) c n → Stops cmp tree 0 c None (drop n ts)
  gap-stops o (t ∷ ts) (suc n) h = grind (arith, gap-stops o ts n)
  gap-stops o [] (suc n) h = absurd h
  gap-stops o ts zero h = grind arith

  pub around-gap : IsTotalOrder cmp → (ts : List T) (n : ℕ) {before after : List T} → IsGapAt cmp (seen tree ts) c n
      → before ≡ take n ts → after ≡ drop n ts → IsAround cmp tree c ts before None after
  around-gap o ts n h e f =
      rw (e, f) (record { is = sym (take-append-drop n ts); lower = gap-lower ts n h; stops = gap-stops o ts n h })
