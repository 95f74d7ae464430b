-- Two trees beside each other, and a tree that continues beside the children of a node.
--     comes-first, stays-first        two trees of which neither begins as the other one
--     one-next        the children before the one that begins alike are done
--     next-agree, next-fewer        that one agrees with the tree, and has no more nodes
--     one-made        that one and those behind it are done
use Rattle.std.proofs.Common.{◌≡◌, ◌⊎◌, ℕ, ◌≤◌, [], ◌∷◌, ◌++◌, List, Option, None, Some, inl, inr, refl, sym, ◌∙◌, map, arith}
use Rattle.std.proofs.Common.{drop, slice_get, append-nil, option_map}
use Rattle.std.proofs.lemmas.List.{append_cancel_right}
use Rattle.std.specs.List.{AllByRecursion, cons_option}
use Rattle.std.specs.Option.{option_copied, option_to_list}
use denote.Ref.{Bor}
use Rattle.vc_merge.proofs.ListLemmas.{each-weaker}
use Rattle.vc_tree_nodes.specs.Parting.{Agree}
use Rattle.std.specs.Prelude.{IfSome}
use Rattle.std.specs.Cmp.{IsTotalOrder}
use Rattle.std.specs.declared.cmp.Ordering.{Ordering}
use Rattle.std.specs.declared.cmp.Ordering.TheVariants.{Less, Equal}
use Rattle.vc_tree_model.specs.Canonical.{AreChildren}
use Rattle.vc_tree_model.specs.Look.{Look}
use Rattle.vc_tree_model.specs.Tree.{Tree, forest_nodes, shortened}
use Rattle.vc_tree_nodes.specs.Children.{seen}
use Rattle.vc_tree_facing.specs.Doing.{IsDoing, AreNext, IsSaidIn}
use Rattle.vc_tree_facing.specs.Facing.{shortened_in}
use Rattle.vc_tree_facing.specs.Made.{IsMade, IsMadeOf}
use Rattle.vc_tree_facing.specs.Seeking.{side_at, Stops, IsSought}
use Rattle.vc_tree_facing.specs.Sides.{by_component, by_component_total, lower_side, side_next}
use Rattle.vc_tree_facing.specs.declared.sides.EventSide.TheVariants.{Left, Right}
use Rattle.vc_tree_facing.proofs.Components.{children-first}
use Rattle.vc_tree_facing.proofs.Next.{doing-start, done, all-done, left-next, right-next, both-next, made-left, made-right}
use Rattle.vc_tree_facing.proofs.Next.{both-agree, right-fewer}
use Rattle.vc_tree_edits.specs.Taken.{IsCombinedBelow}
use Rattle.vc_tree_edits.specs.Woven.{ComesAs, AreAdded}
use Rattle.vc_tree_edits.proofs.Coming.{added-done}

higher-side : (r : Ordering) → (r ≡ Less → ⊥) → (r ≡ Equal → ⊥) → lower_side r ≡ Left
higher-side r f g = grind arith

module _ {K V W O A B : Type 0} {cmp : K → K → Ordering} (ta : A → Tree K V) (tb : B → Tree K W) (i j : ℕ) (l : Look cmp W O)
    (R : Option V → O → Option V → Type 0) (none : R None l.none None) (total : IsTotalOrder cmp) where
  module _ (x : A) (y : B) (cx : AreChildren cmp (shortened_in ta i (x ∷ []))) (cy : AreChildren cmp (shortened_in tb j (y ∷ [])))
      {left comer : A} (stays : IsMade cmp (λ v z. R v l.none z) (shortened i (ta x)) (Some (ta left)))
      (comes : ComesAs cmp l R ta tb j y comer) where
    start : IsDoing cmp ta tb i j l R (λ v w. Unit {0}) (x ∷ []) (y ∷ []) (x ∷ []) (y ∷ []) []
    start = doing-start total tt cx cy (λ c q. tt) refl

    -- the right one is first
    pub comes-first : by_component ta tb i j cmp (inr y) (inl x) ≡ Less → {kids : List A} → kids ≡ comer ∷ left ∷ []
        → IsCombinedBelow cmp l R (shortened_in ta i (x ∷ [])) (shortened_in tb j (y ∷ [])) (seen ta kids)
    comes-first e k =
        let came =
        done (right-next start (rw e refl) refl) {u = Some (ta comer)} {made' = ta comer ∷ []} refl (made-right comes) in
        rw k (all-done (done (left-next came refl refl) {u = Some (ta left)} {made' = ta comer ∷ ta left ∷ []} refl (made-left stays))
        refl none)

    -- or the left one
    pub stays-first : (by_component ta tb i j cmp (inr y) (inl x) ≡ Less → ⊥)
        → (by_component ta tb i j cmp (inl x) (inr y) ≡ Equal → ⊥) → {kids : List A} → kids ≡ left ∷ comer ∷ []
        → IsCombinedBelow cmp l R (shortened_in ta i (x ∷ [])) (shortened_in tb j (y ∷ [])) (seen ta kids)
    stays-first f g k =
        let order = by_component_total ta tb i j total in
        let side : lower_side (by_component ta tb i j cmp (inr y) (inl x)) ≡ Left =
        higher-side (by_component ta tb i j cmp (inr y) (inl x)) f (λ e. g (rw (order.antisymm (inl x) (inr y), e) refl)) in
        let left_is =
        done (left-next start (rw side refl) refl) {u = Some (ta left)} {made' = ta left ∷ []} refl (made-left stays) in
        rw k (all-done (done (right-next left_is refl refl) {u = Some (ta comer)} {made' = ta left ∷ ta comer ∷ []} refl (made-right comes))
        refl none)

-- ---- a tree that continues beside the children of a node

module _ {K V W A B : Type 0} (cmp : K → K → Ordering) (ta : A → Tree K V) (tb : B → Tree K W) (i j : ℕ) (a : A) (c : K)
    (e : slice_get (ta a).prefix i ≡ Some c) where
  side-by : (y : B) {r : Ordering} → side_at cmp tb j c y ≡ r
      → side_next (by_component ta tb i j cmp) (Some a) (Some y) ≡ Some (lower_side r)
  side-by y h = grind arith

  stops-alone : (rs : List B) → Stops cmp tb j c None rs
      → side_next (by_component ta tb i j cmp) (Some a) (slice_get rs 0) ≡ Some Left
  stops-alone rs s = grind arith

right-alone : {A B : Type 0} (order : A ⊎ B → A ⊎ B → Ordering) (zs : List B)
    → AllByRecursion (λ y. side_next order None (Some y) ≡ Some Right) zs
right-alone order [] = tt
right-alone order (z ∷ zs) = (refl, right-alone order zs)

module _ {K V W O A B : Type 0} {cmp : K → K → Ordering} (ta : A → Tree K V) (tb : B → Tree K W) (i : ℕ) (l : Look cmp W O)
    (R : Option V → O → Option V → Type 0) (asks : Option V → O → Type 0) (a : A) {ys after : List B} {found : Option B} where
  -- the children before the one that begins alike are done, and that one is next
  pub one-next : IsTotalOrder cmp → asks None l.none → AreChildren cmp (shortened_in ta i (a ∷ []))
      → AreChildren cmp (shortened_in tb 0 ys) → IsSaidIn cmp ta tb i 0 l asks (a ∷ []) ys → (before : List B)
      → ys ≡ before ++ cons_option found after
      → ((c : K) → slice_get (ta a).prefix i ≡ Some c → IsSought cmp tb 0 c ys found after) → (none kids : List A) → none ≡ []
      → AreAdded (ComesAs cmp l R ta tb 0) (λ t. t) before none kids
      → AreNext cmp ta tb i 0 l R asks (a ∷ []) ys (Some a) found [] after (map ta kids)
  one-next total an ca cy said before parts sought none kids empty added =
      let d : IsDoing cmp ta tb i 0 l R asks (a ∷ []) ys (a ∷ []) ys [] = doing-start total an ca cy said refl in
      let f = children-first cmp total i (ta a).prefix {ts = []} d.left in
      let s = sought f.place f.at in
      let lower = rw (append_cancel_right _ before (cons_option found after) (sym s.passes.is ∙ parts)) at s.passes.lower in
      let came =
      added-done (λ t. t) (λ ks. ks) (λ ks. Unit {0}) (λ ks t u. (refl, tt)) before [] kids {ls = a ∷ []}
      {rs = cons_option found after} (rw (← parts) d)
      (each-weaker _ _ (λ z q. side-by cmp ta tb i 0 a f.place f.at z q) before lower) tt (rw empty at added) in
      by found f.place f.at s.stops came.0
    where
      by : (found : Option B) (c : K) → slice_get (ta a).prefix i ≡ Some c → Stops cmp tb 0 c found after
          → IsDoing cmp ta tb i 0 l R asks (a ∷ []) ys (a ∷ []) (cons_option found after) (map ta kids)
          → AreNext cmp ta tb i 0 l R asks (a ∷ []) ys (Some a) found [] after (map ta kids)
      by None c e s d = left-next d (stops-alone cmp ta tb i 0 a c e after s) refl
      by (Some y) c e s d = both-next d (side-by cmp ta tb i 0 a c e y s) refl refl

module _ {K V W O A B : Type 0} {cmp : K → K → Ordering} {ta : A → Tree K V} {tb : B → Tree K W} {i : ℕ} {l : Look cmp W O}
    {R : Option V → O → Option V → Type 0} {asks : Option V → O → Type 0} {a : A} {ys after : List B} {found : Option B}
  where
    -- that one is done, and those behind it
    pub one-made : (kids : List A) → AreNext cmp ta tb i 0 l R asks (a ∷ []) ys (Some a) found [] after (map ta kids)
        → {kid : Option (Tree K V)}
        → IsMadeOf cmp l R (Some (shortened i (ta a))) (option_map (λ y. shortened 0 (tb y)) found) kid → (kids' kids'' : List A)
        → map ta kids' ≡ map ta kids ++ cons_option kid [] → AreAdded (ComesAs cmp l R ta tb 0) (λ t. t) after kids' kids''
        → R None l.none None → IsCombinedBelow cmp l R (shortened_in ta i (a ∷ [])) (shortened_in tb 0 ys) (seen ta kids'')
    one-made kids n m kids' kids'' e added none =
        let last : IsDoing cmp ta tb i 0 l R asks (a ∷ []) ys [] (after ++ []) (map ta kids') =
        rw (append-nil after) (done n e m) in
        let came =
        added-done (λ t. t) (λ ks. ks) (λ ks. Unit {0}) (λ ks t u. (refl, tt)) after kids' kids'' last
        (right-alone (by_component ta tb i 0 cmp) after) tt added in
        all-done came.0 refl none

module _ {K V W O A B : Type 0} {cmp : K → K → Ordering} {ta : A → Tree K V} {tb : B → Tree K W} {i : ℕ} {l : Look cmp W O}
    {R : Option V → O → Option V → Type 0} {asks : Option V → O → Type 0} {a : A} {ys : List B} {ls : List A} {rs : List B}
    {made : List (Tree K V)} where
  -- that one agrees with the tree for one component
  pub next-agree : (o : Option (Bor B)) → AreNext cmp ta tb i 0 l R asks (a ∷ []) ys (Some a) (option_copied o) ls rs made
      → IfSome o (λ y. Agree cmp (drop i (ta a).prefix) (tb y.now).prefix 1)
  next-agree None n = tt
  next-agree (Some y) n = both-agree n

  -- and has no more nodes than all children
  pub next-fewer : (o : Option B) → AreNext cmp ta tb i 0 l R asks (a ∷ []) ys (Some a) o ls rs made
      → forest_nodes (seen tb (option_to_list o)) ≤ forest_nodes (seen tb ys)
  next-fewer None n = omega arith
  next-fewer (Some y) n = omega (arith, right-fewer n)
