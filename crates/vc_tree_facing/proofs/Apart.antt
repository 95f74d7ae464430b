-- Two trees whose prefixes continue with different components: what may be asked of the left one, and what is left of it.
--     apart-next        by the lists of each tree alone: the left one is next, and no tree of the right side meets it
--     apart-lessened        what is left of it
use Rattle.std.proofs.Common.{◌≡◌, ℕ, ◌+◌, ◌<◌, [], ◌∷◌, List, Option, None, Some, refl, length}
use Rattle.std.proofs.Common.{inl, inr, Bool, arith}
use Rattle.std.specs.declared.cmp.Ordering.{Ordering}
use Rattle.std.specs.declared.cmp.Ordering.TheVariants.{Less, Equal, Greater}
use Rattle.vc_tree_model.specs.Look.{Look}
use Rattle.vc_tree_model.specs.Map.{lookup}
use Rattle.vc_tree_model.specs.Tree.{Tree, shortened}
use Rattle.vc_tree_facing.specs.Doing.{IsDoing, AreNext}
use Rattle.vc_tree_facing.specs.Facing.{IsSplit}
use Rattle.vc_tree_facing.specs.Lessening.{left_of, KeepsFront, IsLessened}
use Rattle.vc_tree_facing.specs.Made.{IsMade}
use Rattle.vc_tree_facing.specs.Sides.{by_component}
use Rattle.vc_tree_facing.proofs.Advancing.{passed, inside}
use Rattle.vc_tree_facing.proofs.Leaving.{below-may, inner-list, inner-node, inside-lessened}
use Rattle.vc_tree_facing.proofs.Next.{doing-start, left-next, both-next, falls, made-left}
use Rattle.vc_tree_facing.proofs.Opening.{opened-rest}

module _ {K V W T B O : Type 0} {cmp : K → K → Ordering} (ta : T → Tree K V) (x : T) (tb : B → Tree K W) (y : B) {i j n : ℕ}
    (s : IsSplit cmp (ta x) i (tb y) j n) (within : i + n < length (ta x).prefix) (beyond : j + n < length (tb y).prefix)
    (l : Look cmp W O) (R : Option V → O → Option V → Type 0) (asks : Option V → O → Type 0) (nothing : (o : O) → R None o None)
    (an : asks None l.none) (a : (k : List K) → asks (lookup cmp (shortened i (ta x)) k) (l.of_tree (shortened j (tb y)) k))
  where
    -- the lists of each tree alone
    begun : IsDoing cmp ta tb (i + n) (j + n) l R asks (x ∷ []) (y ∷ []) (x ∷ []) (y ∷ []) []
    begun =
        doing-start s.total an (inner-list cmp ta x (i + n) s.left within) (inner-list cmp tb y (j + n) s.right beyond)
        (grind (arith, l.under_none, below-may s l asks a (inner-node i n (ta x) within) (inner-node j n (tb y) beyond))) refl

    -- of those the left one is next, and none stands beside it
    apart-next : (r : Ordering) → by_component ta tb (i + n) (j + n) cmp (inr y) (inl x) ≡ r
        → (rest : List B) × AreNext cmp ta tb (i + n) (j + n) l R asks (x ∷ []) (y ∷ []) (Some x) None [] rest []
    apart-next Less e = ([], left-next (passed nothing begun (rw e refl)) refl refl)
    apart-next Equal e =
        let m = both-next begun (rw e refl) refl refl in
        grind (arith, falls m (opened-rest ta x i n refl within) (opened-rest tb y j n refl beyond) s.parts)
    apart-next Greater e = (y ∷ [], left-next begun (rw e refl) refl)

    -- what is left of it alone, is left of it beside the other tree
    pub apart-lessened : {stays : Bool} {new : Tree K V} → KeepsFront (i + n) (ta x) stays new
        → IsMade cmp (λ v z. R v l.none z) (shortened (i + n) (ta x)) (left_of stays (i + n) new)
        → IsLessened cmp l R i (ta x) (shortened j (tb y)) stays new
    apart-lessened front made =
        inside-lessened s (inner-node j n (tb y) beyond) (nothing l.none)
        (inside (apart-next _ refl).1 nothing refl (λ v p z h. rw (l.under_none p) h) (nothing (l.at None)) front
        (made-left made)) within
