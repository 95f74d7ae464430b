-- What is kept of the events of a script is the result of the set operation on the two lists.
use Rattle.std.proofs.Common.{◌≡◌, Bool, false, List, [], ◌∷◌}
use Rattle.std.proofs.Common.{refl, arith}
use Rattle.std.specs.List.{AllByRecursion}
use Rattle.std.specs.List.Sorted.{IsStrictlySortedBy}
use Rattle.std.specs.Cmp.{IsTotalOrder}
use Rattle.std.specs.Ordering.{eq_by_cmp}
use Rattle.std.specs.declared.cmp.Ordering.{Ordering}
use Rattle.std.specs.declared.cmp.Ordering.TheVariants.{Less, Equal}
use Rattle.vc_merge.specs.Ascending.{Ascends, element_at}
use Rattle.vc_merge.specs.Script.{Event, left_alone, right_alone, collision, lefts, rights, place, IsMatched, IsScript}
use Rattle.vc_sets.specs.SetOf.{Keeps, IsSetOf}
use Rattle.vc_merge.specs.Gathering.{Gathers}
use Rattle.vc_sets.specs.Select.{either, both_sides, KeptAt}
use Rattle.vc_merge.proofs.Members.{member-is_some, element_at-none, equal-alike}

module _ {X : Type 0} (cmp : X → X → Ordering) (total : IsTotalOrder cmp) where
  -- what is above an element is above its equal
  alike-above : (y z : X) (zs : List X) → cmp y z ≡ Equal → AllByRecursion (λ w. cmp y w ≡ Less) zs
      → AllByRecursion (λ w. cmp z w ≡ Less) zs
  alike-above y z [] e p = tt
  alike-above y z (w ∷ zs) e p = grind (arith, alike-above y z zs e p.1)

  module _ (L R : X → X → Type 0) (left_equal : (x z : X) → L x z → cmp x z ≡ Equal)
      (right_equal : (x z : X) → R x z → cmp x z ≡ Equal) (f : Bool → Bool → Bool) (none : f false false ≡ false) where
    -- the elements of both lists and what is kept are above y, if the places of the events are
    all-above : (y : X) (es : List (Event X X)) (zs : List X)
        → AllByRecursion (λ e. cmp y (either (place e)) ≡ Less) es → AllByRecursion (IsMatched (both_sides cmp)) es
        → Gathers (KeptAt f L R) es zs → AllByRecursion (λ z. cmp y z ≡ Less) (lefts es)
        × AllByRecursion (λ z. cmp y z ≡ Less) (rights es) × AllByRecursion (λ z. cmp y z ≡ Less) zs
    all-above y [] zs p m q = grind arith
    all-above y (left_alone x ∷ es) zs p m q = grind (arith, all-above y es q.1 p.1 m.1 q.3, left_equal)
    all-above y (right_alone x ∷ es) zs p m q = grind (arith, all-above y es q.1 p.1 m.1 q.3, right_equal)
    all-above y (collision x w ∷ es) zs p m q = grind (arith, all-above y es q.1 p.1 m.1 q.3, left_equal)

    all-ascend : (es : List (Event X X)) (zs : List X) → Ascends (λ d e. both_sides cmp (place d) (place e)) es
        → AllByRecursion (IsMatched (both_sides cmp)) es → Gathers (KeptAt f L R) es zs → Ascends cmp zs
    unfolding IsStrictlySortedBy
    all-ascend [] zs p m q = grind arith
    all-ascend (left_alone x ∷ es) zs p m q =
        grind (arith, alike-above, left_equal, all-above x es q.1 p.0 m.1 q.3, all-ascend es q.1 p.1 m.1 q.3)
    all-ascend (right_alone x ∷ es) zs p m q =
        grind (arith, alike-above, right_equal, all-above x es q.1 p.0 m.1 q.3, all-ascend es q.1 p.1 m.1 q.3)
    all-ascend (collision x w ∷ es) zs p m q =
        grind (arith, alike-above, left_equal, all-above x es q.1 p.0 m.1 q.3, all-ascend es q.1 p.1 m.1 q.3)

    -- what stands at x in zs is what f keeps there of the events
    abbrev IsKeptAt : X → List (Event X X) → List X → Type 0
    IsKeptAt x es zs = Keeps f L R (element_at cmp (lefts es) x) (element_at cmp (rights es) x) (element_at cmp zs x)

    at-next : (x : X) (e : Event X X) (es : List (Event X X)) (zs : List X)
        → AllByRecursion (λ d. cmp (either (place e)) (either (place d)) ≡ Less) es
        → AllByRecursion (IsMatched (both_sides cmp)) (e ∷ es) → (q : Gathers (KeptAt f L R) (e ∷ es) zs)
        → IsKeptAt x es q.1 → (b : Bool) → eq_by_cmp cmp (either (place e)) x ≡ b → IsKeptAt x (e ∷ es) zs
    at-next x (left_alone y) es zs p m q ih b h =
        grind (arith, all-above y es q.1 p m.1 q.3, left_equal, element_at-none, equal-alike)
    at-next x (right_alone y) es zs p m q ih b h =
        grind (arith, all-above y es q.1 p m.1 q.3, right_equal, element_at-none, equal-alike)
    at-next x (collision y w) es zs p m q ih b h =
        grind (arith, all-above y es q.1 p m.1 q.3, left_equal, element_at-none, equal-alike)

    kept_at : (x : X) (es : List (Event X X)) (zs : List X) → Ascends (λ d e. both_sides cmp (place d) (place e)) es
        → AllByRecursion (IsMatched (both_sides cmp)) es → Gathers (KeptAt f L R) es zs → IsKeptAt x es zs
    unfolding IsStrictlySortedBy
    kept_at x [] zs p m q = grind arith
    kept_at x (e ∷ es) zs p m q = at-next x e es zs p.0 m q (kept_at x es q.1 p.1 m.1 q.3) _ refl

    -- what is kept of the script of a and b is what f makes of them
    pub set-of : (a b c : List X) (es : List (Event X X)) → IsScript (both_sides cmp) a b es
        → Gathers (KeptAt f L R) es c → IsSetOf cmp L R f a b c
    set-of a b c es s q =
        let kept : (x : X) → Keeps f L R (element_at cmp a x) (element_at cmp b x) (element_at cmp c x) =
        λ x. grind (arith, kept_at x es c s.ascends s.matched q) in
        record {
          ascends = all-ascend es c s.ascends s.matched q;
          members = λ x. grind (arith, member-is_some, kept x);
          kept = kept;
        }
