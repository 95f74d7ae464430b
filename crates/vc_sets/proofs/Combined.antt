-- A merge whose operation keeps what a set operation keeps leaves the result of that operation on the two lists.
use Rattle.std.proofs.Common.{◌≡◌, ℕ, Bool, false, List, [], ◌∷◌, take, Ok, ◌⊎◌, refl, sym, subst, arith}
use Rattle.std.specs.Cmp.{IsTotalOrder}
use Rattle.std.specs.declared.cmp.Ordering.{Ordering}
use Rattle.std.specs.declared.cmp.Ordering.TheVariants.{Equal}
use Rattle.vc_merge.specs.Script.{collision}
use Rattle.vc_merge.specs.Chain.{Answer, Allows, Finishes, Stops}
use Rattle.vc_merge.specs.Both.{Both}
use Rattle.vc_merge.specs.Building.{Advances, Skips}
use Rattle.vc_merge.specs.Gathering.{Gathers, GivesIf, Adds, IsBuilding}
use Rattle.vc_merge.proofs.Builds.{advances-adds, adds-one, both-adds, merged-builds}
use Rattle.vc_sets.specs.SetOf.{IsSetOf}
use Rattle.vc_sets.specs.Select.{both_sides, keeps, KeptAt}
use Rattle.vc_sets.proofs.Selected.{set-of}

module _ {X : Type 0} (cmp : X → X → Ordering) (total : IsTotalOrder cmp) (L R : X → X → Type 0)
    (left_equal : (x z : X) → L x z → cmp x z ≡ Equal) (right_equal : (x z : X) → R x z → cmp x z ≡ Equal)
    (left right both : Bool) where
  module _ {M N : Type 0} (built : M → List X) (name : M → N) (op : Allows M X X) (first second : M → Answer → M → Type 0)
      (from_a : (s t : M) (n : ℕ) (answer : Answer) → op.gives.from_a s n answer t
      → Advances built name L op.left s n left answer t)
      (from_b : (s t : M) (n : ℕ) (answer : Answer) → op.gives.from_b s n answer t
      → Adds built name (λ y. GivesIf right (R y)) (take n (op.right s)) s answer t)
      (meets : (s t : M) (answer : Answer) → op.gives.collision s answer t → Both first second s answer t)
      (takes : (s t : M) (answer : Answer) → first s answer t → Advances built name L op.left s 1 both answer t)
      (skips : (s t : M) (answer : Answer) → second s answer t → Skips built name s answer t) where
    -- the left one of two equal elements is taken, or skipped
    takes-left : (s t : M) (answer : Answer) (x y : X) (xs : List X) → op.left s ≡ x ∷ xs → first s answer t
        → Adds built name (KeptAt (keeps left right both) L R) (collision x y ∷ []) s answer t
    takes-left s t answer x y xs e h =
        adds-one built name (λ z. GivesIf both (L z)) (KeptAt (keeps left right both) L R) x (collision x y)
        (λ zs k. k) s t answer
        (rw e at (advances-adds built name L op.left s t 1 both answer (takes s t answer h)))

    is-building : IsBuilding built name op (KeptAt (keeps left right both) L R)
    is-building = grind (arith, advances-adds, both-adds, takes-left)

    -- what a merge leaves that was not refused
    pub merged-set_of : (s t : M) (a b c : List X) → Finishes op (both_sides cmp) s t ⊎ Stops op (both_sides cmp) s (Ok false) t
        → op.left s ≡ a → op.right s ≡ b → built s ≡ [] → (name t ≡ name s → c ≡ built t)
        → IsSetOf cmp L R (keeps left right both) a b c
    merged-set_of s t a b c m l r e k =
        let w = merged-builds built name op (KeptAt (keeps left right both) L R) is-building (both_sides cmp) s t m in
        let h = rw (l, r, e) at w.1 in
        rw (k w.0)
        (set-of cmp total L R left_equal right_equal (keeps left right both) refl a b (built t) h.events h.script
        (subst (λ z. Gathers (KeptAt (keeps left right both) L R) h.events z) (sym h.appends.items) h.appends.gathered))
