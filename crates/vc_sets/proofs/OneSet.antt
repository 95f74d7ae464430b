-- An operation on two sets has one result, and its members are those that its name says.
use Rattle.std.proofs.Common.{◌≡◌, List, [], ◌∷◌}
use Rattle.std.proofs.Common.{IsTrue, refl, arith}
use Rattle.std.specs.Cmp.{IsTotalOrder, tied_itself}
use Rattle.std.specs.List.{AllZip}
use Rattle.std.specs.declared.cmp.Ordering.{Ordering}
use Rattle.std.specs.declared.cmp.Ordering.TheVariants.{Equal}
use Rattle.vc_merge.specs.Ascending.{member}
use Rattle.vc_merge.proofs.OneList.{members-tell_the_list}
use Rattle.vc_sets.specs.Laws.{InEachWay, SetOfIsOne, SetOfIsOneUpToEqual, OperationsInWords, UnionKeepsTheLeft}
use Rattle.vc_sets.specs.Laws.{TestsAreOfOperations}

module _ {X : Type 0} (cmp : X → X → Ordering) (total : IsTotalOrder cmp) where
  -- an operation that takes elements as they are makes one list of two sets
  pub set-of_is_one : SetOfIsOne cmp
  set-of_is_one f a b c d s t =
      (members-tell_the_list cmp total).elements c d s.ascends t.ascends
      (λ x. grind (arith, s.kept x, t.kept x))

  module _ (L R : X → X → Type 0) where
    -- what an operation makes of two sets is one list up to equality
    pub set-of_is_one_up_to_equal : SetOfIsOneUpToEqual cmp L R
    set-of_is_one_up_to_equal f a b c d s t = grind (arith, members-tell_the_list cmp total)

    -- the four operations are as named
    pub operations-in_words : OperationsInWords cmp L R
    operations-in_words = grind arith

    -- a union keeps the left one of equal elements
    pub union-keeps_the_left : UnionKeepsTheLeft cmp L R
    union-keeps_the_left = grind arith

    -- ---- nothing is in a list that has no member

    -- a list without members is empty
    no-members : (c : List X) → ((x : X) → IsTrue (member cmp c x) → ⊥) → c ≡ []
    no-members [] h = refl
    no-members (z ∷ zs) h = grind (arith, h z, tied_itself total z)

    -- lists that are equal place by place have the same members
    equal-members : (xs ys : List X) → AllZip (λ x y. cmp x y ≡ Equal) xs ys → (w : X) → member cmp xs w ≡ member cmp ys w
    equal-members [] [] h w = refl
    equal-members (x ∷ xs) (y ∷ ys) h w = grind (arith, equal-members xs ys h.1 w)
    equal-members y u h w = absurd h

    -- the tests are of operations
    pub tests-are_of_operations : TestsAreOfOperations cmp L R
    tests-are_of_operations = record {
      disjoint = λ a b c s. (
        (λ h. no-members c (λ x m. grind (arith, h x, s.members x))),
        λ e x p q. grind (arith, s.members x),
      );
      subset = λ a b c s. (
        (λ h. no-members c (λ x m. grind (arith, h x, s.members x))),
        λ e x p. grind (arith, s.members x),
      );
      subset_by_union = λ a b c p s. (
        (λ h. (members-tell_the_list cmp total).members c b s.ascends p (λ x. grind (arith, h x, s.members x))),
        λ e x m. grind (arith, equal-members c b e x, s.members x),
      );
    }

-- a law of all relations holds in each way
pub in-each_way : {X : Type 0} (is_clone : X → X → Type 0) (Law : (X → X → Type 0) → (X → X → Type 0) → Type 0)
    → ((L R : X → X → Type 0) → Law L R) → InEachWay is_clone Law
in-each_way is_clone Law h = grind arith
