-- What the events of two lists of boundaries keep, where an operation is given by f. No public clause cites these words.
use Rattle.std.specs.Prelude.{◌≡◌, ℕ, ◌%◌, nat_eq, Bool, true, false, not, ◌&&◌, List, [], ◌∷◌, Ok, IfOk}
use Rattle.vc_merge.specs.Building.{Built}
use Rattle.vc_merge.specs.Chain.{Answer, Gives}
use Rattle.vc_merge.specs.Script.{Event, left_alone, right_alone, collision}
use Rattle.vc_sets.specs.SetOf.{exactly_one}

-- whether a number is odd
abbrev pub odd : ℕ → Bool
odd n = nat_eq (n % 2) 1

module _ {X : Type 0} where
  -- x before the others, where it is kept
  abbrev pub put_if : Bool → X → List X → List X
  put_if true x xs = x ∷ xs
  put_if false x xs = xs

  module _ (f : Bool → Bool → Bool) where
    -- the elements at which what f says changes, where the left answer is p and the right one q
    -- before the events. Of two equal ones it is the left one
    abbrev pub kept : Bool → Bool → List (Event X X) → List X
    kept p q [] = []
    kept p q (left_alone x ∷ es) = put_if (exactly_one (f p q) (f (not p) q)) x (kept (not p) q es)
    kept p q (right_alone y ∷ es) = put_if (exactly_one (f p q) (f p (not q))) y (kept p (not q) es)
    kept p q (collision x y ∷ es) = put_if (exactly_one (f p q) (f (not p) (not q))) x (kept (not p) (not q) es)

-- what a walk over the boundaries of two sets does at an event. `in_a` and `in_b` say whether the place
-- that it has reached is in each set, `built` has the boundaries that were kept, and `name` is that of
-- the reference to their list
module _ {X M N : Type 0} (from : X → X → Type 0) (f : Bool → Bool → Bool) (in_a in_b : M → Bool) (built : M → List X) (name : M → N) where
  -- unless it was refused, n boundaries were passed of the left set if `left`, and of the right one if
  -- `right`: those of xs are appended where f changes at each
  abbrev pub Passes : Bool → Bool → List X → ℕ → M → Answer → M → Type 0
  Passes left right xs n s answer t =
      IfOk answer (λ go_on. (go_on ≡ true) × (name t ≡ name s)
      × (in_a t ≡ exactly_one (left && odd n) (in_a s)) × (in_b t ≡ exactly_one (right && odd n) (in_b s))
      × Built from xs n (exactly_one (f (in_a s) (in_b s)) (f (exactly_one left (in_a s)) (exactly_one right (in_b s)))) (built s) (built t))

  -- what each event of the walk does, where these boundaries are left
  abbrev pub passes : (left right : M → List X) → Gives M
  passes left right = record {
    from_a = λ s n answer t. Passes true false (left s) n s answer t;
    from_b = λ s n answer t. Passes false true (right s) n s answer t;
    collision = λ s answer t. Passes true true (left s) 1 s answer t;
  }

-- what a walk does at an event that searches for a place at which f is true, and stops at the first
-- one
module _ {M : Type 0} (f : Bool → Bool → Bool) (in_a in_b found : M → Bool) where
  -- n boundaries were passed of the left set if `left`, and of the right one if `right`: the first of them decides
  abbrev pub Seeks : Bool → Bool → ℕ → M → Answer → M → Type 0
  Seeks left right n s answer t =
      (answer ≡ Ok (not (found t))) × (found t ≡ f (exactly_one left (in_a s)) (exactly_one right (in_b s)))
      × (in_a t ≡ exactly_one (left && odd n) (in_a s)) × (in_b t ≡ exactly_one (right && odd n) (in_b s))
