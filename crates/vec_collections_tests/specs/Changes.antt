-- Changes between two ascending lists of numbers: the events of their script.
use Rattle.std.specs.Prelude.{◌≡◌, ℕ, true, List, [], ◌∷◌, ◌++◌, map, take, IfOk, ◌⊎◌}
use Rattle.std.specs.Cmp.{IsTotalOrder}
use Rattle.std.specs.Ordering.{nat_cmp, on}
use Rattle.std.specs.declared.cmp.Ordering.{Ordering}
use Rattle.std.proofs.Common.{inl, inr}
use Rattle.std.proofs.lemmas.Cmp.{on_total, nat_cmp_total}
use Rattle.vec_collections.specs.Chain.{Answer, Gives}
use Rattle.vec_collections.specs.Script.{Event, left_alone, right_alone, collision}
use Rattle.vec_collections_tests.specs.declared.changes.Change.{Change}
use Rattle.vec_collections_tests.specs.declared.changes.Change.TheVariants.{Gone, New, Kept}
use Rattle.vec_collections_tests.specs.declared.changes.Diff.{Diff}

-- the number on either side
abbrev pub number : ℕ ⊎ ℕ → ℕ
number (inl x) = x
number (inr y) = y

-- numbers of both sides in one order
abbrev pub by_number : ℕ ⊎ ℕ → ℕ ⊎ ℕ → Ordering
by_number = on (λ u. number u) nat_cmp

pub by_number-total : IsTotalOrder by_number
by_number-total = on_total (λ u. number u) nat_cmp_total

-- the event of a change
abbrev pub event_of : Change → Event ℕ ℕ
event_of (Gone x) = left_alone x
event_of (New x) = right_alone x
event_of (Kept x y) = collision x y

-- what is left of either list, and the events so far
abbrev pub old_left : Diff → List ℕ
old_left s = s.old.now

abbrev pub new_left : Diff → List ℕ
new_left s = s.new.now

abbrev pub noted : Diff → List (Event ℕ ℕ)
noted s = map event_of s.changes.items

-- the events of the first n numbers of the old list, of the new one, and of the first of both
abbrev pub gone : Diff → ℕ → List (Event ℕ ℕ)
gone s n = map (λ x. left_alone x) (take n (old_left s))

abbrev pub come : Diff → ℕ → List (Event ℕ ℕ)
come s n = map (λ y. right_alone y) (take n (new_left s))

abbrev pub first_of_both : List ℕ → List ℕ → List (Event ℕ ℕ)
first_of_both [] ys = []
first_of_both (x ∷ xs) [] = []
first_of_both (x ∷ xs) (y ∷ ys) = collision x y ∷ []

-- the answer is to continue, and these events are recorded
abbrev pub Notes : List (Event ℕ ℕ) → Diff → Answer → Diff → Type 0
Notes events s answer t = IfOk answer (λ go_on. (go_on ≡ true) × (noted t ≡ noted s ++ events))

-- what each event of a merge records
abbrev pub noting : Gives Diff
noting = record {
  from_a = λ s n answer t. Notes (gone s n) s answer t;
  from_b = λ s n answer t. Notes (come s n) s answer t;
  collision = λ s answer t. Notes (first_of_both (old_left s) (new_left s)) s answer t;
}
