-- Where a merge stops that passes what only one list has. No public clause cites these words.
use Rattle.std.specs.Prelude.{◌≡◌, List, [], ◌∷◌, ◌⊎◌, ⊤}
use Rattle.std.proofs.Common.{inl, inr}
use Rattle.std.specs.declared.cmp.Ordering.{Ordering}
use Rattle.std.specs.declared.cmp.Ordering.TheVariants.{Equal}

-- both lists are used up, or their first elements are equal, and P holds of the lists after these
abbrev pub IsAtPair : {A B : Type 0} → (A ⊎ B → A ⊎ B → Ordering) → (List A → List B → Type 0) → List A → List B → Type 0
IsAtPair order P [] [] = ⊤
IsAtPair order P [] (y ∷ rs) = ⊥
IsAtPair order P (x ∷ ls) [] = ⊥
IsAtPair order P (x ∷ ls) (y ∷ rs) = (order (inl x) (inr y) ≡ Equal) × P ls rs
