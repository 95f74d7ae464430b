-- Worked rows of the definitions on what is left of a walk.
use Rattle.std.specs.Prelude.{◌≡◌, ℕ, suc, List, [], ◌∷◌, Some, None, Ok, Err, codes, length, refl}
use Rattle.vc_tree_walks.specs.Left.{Walks, rows_work}
use Rattle.vc_tree_model.specs.Tree.{Forest, bare, grow}
use Rattle.vc_tree_walks.specs.OwnedLeft.{WalksClones}

-- the pairs of a to 1 and ab to 2, which an iterator has left
abbrev Pairs : Type 0
Pairs = List (List ℕ × ℕ)

abbrev two_pairs : Pairs
two_pairs = (codes "a", 1) ∷ (codes "ab", 2) ∷ []

abbrev last_pair : Pairs
last_pair = (codes "ab", 2) ∷ []

abbrev itself : {X : Type 0} → X → X
itself x = x

-- a step has a to 1 for its item, and ab to 2 is left
walks : Walks {E = ℕ} itself itself length two_pairs (Some (Ok (codes "a", 1))) last_pair
walks = refl

-- after an error nothing is left, nor another step
walks_no_further : Walks {E = ℕ} itself itself length two_pairs (Some (Err 0)) []
walks_no_further = (refl, refl)

walks_again : Walks {S = Pairs} {E = ℕ} itself itself (λ _. 1) two_pairs (Some (Err 0)) [] → ⊥
walks_again h = absurd (some_step h.1)
  where
    some_step : ◌≡◌ {A = ℕ} 1 0 → ⊥
    some_step e = cc

-- `None` comes where nothing is left
walk_has_ended : Walks {X = List ℕ × ℕ} {E = ℕ} itself itself length [] None []
walk_has_ended = (refl, refl)

walk_goes_on : Walks {X = List ℕ × ℕ} {E = ℕ} itself itself length last_pair None [] → ⊥
walk_goes_on h = absurd (some_pair h.0)
  where
    some_pair : last_pair ≡ [] → ⊥
    some_pair e = cc

-- where a clone of a value has the next number, the item has 2 for the 1 that was left
walks_clones : WalksClones {S = Pairs} {K = List ℕ} {V = ℕ} {E = ℕ} (λ v w. w ≡ suc v) itself length two_pairs (Some (Ok (codes "a", 2))) last_pair
walks_clones = (1, refl, refl)

-- a walk over the trees a and ab, of one node each, takes four steps at most, and none where no row is left
abbrev two_nodes : Forest ℕ ℕ
two_nodes = grow (codes "a") (Some 1) bare (grow (codes "ab") (Some 2) bare bare)

work : (rows_work ((two_nodes, 0) ∷ []) ≡ 4) × (rows_work {K = ℕ} {V = ℕ} [] ≡ 0)
work = (refl, refl)
