-- What is left of a walk.
use Rattle.std.specs.Prelude.{◌≡◌, ℕ, ◌+◌, ◌*◌, List, [], ◌∷◌, ◌++◌, take, map, Option, Some, None, Result, MatchOption}
use Rattle.std.specs.Prelude.{MatchResult}
use Rattle.vc_tree_model.specs.Tree.{Forest, forest_nodes}
use Rattle.vc_tree_model.specs.Walk.{prepended, walk_in}

-- a step of an iterator that takes at most a number of further steps: it gives its first item, and
-- the others are left. Or it gives an error, nothing is left, and no later step finds something. Or
-- it gives `None`, where nothing is left
abbrev pub Walks : {S X A E : Type 0} → (X → A) → (S → List A) → (S → ℕ) → S → Option (Result X E) → S → Type 0
Walks view rest work s r t =
    MatchOption r ((rest s ≡ []) × (rest t ≡ []))
    (λ x. MatchResult x (λ item. rest s ≡ view item ∷ rest t) (λ _. (rest t ≡ []) × (work t ≡ 0)))

module _ {K V : Type 0} where
  -- the pair of a key and its value, if there is one
  abbrev pub pair_at : List K → Option V → List (List K × V)
  pair_at key None = []
  pair_at key (Some v) = (key, v) ∷ []

  -- the pairs of rows of trees, the innermost first: of each its trees, and how many components of
  -- the key are before theirs
  abbrev pub rows_left : List K → List (Forest K V × ℕ) → List (List K × V)
  rows_left key [] = []
  rows_left key (row ∷ rows) = map (prepended (take row.1 key)) (walk_in row.0) ++ rows_left (take row.1 key) rows

  -- how many steps a walk over rows takes at most, where it has to go out of each of them
  abbrev pub outer_work : List (Forest K V × ℕ) → ℕ
  outer_work [] = 0
  outer_work (row ∷ rows) = 1 + 2 * forest_nodes row.0 + outer_work rows

  -- how many steps it takes at most, where it is in the first
  abbrev pub rows_work : List (Forest K V × ℕ) → ℕ
  rows_work [] = 0
  rows_work (row ∷ rows) = 2 * forest_nodes row.0 + outer_work rows
