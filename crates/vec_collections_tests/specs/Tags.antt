-- Tags of articles, in words that speak of one tag at a time.
use Rattle.std.specs.Prelude.{◌≡◌, ℕ, Bool, ◌||◌, ◌&&◌, not, List, ◌↔◌, IsTrue}
use Rattle.std.specs.Ordering.{nat_cmp}
use Rattle.vec_collections.specs.Ascending.{member}
use Rattle.vec_collections_tests.specs.declared.sets.Four.{Four}
use Rattle.vec_collections_tests.specs.declared.sets.Standing.{Standing}

-- whether a list has a tag
abbrev pub has : List ℕ → ℕ → Bool
has tags tag = member nat_cmp tags tag

-- a list has what is in either of two others, in both, in exactly one of them, or in only the first
-- one
abbrev pub IsEither : List ℕ → List ℕ → List ℕ → Type 0
IsEither a b c = (tag : ℕ) → has c tag ≡ (has a tag || has b tag)

abbrev pub IsBoth : List ℕ → List ℕ → List ℕ → Type 0
IsBoth a b c = (tag : ℕ) → has c tag ≡ (has a tag && has b tag)

abbrev pub IsOne : List ℕ → List ℕ → List ℕ → Type 0
IsOne a b c = (tag : ℕ) → has c tag ≡ ((has a tag && not (has b tag)) || (not (has a tag) && has b tag))

abbrev pub IsRest : List ℕ → List ℕ → List ℕ → Type 0
IsRest a b c = (tag : ℕ) → has c tag ≡ (has a tag && not (has b tag))

-- the four sets are what their names say
pub record AreMade (a b : List ℕ) (four : Four) : Type 0 where
  pub either : IsEither a b four.either
  pub both : IsBoth a b four.both
  pub one : IsOne a b four.one
  pub rest : IsRest a b four.rest

-- the three answers are what their names say
pub record AreTested (a b : List ℕ) (standing : Standing) : Type 0 where
  pub is_disjoint : IsTrue standing.is_disjoint ↔ ((tag : ℕ) → IsTrue (has a tag) → IsTrue (has b tag) → ⊥)
  pub is_subset : IsTrue standing.is_subset ↔ ((tag : ℕ) → IsTrue (has a tag) → IsTrue (has b tag))
  pub is_superset : IsTrue standing.is_superset ↔ ((tag : ℕ) → IsTrue (has b tag) → IsTrue (has a tag))
