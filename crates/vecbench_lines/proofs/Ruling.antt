-- Filters to which rules are added one by one.
use Rattle.std.proofs.Common.{◌≡◌, ◌∙◌, ap, refl, sym, ℕ, Bool, true, false, cond, List, [], ◌∷◌, ◌++◌, Option, Some, None}
use Rattle.std.specs.Ordering.{nat_cmp}
use Rattle.vec_collections.specs.Key.{same_key}
use Rattle.vec_collections.specs.Map.{lookup, or_else, IsInserted}
use Rattle.vec_collections.specs.Tree.{Tree, no_tree}
use Rattle.vec_collections.specs.TreePairs.{last_bound, IsCollected}
use Rattle.vec_collections.specs.Value.{IsKept}

-- the empty tree binds nothing
pub collected-empty : (t : Tree ℕ Bool) → t ≡ no_tree → IsCollected nat_cmp [] t
collected-empty t e = λ k. ap (λ u. lookup nat_cmp u k) e ∙ none k
  where
    none : (k : List ℕ) → lookup nat_cmp (no_tree {V = Bool}) k ≡ None
    none [] = refl
    none (x ∷ k) = refl

-- a pair behind the others decides where its key is equal, and else the others do
behind-others : (rules : List (List ℕ × Bool)) (key : List ℕ) (allowed : Bool) (k : List ℕ) (same : Bool)
    → same_key nat_cmp key k ≡ same
    → last_bound nat_cmp (rules ++ (key, allowed) ∷ []) k ≡ cond same (Some allowed) (last_bound nat_cmp rules k)
behind-others [] key allowed k true e = ap (λ b. cond b (Some allowed) None) e
behind-others [] key allowed k false e = ap (λ b. cond b (Some allowed) None) e
behind-others (b ∷ rules) key allowed k true e =
    ap (λ o. or_else o (cond (same_key nat_cmp b.0 k) (Some b.1) None)) (behind-others rules key allowed k true e)
behind-others (b ∷ rules) key allowed k false e =
    ap (λ o. or_else o (cond (same_key nat_cmp b.0 k) (Some b.1) None)) (behind-others rules key allowed k false e)

-- what is kept as it is, is the same
kept-same : (o p : Option Bool) → IsKept (λ v w. v ≡ w) o p → p ≡ o
kept-same None None h = refl
kept-same None (Some w) h = absurd h
kept-same (Some v) None h = absurd h
kept-same (Some v) (Some w) h = ap (λ x. Some x) (sym h)

-- a filter with a rule more
pub collected-inserted : (rules : List (List ℕ × Bool)) (key : List ℕ) (allowed : Bool) (t u : Tree ℕ Bool)
    → IsInserted nat_cmp (λ v w. v ≡ w) key allowed t u → IsCollected nat_cmp rules t
    → IsCollected nat_cmp (rules ++ (key, allowed) ∷ []) u
collected-inserted rules key allowed t u put has = λ k. by k (same_key nat_cmp key k) refl
  where
    by : (k : List ℕ) (same : Bool) → same_key nat_cmp key k ≡ same
        → lookup nat_cmp u k ≡ last_bound nat_cmp (rules ++ (key, allowed) ∷ []) k
    by k true e = put.at k e ∙ sym (behind-others rules key allowed k true e)
    by k false e =
        kept-same (lookup nat_cmp t k) (lookup nat_cmp u k) (put.others k e) ∙ has k
        ∙ sym (behind-others rules key allowed k false e)
