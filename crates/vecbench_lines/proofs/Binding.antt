-- Trees into which keys are inserted one by one.
use Rattle.std.proofs.Common.{◌≡◌, ◌∙◌, ap, refl, sym, subst, ℕ, ◌||◌, Bool, true, false, List, [], ◌∷◌, ◌++◌, Option}
use Rattle.std.proofs.Common.{Some, None, IsTrue, IsFalse}
use Rattle.std.specs.List.{list_any}
use Rattle.std.specs.Option.{is_some}
use Rattle.std.specs.Ordering.{nat_cmp}
use Rattle.vec_collections.specs.Canonical.{IsCanonical}
use Rattle.vec_collections.specs.Key.{same_key}
use Rattle.vec_collections.specs.Map.{lookup, IsInserted}
use Rattle.vec_collections.specs.Tree.{Tree, no_tree}
use Rattle.vec_collections.specs.Value.{IsKept}
use Rattle.vecbench_lines.specs.Keys.{HasKeys}

-- the order of three tests does not matter
or-swap : (a b c : Bool) → (a || (b || c)) ≡ (b || (a || c))
or-swap true true c = refl
or-swap true false c = refl
or-swap false b c = refl

-- of a list with one element more, some element passes where one of the list does or the new one
any-snoc : {X : Type 0} (test : X → Bool) (xs : List X) (x : X) → list_any test (xs ++ x ∷ []) ≡ (test x || list_any test xs)
any-snoc test [] x = refl
any-snoc test (y ∷ xs) x = ap (λ b. test y || b) (any-snoc test xs x) ∙ or-swap (test y) (test x) (list_any test xs)

-- what is kept is there where it was
pub is_some-kept : {V : Type 0} (keeps : V → V → Type 0) (o p : Option V) → IsKept keeps o p → is_some p ≡ is_some o
is_some-kept keeps None None kept = refl
is_some-kept keeps None (Some w) kept = absurd kept
is_some-kept keeps (Some v) None kept = absurd kept
is_some-kept keeps (Some v) (Some w) kept = refl

-- after an insertion the tree binds the key and what it bound
bound : {V : Type 0} (keeps : V → V → Type 0) (same : Bool) (value : V) (o p : Option V)
    → (IsTrue same → p ≡ Some value) → (IsFalse same → IsKept keeps o p) → is_some p ≡ (same || is_some o)
bound keeps true value o p at others = ap is_some (at refl)
bound keeps false value o p at others = is_some-kept keeps o p (others refl)

-- a tree with a key more
pub HasKeys-inserted : {V : Type 0} {keeps : V → V → Type 0} (keys : List (List ℕ)) (key : List ℕ) (value : V) (t u : Tree ℕ V)
    → IsInserted nat_cmp keeps key value t u → IsCanonical nat_cmp u → HasKeys keys t → HasKeys (keys ++ key ∷ []) u
HasKeys-inserted {V} {keeps} keys key value t u inserted canonical has =
    record {
      canonical = canonical;
      binds = λ k. bound keeps (same_key nat_cmp key k) value (lookup nat_cmp t k) (lookup nat_cmp u k)
          (inserted.at k) (inserted.others k) ∙
          ap (λ b. same_key nat_cmp key k || b) (has.binds k) ∙ sym (any-snoc (λ j. same_key nat_cmp j k) keys key);
    }

-- the empty tree has no keys
no-keys : (V : Type 0) (k : List ℕ) → is_some (lookup nat_cmp (no_tree {V = V}) k) ≡ false
no-keys V [] = refl
no-keys V (x ∷ k) = refl

pub HasKeys-empty : {V : Type 0} (t : Tree ℕ V) → t ≡ no_tree → HasKeys [] t
HasKeys-empty {V} t is = subst (λ u. HasKeys [] u) (sym is) (record { canonical = (tt, tt); binds = no-keys V })
