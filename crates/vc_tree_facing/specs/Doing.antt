-- Two lists of trees side by side, where some trees are done and the others are left. No public
-- clause cites these words.
use Rattle.std.specs.Prelude.{◌≡◌, ℕ, List, ◌∷◌, ◌++◌, drop, map, Option, None, option_map}
use Rattle.std.specs.Cmp.{IsTotalOrder}
use Rattle.std.specs.List.{cons_option}
use Rattle.std.specs.declared.cmp.Ordering.{Ordering}
use Rattle.std.specs.declared.cmp.Ordering.TheVariants.{Less}
use Rattle.vc_tree_model.specs.Canonical.{AllAbove, AreChildren}
use Rattle.vc_tree_model.specs.Child.{bound_by}
use Rattle.vc_tree_model.specs.Look.{Look}
use Rattle.vc_tree_model.specs.Map.{lookup_in}
use Rattle.vc_tree_model.specs.Tree.{Tree, forest, shortened}
use Rattle.vc_tree_model.specs.Places.{look, IsCombinedIn, IsBefore}
use Rattle.vc_tree_facing.specs.Facing.{shortened_in}

module _ {K V W A B : Type 0} (cmp : K → K → Ordering) (ta : A → Tree K V) (tb : B → Tree K W) (i j : ℕ) where
  -- before canonical children ls and rs are a and b, where one side may have none: they begin as
  -- `place` does, and all others are above
  pub record AreFirst (a : Option A) (b : Option B) (ls : List A) (rs : List B) : Type 0 where
    pub place : K
    pub left : IsBefore cmp place (option_map (λ x. shortened i (ta x)) a) (map (λ x. shortened i (ta x)) ls)
    pub right : IsBefore cmp place (option_map (λ y. shortened j (tb y)) b) (map (λ y. shortened j (tb y)) rs)
    pub least : (y : K) → AllAbove cmp y (shortened_in ta i (cons_option a ls))
        → AllAbove cmp y (shortened_in tb j (cons_option b rs))
        → cmp y place ≡ Less

  module _ {O : Type 0} (l : Look cmp W O) where
    -- at each key with a component, P of what the left list binds and of what is read of the right one
    abbrev pub IsSaidIn : (Option V → O → Type 0) → List A → List B → Type 0
    IsSaidIn P ls rs =
        (x : K) (q : List K) → P (lookup_in cmp (shortened_in ta i ls) (x ∷ q)) (l.of_forest (shortened_in tb j rs) (x ∷ q))

    -- the same of the next trees
    abbrev pub IsSaidOf : (Option V → O → Type 0) → Option A → Option B → Type 0
    IsSaidOf P a b =
        (k : List K) → P (bound_by cmp (option_map (λ x. shortened i (ta x)) a) k)
        (look cmp l (option_map (λ y. shortened j (tb y)) b) k)

    module _ {U : Type 0} (R : Option V → O → Option U → Type 0) where
      -- of the trees of both lists these were made by R: canonical children, above all that both lists are above
      pub record AreMade (xs : List A) (ys : List B) (made : List (Tree K U)) : Type 0 where
        pub children : AreChildren cmp (forest made)
        pub above : (y : K) → AllAbove cmp y (shortened_in ta i xs) → AllAbove cmp y (shortened_in tb j ys)
            → AllAbove cmp y (forest made)
        pub combined : IsCombinedIn cmp l R (shortened_in ta i xs) (shortened_in tb j ys) (forest made)

      -- of the trees xs and ys these were made by R up to the trees ls and rs, which are left, and
      -- for which the question may be asked
      pub record IsDoing (asks : Option V → O → Type 0) (xs : List A) (ys : List B) (ls : List A) (rs : List B)
          (made : List (Tree K U)) : Type 0 where
        pub total : IsTotalOrder cmp
        pub none : asks None l.none
        pub left : AreChildren cmp (shortened_in ta i ls)
        pub right : AreChildren cmp (shortened_in tb j rs)
        pub left_part : (n : ℕ) × (ls ≡ drop n xs)
        pub right_part : (n : ℕ) × (rs ≡ drop n ys)
        pub asked : IsSaidIn asks ls rs
        pub ends : (others : List (Tree K U)) → AreMade ls rs others → AreMade xs ys (made ++ others)

      -- the same, and the next trees are a and b, where one side may have none
      pub record AreNext (asks : Option V → O → Type 0) (xs : List A) (ys : List B) (a : Option A) (b : Option B) (ls : List A)
          (rs : List B) (made : List (Tree K U)) : Type 0 where
        pub doing : IsDoing asks xs ys (cons_option a ls) (cons_option b rs) made
        pub first : AreFirst a b ls rs
