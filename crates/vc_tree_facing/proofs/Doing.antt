-- Two lists of trees side by side: the next trees, and what is said of these and of the others.
--     left-first, right-first, both-first        the next trees, by the side on which they are
--     made-more        what is made of trees before others
--     said-apart, said-joined        what is said of both lists is said of the next trees and of the others
use Rattle.std.proofs.Common.{◌≡◌, ℕ, [], ◌∷◌, List, Option, None, Some, slice_get, map, option_map, arith}
use Rattle.std.specs.Cmp.{IsTotalOrder, tied_itself}
use Rattle.std.specs.List.{cons_option}
use Rattle.std.specs.declared.cmp.Ordering.{Ordering}
use Rattle.vc_tree_model.specs.Canonical.{AreChildren}
use Rattle.vc_tree_model.specs.Look.{Look}
use Rattle.vc_tree_model.specs.Tree.{Tree, forest, shortened}
use Rattle.vc_tree_model.proofs.Leading.{above-one, children-one, first-combined, first-asked}
use Rattle.vc_tree_model.specs.Places.{IsBefore}
use Rattle.vc_tree_facing.specs.Doing.{AreFirst, AreMade, IsSaidIn, IsSaidOf}
use Rattle.vc_tree_facing.specs.Facing.{shortened_in}
use Rattle.vc_tree_facing.specs.Made.{IsMadeOf}
use Rattle.vc_tree_facing.specs.Sides.{by_component, side_next}
use Rattle.vc_tree_facing.specs.declared.sides.EventSide.TheVariants.{Left, Right, Both}
use Rattle.vc_tree_facing.proofs.Components.{children-first}

module _ {K V W A B : Type 0} {cmp : K → K → Ordering} (o : IsTotalOrder cmp) (ta : A → Tree K V) (tb : B → Tree K W)
    (i j : ℕ) where
  -- ---- the next trees

  -- a tree of the left side alone
  pub left-first : (x : A) (ls : List A) (rs : List B) → AreChildren cmp (shortened_in ta i (x ∷ ls))
      → AreChildren cmp (shortened_in tb j rs)
      → side_next (by_component ta tb i j cmp) (Some x) (slice_get rs 0) ≡ Some Left
      → AreFirst cmp ta tb i j (Some x) None ls rs
  left-first x ls [] ca cb told =
      let f = children-first cmp o i (ta x).prefix ca in
      record { place = _; left = f.before f.place (tied_itself o f.place); right = grind arith; least = λ z p q. f.least z p }
  left-first x ls (y ∷ rs) ca cb told =
      grind (arith, children-first cmp o i (ta x).prefix ca, children-first cmp o j (tb y).prefix cb, tied_itself)

  -- of the right side alone
  pub right-first : (ls : List A) (y : B) (rs : List B) → AreChildren cmp (shortened_in ta i ls)
      → AreChildren cmp (shortened_in tb j (y ∷ rs))
      → side_next (by_component ta tb i j cmp) (slice_get ls 0) (Some y) ≡ Some Right
      → AreFirst cmp ta tb i j None (Some y) ls rs
  right-first [] y rs ca cb told =
      let g = children-first cmp o j (tb y).prefix cb in
      record { place = _; left = grind arith; right = g.before g.place (tied_itself o g.place); least = λ z p q. g.least z q }
  right-first (x ∷ ls) y rs ca cb told =
      grind (arith, children-first cmp o i (ta x).prefix ca, children-first cmp o j (tb y).prefix cb, tied_itself)

  -- one of each side
  pub both-first : (x : A) (ls : List A) (y : B) (rs : List B) → AreChildren cmp (shortened_in ta i (x ∷ ls))
      → AreChildren cmp (shortened_in tb j (y ∷ rs)) → side_next (by_component ta tb i j cmp) (Some x) (Some y) ≡ Some Both
      → AreFirst cmp ta tb i j (Some x) (Some y) ls rs
  both-first x ls y rs ca cb told =
      grind (arith, children-first cmp o i (ta x).prefix ca, children-first cmp o j (tb y).prefix cb, tied_itself)

  -- ---- what is made of both lists, and what is said of them

  -- a tree before others, as a list
  joined-is : {T X : Type 0} (tree : T → Tree K X) (n : ℕ) (a : Option T) (ts : List T) → shortened_in tree n (cons_option a ts)
      ≡ forest (cons_option (option_map (λ x. shortened n (tree x)) a) (map (λ x. shortened n (tree x)) ts))
  joined-is tree n a ts = grind arith

  module _ {O : Type 0} (l : Look cmp W O) where
    module _ {U : Type 0} (R : Option V → O → Option U → Type 0) where
      -- trees before others
      pub made-more : (a : Option A) (b : Option B) {ls : List A} {rs : List B} {u : Option (Tree K U)} {made : List (Tree K U)}
          → AreFirst cmp ta tb i j a b ls rs
          → IsMadeOf cmp l R (option_map (λ x. shortened i (ta x)) a) (option_map (λ y. shortened j (tb y)) b) u
          → AreMade cmp ta tb i j l R ls rs made
          → AreMade cmp ta tb i j l R (cons_option a ls) (cons_option b rs) (cons_option u made)
      made-more a b {ls} {rs} {u} {made} f w m =
          let h : IsBefore cmp f.place u made = grind (arith, w.begins f.place, m.above f.place) in
          record {
            children = children-one cmp o u made h w.child;
            above = λ y p q. above-one cmp o u made h (f.least y p q);
            combined = rw (joined-is ta i a ls, joined-is tb j b rs)
                (first-combined cmp o l f.left f.right R h w.binds m.combined);
          }

    module _ (P : Option V → O → Type 0) (none : P None l.none) (a : Option A) (b : Option B) {ls : List A} {rs : List B}
        (f : AreFirst cmp ta tb i j a b ls rs) where
      -- what is said of both lists, is said of their first trees and of the others
      pub said-apart : IsSaidIn cmp ta tb i j l P (cons_option a ls) (cons_option b rs)
          → IsSaidOf cmp ta tb i j l P a b × IsSaidIn cmp ta tb i j l P ls rs
      said-apart p =
          first-asked cmp o l f.left f.right P none (rw (← joined-is ta i a ls, ← joined-is tb j b rs) p)

      -- and the other way round
      pub said-joined : IsSaidOf cmp ta tb i j l P a b → IsSaidIn cmp ta tb i j l P ls rs
          → IsSaidIn cmp ta tb i j l P (cons_option a ls) (cons_option b rs)
      said-joined h p =
          rw (joined-is ta i a ls, joined-is tb j b rs)
          (first-combined cmp o l f.left f.right {U = V} (λ v w u. P v w) {u = None} {us = []}
          (record { begins = tt; above = tt; children = tt }) h p)
