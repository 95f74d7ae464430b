-- The next trees of two lists, where some are done.
--     doing-start, asked, done, all-done        none is done yet, the next ones may be asked of and are done, and all are
--     made-left, made-right        what is made of a tree that only one side has
--     left_within, right_within        they continue at the place
--     head-of        what holds of all holds of them
--     left-next, right-next, both-next        the next ones, by the side on which they are
--     both-agree, falls        two that meet agree for one component, and have fewer nodes than the trees that they stand below
--     MayMeet, meets        what a call needs that continues with them
--     at-most, nil-by        what is below is not above, and a list without elements
use Rattle.std.proofs.Common.{◌≡◌, ℕ, suc, ◌+◌, ◌<◌, ◌≤◌, [], ◌∷◌, ◌++◌, List, Option, None, Some, refl, ap}
use Rattle.std.proofs.Common.{◌∙◌, arith, length, drop, slice_get, append-nil, append_assoc, option_map}
use Rattle.std.proofs.lemmas.List.{drop-drop}
use Rattle.std.proofs.lemmas.Option.{slice_get_cases, slice_get_within}
use Rattle.std.specs.Cmp.{IsTotalOrder}
use Rattle.std.specs.List.{AllByRecursion, cons_option}
use Rattle.std.specs.declared.cmp.Ordering.{Ordering}
use Rattle.vc_tree_model.specs.Canonical.{AreChildren}
use Rattle.vc_tree_model.specs.Look.{Look}
use Rattle.vc_tree_model.specs.Map.{lookup}
use Rattle.vc_tree_model.specs.Tree.{Tree, forest, forest_nodes, nodes, shortened}
use Rattle.vc_tree_model.specs.Places.{IsCombinedIn}
use Rattle.vc_tree_nodes.specs.Parting.{Agree}
use Rattle.vc_tree_facing.specs.Doing.{AreNext, IsSaidIn, IsSaidOf, IsDoing}
use Rattle.vc_tree_facing.specs.Facing.{shortened_in, IsOpened, Parts}
use Rattle.vc_tree_facing.specs.Made.{IsMade, IsMadeBy, IsMadeOf}
use Rattle.vc_tree_facing.specs.Sides.{by_component, side_next}
use Rattle.vc_tree_facing.specs.declared.sides.EventSide.{EventSide}
use Rattle.vc_tree_facing.specs.declared.sides.EventSide.TheVariants.{Left, Right, Both}
use Rattle.vc_tree_facing.proofs.Components.{children-first}
use Rattle.vc_tree_facing.proofs.Opening.{each-fewer, goes-on}
use Rattle.vc_tree_facing.proofs.Doing.{left-first, right-first, both-first, made-more, said-apart}

-- what is below is not above
pub at-most : (i n : ℕ) → i < n → i ≤ n
at-most i n h = grind arith

-- a list without elements
pub nil-by : {X : Type 0} (l : List X) → length l ≡ 0 → l ≡ []
nil-by [] e = refl
nil-by (x ∷ l) e = grind arith

-- what holds of each element, holds of the first one that is left
head-of : {X : Type 0} (P : X → Type 0) (n : ℕ) (xs : List X) {x : X} {ls : List X} → x ∷ ls ≡ drop n xs → AllByRecursion P xs
    → P x
head-of P (suc n) (y ∷ xs) e a = head-of P n xs e a.1
head-of P n xs e a = grind arith

-- what a call needs that goes on with two trees at these places
pub record MayMeet {K V W O : Type 0} (cmp : K → K → Ordering) (l : Look cmp W O) (asks : Option V → O → Type 0) (t : Tree K V)
    (i : ℕ) (u : Tree K W) (j : ℕ) : Type 0 where
  pub left_within : i ≤ length t.prefix
  pub right_within : j ≤ length u.prefix
  pub agree : Agree cmp (drop i t.prefix) (drop j u.prefix) 1
  pub may : (k : List K) → asks (lookup cmp (shortened i t) k) (l.of_tree (shortened j u) k)

-- what is made of a tree that one side alone has
module _ {K V W U O : Type 0} {cmp : K → K → Ordering} {l : Look cmp W O} {R : Option V → O → Option U → Type 0}
    {u : Option (Tree K U)} where
  pub made-left : {t : Tree K V} → IsMade cmp (λ v z. R v l.none z) t u → IsMadeOf cmp l R (Some t) None u
  made-left w = grind arith

  pub made-right : {t : Tree K W} → IsMadeBy cmp l (λ w z. R None w z) t u → IsMadeOf cmp l R None (Some t) u
  made-right w = grind arith

module _ {K V W U O A B : Type 0} {cmp : K → K → Ordering} {ta : A → Tree K V} {tb : B → Tree K W} {i j : ℕ} {l : Look cmp W O}
    {R : Option V → O → Option U → Type 0} {asks : Option V → O → Type 0} {xs : List A} {ys : List B} where
  -- none is done yet
  pub doing-start : {made : List (Tree K U)} → IsTotalOrder cmp → asks None l.none → AreChildren cmp (shortened_in ta i xs)
      → AreChildren cmp (shortened_in tb j ys) → IsSaidIn cmp ta tb i j l asks xs ys → made ≡ []
      → IsDoing cmp ta tb i j l R asks xs ys xs ys made
  doing-start o none ca cb asked e = grind arith

  module _ {a : Option A} {b : Option B} {ls : List A} {rs : List B} {made : List (Tree K U)}
      (n : AreNext cmp ta tb i j l R asks xs ys a b ls rs made) where
    -- the next trees may be asked of
    pub asked : IsSaidOf cmp ta tb i j l asks a b
    asked = (said-apart n.doing.total ta tb i j l asks n.doing.none a b n.first n.doing.asked).0

    -- and are done
    pub done : {u : Option (Tree K U)} {made' : List (Tree K U)} → made' ≡ made ++ cons_option u []
        → IsMadeOf cmp l R (option_map (λ x. shortened i (ta x)) a) (option_map (λ y. shortened j (tb y)) b) u
        → IsDoing cmp ta tb i j l R asks xs ys ls rs made'
    done {u} e w = let d = n.doing in record {
      total = d.total;
      none = d.none;
      left = n.first.left.children;
      right = n.first.right.children;
      left_part = part-rest a d.left_part;
      right_part = part-rest b d.right_part;
      asked = (said-apart d.total ta tb i j l asks d.none a b n.first d.asked).1;
      ends = λ others m.
          let h = d.ends (cons_option u others) (made-more d.total ta tb i j l R a b n.first w m) in
          grind (arith, append-nil, append_assoc, h);
    }
      where
        part-rest : {X : Type 0} (a : Option X) {ls xs : List X} → (n : ℕ) × (cons_option a ls ≡ drop n xs) → (n : ℕ)
            × (ls ≡ drop n xs)
        part-rest None p = p
        part-rest (Some x) {xs = xs} p = (p.0 + 1, ap (drop 1) p.1 ∙ drop-drop 1 p.0 xs)

  module _ {ls : List A} {rs : List B} {made : List (Tree K U)} (d : IsDoing cmp ta tb i j l R asks xs ys ls rs made) where
    -- it goes on at the place
    pub left_within : {x : A} {ls' : List A} → ls ≡ x ∷ ls' → i < length (ta x).prefix
    left_within {x} e = grind (arith, children-first cmp d.total i (ta x).prefix (rw e at d.left), slice_get_within)

    pub right_within : {y : B} {rs' : List B} → rs ≡ y ∷ rs' → j < length (tb y).prefix
    right_within {y} e = grind (arith, children-first cmp d.total j (tb y).prefix (rw e at d.right), slice_get_within)

    -- the trees by which both sides stand
    abbrev OnSide : EventSide → Type 0
    OnSide s = side_next (by_component ta tb i j cmp) (slice_get ls 0) (slice_get rs 0) ≡ Some s

    -- the next trees, by the side on which they stand
    pub left-next : OnSide Left → {x : A} {ls' : List A} → ls ≡ x ∷ ls'
        → AreNext cmp ta tb i j l R asks xs ys (Some x) None ls' rs made
    left-next z e = grind (arith, left-first)

    pub right-next : OnSide Right → {y : B} {rs' : List B} → rs ≡ y ∷ rs'
        → AreNext cmp ta tb i j l R asks xs ys None (Some y) ls rs' made
    right-next z e = grind (arith, right-first)

    pub both-next : OnSide Both → {x : A} {ls' : List A} {y : B} {rs' : List B} → ls ≡ x ∷ ls' → rs ≡ y ∷ rs'
        → AreNext cmp ta tb i j l R asks xs ys (Some x) (Some y) ls' rs' made
    both-next z e f = grind (arith, both-first)

    -- none is left
    pub all-done : side_next (by_component ta tb i j cmp) (slice_get ls 0) (slice_get rs 0) ≡ None → R None l.none None
        → AreChildren cmp (forest made) × IsCombinedIn cmp l R (shortened_in ta i xs) (shortened_in tb j ys) (forest made)
    all-done z none = grind (arith, slice_get_cases ls 0, slice_get_cases rs 0, nil-by, append-nil, d.ends [])

  -- the next tree of either side has no more nodes than all of them
  pub left-fewer : {x : A} {b : Option B} {ls : List A} {rs : List B} {made : List (Tree K U)}
      → AreNext cmp ta tb i j l R asks xs ys (Some x) b ls rs made → nodes (ta x) ≤ forest_nodes (shortened_in ta i xs)
  left-fewer n = head-of _ _ xs n.doing.left_part.1 (each-fewer ta i xs)

  pub right-fewer : {a : Option A} {y : B} {ls : List A} {rs : List B} {made : List (Tree K U)}
      → AreNext cmp ta tb i j l R asks xs ys a (Some y) ls rs made → nodes (tb y) ≤ forest_nodes (shortened_in tb j ys)
  right-fewer n = head-of _ _ ys n.doing.right_part.1 (each-fewer tb j ys)

  module _ {x : A} {ls : List A} {y : B} {rs : List B} {made : List (Tree K U)}
      (n : AreNext cmp ta tb i j l R asks xs ys (Some x) (Some y) ls rs made) where
    -- two that meet agree for one component
    pub both-agree : Agree cmp (drop i (ta x).prefix) (drop j (tb y).prefix) 1
    both-agree = grind arith

    -- a call may go on with both, where the place on the right side has this name
    pub meets : {place : ℕ} → place ≡ j → MayMeet cmp l asks (ta x) i (tb y) place
    meets e = grind (arith, left_within n.doing refl, right_within n.doing refl, both-agree, asked n)

    module _ {t : Tree K V} {u : Tree K W} {p q : List K} (a : IsOpened ta t p xs i) (b : IsOpened tb u q ys j)
        (w : Parts cmp p q) where
      -- and have fewer nodes than the trees that they stand below
      pub falls : nodes (ta x) + nodes (tb y) < nodes t + nodes u
      falls =
          let f = head-of _ _ xs n.doing.left_part.1 a.first in
          let g = head-of _ _ ys n.doing.right_part.1 b.first in
          let few = head-of _ _ xs n.doing.left_part.1 a.smaller in
          let less = head-of _ _ ys n.doing.right_part.1 b.smaller in
          grind (arith, goes-on, both-agree, f, g, few, less)
