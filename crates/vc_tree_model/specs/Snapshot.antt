-- Copies of trees: what a clone of a tree of the shared flavour is, and that copied children are alike.
use Rattle.std.specs.Prelude.{◌≡◌, ◌⊎◌, List, [], ◌∷◌, map, Option, Some, None, refl}
use Rattle.std.specs.List.{AllZip}
use Rattle.std.proofs.Common.{sym, subst, inl, inr}
use Rattle.vc_tree_model.specs.Value.{IsKept, Copies, itself, cloned}
use Rattle.vc_tree_model.specs.Tree.{Tree, Forest, bare, grow, forest}
use Rattle.vc_tree_model.specs.Same.{IsAlike, IsAlikeIn}

-- the same prefix, a clone of the value, and the same children
abbrev pub IsSnapshot : {K V : Type 0} → (V → V → Type 0) → Tree K V → Tree K V → Type 0
IsSnapshot is_clone t c = (c.prefix ≡ t.prefix) × IsKept is_clone t.value c.value × (c.children ≡ t.children)

-- each optional value keeps itself where each value does
pub kept_itself : {V : Type 0} (keeps : V → V → Type 0) → ((v : V) → keeps v v) → (o : Option V) → IsKept keeps o o
kept_itself keeps r None = tt
kept_itself keeps r (Some v) = r v

module _ {K V : Type 0} (keeps : V → V → Type 0) where
  -- each list of trees is alike to itself where each value keeps itself
  pub alike_refl : ((v : V) → keeps v v) → (f : Forest K V) → IsAlikeIn keeps f f
  alike_refl r bare = tt
  alike_refl r (grow p v kids rest) = (refl, kept_itself keeps r v, alike_refl r kids, alike_refl r rest)

  -- and each tree
  pub tree_alike_refl : ((v : V) → keeps v v) → (t : Tree K V) → IsAlike keeps t t
  tree_alike_refl r t = (refl, kept_itself keeps r t.value, alike_refl r t.children)

  -- equal lists are alike
  pub alike_same : ((v : V) → keeps v v) → (xs ys : List (Tree K V)) → ys ≡ xs
      → IsAlikeIn keeps (forest (map (λ t. t) xs)) (forest (map (λ t. t) ys))
  alike_same r xs ys e = rw e (alike_refl r (forest (map (λ t. t) xs)))

-- what is the same is a copy
pub same_copies : {V : Type 0} (is_clone : V → V → Type 0) (v w : V) → v ≡ w → Copies is_clone v w
same_copies is_clone v w e = subst (Copies is_clone v) e itself

-- a clone is a copy
kept_copies : {V : Type 0} (is_clone : V → V → Type 0) (v w : Option V) → IsKept is_clone v w → IsKept (Copies is_clone) v w
kept_copies is_clone None None h = tt
kept_copies is_clone (Some v) (Some w) h = cloned h itself
kept_copies is_clone None (Some w) h = absurd h
kept_copies is_clone (Some v) None h = absurd h

module _ {K V : Type 0} (is_clone : V → V → Type 0) where
  -- clones of the values of a list of trees are copies
  copies_alike_in : (f g : Forest K V) → IsAlikeIn is_clone f g → IsAlikeIn (Copies is_clone) f g
  copies_alike_in bare bare h = tt
  copies_alike_in bare (grow q w more others) h = absurd h
  copies_alike_in (grow p v kids rest) bare h = absurd h
  copies_alike_in (grow p v kids rest) (grow q w more others) h =
      (h.0, kept_copies is_clone v w h.1, copies_alike_in kids more h.2, copies_alike_in rest others h.3)

  -- and of a tree
  pub clones_copied : (t c : Tree K V) → IsAlike is_clone t c → IsAlike (Copies is_clone) t c
  clones_copied t c h = (h.0, kept_copies is_clone t.value c.value h.1, copies_alike_in t.children c.children h.2)

  -- a snapshot of a tree is a copy of it
  pub snapshot_copied : (t c : Tree K V) → IsSnapshot is_clone t c → IsAlike (Copies is_clone) t c
  snapshot_copied t c h =
      (sym h.0, kept_copies is_clone t.value c.value h.1, rw h.2 (alike_refl (Copies is_clone) (λ v. itself) t.children))

  -- snapshots of trees are alike to them
  snapshots_alike : (xs ys : List (Tree K V)) → AllZip (IsSnapshot is_clone) xs ys
      → IsAlikeIn (Copies is_clone) (forest (map (λ t. t) xs)) (forest (map (λ t. t) ys))
  snapshots_alike [] [] h = tt
  snapshots_alike (x ∷ xs) (y ∷ ys) h =
      let c = snapshot_copied x y h.0 in (c.0, c.1, c.2, snapshots_alike xs ys h.1)
  snapshots_alike [] (y ∷ ys) h = absurd h
  snapshots_alike (x ∷ xs) [] h = absurd h

  -- children that were shared are copied to snapshots of them
  pub kept_alike : (xs ys : List (Tree K V)) → (ys ≡ xs) ⊎ AllZip (IsSnapshot is_clone) xs ys
      → IsAlikeIn (Copies is_clone) (forest (map (λ t. t) xs)) (forest (map (λ t. t) ys))
  kept_alike xs ys (inl e) = alike_same (Copies is_clone) (λ v. itself) xs ys e
  kept_alike xs ys (inr h) = snapshots_alike xs ys h
