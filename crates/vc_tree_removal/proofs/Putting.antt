-- One tree of a list, and the list with another one, or none, instead of it.
--     at-got, put-remove, put-set        a list of items, without one or with another in its place
--     solid-stays, some-solid, one-stands        a node, as a child
--     out-joins, out-stays        what is left of a node after a child is removed
--     at-child        canonical children can each are among children
--     Replaced, replaced, node-parted        what a list becomes, and what it then binds
use Rattle.std.proofs.Common.{◌≡◌, ℕ, zero, suc, ◌+◌, ◌<◌, [], ◌∷◌, List, Option, None, Some, refl}
use Rattle.std.proofs.Common.{arith, get_or, map, set, length, Bool, true}
use Rattle.std.proofs.lemmas.List.Edits.{length-remove}
use Rattle.std.specs.Cmp.{IsTotalOrder, alike_right}
use Rattle.std.specs.List.{remove}
use Rattle.std.specs.declared.cmp.Ordering.{Ordering}
use Rattle.std.specs.declared.cmp.Ordering.TheVariants.{Equal}
use Rattle.vc_tree_model.specs.Canonical.{AllAbove, AreChildren, IsSolid}
use Rattle.vc_tree_model.specs.Child.{Begins, BeginsWith, IsChild, bound_by, solid_child}
use Rattle.vc_tree_model.specs.Map.{lookup, lookup_in, or_else}
use Rattle.vc_tree_model.specs.Tree.{Tree, Forest, bare, grow, forest, node, trees}
use Rattle.vc_tree_model.proofs.KeyLemmas.{none-some}
use Rattle.vc_tree_model.proofs.LookupLemmas.{above-equal, lookup-other, lookup_in-above}
use Rattle.vc_tree_nodes.specs.Places.{child_first}
use Rattle.vc_tree_nodes.proofs.Finding.{trees-length}
use Rattle.vc_tree_nodes.proofs.Firsts.{above-at}
use Rattle.vc_tree_removal.specs.Taking.{AreSome, IsLone, IsOut, IsPartedAt, fronted, put, tree_at}

module _ {K V : Type 0} where
  -- ---- nodes that are solid, and lone children

  -- a node that is solid stays as a child
  pub solid-stays : (p : List K) (v : Option V) (f : Forest K V) → IsSolid v f → solid_child p v f ≡ Some (node p v f)
  solid-stays p v f s = grind arith

  -- it stays solid with one child less where it has a value, or not just two children
  fewer-solid : (v : Option V) (f g : Forest K V) → IsSolid v f → (v ≡ None → length (trees f) ≡ 2 → ⊥)
      → length (trees g) + 1 ≡ length (trees f) → IsSolid v g
  fewer-solid v f g s few less = grind arith

  -- some children that are not one are two
  pub some-solid : (f : Forest K V) → AreSome f → (length (trees f) ≡ 1 → ⊥) → IsSolid None f
  some-solid f s n = grind arith

  -- one alone stands in the place of a node without a value
  pub one-stands : (front : List K) (f : Forest K V) → length (trees f) ≡ 1
      → solid_child front None f ≡ Some (fronted front (tree_at f 0))
  one-stands front f n = grind arith

module _ {K V T : Type 0} (tree : T → Tree K V) where
  -- ---- a list of items

  -- the tree at a place is that of the item there
  pub at-got : (xs : List T) (i : ℕ) {item : T} {n : ℕ} → i < n → n ≡ length xs → item ≡ get_or xs i item
      → tree_at (forest (map tree xs)) i ≡ tree item
  at-got (x ∷ xs) (suc i) h l e = grind (arith, at-got xs i (omega (arith, h, l)) refl e)
  at-got xs i h l e = grind arith

  -- the list without it
  pub put-remove : (xs : List T) (i : ℕ) → forest (map tree (remove xs i)) ≡ put (forest (map tree xs)) i None
  put-remove [] zero = refl
  put-remove [] (suc i) = refl
  put-remove (x ∷ xs) zero = refl
  put-remove (x ∷ xs) (suc i) = grind (arith, put-remove xs i)

  -- and with another one in its place
  pub put-set : (xs : List T) (i : ℕ) (item : T)
      → forest (map tree (set xs i item)) ≡ put (forest (map tree xs)) i (Some (tree item))
  put-set (x ∷ xs) (suc i) item = grind (arith, put-set xs i item)
  put-set xs i item = grind arith

  -- ---- what is left of a node

  -- one of two children stands in the place of the node where the other goes
  pub out-joins : (front : List K) (xs : List T) (i j : ℕ) (item : T) (u : Tree K V) (new : List T) → length xs ≡ 2 → i + j ≡ 1
      → IsLone tree front xs j u new → item ≡ get_or new 0 item → IsOut tree front None xs i (tree item) u
  out-joins front (a ∷ b ∷ []) i j item u new n one l e = grind arith
  out-joins front xs i j item u new n one l e = grind arith

  -- a node that has a value, or more than two children, stays
  pub out-stays : (front : List K) (v : Option V) (xs : List T) (i : ℕ) {item : T} {new : List T} {n : ℕ} → i < n
      → n ≡ length xs → IsSolid v (forest (map tree xs)) → (v ≡ None → length xs ≡ 2 → ⊥) → item ≡ get_or xs i item
      → new ≡ remove xs i → IsOut tree front v xs i (tree item) (node front v (forest (map tree new)))
  out-stays front v xs i h l s few e d = grind (arith, at-got, put-remove, solid-stays, fewer-solid, trees-length, length-remove)

-- ---- canonical children

-- each can stand alone among children
pub at-child : {K V : Type 0} (cmp : K → K → Ordering) (f : Forest K V) (i : ℕ) → i < length (trees f) → AreChildren cmp f
    → IsChild cmp (Some (tree_at f i))
at-child cmp (grow (y ∷ p) v kids rest) (suc i) h a = grind (arith, at-child cmp rest i (omega (arith, h)) a.3)
at-child cmp f i h a = grind arith

-- the first component of what begins with an equal one
begun : {K : Type 0} (cmp : K → K → Ordering) (y : K) (p : List K) → Begins cmp y p
    → (z : K) × (q : List K) × (p ≡ z ∷ q) × (cmp y z ≡ Equal)
begun cmp y p b = grind arith

module _ {V : Type 0} (keeps : V → V → Type 0) (r : (v : V) → keeps v v) where
  -- what is parted stays so before and behind what stays, which has nothing of a key that goes
  parted-before : (b : Bool) (a x u y : Option V) → (b ≡ true → a ≡ None) → IsPartedAt keeps b x u y
      → IsPartedAt keeps b (or_else x a) (or_else u a) y
  parted-before b a x u y n h = grind arith

  parted-behind : (b : Bool) (a x u y : Option V) → (b ≡ true → a ≡ None) → IsPartedAt keeps b x u y
      → IsPartedAt keeps b (or_else a x) (or_else a u) y
  parted-behind b a x u y n h = grind arith

module _ {K V : Type 0} (cmp : K → K → Ordering) (keeps : V → V → Type 0) where
  -- g is f with another tree, or none, in the place of one: canonical children that begin above what f does; and of what f
  -- binds of the keys that are told, g binds nothing, and w all
  pub record Replaced (told : List K → Bool) (w : List K → Option V) (f g : Forest K V) : Type 0 where
    pub above : (x : K) → AllAbove cmp x f → AllAbove cmp x g
    pub children : AreChildren cmp g
    pub parted : (x : K) (k : List K)
        → IsPartedAt keeps (told (x ∷ k)) (lookup_in cmp f (x ∷ k)) (lookup_in cmp g (x ∷ k)) (w (x ∷ k))

  -- what stands behind a tree binds no key that begins as the tree
  gone-behind : IsTotalOrder cmp → (z x y : K) (rest : Forest K V) (k : List K) → z ≡ y → AllAbove cmp z rest → cmp y x ≡ Equal
      → lookup_in cmp rest (x ∷ k) ≡ None
  gone-behind o z x y rest k e a s = grind (arith, lookup_in-above, above-equal)

  module _ (o : IsTotalOrder cmp) (r : (v : V) → keeps v v) (told : List K → Bool) (w : List K → Option V) (y : K)
      (s : (x : K) (k : List K) → told (x ∷ k) ≡ true → cmp y x ≡ Equal) where
    -- so it is where the other tree begins as the one does, and parts what that binds
    pub replaced : (f : Forest K V) (i : ℕ) (t : Option (Tree K V)) → child_first f i ≡ Some y → AreChildren cmp f → IsChild cmp t
        → ((z : K) (q : List K) → (tree_at f i).prefix ≡ z ∷ q → BeginsWith cmp z t)
        → ((k : List K) → IsPartedAt keeps (told k) (lookup cmp (tree_at f i) k) (bound_by cmp t k) (w k))
        → Replaced told w f (put f i t)
    replaced bare i t e a c b h = none-some y e
    replaced (grow [] v kids rest) i t e a c b h = absurd a
    replaced (grow (z ∷ p) v kids rest) zero None e a c b h = grind (arith, parted-before, gone-behind)
    replaced (grow (z ∷ p) v kids rest) zero (Some u) e a c b h =
        grind (arith, parted-before, gone-behind, begun, alike_right, above-equal)
    replaced (grow (z ∷ p) v kids rest) (suc i) t e a c b h =
        grind (arith, parted-behind, lookup-other, alike_right, above-at, replaced rest i t e a.3 c b h)

  -- a node with the same value is parted so, where the empty key does not go
  pub node-parted : {told : List K → Bool} {w : List K → Option V} {f g : Forest K V} (v : Option V)
      → Replaced told w f g → IsPartedAt keeps (told []) v v (w []) → (k : List K)
      → IsPartedAt keeps (told k) (lookup cmp (node [] v f) k) (lookup cmp (node [] v g) k) (w k)
  node-parted v new h k = grind arith
