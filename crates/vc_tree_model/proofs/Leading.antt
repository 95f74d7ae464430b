-- A tree before a list of trees, which are above the component that it begins with, if there is one.
--     above-one, children-one        all trees are above what the place of the first is above, and they are canonical children
--     first-combined        what is combined of the first trees and of the others, is combined of all
--     first-asked        what holds at each key of all, holds of the first trees and of the others
use Rattle.std.proofs.Common.{◌≡◌, [], ◌∷◌, List, Option, None, refl, true, false, Bool, cond, arith}
use Rattle.std.specs.Cmp.{IsTotalOrder, Equal-is}
use Rattle.std.specs.List.{cons_option}
use Rattle.std.specs.Ordering.{is_eq}
use Rattle.std.specs.Prelude.{⊤}
use Rattle.std.specs.declared.cmp.Ordering.{Ordering}
use Rattle.std.specs.declared.cmp.Ordering.TheVariants.{Less, Equal}
use Rattle.vc_tree_model.specs.Tree.{Tree, Forest, grow, forest, node}
use Rattle.vc_tree_model.specs.Map.{lookup_in}
use Rattle.vc_tree_model.specs.Canonical.{AllAbove, AreChildren, IsSolid}
use Rattle.vc_tree_model.specs.Child.{Begins, BeginsWith, IsChild, bound_by}
use Rattle.vc_tree_model.proofs.LookupLemmas.{above-equal, above-less}
use Rattle.vc_tree_model.specs.Look.{Look, values}
use Rattle.vc_tree_model.specs.Places.{look, IsCombinedIn, IsBefore}

-- what holds of both cases, holds of the one that a test chooses
either : {X Y Z : Type 0} (R : X → Y → Z → Type 0) (b : Bool) {x x' : X} {y y' : Y} {z z' : Z} → R x y z → R x' y' z'
    → R (cond b x x') (cond b y y') (cond b z z')
either R b h k = grind arith

module _ {K : Type 0} (cmp : K → K → Ordering) (o : IsTotalOrder cmp) where
  -- ---- how a tree before others is read

  -- the key does not begin as y
  abbrev IsOther : K → List K → Type 0
  IsOther y [] = ⊤
  IsOther y (x ∷ q) = is_eq (cmp y x) ≡ false

  module _ {V O : Type 0} (l : Look cmp V O) where
    -- trees above y say nothing of a key that begins as y
    none-above : (y x : K) (q : List K) → cmp y x ≡ Equal → (f : Forest K V) → AllAbove cmp y f
        → l.of_forest f (x ∷ q) ≡ l.none
    none-above y x q e (grow (z ∷ p) v kids rest) a = grind (arith, none-above y x q e rest a.1)
    none-above y x q e f a = grind arith

    -- what a list says, by whether the key begins as its first tree does
    read-tree : (p : List K) (v : Option V) (kids rest : Forest K V) (y x : K) (q : List K) → Begins cmp y p
        → AllAbove cmp y rest → (b : Bool) → is_eq (cmp y x) ≡ b
        → l.of_forest (grow p v kids rest) (x ∷ q) ≡ cond b (l.of_tree (node p v kids) (x ∷ q)) (l.of_forest rest (x ∷ q))
    read-tree [] v kids rest y x q h a b e = absurd h
    read-tree (z ∷ p) v kids rest y x q h a true e = grind (arith, none-above)
    read-tree (z ∷ p) v kids rest y x q h a false e = grind arith

    -- at keys that begin as it does the first tree is asked, and else the others are
    read-first : (t : Option (Tree K V)) (ts : List (Tree K V)) (y x : K) (q : List K) → BeginsWith cmp y t
        → AllAbove cmp y (forest ts) → (b : Bool) → is_eq (cmp y x) ≡ b
        → l.of_forest (forest (cons_option t ts)) (x ∷ q) ≡ cond b (look cmp l t (x ∷ q)) (l.of_forest (forest ts) (x ∷ q))
    read-first t ts y x q h a b e = grind (arith, none-above, read-tree)

    -- it says nothing of other keys
    silent-first : (t : Option (Tree K V)) (y : K) (k : List K) → BeginsWith cmp y t → IsOther y k → look cmp l t k ≡ l.none
    silent-first t y k h e = grind arith

  -- ---- what all are above, and what may stand as children

  module _ {V : Type 0} where
    above-tree : (p : List K) (v : Option V) (kids rest : Forest K V) (x y : K) → Begins cmp y p → cmp x y ≡ Less
        → AllAbove cmp y rest → AllAbove cmp x (grow p v kids rest)
    above-tree p v kids rest x y b h a = grind (arith, above-less)

    pub above-one : (t : Option (Tree K V)) (ts : List (Tree K V)) {x y : K} → IsBefore cmp y t ts → cmp x y ≡ Less
        → AllAbove cmp x (forest (cons_option t ts))
    above-one t ts {x} {y} b h = grind (arith, above-less, above-tree)

    children-tree : (p : List K) (v : Option V) (kids rest : Forest K V) (y : K) → Begins cmp y p → IsSolid v kids
        → AreChildren cmp kids → AllAbove cmp y rest → AreChildren cmp rest → AreChildren cmp (grow p v kids rest)
    children-tree p v kids rest y b s c a r = grind (arith, above-equal)

    pub children-one : (t : Option (Tree K V)) (ts : List (Tree K V)) {y : K} → IsBefore cmp y t ts → IsChild cmp t
        → AreChildren cmp (forest (cons_option t ts))
    children-one t ts b c = grind (arith, children-tree)

  -- ---- two lists, of which the first trees begin as y

  module _ {V W O : Type 0} (l : Look cmp W O) {y : K} {s : Option (Tree K V)} {ss : List (Tree K V)} {t : Option (Tree K W)}
      {ts : List (Tree K W)} (hs : IsBefore cmp y s ss) (ht : IsBefore cmp y t ts) where
    -- what is combined of them and of the others, is combined of all
    pub first-combined : {U : Type 0} (R : Option V → O → Option U → Type 0) {u : Option (Tree K U)} {us : List (Tree K U)}
        → IsBefore cmp y u us → ((k : List K) → R (bound_by cmp s k) (look cmp l t k) (bound_by cmp u k))
        → IsCombinedIn cmp l R (forest ss) (forest ts) (forest us)
        → IsCombinedIn cmp l R (forest (cons_option s ss)) (forest (cons_option t ts)) (forest (cons_option u us))
    first-combined R {u} {us} hu here rest x q =
        let b = is_eq (cmp y x) in
        rw (
          read-first (values cmp) s ss y x q hs.begins hs.above b refl,
          read-first l t ts y x q ht.begins ht.above b refl,
          read-first (values cmp) u us y x q hu.begins hu.above b refl,
        ) (either R b (here (x ∷ q)) (rest x q))

    -- what holds at each key of all, holds at each key of them and of the others
    pub first-asked : (P : Option V → O → Type 0) → P None l.none
        → ((x : K) (q : List K) → P (lookup_in cmp (forest (cons_option s ss)) (x ∷ q))
        (l.of_forest (forest (cons_option t ts)) (x ∷ q)))
        → ((k : List K) → P (bound_by cmp s k) (look cmp l t k))
        × ((x : K) (q : List K) → P (lookup_in cmp (forest ss) (x ∷ q)) (l.of_forest (forest ts) (x ∷ q)))
    first-asked P none p = (here, λ x q. (by x q (is_eq (cmp y x)) refl).1)
      where
        by : (x : K) (q : List K) (b : Bool) → is_eq (cmp y x) ≡ b → P (bound_by cmp s (x ∷ q)) (look cmp l t (x ∷ q))
            × P (lookup_in cmp (forest ss) (x ∷ q)) (l.of_forest (forest ts) (x ∷ q))
        by x q true e =
            let n = (Equal-is (cmp y x)).0 e in (
              rw (
                read-first (values cmp) s ss y x q hs.begins hs.above true e,
                read-first l t ts y x q ht.begins ht.above true e,
              ) at (p x q),
              rw (none-above (values cmp) y x q n (forest ss) hs.above, none-above l y x q n (forest ts) ht.above) none,
            )
        by x q false e = (
          rw (silent-first (values cmp) s y (x ∷ q) hs.begins e, silent-first l t y (x ∷ q) ht.begins e) none,
          rw (
            read-first (values cmp) s ss y x q hs.begins hs.above false e,
            read-first l t ts y x q ht.begins ht.above false e,
          ) at (p x q),
        )

        here : (k : List K) → P (bound_by cmp s k) (look cmp l t k)
        here [] = rw (silent-first (values cmp) s y [] hs.begins tt, silent-first l t y [] ht.begins tt) none
        here (x ∷ q) = (by x q (is_eq (cmp y x)) refl).0
