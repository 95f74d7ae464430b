-- What follows from where a key diverges from a prefix.
--     same-joined, same-behind_whole, same-ended        the prefix up to there and the rest of the key are the key
--     known-within        what is known to agree is before the place
--     splits-lower, splits-higher, grown-from        how the node is split there, and how it has grown
--     agree-one        a child that begins as a key agrees with it in one component
--     behind-shorter, behind-unlike, behind-whole        what is left of the key after the prefix
use Rattle.std.proofs.Common.{◌≡◌, ℕ, suc, ◌-◌, ◌<◌, ◌≤◌, [], ◌∷◌, ◌++◌, List, None}
use Rattle.std.proofs.Common.{Some, refl, arith, take, drop, length, true}
use Rattle.std.proofs.Common.{false, get_or}
use Rattle.std.proofs.lemmas.List.{take-take, take_rest, take-append-drop}
use Rattle.std.proofs.Math.Seq.{take-length}
use Rattle.std.proofs.lemmas.Option.{slice_get_read, slice_get_within}
use Rattle.std.specs.Cmp.{IsTotalOrder}
use Rattle.std.specs.Ordering.{is_eq}
use Rattle.std.specs.Prelude.{slice_get}
use Rattle.std.specs.declared.cmp.Ordering.{Ordering}
use Rattle.std.specs.declared.cmp.Ordering.TheVariants.{Less, Greater}
use Rattle.vc_tree_model.specs.Key.{same_key, behind}
use Rattle.vc_tree_model.specs.Tree.{Tree}
use Rattle.vc_tree_model.specs.Canonical.{IsSolid}
use Rattle.vc_tree_nodes.specs.Growth.{IsBranch, IsGrown}
use Rattle.vc_tree_nodes.specs.Parting.{Agree, PartsAt, SplitsAt}
use Rattle.vc_tree_model.proofs.KeyLemmas.{same-append, behind-same, behind-itself, same-itself}

-- the element at a place begins what is left there
drop-at : {X : Type 0} (xs : List X) (n : ℕ) (x : X) → slice_get xs n ≡ Some x → drop n xs ≡ x ∷ drop (suc n) xs
drop-at (y ∷ xs) (suc n) x e = grind (arith, drop-at xs n x)
drop-at xs n x e = grind arith

module _ {K : Type 0} (cmp : K → K → Ordering) where
  -- equal keys before one end are equal
  same-before : IsTotalOrder cmp → (j k l : List K) → same_key cmp j k ≡ true → same_key cmp (j ++ l) (k ++ l) ≡ true
  same-before o j k l h = grind (arith, same-append, behind-same cmp o j k, behind-itself cmp o, same-itself cmp o)

  -- the prefix as far as it agrees, and the rest of the key, make up the key
  pub same-joined : IsTotalOrder cmp → (p q key : List K) (n : ℕ) → p ≡ q → Agree cmp p key n
      → same_key cmp (take n q ++ take (length key - n) (drop n key)) key ≡ true
  same-joined o p q key n e a =
      let s = same-before o (take n p) (take n key) (drop n key) a.same in
      grind (arith, e, s, take_rest key n, take-append-drop n key)

  -- the whole prefix and the rest of the key
  pub same-behind_whole : IsTotalOrder cmp → (p q key : List K) → p ≡ q → Agree cmp p key (length p)
      → same_key cmp (q ++ take (length key - length p) (drop (length p) key)) key ≡ true
  same-behind_whole o p q key e a = grind (arith, same-joined o p q key (length p) e a, take-length p)

  -- a key that ends where it agrees is the prefix as far as that
  pub same-ended : (p q key : List K) (n : ℕ) → p ≡ q → Agree cmp p key n → n ≡ length key
      → same_key cmp (take n q) key ≡ true
  same-ended p q key n e a h = grind (arith, a.same, take-length key)

  -- where keys agree beyond a place, they agree at it
  agree-at : (p k : List K) (m n : ℕ) (x y : K) → same_key cmp (take m p) (take m k) ≡ true → n < m
      → slice_get p n ≡ Some x → slice_get k n ≡ Some y → is_eq (cmp x y) ≡ true
  agree-at (a ∷ p) (b ∷ k) (suc m) (suc n) x y s h d e = grind (arith, agree-at p k m n x y)
  agree-at p k m n x y s h d e = grind arith

  -- what is known to agree lies before the place where the key parts
  pub known-within : (order : Ordering) (p q key : List K) (known n : ℕ) → p ≡ q → is_eq order ≡ false
      → Agree cmp q key known → PartsAt cmp order p key n → known ≤ n
  known-within order p q key known n e b a s = grind (arith, agree-at)

  -- a child that begins as a key agrees with it in one component
  pub agree-one : (p key : List K) (x y : K) (q : List K) → slice_get p 0 ≡ Some x → is_eq (cmp x y) ≡ true
      → key ≡ y ∷ q → Agree cmp p key 1
  agree-one (a ∷ p) key x y q d e k = grind arith
  agree-one [] key x y q d e k = grind arith

  -- ---- what is left behind a prefix

  -- behind a prefix that agrees, the rest of the key
  left-whole : (p k : List K) → same_key cmp (take (length p) p) (take (length p) k) ≡ true
      → behind cmp p k ≡ Some (drop (length p) k)
  left-whole (x ∷ p) (y ∷ k) h = grind (arith, left-whole p k)
  left-whole p k h = grind arith

  -- nothing where they differ at a place
  none-parted : (p k : List K) (n : ℕ) (x y : K) → slice_get p n ≡ Some x → slice_get k n ≡ Some y
      → is_eq (cmp x y) ≡ false → behind cmp p k ≡ None
  none-parted (a ∷ p) (b ∷ k) (suc n) x y d e h = grind (arith, none-parted p k n x y)
  none-parted p k n x y d e h = grind arith

  -- nothing is left of a shorter key
  pub behind-shorter : (p key : List K) → length key < length p → None ≡ behind cmp p key
  behind-shorter (x ∷ p) (y ∷ k) h = grind (arith, behind-shorter p k)
  behind-shorter p k h = grind arith

  -- nothing is left where components at one place are not equal
  pub behind-unlike : (p key : List K) (n : ℕ) (x y : K) → n < length p → length p ≤ length key → x ≡ get_or p n x
      → y ≡ get_or key n y → is_eq (cmp x y) ≡ false → None ≡ behind cmp p key
  behind-unlike p key n x y h l d e c = grind (
    arith,
    none-parted p key n x y,
    slice_get_read p (length p) n x refl h d,
    slice_get_read key (length key) n y refl (omega (arith, h, l)) e,
  )

  -- the rest of the key, copied from the slice of it, where the whole prefix agrees
  pub behind-whole : (p key : List K) (n : ℕ) → length p ≤ n → Agree cmp p key n
      → Some (take (length key - length p) (drop (length p) key)) ≡ behind cmp p key
  behind-whole p key n h a = grind (arith, take_rest, left-whole)

  module _ {V : Type 0} where
    -- the prefix goes on with a lesser component: the leaf comes after the half below
    pub splits-lower : (t : Tree K V) (p key : List K) (n : ℕ) → p ≡ t.prefix → PartsAt cmp Less p key n
        → IsSolid t.value t.children → SplitsAt cmp t n (take (length key - n) (drop n key)) 1
    splits-lower t p key n e s solid = grind (arith, slice_get_within, take_rest, drop-at)

    -- it goes on with a greater one: the leaf comes before
    pub splits-higher : IsTotalOrder cmp → (t : Tree K V) (p key : List K) (n : ℕ) → p ≡ t.prefix
        → PartsAt cmp Greater p key n → IsSolid t.value t.children → SplitsAt cmp t n (take (length key - n) (drop n key)) 0
    splits-higher o t p key n e s solid = grind (arith, slice_get_within, take_rest, drop-at)

    -- a node with the prefix up to a later place has grown
    pub grown-from : (known n : ℕ) (t u : Tree K V) → known ≤ n → IsBranch cmp (take n t.prefix) u → IsGrown cmp known t u
    grown-from known n t u h b = grind (arith, take-take)
