-- Keys of two letters, where a fact on all of them is shown case by case, and small trees.
use Rattle.std.specs.Prelude.{◌≡◌, List, [], ◌∷◌, Some, None}
use Rattle.std.specs.declared.cmp.Ordering.{Ordering}
use Rattle.std.specs.declared.cmp.Ordering.TheVariants.{Less, Equal, Greater}
use Rattle.vc_tree_model.specs.Tree.{Tree, made}

-- a letter
pub data Letter : Type 0 where
  a b : Letter

-- their order
abbrev pub by_letter : Letter → Letter → Ordering
by_letter a a = Equal
by_letter a b = Less
by_letter b a = Greater
by_letter b b = Equal

-- what holds of the empty key, a, ab, b, and of the keys behind these, holds of all keys
pub each_key : (P : List Letter → Type 0) → P [] → P (a ∷ []) → ((k : List Letter) → P (a ∷ a ∷ k)) → P (a ∷ b ∷ [])
    → ((y : Letter) (k : List Letter) → P (a ∷ b ∷ y ∷ k)) → P (b ∷ [])
    → ((y : Letter) (k : List Letter) → P (b ∷ y ∷ k)) → (k : List Letter) → P k
each_key P p q r s t u v [] = p
each_key P p q r s t u v (a ∷ []) = q
each_key P p q r s t u v (a ∷ a ∷ k) = r k
each_key P p q r s t u v (a ∷ b ∷ []) = s
each_key P p q r s t u v (a ∷ b ∷ y ∷ k) = t y k
each_key P p q r s t u v (b ∷ []) = u
each_key P p q r s t u v (b ∷ y ∷ k) = v y k

-- a leaf
abbrev pub leaf : {K V : Type 0} → List K → V → Tree K V
leaf p v = made p (Some v) []

-- the tree of a and ab: a*(b*)
abbrev pub a_and_ab : {V : Type 0} → V → V → Tree Letter V
a_and_ab v w = made (a ∷ []) (Some v) (leaf (b ∷ []) w ∷ [])

-- nothing is no value
pub not_some : {V : Type 0} {P : Type 0} {v : V} → None ≡ Some v → P
not_some {v = v} e = absurd (clash e)
  where
    clash : None ≡ Some v → ⊥
    clash e = cc
