-- The definitions on prefixes, covers and the machine at small trees over letters: each line holds by computing its two sides.
use Rattle.std.specs.Prelude.{◌≡◌, ℕ, Bool, true, false, [], ◌∷◌, List, Option, Some, None, codes, refl}
use Rattle.std.proofs.Common.{nat_cmp}
use Rattle.vc_tree_model.specs.Tree.{Tree, made, no_tree}
use Rattle.vc_tree_model.specs.Map.{lookup}
use Rattle.vc_tree_model.specs.Under.{under, prefixed}
use Rattle.vc_tree_model.specs.Cover.{cover, IsVerdict}
use Rattle.vc_tree_model.specs.Machine.{after, insert, prepend, remove_prefix, retain_prefix}

-- a leaf
abbrev leaf : {V : Type 0} → List ℕ → V → Tree ℕ V
leaf p v = made p (Some v) []

-- ---- prefixes, at the tree of aabbcc, aabb and aabbee

-- aabb*(cc* ee*)
abbrev three : List ℕ → Option ℕ
three = lookup nat_cmp (made (codes "aabb") (Some 2) (leaf (codes "cc") 1 ∷ leaf (codes "ee") 3 ∷ []))

-- under aab, which ends inside a prefix, there is aabbcc
under_inside : under nat_cmp three (codes "aab") (codes "aabbcc") ≡ Some 1
under_inside = refl

-- under aabbc there is no aabb
not_under : under nat_cmp three (codes "aabbc") (codes "aabb") ≡ None
not_under = refl

-- with x before its keys, xaabb is bound, and aabb is not
with_x : prefixed nat_cmp three (codes "x") (codes "xaabb") ≡ Some 2
with_x = refl

without_x : prefixed nat_cmp three (codes "x") (codes "aabb") ≡ None
without_x = refl

-- ---- covers, at the rules a and !ab

-- a is admitted and ab is refused: a*(b*)
abbrev rules : List ℕ → Option Bool
rules = lookup nat_cmp (made (codes "a") (Some true) (leaf (codes "b") false ∷ []))

-- a key is a prefix of itself
covers_itself : cover rules (codes "a") ≡ Some true
covers_itself = refl

-- ab goes before a, being longer
longer_first : cover rules (codes "abc") ≡ Some false
longer_first = refl

-- what does not begin with ab is covered by a
shorter : cover rules (codes "ac") ≡ Some true
shorter = refl

-- no rule is a prefix of b
not_covered : cover rules (codes "b") ≡ None
not_covered = refl

-- the empty key covers each key
empty_covers : cover {W = ℕ} (lookup nat_cmp (leaf [] 7)) (codes "zz") ≡ Some 7
empty_covers = refl

-- a key that the rules admit is covered, and one that they refuse is not
admitted : IsVerdict (λ w b. b ≡ w) (cover rules (codes "ac")) true
admitted = refl

shielded : IsVerdict (λ w b. b ≡ w) (cover rules (codes "abc")) false
shielded = refl

-- ---- the machine, which admits each key

-- the tree of a
abbrev one : Tree ℕ ℕ
one = leaf (codes "a") 9

-- removal by a leaves no aabb, and retention by it leaves it
machine_removes : after nat_cmp (remove_prefix one) three (codes "aabb") ≡ None
machine_removes = refl

machine_retains : after nat_cmp (retain_prefix one) three (codes "aabb") ≡ Some 2
machine_retains = refl

-- insert a, and then put x before each key
machine_inserts : after nat_cmp (prepend (codes "x")) (after nat_cmp (insert (codes "a") 9) three) (codes "xa") ≡ Some 9
machine_inserts = refl

-- x before the keys of the empty tree makes none
machine_prepends : after {V = ℕ} nat_cmp (prepend (codes "x")) (lookup nat_cmp no_tree) (codes "x") ≡ None
machine_prepends = refl
