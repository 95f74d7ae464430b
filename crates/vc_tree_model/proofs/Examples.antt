-- The definitions at small trees over letters: each line holds by computing its two sides.
use Rattle.std.specs.Prelude.{◌≡◌, ℕ, List, [], ◌∷◌, Some, None, codes, refl}
use Rattle.std.specs.declared.cmp.Ordering.TheVariants.{Less}
use Rattle.std.proofs.Common.{inl, inr, nat_cmp}
use Rattle.vc_tree_model.specs.Key.{behind, Starts, IsLess}
use Rattle.vc_tree_model.specs.Tree.{Tree, made, no_tree, nodes, key_count}
use Rattle.vc_tree_model.specs.Map.{lookup}
use Rattle.vc_tree_model.specs.Binds.{Binds}
use Rattle.vc_tree_model.specs.Canonical.{IsCanonical}
use Rattle.vc_tree_model.specs.Walk.{walk}

-- ---- keys

-- behind aab, cc is left of aabcc
left_of_key : behind nat_cmp (codes "aab") (codes "aabcc") ≡ Some (codes "cc")
left_of_key = refl

-- nothing is left behind a prefix that parts from the key, or is longer
not_left : behind nat_cmp (codes "aac") (codes "aabcc") ≡ None
not_left = refl

-- aabbcc starts with aabb
starts_with_prefix : Starts nat_cmp (codes "aabbcc") (codes "aabb")
starts_with_prefix = (codes "cc", refl)

-- aabb comes before aabbcc, where it has ended
ended_first : IsLess nat_cmp (codes "aabb") (codes "aabbcc")
ended_first = record { place = 4; before = refl; at = tt }

-- aabbcc comes before aabbee, by its fifth letter
lesser_letter : IsLess nat_cmp (codes "aabbcc") (codes "aabbee")
lesser_letter = record { place = 4; before = refl; at = refl }

-- ---- the tree of aabbcc, aabb and aabbee

-- a leaf
abbrev leaf : List ℕ → ℕ → Tree ℕ ℕ
leaf p v = made p (Some v) []

-- aabb*(cc* ee*)
abbrev three : Tree ℕ ℕ
three = made (codes "aabb") (Some 2) (leaf (codes "cc") 1 ∷ leaf (codes "ee") 3 ∷ [])

-- it binds aabbee to 3
looked_up : lookup nat_cmp three (codes "aabbee") ≡ Some 3
looked_up = refl

-- it binds no key that ends inside a prefix
not_bound : lookup nat_cmp three (codes "aabbe") ≡ None
not_bound = refl

-- by cases: aabbee is aabb joined with ee, which the second child binds
bound : Binds nat_cmp three (codes "aabbee") 3
bound = inr (codes "ee", refl, inr (inl (inl (refl, refl))))

-- it is canonical
is_canonical : IsCanonical nat_cmp three
is_canonical = (tt, (tt, tt, (refl, tt), (tt, tt, tt, tt)))

-- its three nodes are at most two a key but one
three_nodes : nodes three ≡ 3
three_nodes = refl

-- it has three keys
three_keys : key_count three ≡ 3
three_keys = refl

-- its keys ascend: aabb, aabbcc, aabbee
walked : walk three ≡ (codes "aabb", 2) ∷ (codes "aabbcc", 1) ∷ (codes "aabbee", 3) ∷ []
walked = refl

-- ---- trees that are not canonical

-- b*(cc* ee*)
abbrev below_aab : Tree ℕ ℕ
below_aab = made (codes "b") (Some 2) (leaf (codes "cc") 1 ∷ leaf (codes "ee") 3 ∷ [])

-- aab(b*(cc* ee*)) has the same map, and a node without a value that has one child
lone_child : IsCanonical nat_cmp (made (codes "aab") None (below_aab ∷ [])) → ⊥
lone_child c = c.0

-- children that don't ascend
out_of_order : IsCanonical nat_cmp (made (codes "aabb") (Some 2) (leaf (codes "ee") 3 ∷ leaf (codes "cc") 1 ∷ [])) → ⊥
out_of_order c = absurd (not_less c.1.2.0)
  where
    not_less : nat_cmp 101 99 ≡ Less → ⊥
    not_less e = cc

-- the empty tree with a prefix
prefixed_empty : IsCanonical {V = ℕ} nat_cmp (made (codes "aabb") None []) → ⊥
prefixed_empty c = c.0

-- the empty tree itself is canonical
empty_canonical : IsCanonical {V = ℕ} nat_cmp no_tree
empty_canonical = (tt, tt)
