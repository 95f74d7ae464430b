-- Further worked rows of the definitions on trees; others are with the definitions.
use Rattle.std.specs.Prelude.{◌≡◌, ℕ, suc, ◌+◌, ◌==◌, true, false, List, [], ◌∷◌, ◌++◌}
use Rattle.std.specs.Prelude.{Some, None, Result, Ok, Err, ⊤, codes, refl}
use Rattle.std.proofs.Common.{inl, inr, sym, arith, nat_cmp}
use Rattle.std.proofs.lemmas.Cmp.{nat_cmp_total}
use Rattle.std.specs.declared.cmp.Ordering.TheVariants.{Less, Equal, Greater}
use denote.Ref.{Bor}
use denote.Param.Members.{Shared}
use Rattle.vc_tree_model.specs.Key.{same_key, BeginsBelow}
use Rattle.vc_tree_model.specs.Value.{IsKept, Copies, itself, cloned}
use Rattle.vc_tree_model.specs.Matches.{AreCopies, HaveOneSource}
use Rattle.vc_tree_model.specs.Tree.{Tree, bare, grow, forest, trees, node, made, no_tree, is_bare, width, shortened}
use Rattle.vc_tree_model.specs.Map.{lookup, IsEqualMap, IsUpdated, IsInserted, HaveEqualMaps}
use Rattle.vc_tree_model.specs.Canonical.{IsCanonical}
use Rattle.vc_tree_model.specs.Conditions.{BareIsWhole, HavePrefixes, ChildrenAscend, NoLoneChild, MeetsConditions}
use Rattle.vc_tree_model.specs.Same.{IsSame, IsAlike}
use Rattle.vc_tree_model.specs.OneTree.{IsOneTree, IsSmallest}
use Rattle.vc_tree_model.specs.Depth.{forest_depth, depth, IsShallow}
use Rattle.vc_tree_model.specs.Walk.{IsWalk}
use Rattle.vc_tree_model.specs.Snapshot.{IsSnapshot}
use Rattle.vc_tree_model.specs.Equal.{same_tree}
use Rattle.vc_tree_model.specs.Pairs.{last_bound, IsCollected}
use Rattle.vc_tree_model.specs.KeySets.{ShareKey, AreDisjoint, HasKeysOf, LacksKeyOf}
use Rattle.vc_tree_model.specs.Shortened.{IsShortened, weight}
use Rattle.vc_tree_model.proofs.LookupLemmas.{children-ordered}
use Rattle.vc_tree_model.proofs.FourConditions.{canonical-conditions}
use Rattle.vc_tree_model.proofs.Uniqueness.{canonical-one}
use Rattle.vc_tree_model.proofs.Smallness.{canonical-smallest}
use Rattle.vc_tree_model.proofs.Shallowness.{canonical-shallow}
use Rattle.vc_tree_model.proofs.Walking.{walk-is}
use Rattle.vc_tree_nodes.specs.Children.{seen}
use Rattle.definition_tests.proofs.Closures.{closure, ref}
use Rattle.definition_tests.proofs.Digits.{same, not_true}
use Rattle.definition_tests.proofs.Letters.{Letter, a, b, by_letter, each_key, leaf, a_and_ab}
use Rattle.vc_tree_removal.specs.Without.{AllBegin, IsWithout, IsWithoutBelow}
use Rattle.vc_tree_walks.specs.Bounds.{above, below, not_below}
use Rattle.vc_tree_walks.specs.Ends.{IsGreatestPair, IsLeastPair}
use Rattle.vc_tree_walks.specs.Folding.{IsStopped, TurnFails}
use Rattle.vc_tree_walks.specs.Prefixes.{bound_prefixes}

-- ---- keys and values

-- ab and ab are one key, and ab and a are not
same_keys : (same_key by_letter (a ∷ b ∷ []) (a ∷ b ∷ []) ≡ true) × (same_key by_letter (a ∷ b ∷ []) (a ∷ []) ≡ false)
same_keys = (refl, refl)

-- cc begins below ee
begins_below : BeginsBelow nat_cmp (codes "cc") (codes "ee")
begins_below = refl

-- 1 is kept as 1 by equality, and neither as 2 nor as nothing
is_kept : IsKept {V = ℕ} same (Some 1) (Some 1)
is_kept = refl

is_lost : IsKept {V = ℕ} same (Some 1) None → ⊥
is_lost h = h

-- where a clone has the next number, 3 is a copy of 1: a clone of a clone
copies : Copies (λ v w. w ≡ suc v) 1 3
copies = cloned {v = 2} refl (cloned refl itself)

-- so they match both ways round
are_copies : AreCopies (λ v w. w ≡ suc v) 1 3 × AreCopies (λ v w. w ≡ suc v) 3 1
are_copies = (inl copies, inr copies)

-- where every number is a clone of 0, 1 and 2 have one source
one_source : HaveOneSource {V = ℕ} (λ v w. v ≡ 0) 1 2
one_source = (0, cloned refl itself, cloned refl itself)

-- ---- trees

-- aabb*(cc* ee*)
abbrev three : Tree ℕ ℕ
three = made (codes "aabb") (Some 2) (leaf (codes "cc") 1 ∷ leaf (codes "ee") 3 ∷ [])

abbrev three_canonical : IsCanonical nat_cmp three
three_canonical = (tt, (tt, tt, (refl, tt), (tt, tt, tt, tt)))

-- the forest of no tree is bare, and a list of trees comes back from its forest
no_forest : forest {K = ℕ} {V = ℕ} [] ≡ bare
no_forest = refl

forest_of_children : forest {K = ℕ} {V = ℕ} (leaf (codes "cc") 1 ∷ leaf (codes "ee") 3 ∷ []) ≡ grow (codes "cc") (Some 1) bare (grow (codes "ee") (Some 3) bare bare)
forest_of_children = refl

trees_of_forest : trees {K = ℕ} {V = ℕ} (forest (leaf (codes "cc") 1 ∷ leaf (codes "ee") 3 ∷ [])) ≡ leaf (codes "cc") 1 ∷ leaf (codes "ee") 3 ∷ []
trees_of_forest = refl

-- children that are stored as numbers, each seen as the leaf of cc with that value
seen_children : seen {K = ℕ} {V = ℕ} {T = ℕ} (λ n. leaf (codes "cc") n) (1 ∷ []) ≡ forest (leaf (codes "cc") 1 ∷ [])
seen_children = refl

-- aabb* of its parts
made_leaf : made {K = ℕ} {V = ℕ} (codes "aabb") (Some 2) [] ≡ node (codes "aabb") (Some 2) bare
made_leaf = refl

-- the empty tree is bare, and a leaf is not
bare_tree : (is_bare {K = ℕ} {V = ℕ} no_tree ≡ true) × (is_bare {K = ℕ} {V = ℕ} (leaf (codes "cc") 1) ≡ false)
bare_tree = (refl, refl)

-- two children at most
width_of_three : width three ≡ 2
width_of_three = refl

-- two levels; below the root there is one
depth_of_three : (depth three ≡ 2) × (forest_depth three.children ≡ 1)
depth_of_three = (refl, refl)

-- without the first two letters it is bb*(cc* ee*)
shortened_by_two : shortened 2 three ≡ made (codes "bb") (Some 2) (leaf (codes "cc") 1 ∷ leaf (codes "ee") 3 ∷ [])
shortened_by_two = refl

-- three nodes, and eight letters
weight_of_three : weight three ≡ 11
weight_of_three = refl

-- ---- maps, at trees of a and ab

-- a*(b*) and .(a*(b*)), which is not canonical, have equal maps
is_equal_map : IsEqualMap {K = Letter} {V = ℕ} same (lookup by_letter (a_and_ab 1 2))
    (lookup by_letter (made [] None (a_and_ab 1 2 ∷ [])))
is_equal_map = each_key _ tt refl (λ k. tt) refl (λ y k. tt) tt (λ y k. tt)

-- a* and a*(b*) have not
no_equal_map : IsEqualMap {K = Letter} {V = ℕ} same (lookup by_letter (leaf (a ∷ []) 1)) (lookup by_letter (a_and_ab 1 2)) → ⊥
no_equal_map h = h (a ∷ b ∷ [])

have_equal_maps : HaveEqualMaps {V = ℕ} by_letter same (a_and_ab 1 2) (a_and_ab 1 2)
have_equal_maps = each_key _ tt refl (λ k. tt) refl (λ y k. tt) tt (λ y k. tt)

-- ab into a* gives a*(b*)
is_updated : IsUpdated {V = ℕ} by_letter same (a ∷ b ∷ []) 2 (lookup by_letter (leaf (a ∷ []) 1))
    (lookup by_letter (a_and_ab 1 2))
is_updated = record {
  at = each_key _ (λ e. not_true e) (λ e. not_true e) (λ k e. not_true e) (λ e. refl) (λ y k e. not_true e)
      (λ e. not_true e) (λ y k e. not_true e);
  others = each_key _ (λ e. tt) (λ e. refl) (λ k e. tt) (λ e. not_true (sym e)) (λ y k e. tt) (λ e. tt) (λ y k e. tt);
}

is_inserted : IsInserted {V = ℕ} by_letter same (a ∷ b ∷ []) 2 (leaf (a ∷ []) 1) (a_and_ab 1 2)
is_inserted = is_updated

-- a*(b*) without ab is a*
is_without : IsWithout {V = ℕ} by_letter same (a ∷ b ∷ []) (lookup by_letter (a_and_ab 1 2))
    (lookup by_letter (leaf (a ∷ []) 1))
is_without = record {
  at = each_key _ (λ e. not_true e) (λ e. not_true e) (λ k e. not_true e) (λ e. refl) (λ y k e. not_true e)
      (λ e. not_true e) (λ y k e. not_true e);
  others = each_key _ (λ e. tt) (λ e. refl) (λ k e. tt) (λ e. not_true (sym e)) (λ y k e. tt) (λ e. tt) (λ y k e. tt);
}

-- a*(b*) without what begins with a is the empty tree
is_without_below : IsWithoutBelow {V = ℕ} by_letter same (a ∷ []) (lookup by_letter (a_and_ab 1 2)) (lookup by_letter no_tree)
is_without_below = record {
  at = each_key _ (λ e. not_true e) (λ e. refl) (λ k e. refl) (λ e. refl) (λ y k e. refl) (λ e. not_true e)
      (λ y k e. not_true e);
  others = each_key _ (λ e. tt) (λ e. not_true (sym e)) (λ k e. not_true (sym e)) (λ e. not_true (sym e))
      (λ y k e. not_true (sym e)) (λ e. tt) (λ y k e. tt);
}

-- all keys of a*(b*) begin with a
all_begin : AllBegin {V = ℕ} by_letter (a ∷ []) (lookup by_letter (a_and_ab 1 2))
all_begin =
    each_key _ (λ e. not_true e) (λ e. refl) (λ k e. refl) (λ e. refl) (λ y k e. refl) (λ e. not_true e) (λ y k e. not_true e)

-- what the last pair of a key says counts
last_of_b : last_bound {V = ℕ} by_letter ((b ∷ [], 1) ∷ (a ∷ [], 2) ∷ (b ∷ [], 3) ∷ []) (b ∷ []) ≡ Some 3
last_of_b = refl

is_collected : IsCollected {V = ℕ} by_letter ((b ∷ [], 1) ∷ (a ∷ [], 2) ∷ (b ∷ [], 3) ∷ [])
    (made [] None (leaf (a ∷ []) 2 ∷ leaf (b ∷ []) 3 ∷ []))
is_collected = each_key _ refl refl (λ k. refl) refl (λ y k. refl) refl (λ y k. refl)

-- ---- canonical trees

meets_conditions : MeetsConditions nat_cmp three
meets_conditions = (canonical-conditions nat_cmp three).0 three_canonical

-- the empty tree with a prefix
prefixed_empty : BareIsWhole {K = ℕ} {V = ℕ} (made (codes "aabb") None []) → ⊥
prefixed_empty h = absurd (some_letter (h (made (codes "aabb") None []) (inl refl) refl).1)
  where
    some_letter : codes "aabb" ≡ [] → ⊥
    some_letter e = cc

-- aabb(.* cc*)
empty_prefix : HavePrefixes {K = ℕ} {V = ℕ} (made (codes "aabb") None (leaf [] 1 ∷ leaf (codes "cc") 2 ∷ [])) → ⊥
empty_prefix h = h (leaf [] 1) (inl (inl refl)) refl

empty_prefix_canonical : IsCanonical {V = ℕ} nat_cmp (made (codes "aabb") None (leaf [] 1 ∷ leaf (codes "cc") 2 ∷ [])) → ⊥
empty_prefix_canonical c = c.1

-- aabb*(ee* cc*)
out_of_order : ChildrenAscend {V = ℕ} nat_cmp (made (codes "aabb") (Some 2) (leaf (codes "ee") 3 ∷ leaf (codes "cc") 1 ∷ [])) → ⊥
out_of_order h = absurd (not_less (h (made (codes "aabb") (Some 2) (leaf (codes "ee") 3 ∷ leaf (codes "cc") 1 ∷ [])) (inl refl) 0 1 no_tree (omega arith) (omega arith)))
  where
    not_less : Greater ≡ Less → ⊥
    not_less e = cc

-- aab(b*(cc* ee*))
lone_child : NoLoneChild {K = ℕ} {V = ℕ} (made (codes "aab") None (made (codes "b") (Some 2) (leaf (codes "cc") 1 ∷ leaf (codes "ee") 3 ∷ []) ∷ [])) → ⊥
lone_child h = h (made (codes "aab") None (made (codes "b") (Some 2) (leaf (codes "cc") 1 ∷ leaf (codes "ee") 3 ∷ []) ∷ [])) (inl refl) refl refl

-- ---- same, one, smallest

-- by an order that takes all letters for equal, a* and b* are the same
is_same : IsSame {K = Letter} {V = ℕ} (λ x y. Equal) same (leaf (a ∷ []) 1) (leaf (b ∷ []) 1)
is_same = (refl, refl, tt)

-- and not alike
not_alike : IsAlike {K = Letter} {V = ℕ} same (leaf (a ∷ []) 1) (leaf (b ∷ []) 1) → ⊥
not_alike h = absurd (other_letter h.0)
  where
    other_letter : a ∷ [] ≡ b ∷ [] → ⊥
    other_letter e = cc

is_alike : IsAlike {K = Letter} {V = ℕ} same (a_and_ab 1 2) (a_and_ab 1 2)
is_alike = (refl, refl, (refl, refl, tt, tt))

is_snapshot : IsSnapshot {K = Letter} {V = ℕ} same (a_and_ab 1 2) (a_and_ab 1 2)
is_snapshot = (refl, refl, refl)

same_as_test : (same_tree by_letter ◌==◌ (a_and_ab 1 2) (a_and_ab 1 2) ≡ true)
    × (same_tree by_letter ◌==◌ (a_and_ab 1 2) (a_and_ab 1 3) ≡ false)
same_as_test = (refl, refl)

-- aabb*(cc* ee*) is the one canonical tree of its map, the smallest, and its walk lists it
is_one_tree : IsOneTree nat_cmp same three
is_one_tree = canonical-one nat_cmp nat_cmp_total same three three_canonical

is_smallest : IsSmallest nat_cmp same three
is_smallest = canonical-smallest nat_cmp same nat_cmp_total three three_canonical

is_shallow : IsShallow nat_cmp three
is_shallow = canonical-shallow nat_cmp nat_cmp_total three three_canonical

is_walk : IsWalk nat_cmp (lookup nat_cmp three) ((codes "aabb", 2) ∷ (codes "aabbcc", 1) ∷ (codes "aabbee", 3) ∷ [])
is_walk = walk-is nat_cmp nat_cmp_total three (children-ordered nat_cmp three.children three_canonical.1)

-- of a and ab, a comes first and ab last
is_least_pair : IsLeastPair {V = ℕ} by_letter (lookup by_letter (a_and_ab 1 2)) (a ∷ [], 1)
is_least_pair = record {
  bound = refl;
  least = each_key _ (λ s. not_true s) (λ s e. cc) (λ k s. not_true s) (λ s e. cc) (λ y k s. not_true s) (λ s. not_true s)
      (λ y k s. not_true s);
}

-- above a there is ab alone, below ab there is a alone, and from a on there are both
above_a : (above {V = ℕ} by_letter (lookup by_letter (a_and_ab 1 2)) (a ∷ []) (a ∷ b ∷ []) ≡ Some 2)
    × (above {V = ℕ} by_letter (lookup by_letter (a_and_ab 1 2)) (a ∷ []) (a ∷ []) ≡ None)
above_a = (refl, refl)

below_ab : (below {V = ℕ} by_letter (lookup by_letter (a_and_ab 1 2)) (a ∷ b ∷ []) (a ∷ []) ≡ Some 1)
    × (below {V = ℕ} by_letter (lookup by_letter (a_and_ab 1 2)) (a ∷ b ∷ []) (a ∷ b ∷ []) ≡ None)
below_ab = (refl, refl)

not_below_a : (not_below {V = ℕ} by_letter (lookup by_letter (a_and_ab 1 2)) (a ∷ []) (a ∷ []) ≡ Some 1)
    × (not_below {V = ℕ} by_letter (lookup by_letter (a_and_ab 1 2)) (a ∷ []) (a ∷ b ∷ []) ≡ Some 2)
not_below_a = (refl, refl)

-- from a up to ab there is a alone
from_a_up_to_ab : (below {V = ℕ} by_letter (not_below by_letter (lookup by_letter (a_and_ab 1 2)) (a ∷ [])) (a ∷ b ∷ []) (a ∷ []) ≡ Some 1)
    × (below {V = ℕ} by_letter (not_below by_letter (lookup by_letter (a_and_ab 1 2)) (a ∷ [])) (a ∷ b ∷ []) (a ∷ b ∷ []) ≡ None)
from_a_up_to_ab = (refl, refl)

-- along abb there are a and ab
prefixes_of_abb : bound_prefixes {V = ℕ} (lookup by_letter (a_and_ab 1 2)) (a ∷ b ∷ b ∷ []) ≡ (1, 1) ∷ (2, 2) ∷ []
prefixes_of_abb = refl

is_greatest_pair : IsGreatestPair {V = ℕ} by_letter (lookup by_letter (a_and_ab 1 2)) (a ∷ b ∷ [], 2)
is_greatest_pair = record {
  bound = refl;
  greatest = each_key _ (λ s. not_true s) (λ s e. cc) (λ k s. not_true s) (λ s e. cc) (λ y k s. not_true s)
      (λ s. not_true s) (λ y k s. not_true s);
}

-- ab does not come first
is_no_least_pair : IsLeastPair {V = ℕ} by_letter (lookup by_letter (a_and_ab 1 2)) (a ∷ b ∷ [], 2) → ⊥
is_no_least_pair h = h.least (a ∷ []) refl refl

-- ---- walks that hand a value on

-- adds up values to one that is 2, which ends it with the sum before
abbrev adds_to_two : Shared (Unit {0}) (ℕ × (Bor (List Letter) × (Bor ℕ × Unit {0}))) (Result ℕ ℕ)
adds_to_two = closure (λ asked. ⊤)
    (λ asked r. r ≡ (elim (asked.1.1.0.now == 2) [ true ↦ Err asked.0 | false ↦ Ok (asked.0 + asked.1.1.0.now) ]))

-- shown ab with 2 where it holds 1, it answers 1 as an error
turn_fails : TurnFails adds_to_two tt 1 (a ∷ b ∷ [], 2) 1
turn_fails = record { key = ref (a ∷ b ∷ []); value = ref 2; shows = refl; says = refl }

-- so 1 ends the walk over a with 1 and ab with 2, which began with 0
is_stopped : IsStopped adds_to_two tt 0 ((a ∷ [], 1) ∷ (a ∷ b ∷ [], 2) ∷ []) 1
is_stopped = record {
  before = (a ∷ [], 1) ∷ [];
  pair = (a ∷ b ∷ [], 2);
  after = [];
  held = 1;
  parts = refl;
  folded = (1, record { key = ref (a ∷ []); value = ref 1; shows = refl; says = refl }, refl);
  fails = turn_fails;
}

-- and nothing ends a walk over no pairs
is_not_stopped : IsStopped adds_to_two tt 0 [] 0 → ⊥
is_not_stopped s = no_pair s.pair s.after s.before s.parts
  where
    no_pair : (x : List Letter × ℕ) (after before : List (List Letter × ℕ)) → [] ≡ before ++ x ∷ after → ⊥
    no_pair x after [] e = cc
    no_pair x after (y ∷ before) e = cc

-- ---- keys of two trees

-- a, ab and ab share ab
share_key : ShareKey {V = ℕ} {W = ℕ} by_letter (a_and_ab 1 2) (leaf (a ∷ b ∷ []) 5)
share_key = (a ∷ b ∷ [], refl, refl)

-- a and ab share none
are_disjoint : AreDisjoint {V = ℕ} {W = ℕ} by_letter (leaf (a ∷ []) 1) (leaf (a ∷ b ∷ []) 5)
are_disjoint = each_key _ (λ p q. not_true p) (λ p q. not_true q) (λ k p q. not_true p) (λ p q. not_true p)
    (λ y k p q. not_true p) (λ p q. not_true p) (λ y k p q. not_true p)

-- a, ab has the keys of ab
has_keys_of : HasKeysOf {V = ℕ} {W = ℕ} by_letter (a_and_ab 1 2) (leaf (a ∷ b ∷ []) 5)
has_keys_of = each_key _ (λ p. not_true p) (λ p. refl) (λ k p. not_true p) (λ p. refl) (λ y k p. not_true p)
    (λ p. not_true p) (λ y k p. not_true p)

-- ab lacks a of a, ab
lacks_key_of : LacksKeyOf {V = ℕ} {W = ℕ} by_letter (leaf (a ∷ b ∷ []) 5) (a_and_ab 1 2)
lacks_key_of = (a ∷ [], refl, refl)

-- ---- shortened

-- ab* without its first letter is b*
is_shortened : IsShortened {V = ℕ} by_letter same 1 (leaf (a ∷ b ∷ []) 5) (leaf (b ∷ []) 5)
is_shortened = each_key _ tt tt (λ k. tt) tt (λ y k. tt) refl (λ y k. tt)
