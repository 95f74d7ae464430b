-- One tree of two, whose nodes are moved.
--     left-appended, turned-appended        what is made of two values: where the right one is none, and by the other side
--     kept-appended, other-kept_appended        what is made of values that are kept from others
--     stays-whole, moved-on        a tree that the left side alone has, and one more tree that comes in
--     fewer-taken, stands-apart_below, children-taken        what is below the places where two trees were taken apart
--     met-taken, made-alike        the trees beside what they were taken as
--     met-done        the trees of two lists before the next pair are done
use Rattle.std.proofs.Common.{◌≡◌, ℕ, suc, ◌+◌, ◌-◌, ◌<◌, ◌≤◌, [], ◌∷◌, ◌++◌, Bool, not, List, Option, None, Some}
use Rattle.std.proofs.Common.{length, map, take, drop, arith}
use Rattle.std.specs.List.{cons_option}
use Rattle.std.specs.Prelude.{⊤}
use Rattle.std.specs.declared.cmp.Ordering.{Ordering}
use Rattle.vc_tree_model.specs.Canonical.{AreChildren, IsCanonical}
use Rattle.vc_tree_model.specs.Look.{values}
use Rattle.vc_tree_model.specs.Same.{IsAlike}
use Rattle.vc_tree_model.specs.Tree.{Tree, nodes, forest_nodes, shortened}
use Rattle.vc_tree_model.specs.Value.{IsKept}
use Rattle.vc_tree_model.proofs.AlikeLemmas.{tree-alike_lookup, tree-alike_canonical}
use Rattle.vc_tree_model.proofs.Shortening.{shortened-canonical}
use Rattle.vc_tree_facing.specs.Facing.{IsSplit, Parts, shortened_in}
use Rattle.vc_tree_facing.specs.Doing.{IsDoing}
use Rattle.vc_tree_facing.specs.Made.{IsMade, IsBothMade}
use Rattle.vc_tree_facing.specs.Sides.{by_component}
use Rattle.vc_tree_facing.proofs.Ending.{below-children}
use Rattle.vc_tree_facing.proofs.Leaving.{below-fewer}
use Rattle.vc_tree_edits.specs.Appended.{IsAppendedAt, IsAppending, ComesWhole, AreApartBelow, ended_of, rest_of}
use Rattle.vc_tree_edits.specs.Taken.{IsMet, IsTaken, LeftStands, lefts_of, from_of}
use Rattle.vc_tree_edits.specs.Woven.{woven, AreAdded, AreWithin, IsNextNoted}
use Rattle.vc_tree_edits.specs.declared.appending.RightList.{RightList}
use Rattle.vc_tree_edits.specs.declared.comers.Comer.{Comer}
use Rattle.vc_tree_edits.specs.declared.engine.Below.{Below}
use Rattle.vc_tree_edits.specs.declared.engine.Below.TheVariants.{Alone, Children}
use Rattle.vc_tree_edits.proofs.Changing.{taken-nodes}
use Rattle.vc_tree_edits.proofs.Coming.{coming-done}
use Rattle.vc_tree_edits.proofs.Stepping.{both-apart, ended-fewer}

-- ---- two values

module _ {V : Type 0} (keeps : V → V → Type 0) where
  -- a value of the left alone stays
  pub left-appended : (right_wins : Bool) (v z : Option V) → IsKept keeps v z → IsAppendedAt keeps right_wins v None z
  left-appended right_wins v z k = grind arith

  -- the same by the other side
  pub turned-appended : (right_wins : Bool) (v w z : Option V) → IsAppendedAt keeps (not right_wins) w v z
      → IsAppendedAt keeps right_wins v w z
  turned-appended right_wins v w z h = grind arith

  module _ (over : (u v w : V) → keeps u v → keeps v w → keeps u w) where
    -- what is made of a value that is kept from another one, is made of that one
    pub kept-appended : (right_wins : Bool) (u v w z : Option V) → IsKept keeps u v → IsAppendedAt keeps right_wins v w z
        → IsAppendedAt keeps right_wins u w z
    kept-appended right_wins u v w z k h = grind arith

    pub other-kept_appended : (right_wins : Bool) (v u w z : Option V) → IsKept keeps u w
        → IsAppendedAt keeps right_wins v w z → IsAppendedAt keeps right_wins v u z
    other-kept_appended right_wins v u w z k h = grind arith

-- ---- trees that have moved

-- a tree of the left alone stays
pub stays-whole : {K V : Type 0} {cmp : K → K → Ordering} (keeps : V → V → Type 0) (right_wins : Bool) {t u : Tree K V}
    → IsMade cmp (IsKept keeps) t (Some u) → IsMade cmp (λ v z. IsAppendedAt keeps right_wins v None z) t (Some u)
stays-whole keeps right_wins h =
    record { child = h.child; begins = h.begins; binds = λ k. left-appended keeps right_wins _ _ (h.binds k) }

-- one more tree comes in
pub moved-on : {B T X : Type 0} (comes : B → T → Type 0) (put : T → X) (n m : ℕ) {rest next : List B} {y : B} {t : T}
    (old old' : List X) → m < n → rest ≡ y ∷ next → comes y t → old' ≡ old ++ (put t ∷ []) → (new : List X)
    → AreAdded comes put (take (n - (m + 1)) next) old' new → AreAdded comes put (take (n - m) rest) old new
moved-on comes put n m {next = next} {t = t} old old' h r c k new a =
    let e : n - m ≡ suc (n - (m + 1)) = omega (arith, h) in
    rw (r, e) (t, c, rw k at a)

-- ---- two trees that were taken apart

-- what is below has no more nodes than the tree, and fewer where its prefix has ended
pub fewer-taken : {K V T : Type 0} {tree : T → Tree K V} {keeps : V → V → Type 0} (x : T) (i n : ℕ) {front : List K}
    {value : Option V} (left : Below T) → LeftStands tree x (i + n) left
    → IsTaken tree keeps (shortened i (tree x)) n front value (lefts_of left) (from_of left)
    → forest_nodes (shortened_in tree (from_of left) (lefts_of left)) + ended_of left ≤ nodes (tree x)
fewer-taken x i n (Alone z k) s h = omega (arith, below-fewer h.opened, taken-nodes h)
fewer-taken x i n (Children zs) s h = omega (arith, ended-fewer x i n s h)

-- where both prefixes continue, they do not continue alike
pub stands-apart_below : {K V T : Type 0} (cmp : K → K → Ordering) (tree : T → Tree K V) (x y : T) (i j n : ℕ)
    (left right : Below T) → LeftStands tree x (i + n) left → LeftStands tree y (j + n) right
    → Parts cmp (drop n (drop i (tree x).prefix)) (drop n (drop j (tree y).prefix)) → AreApartBelow cmp tree left right
stands-apart_below cmp tree x y i j n (Alone z k) (Alone w m) s r p = both-apart cmp tree tree x y i j n s r p
stands-apart_below cmp tree x y i j n (Alone z k) (Children ys) s r p = tt
stands-apart_below cmp tree x y i j n (Children zs) right s r p = tt

-- what is below is canonical children
pub children-taken : {K V T : Type 0} (cmp : K → K → Ordering) {tree : T → Tree K V} {keeps : V → V → Type 0} (x : T)
    (i : ℕ) {n : ℕ} {front : List K} {value : Option V} {xs : List T} {from : ℕ}
    → IsTaken tree keeps (shortened i (tree x)) n front value xs from → IsCanonical cmp (tree x)
    → AreChildren cmp (shortened_in tree from xs)
children-taken cmp {tree} {keeps} x i {n} h c =
    below-children cmp n
    (tree-alike_canonical keeps cmp (shortened i (tree x)) h.taken h.alike (shortened-canonical cmp i (tree x) c)) h.opened

-- the left one stands beside what the right one was taken as
pub met-taken : {K V T : Type 0} {cmp : K → K → Ordering} {tree : T → Tree K V} {keeps : V → V → Type 0} (x y : T) {i j n : ℕ}
    {front : List K} {value : Option V} {ys : List T} {from : ℕ} → IsSplit cmp (tree x) i (tree y) j n
    → (k : IsTaken tree keeps (shortened j (tree y)) n front value ys from)
    → IsMet cmp tree (shortened i (tree x)) k.taken n ys from
met-taken x y s k = grind arith

-- what is made of a tree and one that is alike to another, is made of that other one
pub made-alike : {K V : Type 0} {cmp : K → K → Ordering} {keeps : V → V → Type 0}
    → ((u v w : V) → keeps u v → keeps v w → keeps u w) → (right_wins : Bool) {t u w : Tree K V} {o : Option (Tree K V)}
    → IsAlike keeps u w → IsBothMade cmp (IsAppendedAt keeps right_wins) t w o
    → IsBothMade cmp (IsAppendedAt keeps right_wins) t u o
made-alike over right_wins a b = grind (arith, tree-alike_lookup, other-kept_appended)

-- ---- a list

-- the trees before the next pair are done
pub met-done : {K V T : Type 0} {cmp : K → K → Ordering} {tree : T → Tree K V} {keeps : V → V → Type 0} → ((v : V) → keeps v v)
    → {right_wins : Bool} {j : ℕ} {xs ys ls : List T} {kept at : ℕ} {right : RightList T} {n : ℕ} {other : Option T}
    {rest : List T} {cs : List (Comer T)} → IsAppending cmp tree keeps right_wins j xs ys ls kept at right
    → IsNextNoted (ComesWhole cmp keeps tree j) (by_component tree tree 0 j cmp) kept (drop at ls) (rest_of right) n other
    rest right.comers.items cs
    → (ls' : List T) (kept' : ℕ) → take kept' ls' ≡ take kept ls ++ take n (drop at ls) → drop (at + n) ls' ≡ drop (at + n) ls
    → IsDoing cmp tree tree 0 j (values cmp) (IsAppendedAt keeps right_wins) (λ v w. ⊤) xs ys (drop (at + n) ls')
    (cons_option other rest) (map tree (woven 0 (take kept' ls') cs)) × AreWithin (length (take kept' ls')) cs
met-done {keeps = keeps} itself {right_wins} {ls = ls} {kept} {at} {right} {cs = cs} s p ls' kept' built same =
    let order = s.order in
    let within = s.within in
    coming-done keeps itself (left-appended keeps right_wins) ls at kept right.comers.items cs s.going s.places
    (omega (arith, order, within)) p ls' kept' built same
