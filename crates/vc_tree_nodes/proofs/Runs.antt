-- Runs of keys that ascend, in parts.
--     below-within, equal-below        which key begins below another
--     pairs-parted, bound-parted        the pairs of two parts
--     group-run, group-within, group-rest, group-below        a group, and the keys after it
--     group-found, least-new, least-stays        how a group and the least number in common are found
--     last-front, keep-grows, pairs-more        pairs that are kept
use Rattle.std.proofs.Common.{◌≡◌, ℕ, zero, suc, ◌+◌, ◌-◌, ◌<◌, ◌≤◌, [], ◌∷◌, ◌++◌, List, Option, None}
use Rattle.std.proofs.Common.{Some, Bool, refl, sym, ap, arith, take, drop, length, true}
use Rattle.std.proofs.Common.{get_or, length-drop, length-append}
use Rattle.std.proofs.Math.Seq.{drop-nil}
use Rattle.std.specs.Cmp.{IsTotalOrder}
use Rattle.std.specs.declared.cmp.Ordering.{Ordering}
use Rattle.vc_tree_model.specs.Key.{same_key, BeginsBelow}
use Rattle.vc_tree_model.specs.Tree.{Forest, bare, grow}
use Rattle.vc_tree_model.specs.Map.{or_else}
use Rattle.vc_tree_model.specs.Pairs.{last_bound}
use Rattle.vc_tree_nodes.specs.Ascending.{Follows, HasCommon, HaveCommon, IsGroup, RunsOn, IsRunBehind, pairs_behind}
use Rattle.vc_tree_nodes.specs.Ascending.{AllBelow, GoOnBehind, IsGroupOf, HeadAbove, BeginsAs, FirstEnds}
use Rattle.vc_tree_nodes.specs.Ascending.{IsAscending, FollowsLast, MayGrow}
use Rattle.vc_tree_nodes.specs.Parting.{Agree}
use Rattle.std.specs.Prelude.{slice_get, IfSome}
use Rattle.vc_tree_model.proofs.KeyLemmas.{same-flip, same-itself, same-trans}

module _ {K : Type 0} (cmp : K → K → Ordering) where
  -- ---- which key begins below another

  -- what a key begins below has not ended
  pub below-within : (n : ℕ) (k j : List K) → BeginsBelow cmp k (drop n j) → n < length j
  below-within (suc n) k (y ∷ j) h = grind (arith, below-within n k j)
  below-within n k j h = grind arith

  -- a key that agrees beyond a place begins there below what the other does
  pub equal-below : IsTotalOrder cmp → (m n : ℕ) (a b l : List K) → same_key cmp (take n a) (take n b) ≡ true → m < n
      → n ≤ length a → BeginsBelow cmp (drop m b) l → BeginsBelow cmp (drop m a) l
  equal-below o zero (suc n) (x ∷ a) (y ∷ b) (z ∷ l) s h w g = grind arith
  equal-below o (suc m) (suc n) (x ∷ a) (y ∷ b) l s h w g = grind (arith, equal-below o m n a b l)
  equal-below o m n a b l s h w g = grind arith

  -- ---- two keys behind a place

  -- keys that agree up to n agree between d and n
  pub same-middle : IsTotalOrder cmp → (d n : ℕ) (a b : List K) → same_key cmp (take n a) (take n b) ≡ true → d ≤ n
      → same_key cmp (take (n - d) (drop d a)) (take (n - d) (drop d b)) ≡ true
  same-middle o (suc d) (suc n) (x ∷ a) (y ∷ b) s h = grind (arith, same-middle o d n a b)
  same-middle o d n a b s h = grind (arith, same-itself cmp o)

  -- keys that agree up to n agree up to a place before it
  pub same-shorter : (m n : ℕ) (a b : List K) → same_key cmp (take n a) (take n b) ≡ true → m ≤ n
      → same_key cmp (take m a) (take m b) ≡ true
  same-shorter (suc m) (suc n) (x ∷ a) (y ∷ b) s h = grind (arith, same-shorter m n a b)
  same-shorter m n a b s h = grind arith

-- a place behind another
pub drop-further : {X : Type 0} (d n : ℕ) (xs : List X) → d ≤ n → drop (n - d) (drop d xs) ≡ drop n xs
drop-further (suc d) (suc n) (x ∷ xs) h = grind (arith, drop-further d n xs)
drop-further d n xs h = grind (arith, drop-nil)

module _ {K V : Type 0} (cmp : K → K → Ordering) where
  -- ---- the pairs of two parts

  -- what two lists of pairs bind
  pub bound-parted : (ps qs : List (List K × V)) (k : List K)
      → last_bound cmp (ps ++ qs) k ≡ or_else (last_bound cmp qs k) (last_bound cmp ps k)
  bound-parted (p ∷ ps) qs k = grind (arith, bound-parted ps qs k)
  bound-parted [] qs k = grind arith

module _ {K R V : Type 0} (key : R → List K) where
  -- the pairs of the first of a run, and those of the others
  pub pairs-parted : (d n : ℕ) (run : List R) (vs : List V) → n ≤ length run → length run ≤ length vs
      → pairs_behind key d run vs ≡ pairs_behind key d (take n run) vs ++ pairs_behind key d (drop n run) (drop n vs)
  pairs-parted d (suc n) (r ∷ run) (v ∷ vs) h g = grind (arith, pairs-parted d n run vs)
  pairs-parted d n run vs h g = grind arith

module _ {R : Type 0} (common : R → ℕ) where
  -- ---- what keys have in common

  -- what is less than the least is so too
  have-less : (m n : ℕ) (run : List R) → m ≤ n → HaveCommon common n run → HaveCommon common m run
  have-less m n (r ∷ run) h g = grind (arith, have-less m n run)
  have-less m n run h g = grind arith

  -- those of a group have one more component in common
  group-common : (d n : ℕ) (run : List R) → IsGroup common d n run → HaveCommon common (suc d) (take n run)
  group-common d (suc n) (r ∷ run) h = grind (arith, group-common d n run)
  group-common d n run h = grind arith

  -- a group lies within the run
  pub group-within : (d n : ℕ) (run : List R) → IsGroupOf common d n run → (0 < n) × (n ≤ length run)
  group-within d (suc n) (r ∷ run) g = grind (arith, within n run g)
    where
      within : (n : ℕ) (run : List R) → IsGroup common d n run → n ≤ length run
      within (suc n) (r ∷ run) g = grind (arith, within n run g.1)
      within n run g = grind arith
  group-within d n run g = grind arith

  -- where some key has no more in common, the group is not all of the run
  pub group-parts : (d n : ℕ) (run : List R) → IsGroupOf common d n run → HasCommon common d (drop 1 run) → n < length run
  group-parts d (suc n) (r ∷ run) g h = grind (arith, ends n run g h)
    where
      ends : (n : ℕ) (run : List R) → IsGroup common d n run → HasCommon common d run → n < length run
      ends (suc n) (q ∷ run) g h = grind (arith, ends n run g.1)
      ends n run g h = grind arith
  group-parts d n run g h = grind arith

  -- what has come up is at least what all have in common
  pub common-reaches : (d m : ℕ) (run : List R) → HaveCommon common d run → HasCommon common m run → d ≤ m
  common-reaches d m (r ∷ run) h g = grind (arith, common-reaches d m run h.1)
  common-reaches d m run h g = grind arith

module _ {K R : Type 0} (cmp : K → K → Ordering) (key : R → List K) (common : R → ℕ) where
  -- ---- a group

  -- the keys before a place run on
  runs-take : (before : List K) (n : ℕ) (run : List R) → RunsOn cmp key common before run
      → RunsOn cmp key common before (take n run)
  runs-take before (suc n) (r ∷ run) h = grind (arith, runs-take (key r) n run)
  runs-take before n run h = grind arith

  -- a group is a run
  pub group-run : (d n : ℕ) (run : List R) → GoOnBehind cmp key common d run → IsGroupOf common d n run
      → IsRunBehind cmp key common d (take n run)
  group-run d n run h g = grind (arith, runs-take, group-common, have-less common d (suc d))

  -- the keys from a place on go on behind what they have in common
  runs-rest : (d : ℕ) (before : List K) (n : ℕ) (run : List R) → RunsOn cmp key common before run
      → HaveCommon common d run → GoOnBehind cmp key common d (drop n run)
  runs-rest d before (suc n) (r ∷ run) h g = grind (arith, runs-rest d (key r) n run)
  runs-rest d before n run h g = grind (arith, below-within)

  -- the keys behind the first ones go on
  pub group-rest : (d n : ℕ) (run : List R) → 0 < n → IsRunBehind cmp key common d run
      → GoOnBehind cmp key common d (drop n run)
  group-rest d n run w h = grind (arith, runs-rest)

  -- a run is one behind the least number that keys have in common
  pub run-least : (d m : ℕ) (run others : List R) → others ≡ drop 1 run → IsRunBehind cmp key common d run
      → HaveCommon common m others → HasCommon common m others → IsRunBehind cmp key common m run × (d ≤ m)
  run-least d m (r ∷ q ∷ run) others e h g p = grind (arith, common-reaches common d m (q ∷ run) h.2)
  run-least d m run others e h g p = grind arith

  -- the first key ends there
  pub first-ends : (m : ℕ) (run : List R) (x : R) (k : List K) → 0 < length run → k ≡ key (get_or run 0 x)
      → m ≡ length k → FirstEnds cmp key common m run
  first-ends m run x k w i e = grind arith

  -- or it goes on
  pub first-longer : (m : ℕ) (run : List R) (x : R) (k : List K) → 0 < length run → k ≡ key (get_or run 0 x)
      → (m ≡ length k → ⊥) → IsRunBehind cmp key common m run → GoOnBehind cmp key common m run
  first-longer m run x k w i n h = grind arith

  -- and where it goes on
  pub length-longer : (m : ℕ) (run : List R) (x : R) {k : List K} → 0 < length run → GoOnBehind cmp key common m run
      → k ≡ key (get_or run 0 x) → m < length k
  length-longer m run x w h i = grind arith

  -- keys that go on are a run
  pub on-run : (d : ℕ) (run : List R) → 0 < length run → GoOnBehind cmp key common d run → IsRunBehind cmp key common d run
  on-run d run w h = grind arith

  -- the first of the keys, if there is one, begins above a key
  abbrev HeadBelow : ℕ → List K → List R → Type 0
  HeadBelow d before [] = Unit {0}
  HeadBelow d before (r ∷ run) = BeginsBelow cmp (drop d before) (drop d (key r))

  -- a key that agrees beyond a place begins there below the same
  head-equal : IsTotalOrder cmp → (d n : ℕ) (a b : List K) (run : List R) → Agree cmp a b n → d < n
      → HeadBelow d b run → HeadBelow d a run
  head-equal o d n a b run s h g = grind (arith, equal-below)

  -- the key behind a group begins above all of it
  group-head : IsTotalOrder cmp → (d : ℕ) (before : List K) (n : ℕ) (run : List R) → IsGroup common d n run
      → RunsOn cmp key common before run → HaveCommon common d run → HeadBelow d before (drop n run)
  group-head o d before (suc n) (r ∷ run) g h w = grind (arith, group-head o d (key r) n run g.1 h.1 w.1, head-equal)
  group-head o d before n run g h w = grind arith

  -- ---- keys that agree

  -- each key agrees with this one in m components
  abbrev pub AllAgree : ℕ → List K → List R → Type 0
  AllAgree m a [] = Unit {0}
  AllAgree m a (r ∷ run) = (same_key cmp (take m (key r)) (take m a) ≡ true) × AllAgree m a run

  -- those that have these components in common do
  pub all-agree : IsTotalOrder cmp → (m : ℕ) (a before : List K) (run : List R) → same_key cmp (take m before) (take m a) ≡ true
      → RunsOn cmp key common before run → HaveCommon common m run → AllAgree m a run
  all-agree o m a before (r ∷ run) s h g =
      grind (arith, all-agree o m a (key r) run, same-shorter, same-flip cmp o, same-trans cmp o (take m (key r)) (take m before))
  all-agree o m a before run s h g = grind arith

  module _ {V : Type 0} where
    -- trees that are below a key are below what it is below
    pub below-further : IsTotalOrder cmp → (j k : List K) (f : Forest K V) → BeginsBelow cmp j k → AllBelow cmp j f
        → AllBelow cmp k f
    below-further o j k (grow p v kids rest) h a = grind (arith, below-further o j k rest h a.1)
    below-further o j k bare h a = grind arith

    -- and below what begins alike
    pub below-alike : (j k : List K) (f : Forest K V) → take 1 j ≡ take 1 k → AllBelow cmp j f → AllBelow cmp k f
    below-alike j k (grow p v kids rest) e a = grind (arith, below-alike j k rest)
    below-alike j k bare e a = grind arith

    -- trees below the first key of a group are below the first key behind it, and so is what begins as the group
    pub group-further : IsTotalOrder cmp → (d n : ℕ) (run : List R) (f : Forest K V) → GoOnBehind cmp key common d run
        → IsGroupOf common d n run → HeadAbove cmp key d f run → HeadAbove cmp key d f (drop n run)
    group-further o d n run f h g a = grind (arith, group-head, below-further)

    -- a tree that begins as the group is below the first key behind it
    pub group-below : IsTotalOrder cmp → (d n : ℕ) (run : List R) (p : List K) (v : Option V) (kids : Forest K V)
        → GoOnBehind cmp key common d run → IsGroupOf common d n run
        → BeginsAs cmp key common d (take n run) p → HeadAbove cmp key d (grow p v kids bare) (drop n run)
    group-below o d n run p v kids h g b = grind (arith, group-head, group-common)

    -- and it begins with a component, above the trees before
    pub group-begins : (d n : ℕ) (run : List R) (p : List K) (f : Forest K V) → GoOnBehind cmp key common d run
        → IsGroupOf common d n run → BeginsAs cmp key common d (take n run) p → HeadAbove cmp key d f run
        → AllBelow cmp p f × (0 < length p)
    group-begins d (suc n) (r ∷ run) p f h g b a = grind (arith, below-alike, group-common, length-drop)
    group-begins d n run p f h g b a = grind arith

module _ {R : Type 0} (common : R → ℕ) where
  -- ---- how a group is found

  -- the first n keys are of one group
  abbrev pub GroupSoFar : ℕ → ℕ → List R → Type 0
  GroupSoFar d zero run = ⊥
  GroupSoFar d (suc n) [] = ⊥
  GroupSoFar d (suc n) (r ∷ run) = HaveCommon common (suc d) (take n run)

  -- those of n keys, and of one more
  have-more : (least n : ℕ) (x : R) (run : List R) → HaveCommon common least (take n run) → n < length run
      → least ≤ common (get_or run n x) → HaveCommon common least (take (suc n) run)
  have-more least (suc n) x (r ∷ run) g w h = grind (arith, have-more least n x run)
  have-more least n x run g w h = grind arith

  -- one more key is
  pub group-more : (d n : ℕ) (x : R) (run : List R) → GroupSoFar d n run → n < length run
      → d < common (get_or run n x) → GroupSoFar d (n + 1) run
  group-more d (suc n) x (r ∷ run) g w h = grind (arith, have-more (suc d) n x run)
  group-more d n x run g w h = grind arith

  -- the next one is not, if there is one
  pub group-found : (d n : ℕ) (run : List R) → n ≤ length run → GroupSoFar d n run
      → (n < length run → (x : R) × (common (get_or run n x) ≤ d)) → IsGroupOf common d n run
  group-found d (suc n) (r ∷ run) w g h = grind (arith, found n run)
    where
      found : (n : ℕ) (run : List R) → n ≤ length run → HaveCommon common (suc d) (take n run)
          → (n < length run → (x : R) × (common (get_or run n x) ≤ d)) → IsGroup common d n run
      found (suc n) (q ∷ run) w g h = grind (arith, found n run)
      found n run w g h = grind arith
  group-found d n run w g h = grind arith

  -- ---- the least number in common

  -- it is the least of the first n, and has come up, or will come as the first one's
  pub record LeastSoFar (least : ℕ) (run : List R) (n : ℕ) : Type 0 where
    pub have : HaveCommon common least (take n run)
    pub has : HasCommon common least run

  -- the number of a key has come up
  has-at : (n : ℕ) (x : R) (run : List R) → n < length run → HasCommon common (common (get_or run n x)) run
  has-at (suc n) x (r ∷ run) w = grind (arith, has-at n x run)
  has-at zero x (r ∷ run) w = grind arith
  has-at n x [] w = grind arith

  -- a lesser number is the least
  pub least-new : (least n : ℕ) (y : R) (run : List R) → LeastSoFar least run n → n < length run → y ≡ get_or run n y
      → common y < least → LeastSoFar (common y) run (n + 1)
  least-new least n y run l w e h = grind (arith, have-more, have-less, has-at)

  -- any other number leaves it
  pub least-stays : (least n : ℕ) (y : R) (run : List R) → LeastSoFar least run n → n < length run → y ≡ get_or run n y
      → least ≤ common y → LeastSoFar least run (n + 1)
  least-stays least n y run l w e h = grind (arith, have-more least n y run l.have w (omega (arith, (ap common e), h)))

-- ---- how a key follows another

module _ {K : Type 0} (cmp : K → K → Ordering) where
  -- what has ended begins below what goes on
  ended-below : (n : ℕ) (p k : List K) → length p ≡ n → n < length k → BeginsBelow cmp (drop n p) (drop n k)
  ended-below (suc n) (x ∷ p) (y ∷ k) e w = grind (arith, ended-below n p k)
  ended-below n p k e w = grind arith

  -- a key that goes on follows
  pub follows-longer : (before key : List K) (n : ℕ) → Agree cmp before key n → length before ≤ n → n < length key
      → Follows cmp before key n
  follows-longer before key n a e w = grind (arith, ended-below)

-- ---- pairs that are kept

module _ {K R : Type 0} (cmp : K → K → Ordering) (key : R → List K) (common : R → ℕ) where
  -- a key that follows the last one ascends
  pub ascending-more : (run : List R) (r : R) → IsAscending cmp key common run
      → FollowsLast cmp key common run (key r) (common r) → IsAscending cmp key common (run ++ r ∷ [])
  ascending-more (q ∷ p ∷ run) r h f = grind (arith, ascending-more (p ∷ run) r h.1 f)
  ascending-more run r h f = grind arith

  -- what follows the last key of a run
  pub last-follows : (run : List R) (r : R) (k : List K) (n : ℕ) → slice_get run (length run - 1) ≡ Some r
      → Follows cmp (key r) k n → FollowsLast cmp key common run k n
  last-follows (q ∷ p ∷ run) r k n e f =
      let step : length (q ∷ p ∷ run) - 1 ≡ suc (length (p ∷ run) - 1) = omega arith in
      last-follows (p ∷ run) r k n (rw step at e) f
  last-follows run r k n e f = grind arith

  -- a run that ascends is one behind no components
  pub ascending-run : (run : List R) → 0 < length run → IsAscending cmp key common run → IsRunBehind cmp key common 0 run
  ascending-run run w h = grind (arith, all)
    where
      all : (l : List R) → HaveCommon common 0 l
      all (q ∷ l) = grind (arith, all l)
      all l = grind arith

  -- what is found to follow the last key
  pub last-front : {run list : List R} {r : R} {front : List K} (k : List K) (found : Option ℕ) → list ≡ run
      → Some r ≡ slice_get list (length list - 1) → front ≡ key r → IfSome found (Follows cmp front k)
      → IfSome found (FollowsLast cmp key common run k)
  last-front k None e l f h = tt
  last-front {run} {list} {r} k (Some n) e l f h = last-follows run r k n (rw e at (sym l)) (rw f at h)

  -- one more pair is kept
  pub keep-grows : {V : Type 0} {b : Bool} (run : List R) (vs : List V) (r : R) (v : V) {more : List R} {left : List V} → b ≡ true
      → MayGrow cmp key common b run vs → FollowsLast cmp key common run (key r) (common r) → more ≡ run ++ r ∷ []
      → left ≡ vs ++ v ∷ [] → MayGrow cmp key common b more left
  keep-grows run vs r v e g f m l = grind (arith, ascending-more, length-append)

module _ {K R V : Type 0} (key : R → List K) where
  -- one more pair comes behind those that were there
  pub pairs-more : (run : List R) (vs : List V) (r : R) (v : V) → length run ≡ length vs
      → pairs_behind key 0 (run ++ r ∷ []) (vs ++ v ∷ []) ≡ pairs_behind key 0 run vs ++ (key r, v) ∷ []
  pairs-more [] [] r v e = refl
  pairs-more (q ∷ run) (w ∷ vs) r v e = grind (arith, pairs-more run vs r v)
  pairs-more run vs r v e = grind arith
