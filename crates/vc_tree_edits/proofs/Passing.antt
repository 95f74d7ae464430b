-- Trees that only one of two lists has, passed up to two that begin alike.
--     children-ascend        canonical children ascend by the components with which they continue
--     stopped        where a merge stops that passes what one list alone has
--     stopped-next, stopped-fewer, stopped-behind        the next two that begin alike, and what may still be compared
--     end-next        where no right tree is left
--     only_passes, passes, only-stopped        a merge that does nothing else
--     place-next, gap-next        where a search for the only tree of the right side stops
--     found-parts        the child that is found by a search
--     all-within, one-within        trees that continue are longer than the place
use Rattle.std.proofs.Common.{◌≡◌, ℕ, ◌+◌, ◌-◌, ◌<◌, ◌≤◌, [], ◌∷◌, ◌++◌, List, Option, None, Some, true, false, Result, Ok, Err}
use Rattle.std.proofs.Common.{◌⊎◌, inl, inr, refl, sym, ap, ◌∙◌, map, take, drop, length, slice_get, append_assoc}
use Rattle.std.proofs.Common.{append-nil, length-append, arith}
use Rattle.std.proofs.Common.{zero, suc, get_or}
use Rattle.std.proofs.Math.ListN.{drop_of_length-le}
use Rattle.std.proofs.Math.Seq.{take-append_seam, drop-append_seam}
use Rattle.std.proofs.lemmas.List.{append_cancel_left, take-append-drop, take_rest}
use Rattle.std.proofs.lemmas.Option.{slice_get_within, slice_get_read}
use Rattle.std.specs.Cmp.{IsTotalOrder, tied_itself}
use Rattle.std.specs.List.{AllByRecursion, HoldsAt, cons_option}
use Rattle.std.specs.List.Sorted.{IsStrictlySortedBy}
use Rattle.std.specs.Option.{option_cmp, option_copied}
use Rattle.std.specs.Prelude.{OnSome}
use denote.Ref.{Bor}
use Rattle.std.specs.declared.alloc.AllocError.{AllocError}
use Rattle.std.specs.declared.cmp.Ordering.{Ordering}
use Rattle.std.specs.declared.cmp.Ordering.TheVariants.{Less, Equal, Greater}
use Rattle.vc_merge.specs.Ascending.{Ascends}
use Rattle.vc_merge.specs.Chain.{Answer, Allows, allows, Run, of_left, of_right, of_both, events, BehindPair}
use Rattle.vc_merge.specs.Chain.{IsAtFront, IsAllowed, Steps, IsMergedBefore}
use Rattle.vc_merge.specs.Fronts.{LeftBelow, RightBelow, HeadsCompare}
use Rattle.vc_merge.specs.Place.{IsFound, IsGap}
use Rattle.vc_merge.specs.Script.{Event, left_alone, right_alone, lefts, rights}
use Rattle.vc_tree_model.specs.Canonical.{AllAbove, AreChildren}
use Rattle.vc_tree_model.specs.Tree.{Tree}
use Rattle.vc_tree_facing.specs.Facing.{shortened_in}
use Rattle.vc_tree_facing.specs.Seeking.{side_at}
use Rattle.vc_tree_facing.specs.Sides.{by_component, by_component_total}
use Rattle.vc_tree_facing.proofs.Components.{get-drop, children-first}
use Rattle.vc_merge.proofs.ListLemmas.{each-weaker}
use Rattle.vc_merge.proofs.Runs.{left_below-nil}
use Rattle.vc_tree_edits.proofs.Placed.{first-at}
use Rattle.vc_tree_edits.specs.Pairs.{ArePassed, StandsAt, IsNextPair}

-- ---- canonical children ascend

module _ {K V T : Type 0} (cmp : K → K → Ordering) (tree : T → Tree K V) (n : ℕ) where
  above-all : (y : K) (xs : List T) → AllAbove cmp y (shortened_in tree n xs)
      → AllByRecursion (λ x. option_cmp cmp (Some y) (slice_get (tree x).prefix n) ≡ Less) xs
  above-all y [] a = tt
  above-all y (x ∷ xs) a = grind (arith, get-drop n (tree x).prefix, above-all y xs)

  pub children-ascend : IsTotalOrder cmp → (xs : List T) → AreChildren cmp (shortened_in tree n xs)
      → Ascends (λ x z. option_cmp cmp (slice_get (tree x).prefix n) (slice_get (tree z).prefix n)) xs
  unfolding IsStrictlySortedBy
  children-ascend o [] a = tt
  children-ascend o (x ∷ xs) a =
      let f = children-first cmp o n (tree x).prefix a in
      let r = f.before f.place (tied_itself o f.place) in
      (rw f.at (above-all f.place xs r.above), children-ascend o xs r.children)

-- ---- what was passed

module _ {A B : Type 0} where
  pub run-left : (xs : List A) (es : List (Event A B)) → (lefts (map (λ x. left_alone x) xs ++ es) ≡ xs ++ lefts es)
      × (rights (map (λ x. left_alone x) xs ++ es) ≡ rights es)
  run-left [] es = (refl, refl)
  run-left (x ∷ xs) es = grind (arith, run-left xs es)

  pub run-right : (ys : List B) (es : List (Event A B)) → (lefts (map (λ y. right_alone y) ys ++ es) ≡ lefts es)
      × (rights (map (λ y. right_alone y) ys ++ es) ≡ ys ++ rights es)
  run-right [] es = (refl, refl)
  run-right (y ∷ ys) es = grind (arith, run-right ys es)

module _ {A B : Type 0} (order : A ⊎ B → A ⊎ B → Ordering) where
  -- what was passed of a list is its front
  pub passed-lists : (runs : List (Run A B)) (ls : List A) (rs : List B) (ls' : List A) (rs' : List B)
      → ArePassed order runs ls rs ls' rs' → (ls ≡ lefts (events runs) ++ ls') × (rs ≡ rights (events runs) ++ rs')
  passed-lists [] ls rs ls' rs' p = p
  passed-lists (of_left xs ∷ runs) ls rs ls' rs' p =
      grind (arith, passed-lists runs p.0 rs ls' rs' p.3, run-left xs (events runs), append_assoc)
  passed-lists (of_right ys ∷ runs) ls rs ls' rs' p =
      grind (arith, passed-lists runs ls p.0 ls' rs' p.3, run-right ys (events runs), append_assoc)
  passed-lists (of_both x y ∷ runs) ls rs ls' rs' p = absurd p

-- where a walk stops at a pair
pub on-next : {B Q : Type 0} (o : Option B) {rs rest : List B} → rs ≡ cons_option o rest → ((y : B) → rs ≡ y ∷ rest → Q)
    → OnSome o Q
on-next None e f = tt
on-next (Some y) e f = f y e

-- the same, where the right tree is only read
pub on-some : {B Q : Type 0} (o : Option (Bor B)) {rs rest : List B} → rs ≡ cons_option (option_copied o) rest
    → ((y : B) → rs ≡ y ∷ rest → Q) → OnSome o Q
on-some None e f = tt
on-some (Some y) e f = f y.now e

-- ---- a merge that passes what one list alone has

pub true-false : ◌≡◌ {A = Answer} (Ok true) (Ok false) → ⊥
true-false e = grind arith

module _ {M A B : Type 0} (order : A ⊎ B → A ⊎ B → Ordering) (op : Allows M A B) where
  -- the run is below all of the other list
  abbrev pub IsBelow : M → Run A B → Type 0
  IsBelow s (of_left xs) = LeftBelow order (take (length xs) (op.left s)) (op.right s)
  IsBelow s (of_right ys) = RightBelow order (take (length ys) (op.right s)) (op.left s)
  IsBelow s (of_both x y) = ⊥

  -- the state is left at two trees that are equal
  abbrev pub IsLeft : M → Run A B → M → Type 0
  IsLeft s (of_left xs) t = ⊥
  IsLeft s (of_right ys) t = ⊥
  IsLeft s (of_both x y) t = (t ≡ s) × HeadsCompare order (op.left s) (op.right s) Equal

  -- an operation that goes on behind runs of one list alone, and is stopped at a pair
  pub record Passes : Type 0 where
    pub goes_on : (s t : M) (run : Run A B) → IsAllowed op s run (Ok true) t → IsBelow s run
    pub stops : (s t : M) (run : Run A B) → IsAllowed op s run (Ok false) t → IsLeft s run t

  module _ (passes : Passes) where
    steps-passed : (s t : M) (runs : List (Run A B)) → Steps op s runs t
        → ArePassed order runs (op.left s) (op.right s) (op.left t) (op.right t)
    steps-passed s t [] e = (ap op.left e, ap op.right e)
    steps-passed s t (of_left xs ∷ runs) p =
        let f = p.1.front in
        let b = passes.goes_on s p.0 (of_left xs) p.1.allowed in
        (op.left p.0, f.1, rw (f.1, take-append_seam xs (op.left p.0)) at b, rw f.2 (steps-passed p.0 t runs p.2))
    steps-passed s t (of_right ys ∷ runs) p =
        let f = p.1.front in
        let b = passes.goes_on s p.0 (of_right ys) p.1.allowed in
        (op.right p.0, f.2, rw (f.2, take-append_seam ys (op.right p.0)) at b, rw f.1 (steps-passed p.0 t runs p.2))
    steps-passed s t (of_both x y ∷ runs) p = absurd (passes.goes_on s p.0 (of_both x y) p.1.allowed)

    -- at the end of both lists, or at two that are equal, and P of what is behind these
    abbrev pub StopsAt : (List A → List B → Type 0) → List A → List B → Type 0
    StopsAt P [] [] = Unit {0}
    StopsAt P [] (y ∷ rs) = ⊥
    StopsAt P (x ∷ ls) [] = ⊥
    StopsAt P (x ∷ ls) (y ∷ rs) = (order (inl x) (inr y) ≡ Equal) × P ls rs

    pub record HasStopped (P : List A → List B → Type 0) (s t : M) : Type 0 where
      pub runs : List (Run A B)
      pub steps : Steps op s runs t
      pub passed : ArePassed order runs (op.left s) (op.right s) (op.left t) (op.right t)
      pub stands : StopsAt P (op.left t) (op.right t)

    stopped-by : (P : List A → List B → Type 0) (s t u : M) (runs : List (Run A B)) (run : Run A B) (ls : List A)
        (rs : List B) → Steps op s runs u → IsAtFront (op.left u) (op.right u) run ls rs → IsLeft u run t
        → BehindPair P run ls rs → HasStopped P s t
    stopped-by P s t u runs (of_both x y) ls rs h f a b =
        rw a.0 (record { runs = runs; steps = h; passed = steps-passed s u runs h; stands = grind (arith, f.0, f.1, a.1, b) })
    stopped-by P s t u runs run ls rs h f a b = absurd a

    none-behind : {X : Type 0} (xs ls : List X) → xs ≡ xs ++ ls → ls ≡ []
    none-behind xs ls e = sym (append_cancel_left xs [] ls (append-nil xs ∙ e))

    pub stopped : (P : List A → List B → Type 0) (s t : M) → IsMergedBefore op order P s (Ok tt) t → HasStopped P s t
    stopped P s t (inl f) =
        let p = steps-passed s t f.runs f.steps in
        let k = passed-lists order f.runs _ _ _ _ p in
        let l = none-behind (op.left s) (op.left t) (rw f.script.left at k.0) in
        let r = none-behind (op.right s) (op.right t) (rw f.script.right at k.1) in
        record { runs = f.runs; steps = f.steps; passed = p; stands = rw (l, r) tt }
    stopped P s t (inr w) =
        let z = w.stops in
        stopped-by P s t z.before z.runs z.last z.left_after z.right_after z.steps z.front
        (passes.stops z.before t z.last z.allowed) w.behind

    pub front-long : (xs ls ks : List A) → ks ≡ xs ++ ls
        → (length ks - length ls ≤ length ks) × (drop (length ks - length ls) ks ≡ ls)
    front-long xs ls ks e = grind (arith, length-append, drop-append_seam xs ls)

    pub stands-at : (P : List A → List B → Type 0) (found : Option B) (ls : List A) (rs rest : List B) → rs ≡ cons_option found rest
        → (found ≡ None → rest ≡ []) → StopsAt P ls rs → StandsAt order found ls rest
    stands-at P found ls rs rest e n h = grind arith

    -- the next two trees that begin alike, where it has stopped
    abbrev pub stopped-next : (P : List A → List B → Type 0) (s t : M) (h : HasStopped P s t) (found : Option B)
        (rest : List B) → op.right t ≡ cons_option found rest → (found ≡ None → rest ≡ [])
        → IsNextPair order (op.left s) (op.right s) (length (op.left s) - length (op.left t)) found rest
    stopped-next P s t h found rest e n =
        let k = front-long (lefts (events h.runs)) (op.left t) (op.left s) (passed-lists order h.runs _ _ _ _ h.passed).0 in
        record {
          within = k.0;
          runs = h.runs;
          passed = rw (k.1, ← e) h.passed;
          stands = rw k.1 (stands-at P found (op.left t) (op.right t) rest e n h.stands);
        }

    pub stopped-fewer : (P : List A → List B → Type 0) (s t : M) → HasStopped P s t → length (op.left t) ≤ length (op.left s)
    stopped-fewer P s t h = grind (arith, passed-lists order h.runs _ _ _ _ h.passed, length-append)

    behind : (P : List A → List B → Type 0) (ls : List A) (rs rest : List B) (y : B) → rs ≡ y ∷ rest → StopsAt P ls rs
        → (ls' : List A) × P ls' rest × (length ls ≡ length ls' + 1)
    behind P [] rs rest y e h = absurd (rw e at h)
    behind P (x ∷ ls) rs rest y e h = (ls, (rw e at h).1, omega arith)

    -- and P of what is behind the pair
    pub stopped-behind : (P : List A → List B → Type 0) (s t : M) → HasStopped P s t → (y : B) (rest : List B)
        → op.right t ≡ y ∷ rest
        → (ls : List A) × P ls rest × (length (op.left s) - (length (op.left s) - length (op.left t)) - 1 ≡ length ls)
    stopped-behind P s t h y rest e =
        let b = behind P (op.left t) (op.right t) rest y e h.stands in
        (b.0, b.1, omega (arith, stopped-fewer P s t h, b.2))

-- where no right tree is left, the left ones are passed
module _ {A B : Type 0} (order : A ⊎ B → A ⊎ B → Ordering) (ls : List A) where
  pub end-stands : (found : Option B) (rest : List B) → [] ≡ cons_option found rest → (found ≡ None → rest ≡ [])
      → StandsAt order found [] rest
  end-stands found rest e n = grind arith

  abbrev pub end-next : (rs : List B) (found : Option B) (rest : List B) → rs ≡ [] → rs ≡ cons_option found rest
      → (found ≡ None → rest ≡ []) → IsNextPair order ls rs (length ls) found rest
  end-next rs found rest r e n =
      let all : drop (length ls) ls ≡ [] = drop_of_length-le ls (omega arith) in
      record {
        within = omega arith;
        runs = of_left ls ∷ [];
        passed = ([], sym (append-nil ls), rw r (left_below-nil order ls), (sym all, e));
        stands = rw all (end-stands found rest (rw r at e) n);
      }

-- one that does nothing else, and is never refused
module _ {M A B : Type 0} (left : M → List A) (right : M → List B) (order : A ⊎ B → A ⊎ B → Ordering) where
  abbrev pub only_passes : Allows M A B
  only_passes = allows left right (record {
    from_a = λ s n answer t. (answer ≡ Ok true) × LeftBelow order (take n (left s)) (right s);
    from_b = λ s n answer t. (answer ≡ Ok true) × RightBelow order (take n (right s)) (left s);
    collision = λ s answer t. (answer ≡ Ok false) × (t ≡ s) × HeadsCompare order (left s) (right s) Equal;
  })

  pub passes : Passes order only_passes
  passes = record { goes_on = λ s t run a. grind arith; stops = λ s t run a. grind arith }

  pub only-stopped : (P : List A → List B → Type 0) (s t : M) (r : Result (Unit {0}) AllocError)
      → IsMergedBefore only_passes order P s r t → HasStopped order only_passes passes P s t
  only-stopped P s t (Ok u) m = stopped order only_passes passes P s t m
  only-stopped P s t (Err e) w = absurd (refused w.stops.last w.stops.allowed)
    where
      refused : (run : Run A B) → IsAllowed only_passes w.stops.before run (Err e) t → ⊥
      refused run a = grind arith

-- ---- a search for the only tree of the right side

-- the component that is read at a place
pub component-at : {K : Type 0} (whole p : List K) (i : ℕ) (c : K) → whole ≡ p → i < length p → c ≡ get_or whole i c
    → slice_get p i ≡ Some c
component-at whole p i c e h r = slice_get_read p _ i c refl h (rw e at r)

-- trees that go on are longer than the place
pub all-within : {K W B : Type 0} (cmp : K → K → Ordering) → IsTotalOrder cmp → (tb : B → Tree K W) (j : ℕ) (ys : List B)
    → AreChildren cmp (shortened_in tb j ys) → AllByRecursion (λ y. j < length (tb y).prefix) ys
all-within cmp o tb j [] a = tt
all-within cmp o tb j (y ∷ ys) a =
    let f = children-first cmp o j (tb y).prefix a in
    let r = f.before f.place (tied_itself o f.place) in
    (slice_get_within (tb y).prefix j f.place f.at, all-within cmp o tb j ys r.children)

-- a tree that goes on is longer than the place
pub one-within : {K W B : Type 0} (cmp : K → K → Ordering) → IsTotalOrder cmp → (tb : B → Tree K W) (j : ℕ) (y : B)
    → AreChildren cmp (shortened_in tb j (y ∷ [])) → j < length (tb y).prefix
one-within cmp o tb j y a = (all-within cmp o tb j (y ∷ []) a).0

module _ {K V W A B : Type 0} (cmp : K → K → Ordering) (o : IsTotalOrder cmp) (ta : A → Tree K V) (tb : B → Tree K W) (j : ℕ)
    (y : B) (c : K) (e : slice_get (tb y).prefix j ≡ Some c) where
  -- how the trees stand to each other
  by-side : (x : A) → by_component ta tb 0 j cmp (inl x) (inr y) ≡ side_at cmp ta 0 c x
  by-side x = grind arith

  pub all-below : (xs : List A) → AllByRecursion (λ x. side_at cmp ta 0 c x ≡ Less) xs
      → LeftBelow (by_component ta tb 0 j cmp) xs (y ∷ [])
  all-below xs a = each-weaker _ _ (λ x h. (by-side x ∙ h, tt)) xs a

  pub each-above : (xs : List A) → AllByRecursion (λ x. side_at cmp ta 0 c x ≡ Greater) xs
      → AllByRecursion (λ x. by_component ta tb 0 j cmp (inr y) (inl x) ≡ Less) xs
  each-above xs a =
      each-weaker _ _ (λ x h. grind (arith, (by_component_total ta tb 0 j o).antisymm (inr y) (inl x), by-side x)) xs a

  pub heads : (xs : List A) (i : ℕ) → i < length xs → HoldsAt (λ x. side_at cmp ta 0 c x ≡ Equal) xs i
      → HeadsCompare (by_component ta tb 0 j cmp) (drop i xs) (y ∷ []) Equal
  heads [] i h s = absurd (omega (arith, h))
  heads (x ∷ xs) zero h s = by-side x ∙ s x
  heads (x ∷ xs) (suc i) h s = heads xs i (omega (arith, h)) s

  -- it is found
  abbrev pub place-next : (xs : List A) (i : ℕ) → IsFound (side_at cmp ta 0 c) xs i
      → IsNextPair (by_component ta tb 0 j cmp) xs (y ∷ []) i (Some y) []
  place-next xs i f = record {
    within = let h = f.within in omega (arith, h);
    runs = of_left (take i xs) ∷ [];
    passed = (drop i xs, sym (take-append-drop i xs), all-below (take i xs) f.less, (refl, refl));
    stands = heads xs i f.within f.equal;
  }

  -- or it is passed between two runs of the left list
  abbrev pub gap-next : (xs : List A) (i : ℕ) → IsGap (side_at cmp ta 0 c) xs i
      → IsNextPair (by_component ta tb 0 j cmp) xs (y ∷ []) (length xs) None []
  gap-next xs i f =
      let none : drop (length xs) xs ≡ [] = drop_of_length-le xs (omega arith) in
      record {
        within = omega arith;
        runs = of_left (take i xs) ∷ of_right (y ∷ []) ∷ of_left (drop i xs) ∷ [];
        passed = (
          drop i xs,
          sym (take-append-drop i xs),
          all-below (take i xs) f.less,
          (
            [],
            refl,
            (each-above (drop i xs) f.greater, tt),
            ([], sym (append-nil (drop i xs)), left_below-nil (by_component ta tb 0 j cmp) (drop i xs), (sym none, refl)),
          ),
        );
        stands = (none, refl);
      }

-- ---- a child that is searched for

-- the parts of a list around one element
pub found-parts : {X : Type 0} (xs : List X) (i : ℕ) (x : X) → i < length xs → x ≡ get_or xs i x → (before after : List X)
    → before ≡ take i xs → after ≡ drop (i + 1) xs → xs ≡ before ++ (x ∷ after)
found-parts xs i x h e before after b a = grind (arith, first-at xs i x h e, take-append-drop i xs)

-- what holds of all holds of the first ones, and of a slice to the end
pub all-take : {X : Type 0} (P : X → Type 0) (n : ℕ) (xs : List X) → AllByRecursion P xs → AllByRecursion P (take n xs)
all-take P (suc n) (x ∷ xs) a = (a.0, all-take P n xs a.1)
all-take P n xs a = grind arith

all-drop : {X : Type 0} (P : X → Type 0) (n : ℕ) (xs : List X) → AllByRecursion P xs → AllByRecursion P (drop n xs)
all-drop P (suc n) (x ∷ xs) a = all-drop P n xs a.1
all-drop P n xs a = grind arith

pub all-rest : {X : Type 0} (P : X → Type 0) (n : ℕ) (xs : List X) → AllByRecursion P xs
    → AllByRecursion P (take (length xs - n) (drop n xs))
all-rest P n xs a = rw (take_rest xs n) (all-drop P n xs a)
