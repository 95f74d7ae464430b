-- The trees of a list that is changed in place, run by run and pair by pair.
--     first-above        a right tree that is below the left list is the next one
--     lefts-done, runs-done        trees that one list alone has are done
--     pair-end, woven-end        no others are left
--     pair-within, pair-next        or the next two begin alike
--     pair-done        they are done
use Rattle.std.proofs.Common.{◌≡◌, ℕ, ◌+◌, ◌<◌, ◌≤◌, [], ◌∷◌, ◌++◌, List, Option, None, Some, Bool, cond, refl, sym}
use Rattle.std.proofs.Common.{ap, ◌∙◌, ◌⊎◌, inl, inr, map, take, drop, length, slice_get, append_assoc, append-nil}
use Rattle.std.proofs.Common.{arith, get_or, length-drop, length-append}
use Rattle.std.proofs.lemmas.List.{append_cancel_right, take-append-drop, drop-drop, map-append}
use Rattle.std.specs.Cmp.{IsTotalOrder}
use Rattle.std.specs.List.{AllByRecursion, cons_option}
use Rattle.std.specs.Prelude.{MatchBool}
use Rattle.std.specs.declared.cmp.Ordering.{Ordering}
use Rattle.std.specs.declared.cmp.Ordering.TheVariants.{Less, Equal}
use Rattle.vc_merge.specs.Chain.{Run, of_left, of_right, of_both, events}
use Rattle.vc_merge.specs.Fronts.{LeftBelow, RightBelow}
use Rattle.vc_merge.specs.Script.{lefts}
use Rattle.vc_tree_model.specs.Canonical.{AreChildren, IsWhole}
use Rattle.vc_tree_model.specs.Look.{Look}
use Rattle.vc_tree_model.specs.Places.{IsCombinedIn}
use Rattle.vc_tree_model.specs.Tree.{Tree, Forest, forest, grow, shortened}
use Rattle.vc_tree_model.specs.Value.{IsKept}
use Rattle.vc_tree_nodes.specs.Children.{seen}
use Rattle.vc_tree_facing.specs.Doing.{IsDoing, AreNext}
use Rattle.vc_tree_facing.specs.Facing.{shortened_in}
use Rattle.vc_tree_facing.specs.Lessening.{left_of}
use Rattle.vc_tree_facing.specs.Made.{IsMadeOf}
use Rattle.vc_tree_facing.specs.Sides.{by_component, by_component_total, side_next}
use Rattle.vc_tree_facing.specs.declared.sides.EventSide.TheVariants.{Left, Right, Both}
use Rattle.vc_merge.proofs.Runs.{heads-left}
use Rattle.vc_tree_facing.proofs.Advancing.{passed}
use Rattle.vc_tree_facing.proofs.Next.{done, all-done as doing-done, left_within, left-next, both-next, made-left}
use Rattle.vc_tree_edits.specs.Pairs.{ArePassed, IsNextPair}
use Rattle.vc_tree_edits.proofs.Passing.{passed-lists, run-left, run-right}
use Rattle.vc_tree_edits.proofs.Weaving.{within-more, woven-run}
use Rattle.vc_tree_edits.specs.declared.comers.Comer.{Comer}
use Rattle.vc_tree_edits.specs.Taken.{IsCombinedBelow}
use Rattle.vc_tree_edits.specs.Woven.{woven, AreWithin}
use Rattle.vc_tree_edits.specs.Kids.{IsSetAt}
use Rattle.vc_tree_edits.proofs.Placed.{alone-made, first-at}

-- the first of canonical children is canonical
head-canonical : {K V : Type 0} (cmp : K → K → Ordering) (p : List K) (v : Option V) (kids rest : Forest K V)
    → AreChildren cmp (grow p v kids rest) → IsWhole p v kids × AreChildren cmp kids
head-canonical cmp [] v kids rest a = absurd a
head-canonical cmp (x ∷ p) v kids rest a = (a.0, a.1)

module _ {A B : Type 0} (order : A ⊎ B → A ⊎ B → Ordering) (total : IsTotalOrder order) where
  -- a tree that is below the other list is the next one
  first-below : (x : A) (rs : List B) → AllByRecursion (λ y. order (inl x) (inr y) ≡ Less) rs
      → side_next order (Some x) (slice_get rs 0) ≡ Some Left
  first-below x [] h = refl
  first-below x (y ∷ rs) h = rw (total.antisymm (inr y) (inl x), h.0) refl

  pub first-above : (y : B) (ls : List A) → AllByRecursion (λ x. order (inr y) (inl x) ≡ Less) ls
      → side_next order (slice_get ls 0) (Some y) ≡ Some Right
  first-above y [] h = refl
  first-above y (x ∷ ls) h = rw h.0 refl

  both-first : (x : A) (y : B) → order (inl x) (inr y) ≡ Equal → side_next order (Some x) (Some y) ≡ Some Both
  both-first x y e = grind (arith, total.antisymm)

-- what was passed of a list is its front
pub passed-front : {A B : Type 0} {order : A ⊎ B → A ⊎ B → Ordering} {ls : List A} {rs : List B} {n : ℕ} {found : Option B}
    {rest : List B} (p : IsNextPair order ls rs n found rest) → lefts (events p.runs) ≡ take n ls
passed-front {order = order} {ls} {n = n} p =
    append_cancel_right _ _ (drop n ls) (sym ((passed-lists order p.runs _ _ _ _ p.passed).0) ∙ sym (take-append-drop n ls))

-- where a walk along a list stops
module _ {A B : Type 0} {order : A ⊎ B → A ⊎ B → Ordering} (ls : List A) (at : ℕ) {rs : List B} {n : ℕ} {found : Option B}
    {rest : List B} (p : IsNextPair order (drop at ls) rs n found rest) (ls' : List A) (same : drop (at + n) ls' ≡ drop (at + n) ls)
  where
    rest-same : drop n (drop at ls) ≡ drop (at + n) ls'
    rest-same = drop-drop n at ls ∙ sym same

    -- at two trees that begin alike
    pub pair-within : {y : B} → found ≡ Some y → at + n < length ls'
    pair-within {y} e =
        let h = rw (e, rest-same) at p.stands in
        let long = heads-left order (drop (at + n) ls') (y ∷ []) Equal h in
        omega (arith, long, length-drop (at + n) ls')

-- what stays of some, before what stays of others
stay-append : {X : Type 0} (b : Bool) (made xs ys : List X) → (made ++ cond b xs []) ++ cond b ys [] ≡ made ++ cond b (xs ++ ys) []
stay-append b made xs ys = grind (arith, append_assoc, append-nil)

one-stays : {K V : Type 0} (b : Bool) (t : Tree K V) → cons_option (left_of b 0 t) [] ≡ cond b (t ∷ []) []
one-stays b t = grind arith

kept-map : {A K V : Type 0} (ta : A → Tree K V) (b : Bool) (xs zs : List A)
    → map ta (xs ++ cond b zs []) ≡ map ta xs ++ cond b (map ta zs) []
kept-map ta b xs zs = grind (arith, map-append, append-nil)

module _ {K V W O A B : Type 0} {cmp : K → K → Ordering} {ta : A → Tree K V} {tb : B → Tree K W} {j : ℕ} {l : Look cmp W O}
    {R : Option V → O → Option V → Type 0} {asks : Option V → O → Type 0} {xs : List A} {ys : List B} where
  rights-done : (nothing : (o : O) → R None o None) (zs : List B) {ls : List A} {rs : List B} {made : List (Tree K V)}
      → IsDoing cmp ta tb 0 j l R asks xs ys ls (zs ++ rs) made → RightBelow (by_component ta tb 0 j cmp) zs ls → IsDoing cmp ta tb 0 j l R asks xs ys ls rs made
  rights-done nothing [] d h = d
  rights-done nothing (z ∷ zs) {ls} d h =
      rights-done nothing zs
      (passed nothing d
      (first-above (by_component ta tb 0 j cmp) (by_component_total ta tb 0 j d.total) z ls h.0)) h.1

  module _ (keeps : V → V → Type 0) (itself : (v : V) → keeps v v) (b : Bool)
      (alone : MatchBool b ((v z : Option V) → IsKept keeps v z → R v l.none z) ((v : Option V) → R v l.none None)) where
    pub lefts-done : (zs : List A) {ls : List A} {rs : List B} {made : List (Tree K V)} → IsDoing cmp ta tb 0 j l R asks xs ys (zs ++ ls) rs made
        → LeftBelow (by_component ta tb 0 j cmp) zs rs → IsDoing cmp ta tb 0 j l R asks xs ys ls rs (made ++ cond b (map ta zs) [])
    lefts-done [] {made = made} d h = let none : made ++ cond b [] [] ≡ made = grind (arith, append-nil) in rw none d
    lefts-done (z ∷ zs) {ls} {rs} {made} d h =
        let side = first-below (by_component ta tb 0 j cmp) (by_component_total ta tb 0 j d.total) z rs h.0 in
        let c = head-canonical cmp (ta z).prefix (ta z).value (ta z).children (shortened_in ta 0 (zs ++ ls)) d.left in
        let first =
        done (left-next d side refl) (ap (λ m. made ++ m) (sym (one-stays b (ta z))))
        (made-left (alone-made cmp d.total keeps itself R l.none (ta z) 0 c (left_within d refl) b alone)) in
        rw (← stay-append b made (ta z ∷ []) (map ta zs)) (lefts-done zs first h.1)

    all-done : ((o : O) → R None o None) → (runs : List (Run A B)) → {ls ls' : List A} {rs rs' : List B} {made : List (Tree K V)}
        → IsDoing cmp ta tb 0 j l R asks xs ys ls rs made → ArePassed (by_component ta tb 0 j cmp) runs ls rs ls' rs'
        → IsDoing cmp ta tb 0 j l R asks xs ys ls' rs' (made ++ cond b (map ta (lefts (events runs))) [])
    all-done f [] d p = rw (← p.0, ← p.1) (lefts-done [] d tt)
    all-done f (of_left zs ∷ runs) {made = made} d p =
        let rest = lefts (events runs) in
        rw ((run-left zs (events runs)).0, map-append ta zs rest, ← stay-append b made (map ta zs) (map ta rest))
        (all-done f runs (lefts-done zs (rw p.1 at d) p.2) p.3)
    all-done f (of_right zs ∷ runs) d p =
        rw ((run-right zs (events runs)).0) (all-done f runs (rights-done f zs (rw p.1 at d) p.2) p.3)
    all-done f (of_both x y ∷ runs) d p = absurd p

    -- the trees before the next pair are done
    pub runs-done : ((o : O) → R None o None) → (ls : List A) (at kept : ℕ) {rs : List B}
        → IsDoing cmp ta tb 0 j l R asks xs ys (drop at ls) rs (map ta (take kept ls)) → {n : ℕ} {found : Option B} {rest : List B}
        → (p : IsNextPair (by_component ta tb 0 j cmp) (drop at ls) rs n found rest) → (ls' : List A) (kept' : ℕ)
        → take kept' ls' ≡ take kept ls ++ cond b (take n (drop at ls)) [] → drop (at + n) ls' ≡ drop (at + n) ls
        → IsDoing cmp ta tb 0 j l R asks xs ys (drop (at + n) ls') (cons_option found rest) (map ta (take kept' ls'))
    runs-done f ls at kept d {n} p ls' kept' built same =
        rw (same, ← drop-drop n at ls, built, kept-map ta b (take kept ls) (take n (drop at ls)), ← passed-front p)
        (all-done f p.runs d p.passed)

  -- they are done, and no comer stands behind what stays
  pub pair-done : {ls : List A} {at kept : ℕ} {x : A} {y : B} {rs : List B} (cs : List (Comer A))
      → AreNext cmp ta tb 0 j l R asks xs ys (Some x) (Some y) (drop (at + 1) ls) rs (map ta (woven 0 (take kept ls) cs))
      → AreWithin (length (take kept ls)) cs → {new : A} (b : Bool)
      → IsMadeOf cmp l R (Some (shortened 0 (ta x))) (Some (shortened j (tb y))) (left_of b 0 (ta new)) → kept ≤ at
      → (ls' : List A) → IsSetAt ls at new ls' → (ls'' : List A) (kept' : ℕ)
      → take kept' ls'' ≡ take kept ls' ++ cond b (take 1 (drop at ls')) [] → drop (at + 1) ls'' ≡ drop (at + 1) ls'
      → IsDoing cmp ta tb 0 j l R asks xs ys (drop (at + 1) ls'') rs (map ta (woven 0 (take kept' ls'') cs))
      × AreWithin (length (take kept' ls'')) cs
  pair-done {ls} {at} {kept} cs n w {new} b m order ls' s ls'' kept' built same =
      let kept_is : take kept' ls'' ≡ take kept ls ++ cond b (new ∷ []) [] = grind (arith, built, s.front kept order, s.here) in
      let run = woven-run 0 (take kept ls) (cond b (new ∷ []) []) cs (length (take kept ls)) (omega arith) w in
      let more : length (take kept ls) ≤ length (take kept' ls'') = grind (arith, kept_is, length-append) in
      (rw (same, s.rest, kept_is, run) (done n (grind (arith, map-append)) m), within-more _ _ cs more w)

  -- where a walk along a list stops
  module _ (ls : List A) (at : ℕ) {rs : List B} {n : ℕ} {found : Option B} {rest : List B}
      (p : IsNextPair (by_component ta tb 0 j cmp) (drop at ls) rs n found rest) (ls' : List A)
      (same : drop (at + n) ls' ≡ drop (at + n) ls) where
    -- all are done
    pub pair-end : {made : List (Tree K V)} → found ≡ None → R None l.none None
        → IsDoing cmp ta tb 0 j l R asks xs ys (drop (at + n) ls') (cons_option found rest) made
        → AreChildren cmp (forest made) × IsCombinedIn cmp l R (shortened_in ta 0 xs) (shortened_in tb j ys) (forest made)
    pair-end e none d =
        let stands = rw e at p.stands in
        let left = sym (rest-same ls at p ls' same) ∙ stands.0 in
        doing-done (rw (e, left, stands.1) at d) refl none

    -- the same of the list into which comers were put
    pub woven-end : {zs stay all : List A} (cs : List (Comer A)) → found ≡ None → R None l.none None
        → IsDoing cmp ta tb 0 j l R asks xs ys (drop (at + n) ls') (cons_option found rest) (map ta (woven 0 stay cs))
        → zs ≡ stay → all ≡ woven 0 zs cs → IsCombinedBelow cmp l R (shortened_in ta 0 xs) (shortened_in tb j ys) (seen ta all)
    woven-end cs e none d k a = rw (a, k) (pair-end e none d)

    -- the next two trees begin alike
    pub pair-next : {made : List (Tree K V)} {y : B} → found ≡ Some y → IsDoing cmp ta tb 0 j l R asks xs ys (drop (at + n) ls') (cons_option found rest) made
        → (x : A) → x ≡ get_or ls' (at + n) x
        → AreNext cmp ta tb 0 j l R asks xs ys (Some x) (Some y) (drop (at + n + 1) ls') rest made
    pair-next {y = y} e done x is =
        let first = first-at ls' (at + n) x (pair-within ls at p ls' same e) is in
        let d = rw (e, first) at done in
        let h = rw (e, rest-same ls at p ls' same, first) at p.stands in
        both-next d (both-first (by_component ta tb 0 j cmp) (by_component_total ta tb 0 j d.total) x y h) refl refl
