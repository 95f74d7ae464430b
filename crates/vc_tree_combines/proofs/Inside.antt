-- A tree that continues after a place, with the children of the other node.
--     begun        none is done yet
--     inside-begun, within-begun        the trees before the one that begins as the tree continues, and that one is next, then
--     inside-ended, within-ended        the others, and all is made
--     next-left_within, next-right_within, next-agree        the next trees go on
--     IsPaid, around-paid        what was compared is paid by the trees
use Rattle.std.proofs.Common.{◌≡◌, ◌+◌, ◌*◌, ◌^◌, ◌≤◌, ◌<◌, ◌-◌, ℕ, zero, suc, [], ◌∷◌, ◌++◌, List, Option, None, Some, refl}
use Rattle.std.proofs.Common.{length, length-append, get_or, slice_get, drop, arith, ap, append-nil, append_assoc}
use Rattle.std.proofs.Math.Seq.{drop-append_seam}
use Rattle.std.proofs.lemmas.Nat.{pow_pos}
use Rattle.std.specs.Cmp.{IsTotalOrder}
use Rattle.std.specs.List.{cons_option}
use Rattle.std.specs.Option.{option_to_list}
use Rattle.std.specs.Ordering.{ordering_reverse}
use Rattle.std.specs.Prelude.{IfSome}
use Rattle.std.specs.declared.cmp.Ordering.{Ordering}
use Rattle.vc_merge.specs.Count.{digits}
use Rattle.vc_merge.proofs.Digits.{digits-least}
use Rattle.vc_merge.proofs.ListLemmas.{each-weaker}
use Rattle.vc_tree_model.specs.Canonical.{AreChildren, IsCanonical}
use Rattle.vc_tree_model.specs.Look.{values}
use Rattle.vc_tree_model.specs.Shortened.{forest_weight}
use Rattle.vc_tree_model.specs.Tree.{Tree, forest, forest_nodes}
use Rattle.vc_tree_nodes.specs.Children.{seen}
use Rattle.vc_tree_nodes.specs.Parting.{Agree}
use Rattle.vc_tree_facing.specs.Doing.{IsDoing, IsSaidIn, AreNext}
use Rattle.vc_tree_facing.specs.Facing.{shortened_in}
use Rattle.vc_tree_facing.specs.Seeking.{side_at, Stops}
use Rattle.vc_tree_facing.specs.Sides.{by_component, lower_side, side_next}
use Rattle.vc_tree_facing.proofs.Leaving.{inner-list}
use Rattle.vc_tree_facing.proofs.Next.{doing-start, all-done, left_within, right_within, both-agree}
use Rattle.vc_tree_facing.proofs.Next.{left-next, right-next, both-next}
use Rattle.vc_tree_facing.proofs.Opening.{few-below}
use Rattle.vc_tree_combines.specs.Making.{MayAddLefts, MayAddRights, AreLeftAdded, AreRightAdded, AreMadeOf, IsAround}
use Rattle.vc_tree_combines.proofs.Runs.{left-alone, right-alone, lefts, rights}
use Rattle.vc_tree_combines.proofs.Testing.{found_in}

-- none is done yet
pub begun : {K V W U A B : Type 0} (cmp : K → K → Ordering) (ta : A → Tree K V) (tb : B → Tree K W) (i j : ℕ) (xs : List A)
    (ys : List B) (R : Option V → Option W → Option U → Type 0) (asks : Option V → Option W → Type 0) {made : List (Tree K U)}
    → IsTotalOrder cmp → asks None None → AreChildren cmp (shortened_in ta i xs) → AreChildren cmp (shortened_in tb j ys)
    → IsSaidIn cmp ta tb i j (values cmp) asks xs ys → made ≡ []
    → IsDoing cmp ta tb i j (values cmp) R asks xs ys xs ys made
begun cmp ta tb i j xs ys R asks o none left right asked e = doing-start o none left right asked e

-- ---- a left tree beside right ones

module _ {K V W U A B : Type 0} {cmp : K → K → Ordering} (o : IsTotalOrder cmp) (ta : A → Tree K V) (tb : B → Tree K W) (i : ℕ)
    (a : A) (R : Option V → Option W → Option U → Type 0) (asks : Option V → Option W → Type 0) where
  inside-side : (c : K) → slice_get (ta a).prefix i ≡ Some c → (y : B) {r : Ordering} → side_at cmp tb 0 c y ≡ r
      → side_next (by_component ta tb i 0 cmp) (Some a) (Some y) ≡ Some (lower_side r)
  inside-side c e y h = grind arith

  inside-next : (c : K) → slice_get (ta a).prefix i ≡ Some c → (found : Option B) (rs : List B) {xs : List A} {ys : List B}
      {made : List (Tree K U)} → Stops cmp tb 0 c found rs
      → IsDoing cmp ta tb i 0 (values cmp) R asks xs ys (a ∷ []) (cons_option found rs) made
      → AreNext cmp ta tb i 0 (values cmp) R asks xs ys (Some a) found [] rs made
  inside-next c e None [] s d = left-next d refl refl
  inside-next c e None (y ∷ rs) s d = left-next d (inside-side c e y s) refl
  inside-next c e (Some y) rs s d = both-next d (inside-side c e y s) refl refl

  -- the trees before the one that begins as it continues may be added, and then that one is next
  pub inside-begun : asks None None → {whole : List K} → whole ≡ (ta a).prefix → i < length (ta a).prefix → {c : K}
      → c ≡ get_or whole i c → IsCanonical cmp (ta a) → {ys : List B} → AreChildren cmp (seen tb ys)
      → IsSaidIn cmp ta tb i 0 (values cmp) asks (a ∷ []) ys → {made : List (Tree K U)} → made ≡ []
      → {before : List B} {found : Option B} {after : List B} → IsAround cmp tb c ys before found after
      → MayAddRights cmp asks tb before × ((made' : List (Tree K U)) → AreRightAdded cmp R tb before made made'
      → AreNext cmp ta tb i 0 (values cmp) R asks (a ∷ []) ys (Some a) found [] after made')
  inside-begun none {whole} w h {c} is ca {ys} right asked {made} m {before} {found} {after} r =
      let e = found_in whole (ta a).prefix i c w (rw w h) is in
      let d : IsDoing cmp ta tb i 0 (values cmp) R asks (a ∷ []) ys (a ∷ []) (before ++ cons_option found after) made =
      rw (← r.is) (doing-start o none (inner-list cmp ta a i ca h) right asked m) in
      let p = rights before d (each-weaker _ _ (λ y k. inside-side c e y k) before r.lower) in
      (p.0, λ made' k. inside-next c e found after r.stops (p.1 made' k))

-- the trees that are left may be added, and then all is made
pub inside-ended : {K V W U A B : Type 0} {cmp : K → K → Ordering} {ta : A → Tree K V} {tb : B → Tree K W} {i : ℕ}
    {R : Option V → Option W → Option U → Type 0} {asks : Option V → Option W → Type 0} {xs : List A} {ys after : List B}
    {made : List (Tree K U)} → IsDoing cmp ta tb i 0 (values cmp) R asks xs ys [] after made
    → MayAddRights cmp asks tb after × ((made' : List (Tree K U)) → AreRightAdded cmp R tb after made made' → R None None None
    → AreMadeOf cmp R (shortened_in ta i xs) (shortened_in tb 0 ys) (forest made'))
inside-ended {cmp = cmp} {ta} {tb} {i} {after = after} d =
    let p = rights after (rw (← append-nil after) at d) (right-alone (by_component ta tb i 0 cmp) after) in
    (p.0, λ made' k none. all-done (p.1 made' k) refl none)

-- ---- a right tree beside left ones

module _ {K V W U A B : Type 0} {cmp : K → K → Ordering} (o : IsTotalOrder cmp) (ta : A → Tree K V) (tb : B → Tree K W) (j : ℕ)
    (b : B) (R : Option V → Option W → Option U → Type 0) (asks : Option V → Option W → Type 0) where
  within-side : (c : K) → slice_get (tb b).prefix j ≡ Some c → (x : A) {r : Ordering} → side_at cmp ta 0 c x ≡ r
      → side_next (by_component ta tb 0 j cmp) (Some x) (Some b) ≡ Some (lower_side (ordering_reverse r))
  within-side c e x h = grind (arith, o.antisymm c)

  within-next : (c : K) → slice_get (tb b).prefix j ≡ Some c → (found : Option A) (ls : List A) {xs : List A} {ys : List B}
      {made : List (Tree K U)} → Stops cmp ta 0 c found ls
      → IsDoing cmp ta tb 0 j (values cmp) R asks xs ys (cons_option found ls) (b ∷ []) made
      → AreNext cmp ta tb 0 j (values cmp) R asks xs ys found (Some b) ls [] made
  within-next c e None [] s d = right-next d refl refl
  within-next c e None (x ∷ ls) s d = right-next d (within-side c e x s) refl
  within-next c e (Some x) ls s d = both-next d (within-side c e x s) refl refl

  -- the trees before the one that begins as it continues may be added, and then that one is next
  pub within-begun : asks None None → {whole : List K} → whole ≡ (tb b).prefix → j < length (tb b).prefix → {c : K}
      → c ≡ get_or whole j c → IsCanonical cmp (tb b) → {xs : List A} → AreChildren cmp (seen ta xs)
      → IsSaidIn cmp ta tb 0 j (values cmp) asks xs (b ∷ []) → {made : List (Tree K U)} → made ≡ []
      → {before : List A} {found : Option A} {after : List A} → IsAround cmp ta c xs before found after
      → MayAddLefts cmp asks ta before × ((made' : List (Tree K U)) → AreLeftAdded cmp R ta before made made'
      → AreNext cmp ta tb 0 j (values cmp) R asks xs (b ∷ []) found (Some b) after [] made')
  within-begun none {whole} w h {c} is cb {xs} left asked {made} m {before} {found} {after} r =
      let e = found_in whole (tb b).prefix j c w (rw w h) is in
      let d : IsDoing cmp ta tb 0 j (values cmp) R asks xs (b ∷ []) (before ++ cons_option found after) (b ∷ []) made =
      rw (← r.is) (doing-start o none left (inner-list cmp tb b j cb h) asked m) in
      let p = lefts before d (each-weaker _ _ (λ x k. within-side c e x k) before r.lower) in
      (p.0, λ made' k. within-next c e found after r.stops (p.1 made' k))

-- the trees that are left may be added, and then all is made
pub within-ended : {K V W U A B : Type 0} {cmp : K → K → Ordering} {ta : A → Tree K V} {tb : B → Tree K W} {j : ℕ}
    {R : Option V → Option W → Option U → Type 0} {asks : Option V → Option W → Type 0} {xs : List A} {ys : List B}
    {after : List A} {made : List (Tree K U)} → IsDoing cmp ta tb 0 j (values cmp) R asks xs ys after [] made
    → MayAddLefts cmp asks ta after × ((made' : List (Tree K U)) → AreLeftAdded cmp R ta after made made' → R None None None
    → AreMadeOf cmp R (shortened_in ta 0 xs) (shortened_in tb j ys) (forest made'))
within-ended {cmp = cmp} {ta} {tb} {j} {after = after} d =
    let p = lefts after (rw (← append-nil after) at d) (left-alone (by_component ta tb 0 j cmp) after) in
    (p.0, λ made' k none. all-done (p.1 made' k) refl none)

-- ---- the next trees

module _ {K V W U A B : Type 0} {cmp : K → K → Ordering} {ta : A → Tree K V} {tb : B → Tree K W} {i j : ℕ}
    {R : Option V → Option W → Option U → Type 0} {asks : Option V → Option W → Type 0} {xs : List A} {ys : List B} {ls : List A}
    {rs : List B} {made : List (Tree K U)} where
  -- they go on, and where both sides have one these agree
  pub next-left_within : {a : Option A} {b : Option B} → AreNext cmp ta tb i j (values cmp) R asks xs ys a b ls rs made
      → IfSome a (λ x. i < length (ta x).prefix)
  next-left_within {a = None} n = tt
  next-left_within {a = Some x} n = left_within n.doing refl

  pub next-right_within : {a : Option A} {b : Option B} → AreNext cmp ta tb i j (values cmp) R asks xs ys a b ls rs made
      → IfSome b (λ y. j < length (tb y).prefix)
  next-right_within {b = None} n = tt
  next-right_within {b = Some y} n = right_within n.doing refl

  pub next-agree : {a : Option A} {b : Option B} → AreNext cmp ta tb i j (values cmp) R asks xs ys a b ls rs made
      → IfSome a (λ x. IfSome b (λ y. Agree cmp (drop i (ta x).prefix) (drop j (tb y).prefix) 1))
  next-agree {a = None} n = tt
  next-agree {a = Some x} {b = None} n = tt
  next-agree {a = Some x} {b = Some y} n = both-agree n

-- ---- what was compared

below-power : (n : ℕ) → n < 2 ^ n
below-power zero = pow_pos 0
below-power (suc n) = grind (arith, below-power n)

drop-last : {X : Type 0} (zs ys ts : List X) → ts ≡ zs ++ ys → drop (length ts - length ys) ts ≡ ys
drop-last zs ys ts e =
    let n : length ts - length ys ≡ length zs = omega (arith, ap length e, length-append zs ys) in
    rw (n, e) (drop-append_seam zs ys)

module _ {T K V : Type 0} (tree : T → Tree K V) where
  -- the trees after the one that is found are the last ones; a search is paid by all, and so is what is compared of the tree
  -- that is found, which has no more nodes
  pub record IsPaid (ts : List T) (found : Option T) (after : List T) : Type 0 where
    pub rest : drop (length ts - length after) ts ≡ after
    pub few : length after ≤ length ts
    pub searched : digits (length ts) ≤ 3 * forest_weight (seen tree ts)
    pub paid : digits (length ts) + 3 * forest_weight (shortened_in tree 0 (option_to_list found))
        ≤ 3 * forest_weight (seen tree ts) + length (option_to_list found)
    pub fewer : forest_nodes (seen tree (option_to_list found)) ≤ forest_nodes (seen tree ts)

  sums : (before after : List T)
      → (forest_weight (seen tree (before ++ after)) ≡ forest_weight (seen tree before) + forest_weight (seen tree after))
      × (forest_nodes (seen tree (before ++ after)) ≡ forest_nodes (seen tree before) + forest_nodes (seen tree after))
  sums [] after = (omega arith, omega arith)
  sums (t ∷ ts) after = grind (arith, sums ts after)

  pub around-paid : {cmp : K → K → Ordering} {c : K} {ts before : List T} {found : Option T} {after : List T}
      → IsAround cmp tree c ts before found after → IsPaid ts found after
  around-paid {ts = ts} {before} {found} {after} r =
      let l = length-append before (cons_option found after) in
      let w = sums before (cons_option found after) in
      let d = digits-least (length ts) (length ts) (below-power (length ts)) in
      let all = few-below tree 0 ts in
      let one = few-below tree 0 before in
      let two = few-below tree 0 after in
      record {
        rest = drop-last (before ++ option_to_list found) after ts (grind (arith, r.is, append_assoc));
        few = grind (arith, r.is, l);
        searched = omega (arith, d, all);
        paid = grind (arith, r.is, l, w, d, one, two);
        fewer = grind (arith, r.is, w);
      }
