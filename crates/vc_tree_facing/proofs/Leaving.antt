-- What is left of a tree to which nothing is added, by where its prefix and that of the other tree diverge.
--     value-may, below-may        what may be asked of the values at that place, and of what is below
--     node-lessened, inside-lessened        what is left of the tree, where its prefix has ended, and where it continues
use Rattle.std.proofs.Common.{◌≡◌, ℕ, ◌+◌, ◌<◌, ◌≤◌, Bool, cond, List, [], ◌∷◌, ◌++◌, Option, None}
use Rattle.std.proofs.Common.{length, length-drop, take, drop, arith, Result}
use Rattle.std.proofs.Math.ListN.{drop_of_length-le}
use Rattle.std.proofs.lemmas.List.{take-append-drop, drop-take, drop-drop, take_all, take-take}
use Rattle.std.specs.Prelude.{IfOk}
use Rattle.std.specs.declared.cmp.Ordering.{Ordering}
use Rattle.vc_tree_model.specs.Canonical.{AreChildren, IsCanonical}
use Rattle.vc_tree_model.specs.Child.{solid_child, value_at, children_at}
use Rattle.vc_tree_model.specs.Look.{Look}
use Rattle.vc_tree_model.specs.Map.{lookup, lookup_in}
use Rattle.vc_tree_model.specs.Tree.{Tree, Forest, bare, shortened, nodes, forest_nodes}
use Rattle.vc_tree_facing.specs.Facing.{shortened_in, IsOpened, IsSplit}
use Rattle.vc_tree_facing.specs.Lessening.{alone, IsBehind, IsLessenedUnder, IsLessened, IsInside}
use Rattle.vc_tree_facing.specs.Lessening.{IsNodeLeft}
use Rattle.vc_tree_facing.specs.Made.{IsBothMadeBy}
use Rattle.vc_tree_facing.proofs.Ending.{below-children, front-asked, made-front}
use Rattle.vc_tree_facing.proofs.Opening.{opened-rest}

pub if-ok : {X E : Type 0} {P Q : X → Type 0} (r : Result X E) → ((x : X) → P x → Q x) → IfOk r P → IfOk r Q
if-ok r f a = grind arith

-- what is left behind a shorter front
longer-rest : {K : Type 0} (i n : ℕ) (p q : List K) → take (i + n) q ≡ take (i + n) p
    → take n (drop i p) ++ drop (i + n) q ≡ drop i q
longer-rest i n p q e =
    rw (← drop-take i n p, ← e, drop-take i n q, ← drop-drop n i q) (take-append-drop n (drop i q))

-- ---- what stands behind a place of a prefix

module _ {K V : Type 0} (i n : ℕ) (t : Tree K V) where
  -- where the prefix has ended, the node itself
  pub ended-node : length t.prefix ≤ i + n → IsBehind i n t t.value t.children
  ended-node long = grind (arith, length-drop, drop_of_length-le)

  -- and else what is left of the tree
  pub inner-node : i + n < length t.prefix → IsBehind i n t None (alone (i + n) t)
  inner-node within = grind (arith, length-drop (i + n) t.prefix, drop-drop n i t.prefix)

  -- the trees below the place
  pub opened-node : {v : Option V} → v ≡ value_at (shortened i t) (drop n (drop i t.prefix)) → {B : Type 0} {tb : B → Tree K V}
      {ys : List B} {from : ℕ} → IsOpened tb t (drop (i + n) t.prefix) ys from → IsBehind i n t v (shortened_in tb from ys)
  opened-node e h = grind (arith, drop-drop, children_at)

-- the list of a tree that goes on behind a place
pub inner-list : {K V T : Type 0} (cmp : K → K → Ordering) (tree : T → Tree K V) (x : T) (n : ℕ) → IsCanonical cmp (tree x)
    → n < length (tree x).prefix → AreChildren cmp (shortened_in tree n (x ∷ []))
inner-list cmp tree x n c within = below-children cmp n c (opened-rest tree x 0 n (omega arith) within)

-- they have no more nodes than the tree
pub below-fewer : {K V B : Type 0} {tb : B → Tree K V} {t : Tree K V} {r : List K} {ys : List B} {from : ℕ}
    → IsOpened tb t r ys from → forest_nodes (shortened_in tb from ys) ≤ nodes t
below-fewer h = grind arith

-- ---- what is left of both trees at the place where they part

module _ {K V W : Type 0} {cmp : K → K → Ordering} {t : Tree K V} {i : ℕ} {u : Tree K W} {j n : ℕ} (s : IsSplit cmp t i u j n)
  where
    module _ {O : Type 0} (l : Look cmp W O) (asks : Option V → O → Type 0)
        (a : (k : List K) → asks (lookup cmp (shortened i t) k) (l.of_tree (shortened j u) k)) where
      module _ {v : Option V} {f : Forest K V} (bt : IsBehind i n t v f) {w : Option W} {g : Forest K W} (bu : IsBehind j n u w g)
        where
          -- may be asked of the values there
          pub value-may : asks v (l.at w)
          value-may =
              rw (bt.value, bu.value) (front-asked s.total l (shortened i t) (shortened j u) n s.agree.same asks a [])

          -- and of what stands below
          pub below-may : (x : K) (q : List K) → asks (lookup_in cmp f (x ∷ q)) (l.under w (l.of_forest g (x ∷ q)))
          below-may x q =
              rw (bt.children, bu.value, bu.children)
              (front-asked s.total l (shortened i t) (shortened j u) n s.agree.same asks a (x ∷ q))

    module _ {O : Type 0} {l : Look cmp W O} {R : Option V → O → Option V → Type 0} {w : Option W} {g : Forest K W}
        (bu : IsBehind j n u w g) (none : R None l.none None) where
      -- the node of what is left of both
      at-front : {v : Option V} {f : Forest K V} → IsBehind i n t v f → (value : Option V) (kids : Forest K V)
          → R v (l.at w) value → IsLessenedUnder cmp l R w f g kids → AreChildren cmp kids
          → IsBothMadeBy cmp l R (shortened i t) (shortened j u) (solid_child (take n (drop i t.prefix)) value kids)
      at-front bt value kids root below c =
          made-front s.total l (shortened i t) (shortened j u) n s.agree.same R none s.parts value kids c
          (rw (bt.value, bu.value) at root) (rw (bt.children, bu.children, bu.value) at below)

      -- where the left prefix has ended
      pub node-lessened : {stays : Bool} {new : Tree K V} → IsNodeLeft cmp l R i t w g stays new → length t.prefix ≤ i + n
          → IsLessened cmp l R i t (shortened j u) stays new
      node-lessened h long =
          let m = at-front (ended-node i n t long) h.value h.kids h.said h.below h.children in
          grind (arith, length-drop i t.prefix, take_all n (drop i t.prefix), m)

      -- where it goes on
      pub inside-lessened : {stays : Bool} {new : Tree K V} → IsInside cmp l R (i + n) t w g stays new → i + n < length t.prefix
          → IsLessened cmp l R i t (shortened j u) stays new
      inside-lessened {stays} {new} h within =
          let m = at-front (inner-node i n t within) None (cond stays (alone (i + n) new) bare) h.said h.below h.children in
          grind (arith, longer-rest, take-take i (i + n) new.prefix, take-take i (i + n) t.prefix, m)
