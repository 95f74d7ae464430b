-- A change of a tree in place, on the parts of the tree.
--     ended-rest        where a prefix has ended
--     ended-fewer, both-apart, stands-apart, stands-fewer        what is below both trees where they part, and its nodes
--     made-of        the node of what is made below is what the change says
use Rattle.std.proofs.Common.{◌≡◌, ℕ, ◌+◌, ◌<◌, ◌≤◌, [], List, Option, None, slice_get, ap, ◌∙◌, drop, take}
use Rattle.std.proofs.Common.{length, length-drop, arith, inl, inr}
use Rattle.std.proofs.Math.ListN.{drop_of_length-le}
use Rattle.std.proofs.lemmas.List.{drop-drop}
use Rattle.std.specs.Cmp.{IsTotalOrder}
use Rattle.std.specs.Option.{option_cmp}
use Rattle.std.specs.declared.cmp.Ordering.{Ordering}
use Rattle.std.specs.declared.cmp.Ordering.TheVariants.{Equal}
use Rattle.vc_tree_model.specs.Child.{solid_child, value_at}
use Rattle.vc_tree_model.specs.Tree.{Tree, Forest, nodes, forest_nodes, shortened}
use Rattle.vc_tree_model.specs.Value.{IsKept}
use Rattle.vc_tree_model.specs.Look.{Look}
use Rattle.vc_tree_facing.specs.Facing.{Parts, shortened_in}
use Rattle.vc_tree_facing.specs.Made.{IsBothMadeBy}
use Rattle.vc_tree_facing.specs.Sides.{by_component}
use Rattle.vc_tree_facing.proofs.Components.{get-drop}
use Rattle.vc_tree_facing.proofs.Ending.{made-front}
use Rattle.vc_tree_facing.proofs.Leaving.{below-fewer}
use Rattle.vc_tree_edits.specs.Pairs.{trees_of}
use Rattle.vc_tree_edits.specs.Taken.{IsMet, IsTaken, IsCombinedBelow, AreApart, meeting_nodes, lefts_of, from_of}
use Rattle.vc_tree_edits.specs.Taken.{LeftStands, RightStands}
use Rattle.vc_tree_edits.specs.declared.engine.Below.{Below}
use Rattle.vc_tree_edits.specs.declared.engine.Below.TheVariants.{Alone, Children}
use Rattle.vc_tree_edits.specs.declared.pairs.Trees.{Trees}
use Rattle.vc_tree_edits.specs.declared.pairs.Trees.TheVariants.{One, Many}
use Rattle.vc_tree_edits.proofs.Changing.{faced-taken, taken-nodes, made-taken}

-- ---- what is below

-- prefixes that part, and both continue, do not continue alike
parts-apart : {K : Type 0} (cmp : K → K → Ordering) (p q : List K) (i j : ℕ) → Parts cmp (drop i p) (drop j q) → i < length p
    → j < length q → option_cmp cmp (slice_get p i) (slice_get q j) ≡ Equal → ⊥
parts-apart cmp p q i j w h k e = grind (arith, get-drop i p, get-drop j q, length-drop i p, length-drop j q)

-- where a prefix has ended, nothing is left of it
pub ended-rest : {K : Type 0} (i n : ℕ) (p : List K) → length p ≤ i + n → drop n (drop i p) ≡ []
ended-rest i n p h = drop-drop n i p ∙ drop_of_length-le p h

-- where a prefix has ended, the children below it have fewer nodes
pub ended-fewer : {K V T : Type 0} {tree : T → Tree K V} (x : T) (i n : ℕ) {keeps : V → V → Type 0} {front : List K}
    {value : Option V} {xs : List T} {from : ℕ} → length (tree x).prefix ≤ i + n
    → IsTaken tree keeps (shortened i (tree x)) n front value xs from
    → forest_nodes (shortened_in tree from xs) + 1 ≤ nodes (shortened i (tree x))
ended-fewer {tree = tree} x i n s h =
    grind (arith, h.alike.0, ended-rest i n (tree x).prefix s, h.opened.children, taken-nodes h)

module _ {K V W T B : Type 0} (cmp : K → K → Ordering) (tree : T → Tree K V) (tb : B → Tree K W) (x : T) (y : B) (i j n : ℕ) where
  -- two trees that continue, each from the place where the prefixes part, do not begin alike
  pub both-apart : {z : T} {k : ℕ} {w : B} {m : ℕ} → (z ≡ x) × (k ≡ i + n) × (i + n < length (tree x).prefix)
      → (w ≡ y) × (m ≡ j + n) × (j + n < length (tb y).prefix)
      → Parts cmp (drop n (drop i (tree x).prefix)) (drop n (drop j (tb y).prefix))
      → by_component tree tb k m cmp (inl z) (inr w) ≡ Equal → ⊥
  both-apart s r p =
      rw (s.0, s.1, r.0, r.1)
      (parts-apart cmp (tree x).prefix (tb y).prefix (i + n) (j + n)
      (rw (drop-drop n i (tree x).prefix, drop-drop n j (tb y).prefix) at p) s.2 r.2)

  -- nor do those below
  pub stands-apart : (left : Below T) (right : Trees B) (m : ℕ) → LeftStands tree x (i + n) left
      → RightStands tb y (j + n) right m → Parts cmp (drop n (drop i (tree x).prefix)) (drop n (drop j (tb y).prefix))
      → AreApart cmp tree tb left right m
  stands-apart (Alone z k) (One w) m s r p = both-apart s r p
  stands-apart (Alone z k) (Many ws) m s r p = r.0
  stands-apart (Children zs) right m s r p = tt

  -- children have fewer nodes than the node that they are below
  pub stands-fewer : (left : Below T) (right : Trees B) (m : ℕ) {keeps : V → V → Type 0} {front : List K} {value : Option V}
      → LeftStands tree x (i + n) left → RightStands tb y (j + n) right m
      → IsTaken tree keeps (shortened i (tree x)) n front value (lefts_of left) (from_of left)
      → IsMet cmp tb (shortened i (tree x)) (shortened j (tb y)) n (trees_of right) m
      → meeting_nodes cmp tree tb left right m ≤ nodes (shortened i (tree x)) + nodes (shortened j (tb y))
  stands-fewer (Alone z k) (One w) m s r h met = omega arith
  stands-fewer (Alone z k) (Many ws) m s r h met = grind (arith, s.0, met.right.children, ended-rest j n (tb y).prefix r.1)
  stands-fewer (Children zs) right m s r h met = omega (arith, ended-fewer x i n s h, below-fewer met.right)

-- ---- what is made of both

module _ {K V W O T B : Type 0} {cmp : K → K → Ordering} {tree : T → Tree K V} {tb : B → Tree K W} {keeps : V → V → Type 0}
    {l : Look cmp W O} {says R : Option V → O → Option V → Type 0} {t : Tree K V} {u : Tree K W} {n : ℕ} {ys : List B} {j : ℕ}
    {front : List K} {value made : Option V} {xs : List T} {i : ℕ} where
  -- the node of what is made below is what the change says of the tree
  pub made-of : IsTaken tree keeps t n front value xs i → IsMet cmp tb t u n ys j → IsTotalOrder cmp
      → says None l.none None → ((v w : Option V) (z : O) (y : Option V) → IsKept keeps v w → says w z y → says v z y)
      → says value (l.at (value_at u (drop n u.prefix))) made
      → ((v : Option V) (w : O) (z : Option V) → R v w z → says v (l.under (value_at u (drop n u.prefix)) w) z)
      → (h : Forest K V) → IsCombinedBelow cmp l R (shortened_in tree i xs) (shortened_in tb j ys) h
      → {out : Option (Tree K V)} → out ≡ solid_child front made h → IsBothMadeBy cmp l says t u out
  made-of h m total nothing kept said down kids k g =
      let f = faced-taken h m in
      let below = rw (f.left.children, f.right.children) at k.1 in
      let root = rw h.value_is at said in
      let front_is = h.front_is ∙ ap (take n) h.alike.0 in
      made-taken h m l kept
      (rw (g, front_is) (made-front total l h.taken u n f.same says nothing f.parts made kids k.0 root
      (λ x q. down _ _ _ (below x q))))
