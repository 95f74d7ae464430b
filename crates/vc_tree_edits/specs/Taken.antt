-- Trees that a change in place takes apart, and what is below. No public clause cites these words.
use Rattle.std.specs.Prelude.{◌≡◌, ℕ, ◌+◌, ◌<◌, ◌≤◌, List, [], ◌∷◌, length, Option, drop, take, ⊤}
use Rattle.std.proofs.Common.{inl, inr}
use Rattle.std.specs.declared.cmp.Ordering.{Ordering}
use Rattle.std.specs.declared.cmp.Ordering.TheVariants.{Equal}
use Rattle.vc_tree_model.specs.Canonical.{AreChildren}
use Rattle.vc_tree_model.specs.Tree.{Tree, Forest, nodes, forest_nodes}
use Rattle.vc_tree_model.specs.Look.{Look}
use Rattle.vc_tree_model.specs.Same.{IsAlike}
use Rattle.vc_tree_model.specs.Child.{value_at}
use Rattle.vc_tree_model.specs.Places.{IsCombinedIn}
use Rattle.vc_tree_nodes.specs.Parting.{Agree}
use Rattle.vc_tree_facing.specs.Facing.{IsOpened, Parts, shortened_in}
use Rattle.vc_tree_facing.specs.Doing.{IsDoing}
use Rattle.vc_tree_facing.specs.Sides.{by_component}
use Rattle.vc_tree_edits.specs.Pairs.{trees_of}
use Rattle.vc_tree_edits.specs.declared.engine.Below.{Below}
use Rattle.vc_tree_edits.specs.declared.engine.Below.TheVariants.{Alone, Children}
use Rattle.vc_tree_edits.specs.declared.pairs.Trees.{Trees}
use Rattle.vc_tree_edits.specs.declared.pairs.Trees.TheVariants.{One, Many}

-- the prefixes of t and u agree for n components and diverge there; and what is below in u
pub record IsMet {K V W B : Type 0} (cmp : K → K → Ordering) (tb : B → Tree K W) (t : Tree K V) (u : Tree K W) (n : ℕ)
    (ys : List B) (j : ℕ) : Type 0 where
  pub agree : Agree cmp t.prefix u.prefix n
  pub parts : Parts cmp (drop n t.prefix) (drop n u.prefix)
  pub right : IsOpened tb u (drop n u.prefix) ys j

module _ {K V T : Type 0} (tree : T → Tree K V) where
  -- the parts of a tree that is alike to t: the front of its prefix, the value there, and what is
  -- below
  pub record IsTaken (keeps : V → V → Type 0) (t : Tree K V) (n : ℕ) (front : List K) (value : Option V) (list : List T)
      (from : ℕ) : Type 0 where
    pub taken : Tree K V
    pub alike : IsAlike keeps t taken
    pub front_is : front ≡ take n t.prefix
    pub value_is : value ≡ value_at taken (drop n taken.prefix)
    pub opened : IsOpened tree taken (drop n taken.prefix) list from

module _ {T : Type 0} where
  -- the trees below a place, as a list
  abbrev pub lefts_of : Below T → List T
  lefts_of (Alone x n) = x ∷ []
  lefts_of (Children xs) = xs.items

  -- how many components of their prefixes are before the place
  abbrev pub from_of : Below T → ℕ
  from_of (Alone x n) = n
  from_of (Children xs) = 0

  -- below the n-th component of x is x itself, which continues, or its prefix has ended
  abbrev pub LeftStands : {K V : Type 0} → (T → Tree K V) → T → ℕ → Below T → Type 0
  LeftStands tree x n (Alone y m) = (y ≡ x) × (m ≡ n) × (n < length (tree x).prefix)
  LeftStands tree x n (Children ys) = length (tree x).prefix ≤ n

-- the same of a tree of the right side
abbrev pub RightStands : {K W B : Type 0} → (B → Tree K W) → B → ℕ → Trees B → ℕ → Type 0
RightStands tree x n (One y) m = (y.now ≡ x) × (m ≡ n) × (n < length (tree x).prefix)
RightStands tree x n (Many ys) m = (m ≡ 0) × (length (tree x).prefix ≤ n)

-- of two lists of trees this one was made: canonical children, and what R says of both at each key
abbrev pub IsCombinedBelow : {K V W O : Type 0} (cmp : K → K → Ordering) → Look cmp W O → (Option V → O → Option V → Type 0)
    → Forest K V → Forest K W → Forest K V → Type 0
IsCombinedBelow cmp l R f g h = AreChildren cmp h × IsCombinedIn cmp l R f g h

module _ {K V W T B : Type 0} (cmp : K → K → Ordering) (tree : T → Tree K V) (tb : B → Tree K W) where
  -- two trees that both continue do not begin alike
  abbrev pub AreApart : Below T → Trees B → ℕ → Type 0
  AreApart (Alone x i) (One y) j = by_component tree tb i j cmp (inl x) (inr y.now) ≡ Equal → ⊥
  AreApart (Alone x i) (Many ys) j = j ≡ 0
  AreApart (Children xs) right j = ⊤

  -- one more than the nodes of which some may meet
  abbrev pub meeting_nodes : Below T → Trees B → ℕ → ℕ
  meeting_nodes (Alone x i) (One y) j = 0
  meeting_nodes (Alone x i) (Many ys) j = nodes (tree x) + forest_nodes (shortened_in tb j ys.now) + 1
  meeting_nodes (Children xs) right j =
      forest_nodes (shortened_in tree 0 xs.items) + forest_nodes (shortened_in tb j (trees_of right)) + 1

  module _ {O : Type 0} (l : Look cmp W O) where
    -- t, taken apart next to u: its values at the fronts have become `made`, and nothing below is done
    pub record IsBegun (keeps : V → V → Type 0) (says below : Option V → O → Option V → Type 0) (asks : Option V → O → Type 0)
        (t : Tree K V) (u : Tree K W) (front : List K) (made : Option V) (left : Below T) (right : Trees B) (j : ℕ) : Type 0 where
      pub length_front : ℕ
      pub value : Option V
      pub met : IsMet cmp tb t u length_front (trees_of right) j
      pub taken : IsTaken tree keeps t length_front front value (lefts_of left) (from_of left)
      pub apart : AreApart left right j
      pub fewer : meeting_nodes left right j ≤ nodes t + nodes u
      pub said : says value (l.at (value_at u (drop length_front u.prefix))) made
      pub said_below : (v : Option V) (w : O) (z : Option V) → below v w z
          → says v (l.under (value_at u (drop length_front u.prefix)) w) z
      pub doing :
          IsDoing cmp tree tb (from_of left) j l below asks (lefts_of left) (trees_of right) (lefts_of left) (trees_of right) []
