-- The longest key of a tree on a path, node by node along the path.
--     Decides        what is left to decide at a node on the way
--     decided-above, decided-below        the way ends above a node, or continues below it
--     shown        what was found so far
--     left-within        no more of the path is left below a node than at it
--     found-value, found-longest        what was found is the cover, and the longest key by its length
--     covers-empty, covers-none, covers-child        what children cover of what is left of a path
use Rattle.std.proofs.Common.{◌≡◌, ℕ, ◌+◌, ◌-◌, ◌≤◌, [], ◌∷◌, List, Option, None, Some, length, take, refl, sym}
use Rattle.std.proofs.Common.{ap, ◌∙◌, arith}
use Rattle.std.specs.Borrow.{Bor}
use Rattle.std.specs.Option.{option_map}
use Rattle.std.specs.Cmp.{IsTotalOrder}
use Rattle.std.specs.Prelude.{slice_get, IfSome}
use Rattle.std.specs.declared.cmp.Ordering.{Ordering}
use Rattle.vc_tree_model.specs.Canonical.{AreChildren}
use Rattle.vc_tree_model.specs.Cover.{cover, IsLongestCover}
use Rattle.vc_tree_model.specs.Key.{behind}
use Rattle.vc_tree_model.specs.Map.{or_else, node_lookup, lookup, lookup_in}
use Rattle.vc_tree_model.specs.Sized.{beside, sized}
use Rattle.vc_tree_model.specs.Tree.{Tree, Forest}
use Rattle.vc_tree_model.proofs.CoverNodes.{cover-equal, cover-node, cover-none, cover-below, node_cover}
use Rattle.vc_tree_model.proofs.KeyLemmas.{none-some}
use Rattle.vc_tree_model.proofs.LookupLemmas.{children-ordered, lookup_in-empty, lookup-same}
use Rattle.vc_tree_model.proofs.LongestKeys.{cover-value, longest-at}
use Rattle.vc_tree_nodes.specs.Places.{IsFoundChild, IsNoChild}
use Rattle.vc_tree_nodes.proofs.Descending.{behind-length}

-- no more is left of the path behind a prefix of the rest
pub left-within : {K : Type 0} (cmp : K → K → Ordering) (path rest p left : List K) → length rest ≤ length path
    → behind cmp p rest ≡ Some left → length left ≤ length path
left-within cmp path rest p left h e = grind (arith, behind-length cmp p rest left e)

-- what was found so far: how many components the key has, and its value
abbrev pub shown : {W : Type 0} → Option (ℕ × Bor W) → Option (ℕ × W)
shown = option_map (λ b. (b.0, b.1.now))

module _ {K W : Type 0} (cmp : K → K → Ordering) where
  -- of a node on the way: what it covers of the rest of the path decides, or else the longest key above it
  pub record Decides (whole : Tree K W) (path : List K) (t : Tree K W) (rest : List K) (longest : Option (ℕ × W)) : Type 0 where
    pub within : length rest ≤ length path
    pub decides :
        cover (sized 0 (lookup cmp whole)) path
        ≡ or_else (cover (sized (length path - length rest) (lookup cmp t)) rest) longest

  -- what a node binds, beside lengths: its value where nothing is left behind its prefix, else what is below
  sized-node : (n : ℕ) (v : Option W) (f : List K → Option W) (p k : List K)
      → sized n (λ r. node_lookup v f (behind cmp p r)) k
      ≡ node_lookup (beside (n + length p) v) (sized (n + length p) f) (behind cmp p k)
  sized-node n v f p k = by (behind cmp p k) refl
    where
      by : (left : Option (List K)) → behind cmp p k ≡ left
          → beside (n + length k) (node_lookup v f left) ≡ node_lookup (beside (n + length p) v) (sized (n + length p) f) left
      by None e = refl
      by (Some []) e =
          let same : n + length k ≡ n + length p = omega (arith, behind-length cmp p k [] e) in rw same refl
      by (Some (x ∷ rest)) e =
          let same : n + length k ≡ n + length p + length (x ∷ rest) = omega (arith, behind-length cmp p k (x ∷ rest) e) in
          rw same refl

  module _ {whole t : Tree K W} {path rest p : List K} {longest : Option (ℕ × W)} (h : Decides whole path t rest longest)
      (ep : p ≡ t.prefix) (a : AreChildren cmp t.children) where
    -- so many components of the path stand above the node
    abbrev above : ℕ
    above = length path - length rest

    -- what the node covers of the rest
    covered : (left : Option (List K)) → behind cmp p rest ≡ left
        → cover (sized above (lookup cmp t)) rest
        ≡ node_cover (beside (above + length t.prefix) t.value) (sized (above + length t.prefix) (lookup_in cmp t.children)) left
    covered left e =
        let m = above + length t.prefix in
        let own = beside m t.value in
        let below = sized m (lookup_in cmp t.children) in
        let empty : below [] ≡ None = ap (beside (m + 0)) (lookup_in-empty cmp t.children (children-ordered cmp t.children a)) in
        rw (← e, ep) (cover-equal (sized above (lookup cmp t)) (λ r. node_lookup own below (behind cmp t.prefix r))
        (sized-node above t.value (lookup_in cmp t.children) t.prefix) rest ∙ cover-node cmp own below empty t.prefix rest)

    -- the prefix is not one of the rest: the keys above decide
    pub decided-above : behind cmp p rest ≡ None → longest ≡ cover (sized 0 (lookup cmp whole)) path
    decided-above e = grind (arith, h.decides, covered None e)

    -- what is below the node decides, or else its own key, or else one above it
    pub decided-below : {left : List K} {kids : Forest K W} {next below : Option (ℕ × W)} → behind cmp p rest ≡ Some left
        → kids ≡ t.children → next ≡ or_else (beside (length path - length left) t.value) longest
        → cover (sized (length path - length left) (lookup_in cmp kids)) left ≡ below
        → cover (sized 0 (lookup cmp whole)) path ≡ or_else below next
    decided-below {left} e ek en eb =
        let long = behind-length cmp p rest left e in
        let place : above + length t.prefix ≡ length path - length left = omega (arith, long, ap length ep, h.within) in
        let at = rw place at (covered (Some left) e) in
        grind (arith, h.decides, at)

  module _ (f : Forest K W) (a : AreChildren cmp f) (n : ℕ) where
    -- children bind no empty key
    none-empty : sized n (lookup_in cmp f) [] ≡ None
    none-empty = grind (arith, lookup_in-empty, children-ordered)

    -- they cover nothing of the empty path
    pub covers-empty : (path : List K) → slice_get path 0 ≡ None → cover (sized n (lookup_in cmp f)) path ≡ None
    covers-empty [] e = none-empty
    covers-empty (y ∷ others) e = cc

    -- no child begins as the path does
    pub covers-none : (x : K) (path : List K) → slice_get path 0 ≡ Some x → IsNoChild cmp f x
        → cover (sized n (lookup_in cmp f)) path ≡ None
    covers-none x [] e none = none-some x e
    covers-none x (y ∷ others) e none = grind (arith, cover-below, none-empty, cover-none)

    -- one does
    pub covers-child : (x : K) (path : List K) (child : Tree K W) → slice_get path 0 ≡ Some x → IsFoundChild cmp f x child
        → cover (sized n (lookup_in cmp f)) path ≡ cover (sized n (lookup cmp child)) path
    covers-child x [] child e found = none-some x e
    covers-child x (y ∷ others) child e found =
        cover-below (sized n (lookup_in cmp f)) (sized n (lookup cmp child)) y others none-empty
        (grind (arith, found.begins)) (λ r. grind (arith, found.same r))

module _ {K W : Type 0} (cmp : K → K → Ordering) (o : IsTotalOrder cmp) (t : Tree K W) (path : List K) where
  -- what was found covers the path
  pub found-value : (r : Option (ℕ × Bor W)) → shown r ≡ cover (sized 0 (lookup cmp t)) path
      → option_map (λ b. b.1.now) r ≡ cover (lookup cmp t) path
  found-value r e = grind (arith, cover-value 0 (lookup cmp t) path)

  -- it is the longest key, by its length
  pub found-longest : (r : Option (ℕ × Bor W)) → shown r ≡ cover (sized 0 (lookup cmp t)) path
      → IfSome r (λ b. (b.0 ≤ length path) × IsLongestCover cmp (lookup cmp t) path (take b.0 path) b.1.now)
  found-longest None e = tt
  found-longest (Some b) e =
      grind (arith, longest-at cmp o 0 (lookup cmp t) (lookup-same cmp o t) path b.0 b.1.now (sym e), lookup-same cmp o t)
