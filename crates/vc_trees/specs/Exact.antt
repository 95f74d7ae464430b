-- Where clones are equal to their sources, a shared tree keeps its values as a plain one does.
use Rattle.std.specs.Prelude.{◌≡◌, Bool, List, Option, Some, None, refl}
use Rattle.std.specs.declared.cmp.Ordering.{Ordering}
use Rattle.std.proofs.Common.{sym, ap, ◌∙◌, inl, inr}
use Rattle.vc_tree_model.specs.Value.{IsKept, Copies, itself, cloned}
use Rattle.vc_tree_model.specs.Matches.{AreCopies, HaveOneSource}
use Rattle.vc_tree_model.specs.Same.{IsAlike, IsAlikeIn}
use Rattle.vc_tree_model.specs.Tree.{Tree, Forest, bare, grow, node}
use Rattle.vc_tree_model.specs.Map.{lookup, IsEqualMap, IsInserted, HaveEqualMaps}
use Rattle.vc_tree_model.specs.Snapshot.{IsSnapshot, same_copies}
use Rattle.vc_tree_removal.specs.Without.{IsWithoutAll}

module _ {K V : Type 0} (keeps : V → V → Type 0) (same : (v w : Option V) → IsKept keeps v w → w ≡ v) where
  -- where what is kept is the same, trees that are alike are equal
  same_forest : (f g : Forest K V) → IsAlikeIn keeps f g → g ≡ f
  same_forest bare bare h = refl
  same_forest bare (grow q w more others) h = absurd h
  same_forest (grow p v kids rest) bare h = absurd h
  same_forest (grow p v kids rest) (grow q w more others) h =
      ap (λ p. grow p w more others) (sym h.0) ∙ ap (λ v. grow p v more others) (same v w h.1)
      ∙ ap (λ f. grow p v f others) (same_forest kids more h.2) ∙ ap (λ f. grow p v kids f) (same_forest rest others h.3)

  pub same_nodes : (t c : Tree K V) → IsAlike keeps t c → c ≡ t
  same_nodes t c h =
      ap (λ p. node p c.value c.children) (sym h.0) ∙ ap (λ v. node t.prefix v c.children) (same t.value c.value h.1)
      ∙ ap (λ f. node t.prefix t.value f) (same_forest t.children c.children h.2)

module _ {V : Type 0} (is_clone : V → V → Type 0) (exact : (v w : V) → is_clone v w → w ≡ v) where
  -- a copy is the value itself
  pub copies-exact : {v w : V} → Copies is_clone v w → v ≡ w
  copies-exact itself = refl
  copies-exact (cloned {u} {v} {w} c p) = sym (exact u v c) ∙ copies-exact p

  -- so are two values where one is a copy of the other
  pub are_copies-exact : {v w : V} → AreCopies is_clone v w → v ≡ w
  are_copies-exact (inl c) = copies-exact c
  are_copies-exact (inr c) = sym (copies-exact c)

  -- and values with one source
  pub one_source-exact : {v w : V} → HaveOneSource is_clone v w → v ≡ w
  one_source-exact h = sym (copies-exact h.1) ∙ copies-exact h.2

  -- what is kept as a copy is kept itself
  pub kept-exact : (v w : Option V) → IsKept (Copies is_clone) v w → IsKept (λ x y. x ≡ y) v w
  kept-exact None None h = h
  kept-exact None (Some w) h = h
  kept-exact (Some v) None h = h
  kept-exact (Some v) (Some w) h = copies-exact h

  -- so what is returned is what was there
  pub handed-exact : (v w : Option V) → IsKept (Copies is_clone) v w → w ≡ v
  handed-exact None None h = refl
  handed-exact None (Some w) h = absurd h
  handed-exact (Some v) None h = absurd h
  handed-exact (Some v) (Some w) h = ap (λ x. Some x) (sym (copies-exact h))

  module _ {K : Type 0} (cmp : K → K → Ordering) where
    -- a key is bound, and the others keep their values themselves
    pub inserted-exact : (key : List K) (value : V) (t u : Tree K V)
        → IsInserted cmp (Copies is_clone) key value t u → IsInserted cmp (λ x y. x ≡ y) key value t u
    inserted-exact key value t u h = record {
      at = h.at;
      others = λ k e. kept-exact (lookup cmp t k) (lookup cmp u k) (h.others k e);
    }

    -- two trees have the same map
    pub equal_maps-exact : (t u : Tree K V) → HaveEqualMaps cmp (Copies is_clone) t u → HaveEqualMaps cmp (λ x y. x ≡ y) t u
    equal_maps-exact t u h = λ k. kept-exact (lookup cmp t k) (lookup cmp u k) (h k)

  -- a map without some keys has the values of the others themselves
  pub without-exact : {K : Type 0} (test : List K → Bool) (f g : List K → Option V)
      → IsWithoutAll (Copies is_clone) test f g → IsWithoutAll (λ x y. x ≡ y) test f g
  without-exact test f g h = record {
    at = h.at;
    others = λ k e. kept-exact (f k) (g k) (h.others k e);
  }

  -- maps whose values have one source are the same map
  pub maps-exact : {K : Type 0} (f g : List K → Option V) → IsEqualMap (HaveOneSource is_clone) f g
      → IsEqualMap (λ x y. x ≡ y) f g
  maps-exact f g h k = by (f k) (g k) (h k)
    where
      by : (v w : Option V) → IsKept (HaveOneSource is_clone) v w → IsKept (λ x y. x ≡ y) v w
      by None None h = h
      by None (Some w) h = h
      by (Some v) None h = h
      by (Some v) (Some w) h = one_source-exact h

  -- a clone of a value, if there is one, is that value
  same_value : (v w : Option V) → IsKept is_clone v w → w ≡ v
  same_value None None h = refl
  same_value None (Some w) h = absurd h
  same_value (Some v) None h = absurd h
  same_value (Some v) (Some w) h = ap (λ x. Some x) (exact v w h)

  -- a clone of each node is the tree itself
  pub alike-exact : {K : Type 0} (t c : Tree K V) → IsAlike is_clone t c → c ≡ t
  alike-exact t c h = same_nodes is_clone same_value t c h

  -- so is a copy of each
  pub copied-exact : {K : Type 0} (t c : Tree K V) → IsAlike (Copies is_clone) t c → c ≡ t
  copied-exact t c h = same_nodes (Copies is_clone) handed-exact t c h

  -- a snapshot is the tree itself
  pub snapshot-exact : {K : Type 0} (t c : Tree K V) → IsSnapshot is_clone t c → c ≡ t
  snapshot-exact t c h =
      ap (λ p. node p c.value c.children) h.0 ∙ ap (λ v. node t.prefix v c.children) (same_value t.value c.value h.1)
      ∙ ap (λ f. node t.prefix t.value f) h.2

module _ {V : Type 0} (is_clone : V → V → Type 0) where
  -- what is kept itself has one source
  kept-one_source : (v w : Option V) → IsKept (λ x y. x ≡ y) v w → IsKept (HaveOneSource is_clone) v w
  kept-one_source None None h = h
  kept-one_source None (Some w) h = h
  kept-one_source (Some v) None h = h
  kept-one_source (Some v) (Some w) h = (v, itself, same_copies is_clone v w h)

  -- the values of one map have one source
  pub maps-one_source : {K : Type 0} (f g : List K → Option V) → IsEqualMap (λ x y. x ≡ y) f g
      → IsEqualMap (HaveOneSource is_clone) f g
  maps-one_source f g h k = kept-one_source (f k) (g k) (h k)

module _ {K V : Type 0} where
  -- values that are kept themselves are the same at each key
  pub maps-same : (f g : List K → Option V) → IsEqualMap (λ x y. x ≡ y) f g → (k : List K) → g k ≡ f k
  maps-same f g h k = by (f k) (g k) (h k)
    where
      by : (v w : Option V) → IsKept (λ x y. x ≡ y) v w → w ≡ v
      by None None h = refl
      by None (Some w) h = absurd h
      by (Some v) None h = absurd h
      by (Some v) (Some w) h = ap (λ x. Some x) (sym h)

-- what calls cite where clones are exact
pub ruleset exactly = (
  copies-exact,
  are_copies-exact,
  one_source-exact,
  kept-exact,
  handed-exact,
  inserted-exact,
  equal_maps-exact,
  without-exact,
  maps-exact,
  maps-same,
  alike-exact,
  copied-exact,
  snapshot-exact,
)
