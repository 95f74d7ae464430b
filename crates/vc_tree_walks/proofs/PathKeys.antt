-- The keys of a tree that are prefixes of a path, from node to node along the path.
--     along-is        the list of them, by how many components they have
--     along-equal, along-none        those of equal maps, and of a map that binds nothing
--     along-node        of a node: its own, where its prefix is one of the path, and those of its children
--     along-empty, along-childless, along-child        of children: those of the one that begins as the path does
--     behind-agreed, behind-parted        what is left of a path behind a prefix
--     along-entered, along-passed        a node whose prefix is one of what is left of a path, and one whose prefix is not
use Rattle.std.proofs.Common.{◌≡◌, ◌≢◌, ℕ, suc, ◌+◌, ◌<◌, [], ◌∷◌, List, length, take, drop, Option, None, Some, Bool, true, false, cond, refl}
use Rattle.std.proofs.Common.{sym, ap, ◌∙◌, arith, subst, drop-drop}
use Rattle.std.specs.List.{cons_option, filter_map, range_with_len}
use Rattle.std.specs.Option.{option_map}
use Rattle.std.specs.Ordering.{is_eq}
use Rattle.std.specs.Prelude.{slice_get}
use Rattle.std.specs.declared.cmp.Ordering.{Ordering}
use Rattle.vc_tree_model.specs.Canonical.{AreChildren}
use Rattle.vc_tree_model.specs.Key.{behind, same_key}
use Rattle.vc_tree_model.specs.Map.{lookup, lookup_in, node_lookup}
use Rattle.vc_tree_model.specs.Tree.{Tree, Forest, node}
use Rattle.vc_tree_model.proofs.LookupLemmas.{children-ordered, lookup_in-empty}
use Rattle.vc_tree_nodes.specs.Parting.{Agree, IsParting}
use Rattle.vc_tree_nodes.specs.Places.{IsFoundChild, IsNoChild}
use Rattle.vc_tree_nodes.specs.declared.parting.Parting.{Parting}
use Rattle.vc_tree_nodes.specs.declared.parting.Parting.TheVariants.{Behind, Inside, Lower, Higher}
use Rattle.vc_tree_walks.specs.Prefixes.{bound_prefixes}
use Rattle.vc_tree_walks.specs.PrefixesLeft.{along, own_before}

module _ {K V : Type 0} where
  -- the list of them, by how many components they have
  listed : (h : ℕ → Option (ℕ × V)) (m : ℕ) (f : List K → Option V) (path : List K)
      → ((i n : ℕ) → n ≡ m + i → h n ≡ option_map (λ v. (n, v)) (f (take i path)))
      → filter_map h (range_with_len m (length path + 1)) ≡ along m f path
  listed h m f [] e = ap (λ o. cons_option o []) (e 0 m (omega arith))
  listed h m f (x ∷ path) e =
      let more : length (x ∷ path) + 1 ≡ suc (length path + 1) = omega arith in
      ap (λ n. filter_map h (range_with_len m n)) more
      ∙ ap (λ o. cons_option o (filter_map h (range_with_len (m + 1) (length path + 1)))) (e 0 m (omega arith))
      ∙ ap (own_before m (f [])) (listed h (m + 1) (λ k. f (x ∷ k)) path (λ i n h. e (suc i) n (omega (arith, h))))

  pub along-is : (f : List K → Option V) (path : List K) → bound_prefixes f path ≡ along 0 f path
  along-is f path = listed (λ n. option_map (λ v. (n, v)) (f (take n path))) 0 f path
      (λ i n h. ap (λ j. option_map (λ v. (n, v)) (f (take j path))) (omega (arith, h)))

  -- equal maps have the same
  pub along-equal : (m : ℕ) (f g : List K → Option V) → ((k : List K) → f k ≡ g k) → (path : List K)
      → along m f path ≡ along m g path
  along-equal m f g e [] = ap (λ o. own_before m o []) (e [])
  along-equal m f g e (x ∷ path) =
      ap (λ o. own_before m o (along (m + 1) (λ k. f (x ∷ k)) path)) (e [])
      ∙ ap (own_before m (g [])) (along-equal (m + 1) (λ k. f (x ∷ k)) (λ k. g (x ∷ k)) (λ k. e (x ∷ k)) path)

  -- a map that binds nothing has none
  pub along-none : (m : ℕ) (f : List K → Option V) → ((k : List K) → f k ≡ None) → (path : List K) → along m f path ≡ []
  along-none m f e [] = ap (λ o. own_before m o []) (e [])
  along-none m f e (x ∷ path) =
      ap (λ o. own_before m o (along (m + 1) (λ k. f (x ∷ k)) path)) (e [])
      ∙ along-none (m + 1) (λ k. f (x ∷ k)) (λ k. e (x ∷ k)) path

  -- those of maps that bind no empty key and that bind alike behind the first component
  along-below : (m : ℕ) (f g : List K → Option V) (x : K) (path : List K) → f [] ≡ None → g [] ≡ None
      → ((k : List K) → f (x ∷ k) ≡ g (x ∷ k)) → along m f (x ∷ path) ≡ along m g (x ∷ path)
  along-below m f g x path e h same =
      ap (λ o. own_before m o (along (m + 1) (λ k. f (x ∷ k)) path)) (e ∙ sym h)
      ∙ ap (own_before m (g [])) (along-equal (m + 1) (λ k. f (x ∷ k)) (λ k. g (x ∷ k)) same path)

  -- the node's own, and those below, of what is left of a path behind its prefix
  abbrev pub node_along : ℕ → Option V → (List K → Option V) → Option (List K) → List (ℕ × V)
  node_along m v f None = []
  node_along m v f (Some left) = own_before m v (along m f left)

  own-along : (m : ℕ) (v : Option V) (f : List K → Option V) → f [] ≡ None → (k : List K)
      → along m (λ r. node_lookup v f (Some r)) k ≡ own_before m v (along m f k)
  own-along m v f e [] = ap (λ o. own_before m v (own_before m o [])) (sym e)
  own-along m v f e (x ∷ k) =
      ap (λ o. own_before m v (own_before m o (along (m + 1) (λ r. f (x ∷ r)) k))) (sym e)

  module _ (cmp : K → K → Ordering) where
    along-prefix : (m n : ℕ) (v : Option V) (f : List K → Option V) → f [] ≡ None → (p k : List K) → n ≡ m + length p
        → along m (λ r. node_lookup v f (behind cmp p r)) k ≡ node_along n v f (behind cmp p k)
    along-prefix m n v f e [] k h =
        let same : m ≡ n = omega (arith, h) in
        own-along m v f e k ∙ ap (λ n. own_before n v (along n f k)) same
    along-prefix m n v f e (y ∷ p) [] h = refl
    along-prefix m n v f e (y ∷ p) (x ∷ k) h =
        one (is_eq (cmp y x)) (along-prefix (m + 1) n v f e p k (omega (arith, h)))
      where
        one : (t : Bool) → along (m + 1) (λ r. node_lookup v f (behind cmp p r)) k ≡ node_along n v f (behind cmp p k)
            → along (m + 1) (λ r. node_lookup v f (cond t (behind cmp p r) None)) k
            ≡ node_along n v f (cond t (behind cmp p k) None)
        one true e = e
        one false e = along-none (m + 1) (λ r. None) (λ r. refl) k

    -- a node, where so much is left of the path behind its prefix
    pub along-node : (t : Tree K V) (m : ℕ) (path : List K) → AreChildren cmp t.children → (left : Option (List K))
        → behind cmp t.prefix path ≡ left
        → along m (lookup cmp t) path ≡ node_along (m + length t.prefix) t.value (lookup_in cmp t.children) left
    along-node t m path a left e =
        along-prefix m (m + length t.prefix) t.value (lookup_in cmp t.children)
        (lookup_in-empty cmp t.children (children-ordered cmp t.children a)) t.prefix path refl
        ∙ ap (node_along (m + length t.prefix) t.value (lookup_in cmp t.children)) e

    module _ (f : Forest K V) (a : AreChildren cmp f) (m : ℕ) where
      none-empty : lookup_in cmp f [] ≡ None
      none-empty = lookup_in-empty cmp f (children-ordered cmp f a)

      -- nothing is left of the path
      pub along-empty : (path : List K) → slice_get path 0 ≡ None → [] ≡ along m (lookup_in cmp f) path
      along-empty [] e = sym (ap (λ o. own_before m o []) none-empty)
      along-empty (x ∷ path) e = cc

      -- no child begins as the path does
      pub along-childless : (x : K) (path : List K) → slice_get path 0 ≡ Some x → IsNoChild cmp f x
          → [] ≡ along m (lookup_in cmp f) path
      along-childless x [] e none = cc
      along-childless x (y ∷ path) e none =
          let same : y ≡ x = cc in
          sym (along-below m (lookup_in cmp f) (λ k. None) y path none-empty refl
          (λ k. ap (λ z. lookup_in cmp f (z ∷ k)) same ∙ none k)
          ∙ along-none m (λ k. None) (λ k. refl) (y ∷ path))

      no-empty : (t : Tree K V) (p : List K) (x : K) → same_key cmp (take 1 p) (x ∷ []) ≡ true
          → lookup cmp (node p t.value t.children) [] ≡ None
      no-empty t [] x b = cc
      no-empty t (y ∷ p) x b = refl

      -- one does
      pub along-child : (x : K) (path : List K) (t : Tree K V) → slice_get path 0 ≡ Some x → IsFoundChild cmp f x t
          → along m (lookup cmp t) path ≡ along m (lookup_in cmp f) path
      along-child x [] t e found = cc
      along-child x (y ∷ path) t e found =
          let same : y ≡ x = cc in
          along-below m (lookup cmp t) (lookup_in cmp f) y path (no-empty t t.prefix x found.begins) none-empty
          (λ k. ap (λ z. lookup cmp t (z ∷ k)) same ∙ sym (found.same k) ∙ ap (λ z. lookup_in cmp f (z ∷ k)) (sym same))

module _ {K : Type 0} (cmp : K → K → Ordering) where
  -- behind a prefix that agrees, the rest of the path
  agreed : (p k : List K) → same_key cmp (take (length p) p) (take (length p) k) ≡ true
      → behind cmp p k ≡ Some (drop (length p) k)
  agreed (x ∷ p) (y ∷ k) h = grind (arith, agreed p k)
  agreed p k h = grind arith

  pub behind-agreed : (p k : List K) → Agree cmp p k (length p) → behind cmp p k ≡ Some (drop (length p) k)
  behind-agreed p k a = agreed p k a.same

  shorter : (p k : List K) → length k < length p → behind cmp p k ≡ None
  shorter (x ∷ p) (y ∷ k) h = grind (arith, shorter p k)
  shorter (x ∷ p) [] h = refl
  shorter [] k h = absurd (omega (arith, h))

  differs : (p k : List K) (n : ℕ) (x y : K) → slice_get p n ≡ Some x → slice_get k n ≡ Some y → is_eq (cmp x y) ≡ false
      → behind cmp p k ≡ None
  differs (a ∷ p) (b ∷ k) (suc n) x y d e h = grind (arith, differs p k n x y)
  differs p k n x y d e h = grind arith

  -- behind one that does not, nothing
  pub behind-parted : (p k : List K) (r : Parting) → IsParting cmp p k r → r ≢ Behind → behind cmp p k ≡ None
  behind-parted p k Behind h n = absurd (n refl)
  behind-parted p k (Inside n) h _ = shorter p k (subst (λ m. m < length p) h.1 h.2)
  behind-parted p k (Lower n) h _ = differs p k n h.old h.new h.old_at h.new_at (ap is_eq h.ordered)
  behind-parted p k (Higher n) h _ = differs p k n h.old h.new h.old_at h.new_at (ap is_eq h.ordered)

module _ {K V : Type 0} (cmp : K → K → Ordering) (t : Tree K V) (a : AreChildren cmp t.children) (path : List K) (used : ℕ)
    (p left : List K) (ep : p ≡ t.prefix) (el : left ≡ drop used path) where
  -- the prefix of the node is one of what is left of the path
  pub along-entered : Agree cmp p left (length p)
      → own_before (used + length p) t.value
      (along (used + length p) (lookup_in cmp t.children) (drop (used + length p) path))
      ≡ along used (lookup cmp t) (drop used path)
  along-entered h =
      let rest : behind cmp t.prefix (drop used path) ≡ Some (drop (length p) left) =
      ap (λ q. behind cmp q (drop used path)) (sym ep) ∙ ap (behind cmp p) (sym el) ∙ behind-agreed cmp p left h in
      let further : drop (length p) left ≡ drop (used + length p) path =
      ap (drop (length p)) el ∙ drop-drop (length p) used path in
      sym (along-node cmp t used (drop used path) a (Some (drop (length p) left)) rest
      ∙ ap (λ n. own_before (used + n) t.value (along (used + n) (lookup_in cmp t.children) (drop (length p) left)))
      (ap length (sym ep))
      ∙ ap (λ l. own_before (used + length p) t.value (along (used + length p) (lookup_in cmp t.children) l)) further)

  -- it is not
  pub along-passed : (r : Parting) → IsParting cmp p left r → r ≢ Behind → [] ≡ along used (lookup cmp t) (drop used path)
  along-passed r h n =
      let rest : behind cmp t.prefix (drop used path) ≡ None =
      ap (λ q. behind cmp q (drop used path)) (sym ep) ∙ ap (behind cmp p) (sym el) ∙ behind-parted cmp p left r h n in
      sym (along-node cmp t used (drop used path) a None rest)
