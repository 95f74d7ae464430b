-- The events of an insertion: how each changes a node.
--     on-err, on-both        what follows from the outcome of a call
--     value-set, child-added, child-grown, top-made, pair-made, leaf-made        the events
--     parts-canonical        a node whose children stayed alike
--     leads_.., list-updated, list-grown, list-alike        the child that the key leads to, and the list once it is changed
--     low-from, length-kept, copied-canonical        lists that were lent or copied
use Rattle.std.proofs.Common.{◌≡◌, ℕ, suc, ◌<◌, ◌≤◌, [], ◌∷◌, ◌++◌, List, Option, None, Some, refl, sym}
use Rattle.std.proofs.Common.{arith, get_or, set, map, take, drop, length, append-nil, length-drop, ◌-◌}
use Rattle.std.proofs.Common.{true}
use Rattle.std.proofs.lemmas.List.{take-append-drop, take_rest}
use Rattle.std.specs.Cmp.{IsTotalOrder}
use Rattle.std.specs.List.{insert}
use Rattle.std.specs.Prelude.{Result, OnOk, OnErr}
use Rattle.std.specs.declared.cmp.Ordering.{Ordering}
use Rattle.vc_tree_model.specs.Tree.{Tree, Forest, bare, forest, node, made, is_bare, nodes, forest_nodes, shortened}
use Rattle.vc_tree_model.specs.Value.{IsKept}
use Rattle.vc_tree_model.specs.Map.{lookup, lookup_in, IsUpdated}
use Rattle.vc_tree_model.specs.Canonical.{IsSolid, IsWhole, AreChildren, IsCanonical}
use Rattle.vc_tree_model.specs.Same.{IsAlike, IsAlikeIn}
use Rattle.vc_tree_nodes.specs.Growth.{IsGrown, Adds, Inserted}
use Rattle.vc_tree_nodes.specs.Parting.{Agree, SplitsAt}
use Rattle.vc_tree_nodes.specs.Places.{FitsAt, IsGapAt, LeadsTo, child_first}
use Rattle.vc_tree_model.specs.Snapshot.{kept_itself}
use Rattle.vc_tree_model.proofs.AlikeLemmas.{alike-children, alike-solid, alike-trans, alike-lookup, alike-canonical, alike-nodes}
use Rattle.vc_tree_model.proofs.AlikeLemmas.{tree-alike_canonical}
use Rattle.vc_tree_model.proofs.Shortening.{shortened-canonical}
use Rattle.vc_tree_nodes.proofs.Finding.{begins-below, child-nodes}
use Rattle.vc_tree_nodes.proofs.Firsts.{child_first-map}
use Rattle.vc_tree_nodes.proofs.Parted.{agree-one}
use Rattle.vc_tree_nodes.proofs.Growing.{pair-solid, solid-insert, solid-length, gap-alike}
use Rattle.vc_tree_nodes.proofs.Growing.{children-insert, children-set, alike-set, alike-first}
use Rattle.vc_tree_nodes.proofs.Updating.{lookup-leaf, updated-behind, updated-value, updated-children, updated-split}
use Rattle.vc_tree_nodes.proofs.Updating.{updated-insert, updated-set, updated-alike}

-- what holds of an error, holds where it follows
pub on-err : {X E A B : Type 0} (r : Result X E) → (A → B) → OnErr r A → OnErr r B
on-err r f a = grind arith

-- what holds anyway
pub always-err : {X E A : Type 0} (r : Result X E) → A → OnErr r A
always-err r a = grind arith

-- what follows from each outcome
pub on-both : {X E A B C : Type 0} (r : Result X E) → OnOk r A → OnErr r B → (A → C) → (B → C) → C
on-both r a b f g = grind arith

-- a prefix that is not empty shows that a whole tree is solid
pub whole-solid : {K V : Type 0} (p : List K) (v : Option V) (f : Forest K V) → 0 < length p → IsWhole p v f → IsSolid v f
whole-solid p v f h w = grind arith

-- such a tree is canonical
pub inserted-canonical : {K V : Type 0} {cmp : K → K → Ordering} {keeps : V → V → Type 0} {t : Tree K V} {key : List K}
    {value : V} {p : List K} {u : Tree K V} → Inserted cmp keeps t key value p u → IsCanonical cmp u
inserted-canonical i = grind arith

-- what keeps an empty list is empty
empty-kept : {K V T : Type 0} (keeps : V → V → Type 0) (tree : T → Tree K V) (xs ys : List T) → xs ≡ []
    → IsAlikeIn keeps (forest (map tree xs)) (forest (map tree ys)) → ys ≡ []
empty-kept keeps tree [] [] e h = refl
empty-kept keeps tree xs ys e h = grind arith

-- the rest of a prefix, copied from the slice that was lent
pub low-from : {K : Type 0} (a whole p : List K) (n : ℕ) → a ≡ take (length whole - n) (drop n whole) → whole ≡ p
    → a ≡ drop n p
low-from a whole p n h e = grind (arith, take_rest)

-- a node without the first components of its prefix, of a copied value and copied children, is canonical
pub copied-canonical : {K V : Type 0} (is_clone : V → V → Type 0) (cmp : K → K → Ordering) (t : Tree K V) (n : ℕ)
    {made whole : List K} (v : Option V) (f : Forest K V) → made ≡ take (length whole - n) (drop n whole) → whole ≡ t.prefix
    → IsKept is_clone t.value v → IsAlikeIn is_clone t.children f → IsCanonical cmp t → IsCanonical cmp (node made v f)
copied-canonical is_clone cmp t n {made} {whole} v f e w value children canonical =
    tree-alike_canonical is_clone cmp (shortened n t) (node made v f)
    (sym (low-from made whole t.prefix n e w), value, children) (shortened-canonical cmp n t canonical)

module _ {K V : Type 0} {cmp : K → K → Ordering} {keeps : V → V → Type 0} (r : (v : V) → keeps v v)
    (trans : (u v w : V) → keeps u v → keeps v w → keeps u w) (o : IsTotalOrder cmp) where
  -- ---- a node's own value

  -- the value of the prefix is new
  pub value-set : (t : Tree K V) {u : Tree K V} {p : List K} {f : Forest K V} (value : V) → p ≡ t.prefix → f ≡ t.children
      → u ≡ node p (Some value) f → IsCanonical cmp t → Inserted cmp keeps t t.prefix value t.prefix u
  value-set t {u} {p} {f} value a b e canonical = rw (e, a, b) record {
    updated =
        updated-behind cmp keeps [] value [] t.value (Some value) t.children t.children
        (updated-value cmp keeps r value t.value t.children)
        t.prefix t.prefix t.prefix (sym (append-nil t.prefix)) (sym (append-nil t.prefix));
    branch = record { prefix = refl; solid = tt; children = canonical.1 };
  }

  -- ---- a node's children

  -- the children are changed below a node that stays
  children-changed : (t : Tree K V) (y : K) (q : List K) (value : V) (g : Forest K V) → IsSolid t.value g
      → AreChildren cmp g → IsUpdated cmp keeps (y ∷ q) value (lookup_in cmp t.children) (lookup_in cmp g)
      → Inserted cmp keeps t (t.prefix ++ y ∷ q) value t.prefix (node t.prefix t.value g)
  children-changed t y q value g s a u = record {
    updated =
        updated-behind cmp keeps (y ∷ q) value [] t.value t.value t.children g
        (updated-children cmp keeps r y q value t.value t.value t.children g (kept_itself keeps r t.value) u)
        t.prefix t.prefix (t.prefix ++ y ∷ q) (sym (append-nil t.prefix)) refl;
    branch = record { prefix = refl; solid = s; children = a };
  }

  module _ {T : Type 0} (tree : T → Tree K V) where
    -- one more child, at its place
    pub child-added : (t : Tree K V) {u : Tree K V} {p : List K} {v : Option V} {old new : List T} {i : ℕ} {item : T}
        {rest : List K} {value : V} → p ≡ t.prefix → v ≡ t.value → forest (map tree old) ≡ t.children
        → u ≡ node p v (forest (map tree new)) → IsCanonical cmp t → IsSolid t.value t.children → FitsAt cmp t.children rest i
        → tree item ≡ made rest (Some value) [] → Adds keeps tree old i item new
        → Inserted cmp keeps t (t.prefix ++ rest) value t.prefix u
    child-added t {u} {p} {v} {old} {new} {i} {item} {rest} {value} a b c e canonical solid fits leaf added =
        let f = forest (map tree old) in
        let g = forest (map tree added.kept) in
        let gap = gap-alike cmp keeps f g fits.first i added.alike (rw (← c) at fits.gap) in
        let one : tree item ≡ node (fits.first ∷ fits.others) (Some value) bare = rw fits.key_is at leaf in
        let kids = alike-children keeps cmp f g added.alike (rw (← c) at canonical.1) in
        let firm = alike-solid keeps t.value t.value f g (kept_itself keeps r t.value) added.alike (rw (← c) at solid) in
        rw (e, a, b, added.is, fits.key_is) (children-changed t fits.first fits.others value _
        (solid-insert tree t.value added.kept i item firm)
        (children-insert cmp tree added.kept i item fits.first fits.others value one gap kids)
        (grind (
          arith,
          c,
          updated-alike cmp keeps trans,
          alike-lookup keeps cmp f g added.alike,
          updated-insert cmp keeps o r tree added.kept i item fits.first fits.others value one gap,
        )))

    -- children that changed
    pub child-grown : (t : Tree K V) {u : Tree K V} {p : List K} {v : Option V} (old new : List T) {rest : List K} {value : V}
        {y : K} {q : List K} → p ≡ t.prefix → v ≡ t.value → forest (map tree old) ≡ t.children
        → u ≡ node p v (forest (map tree new)) → IsSolid t.value t.children → rest ≡ y ∷ q → length new ≡ length old
        → AreChildren cmp (forest (map tree new))
        → IsUpdated cmp keeps rest value (lookup_in cmp (forest (map tree old))) (lookup_in cmp (forest (map tree new)))
        → Inserted cmp keeps t (t.prefix ++ rest) value t.prefix u
    child-grown t old new a b c e solid key n kids w = grind (arith, children-changed, solid-length)

    -- a node whose children stayed alike is canonical
    pub parts-canonical : (t : Tree K V) {p : List K} {v : Option V} (old new : List T) → p ≡ t.prefix → v ≡ t.value
        → forest (map tree old) ≡ t.children → IsCanonical cmp t
        → IsAlikeIn keeps (forest (map tree old)) (forest (map tree new)) → IsCanonical cmp (node p v (forest (map tree new)))
    parts-canonical t {p} {v} old new a b c canonical alike =
        alike-canonical keeps cmp p v v (forest (map tree old)) (forest (map tree new)) (kept_itself keeps r v) alike
        (rw (a, b, c) canonical)

    -- ---- a node split in two

    -- what was cut off below stands alone as a child
    low-children : (t : Tree K V) (n : ℕ) (low : T) → n < length t.prefix → IsCanonical cmp t
        → tree low ≡ node (drop n t.prefix) t.value t.children → AreChildren cmp (forest (map tree (low ∷ [])))
    low-children t n low h canonical e = grind (arith, e, length-drop {A = K} n t.prefix)

    -- the half below, put below a new node, reads as before
    split-updated : (t : Tree K V) (n : ℕ) (low : T) (rest : List K) (value : V) (w : Option V) (g : Forest K V)
        → n < length t.prefix → tree low ≡ node (drop n t.prefix) t.value t.children
        → IsUpdated cmp keeps rest value (lookup cmp (node [] None (forest (map tree (low ∷ []))))) (lookup cmp (node [] w g))
        → IsUpdated cmp keeps (take n t.prefix ++ rest) value (lookup cmp t) (lookup cmp (node (take n t.prefix) w g))
    split-updated t n low rest value w g h e u =
        updated-behind cmp keeps rest value (drop n t.prefix) t.value w t.children g
        (updated-split cmp keeps rest value (drop n t.prefix) t.value t.children (lookup cmp (node [] w g))
        (omega (arith, length-drop {A = K} n t.prefix)) (rw e at u))
        (take n t.prefix) t.prefix (take n t.prefix ++ rest) (sym (take-append-drop n t.prefix)) refl

    -- a new node of the value above the half below, which was put into an empty list
    pub top-made : {t u : Tree K V} {n : ℕ} {p q whole : List K} {low : T} {none kept room list new : List T} {value : V}
        → n < length t.prefix → IsCanonical cmp t → whole ≡ t.prefix → p ≡ take n whole
        → q ≡ take (length whole - n) (drop n whole) → tree low ≡ node q t.value t.children → none ≡ []
        → IsAlikeIn keeps (forest (map tree none)) (forest (map tree kept)) → room ≡ kept → list ≡ insert room 0 low
        → new ≡ list → u ≡ node p (Some value) (forest (map tree new))
        → Inserted cmp keeps t (take n t.prefix) value (take n t.prefix) u
    top-made {t} {n = n} {p} {q} {whole} {low} {none} {kept} {value = value} h canonical w a b e z alike k x y d =
        let half = rw (low-from q whole t.prefix n b w) at e in
        let f = forest (map tree (low ∷ [])) in
        let above = split-updated t n low [] value (Some value) f h half (updated-value cmp keeps r value None f) in
        rw (d, y, x, k, empty-kept keeps tree none kept z alike, a, w) (record {
          updated = rw append-nil at above;
          branch = record { prefix = refl; solid = tt; children = low-children t n low h canonical half };
        })

    -- a new node above the half below and a leaf beside it, which were put into an empty list
    pub pair-made : {t u : Tree K V} {n i : ℕ} {rest p q whole : List K} {low leaf : T} {none kept room one list new : List T}
        {value : V} → SplitsAt cmp t n rest i → IsCanonical cmp t → whole ≡ t.prefix → p ≡ take n whole
        → q ≡ take (length whole - n) (drop n whole) → tree low ≡ node q t.value t.children
        → tree leaf ≡ made rest (Some value) [] → none ≡ []
        → IsAlikeIn keeps (forest (map tree none)) (forest (map tree kept)) → room ≡ kept → one ≡ insert room 0 low
        → list ≡ insert one i leaf → new ≡ list → u ≡ node p None (forest (map tree new))
        → Inserted cmp keeps t (take n t.prefix ++ rest) value (take n t.prefix) u
    pair-made {t} {n = n} {i} {p = p} {q} {whole} {low} {leaf} {none} {kept} {value = value}
        s canonical w a b e l z alike k x m y d =
        let half = rw (low-from q whole t.prefix n b w) at e in
        let f = forest (map tree (low ∷ [])) in
        let g = forest (map tree (insert (low ∷ []) i leaf)) in
        let first = s.fits.first in
        let others = s.fits.others in
        let gap : IsGapAt cmp f first i = rw half s.fits.gap in
        let alone : tree leaf ≡ node (first ∷ others) (Some value) bare = rw s.fits.key_is at l in
        rw (d, y, m, x, k, empty-kept keeps tree none kept z alike, a, w, s.fits.key_is) (record {
          updated = split-updated t n low _ value None g s.within half
              (updated-children cmp keeps r first others value None None f g tt
              (updated-insert cmp keeps o r tree (low ∷ []) i leaf first others value alone gap));
          branch = record {
            prefix = refl;
            solid = pair-solid tree low [] i leaf;
            children =
                children-insert cmp tree (low ∷ []) i leaf first others value alone gap
                (low-children t n low s.within canonical half);
          };
        })

    -- ---- one tree of a list

    -- a canonical child has a value or at least two children
    child-solid : (ts : List T) (i : ℕ) (d : T) → AreChildren cmp (forest (map tree ts)) → i < length ts
        → IsSolid (tree (get_or ts i d)).value (tree (get_or ts i d)).children
    child-solid (t ∷ ts) (suc i) d a h = grind (arith, child-solid ts i d)
    child-solid ts i d a h = grind arith

    module _ (old kept : List T) {i : ℕ} {rest : List K} (leads : LeadsTo cmp (forest (map tree old)) rest i)
        (alike : IsAlikeIn keeps (forest (map tree old)) (forest (map tree kept)))
        (canonical : AreChildren cmp (forest (map tree old))) where
      -- the tree that the key leads to begins as the old one
      pub leads-kept : child_first (forest (map tree kept)) i ≡ Some leads.begins.here
      leads-kept = grind (arith, alike-first)

      -- it is there
      pub leads-within : i < length kept
      leads-within =
          begins-below cmp tree kept leads.first i (record
          { here = leads.begins.here; at = leads-kept; equal = leads.begins.equal })

      -- the children that were copied are canonical
      pub kept-children : AreChildren cmp (forest (map tree kept))
      kept-children = grind (arith, alike-children)

      -- it agrees with the key in one component, and has a value or at least two children
      pub leads-child : {child : T} → child ≡ get_or kept i child
          → Agree cmp (tree child).prefix rest 1 × IsSolid (tree child).value (tree child).children
      leads-child {child} is = (
        grind (
          arith,
          agree-one cmp (tree child).prefix rest leads.begins.here leads.first leads.others,
          child_first-map cmp tree kept i child leads-within,
          leads-kept,
          leads.begins.equal,
          leads.key_is,
        ),
        grind (arith, child-solid, kept-children, leads-within),
      )

      -- and no more nodes than the list
      pub leads-nodes : {child : T} → child ≡ get_or kept i child → nodes (tree child) ≤ forest_nodes (forest (map tree old))
      leads-nodes is = grind (arith, child-nodes, leads-within, alike-nodes)

      module _ {child : T} (item : T) {new : List T} (is : child ≡ get_or kept i child)
          (set_is : new ≡ set kept i item) where
        -- the map of the list, where the tree that the key leads to was updated
        pub list-updated : {value : V} → IsUpdated cmp keeps rest value (lookup cmp (tree child)) (lookup cmp (tree item))
            → IsUpdated cmp keeps rest value (lookup_in cmp (forest (map tree old))) (lookup_in cmp (forest (map tree new)))
        list-updated u = grind (arith, updated-alike, alike-lookup, updated-set, leads-kept, kept-children)

        -- the trees are canonical children where that one has grown
        pub list-grown : IsGrown cmp 1 (tree child) (tree item) → AreChildren cmp (forest (map tree new))
        list-grown g = grind (arith, children-set cmp tree kept i item child, kept-children)

        -- the trees are alike where that one is
        pub list-alike : IsAlike keeps (tree child) (tree item)
            → IsAlikeIn keeps (forest (map tree old)) (forest (map tree new))
        list-alike h = grind (arith, alike-trans, alike-set)

module _ {K V : Type 0} (cmp : K → K → Ordering) (keeps : V → V → Type 0) where
  -- a leaf in the place of the empty tree
  pub leaf-made : (t u : Tree K V) (key : List K) (value : V) → is_bare t ≡ true → u ≡ made key (Some value) []
      → IsUpdated cmp keeps key value (lookup cmp t) (lookup cmp u)
  leaf-made t u key value b e = rw e (record {
    at = λ k s. grind (arith, lookup-leaf cmp keeps key k value);
    others = λ k s. grind (arith, lookup-leaf cmp keeps key k value);
  })

-- ---- lists of items that a list was made of

-- what keeps a list is as long
pub length-kept : {K V T : Type 0} (keeps : V → V → Type 0) (tree : T → Tree K V) (xs ys : List T)
    → IsAlikeIn keeps (forest (map tree xs)) (forest (map tree ys)) → length xs ≡ length ys
length-kept keeps tree [] [] h = refl
length-kept keeps tree (x ∷ xs) (y ∷ ys) h = grind (arith, length-kept keeps tree xs ys)
length-kept keeps tree xs ys h = grind arith
