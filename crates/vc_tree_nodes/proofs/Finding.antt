-- The child that a component leads to, and what the others bind.
--     begins-below        a child that begins with a component is there
--     found-at, gap-none        what a found child binds; that no child binds what has a gap for its place
--     child-nodes, list-nodes        a child has no more nodes than the list
--     trees-length        how many children a node has
use Rattle.std.proofs.Common.{◌≡◌, ℕ, zero, suc, ◌<◌, ◌≤◌, [], ◌∷◌, List, Option, None, Some, refl, ap, ◌∙◌}
use Rattle.std.proofs.Common.{arith, get_or, map, length}
use Rattle.std.specs.Cmp.{IsTotalOrder, Equal-is}
use Rattle.std.specs.declared.cmp.Ordering.{Ordering}
use Rattle.std.specs.declared.cmp.Ordering.TheVariants.{Equal}
use Rattle.vc_tree_model.specs.Tree.{Tree, Forest, grow, forest, node, trees, nodes, forest_nodes, width, forest_width}
use Rattle.vc_tree_model.specs.Map.{or_else, lookup, lookup_in}
use Rattle.vc_tree_model.specs.Canonical.{AreChildren}
use Rattle.vc_tree_nodes.specs.Places.{child_first, BeginsAt, IsGapAt, IsFoundChild}
use Rattle.vc_tree_model.proofs.LookupLemmas.{lookup-other, lookup_in-above, above-equal}
use Rattle.vc_tree_nodes.proofs.Firsts.{above-at, rest-children, child_first-map}

-- a tree of a list has no more nodes than the list
pub list-nodes : {K V : Type 0} (ts : List (Tree K V)) (i : ℕ) (d : Tree K V) → i < length ts
    → nodes (get_or ts i d) ≤ forest_nodes (forest ts)
list-nodes (t ∷ ts) (suc i) d h = grind (arith, list-nodes ts i d)
list-nodes ts i d h = grind arith

-- as many trees are seen as there are
pub trees-length : {K V T : Type 0} (tree : T → Tree K V) (xs : List T) → length (trees (forest (map tree xs))) ≡ length xs
trees-length tree [] = refl
trees-length tree (t ∷ ts) = ap suc (trees-length tree ts)

module _ {K V : Type 0} (cmp : K → K → Ordering) where
  -- what has a gap for its place is not bound
  pub gap-none : IsTotalOrder cmp → (f : Forest K V) (x : K) (i : ℕ) → IsGapAt cmp f x i → (rest : List K)
      → lookup_in cmp f (x ∷ rest) ≡ None
  gap-none o f x zero g rest = lookup_in-above cmp o x f rest g
  gap-none o (grow (y ∷ p) v kids others) x (suc i) g rest = grind (arith, gap-none o others x i g.1 rest)
  gap-none o f x i g rest = grind arith

  -- a later one begins with x: the first does not
  first-skipped : IsTotalOrder cmp
      → (p : List K) (v : Option V) (kids others : Forest K V) (i : ℕ) (y x : K) (rest : List K)
      → AreChildren cmp (grow p v kids others) → child_first others i ≡ Some y → cmp y x ≡ Equal
      → lookup cmp (node p v kids) (x ∷ rest) ≡ None
  first-skipped o p v kids others i y x rest a e h = grind (arith, above-at, lookup-other)

  module _ {T : Type 0} (tree : T → Tree K V) where
    -- where a child begins with x there is one
    pub begins-below : (xs : List T) (x : K) (i : ℕ) → BeginsAt cmp (forest (map tree xs)) x i → i < length xs
    begins-below (t ∷ ts) x (suc i) b =
        grind (arith, begins-below ts x i (record { here = b.here; at = b.at; equal = b.equal }))
    begins-below xs x i b = grind (arith, b.at)

    -- a child has no more nodes than the list
    pub child-nodes : (xs : List T) (i : ℕ) (d : T) → i < length xs
        → nodes (tree (get_or xs i d)) ≤ forest_nodes (forest (map tree xs))
    child-nodes (t ∷ ts) (suc i) d h = grind (arith, child-nodes ts i d)
    child-nodes xs i d h = grind arith

    -- nor has a node below it more children
    child-width : (xs : List T) (i : ℕ) (d : T) → i < length xs
        → width (tree (get_or xs i d)) ≤ forest_width (forest (map tree xs))
    child-width (t ∷ ts) (suc i) d h = grind (arith, child-width ts i d)
    child-width xs i d h = grind arith

    -- the child that begins with x binds what the list binds of the keys that begin so
    pub lookup_in-at : IsTotalOrder cmp → (xs : List T) (i : ℕ) (d : T) (y x : K) (rest : List K)
        → AreChildren cmp (forest (map tree xs)) → child_first (forest (map tree xs)) i ≡ Some y → cmp y x ≡ Equal
        → lookup_in cmp (forest (map tree xs)) (x ∷ rest) ≡ lookup cmp (tree (get_or xs i d)) (x ∷ rest)
    lookup_in-at o (t ∷ ts) (suc i) d y x rest a e h =
        ap (λ m. or_else m (lookup_in cmp (forest (map tree ts)) (x ∷ rest)))
        (first-skipped o (tree t).prefix (tree t).value (tree t).children (forest (map tree ts)) i y x rest a e h)
        ∙ lookup_in-at o ts i d y x rest (rest-children cmp (tree t).prefix (tree t).value (tree t).children
        (forest (map tree ts)) a) e h
    lookup_in-at o xs i d y x rest a e h = grind (arith, lookup_in-above, above-equal)

    -- it is found
    pub found-at : IsTotalOrder cmp → (xs : List T) (i : ℕ) (x : K) (child : T)
        → AreChildren cmp (forest (map tree xs)) → BeginsAt cmp (forest (map tree xs)) x i → child ≡ get_or xs i child
        → IsFoundChild cmp (forest (map tree xs)) x (tree child)
    found-at o xs i x child a b e =
        let within = begins-below xs x i b in
        record {
          begins = grind (arith, child_first-map cmp tree xs i child within, b.at, b.equal);
          same = λ rest. rw e (lookup_in-at o xs i child b.here x rest a b.at ((Equal-is (cmp b.here x)).0 b.equal));
          smaller = rw e (child-nodes xs i child within);
          narrower = rw e (child-width xs i child within);
        }
