-- How trees are read at a key: the value that is bound there, or something else about the key, such
-- as the value of its longest prefix.
use Rattle.std.specs.Prelude.{◌≡◌, false, List, [], ◌∷◌, Option, Some, None, refl}
use Rattle.std.specs.Ordering.{is_eq}
use Rattle.std.specs.declared.cmp.Ordering.{Ordering}
use Rattle.std.specs.declared.cmp.Ordering.TheVariants.{Equal}
use Rattle.std.proofs.Common.{ap, ◌∙◌}
use Rattle.vc_tree_model.specs.Key.{behind}
use Rattle.vc_tree_model.specs.Tree.{Tree, Forest, bare, grow, node}
use Rattle.vc_tree_model.specs.Map.{or_else, node_lookup, lookup, lookup_in, or_else-none}

-- what a node says of what is left of a key after its prefix: nothing, what it says itself, or what
-- is said below
abbrev pub told : {K O : Type 0} → O → O → (List K → O) → Option (List K) → O
told none here below None = none
told none here below (Some []) = here
told none here below (Some (x ∷ rest)) = below (x ∷ rest)

-- a way to read trees at a key
--     none        what is said where nothing is bound
--     at v        what a node with the value v says of its own key
--     under v o        what it says of a longer key, of which the children say o
pub record Look {K : Type 0} (cmp : K → K → Ordering) (V O : Type 0) : Type 0 where
  pub none : O
  pub at : Option V → O
  pub under : Option V → O → O
  pub at_none : at None ≡ none
  pub under_none : (o : O) → under None o ≡ o
  pub of_tree : Tree K V → List K → O
  pub of_forest : Forest K V → List K → O
  pub in_bare : (x : K) (q : List K) → of_forest bare (x ∷ q) ≡ none
  pub skips : (p : List K) (v : Option V) (kids rest : Forest K V) (y x : K) (q : List K) → is_eq (cmp y x) ≡ false
      → of_forest (grow (y ∷ p) v kids rest) (x ∷ q) ≡ of_forest rest (x ∷ q)
  pub takes : (p : List K) (v : Option V) (kids rest : Forest K V) (y x : K) (q : List K) → cmp y x ≡ Equal
      → of_forest rest (x ∷ q) ≡ none
      → of_forest (grow (y ∷ p) v kids rest) (x ∷ q) ≡ of_tree (node (y ∷ p) v kids) (x ∷ q)
  pub tree_is : (t : Tree K V) (k : List K)
      → of_tree t k ≡ told none (at t.value) (λ q. under t.value (of_forest t.children q)) (behind cmp t.prefix k)

-- the value of a key is read so
pub told_values : {K V : Type 0} (v : Option V) (below : List K → Option V) (left : Option (List K))
    → node_lookup v below left ≡ told None v below left
told_values v below None = refl
told_values v below (Some []) = refl
told_values v below (Some (x ∷ rest)) = refl

-- the value of a key
abbrev pub values : {K V : Type 0} (cmp : K → K → Ordering) → Look cmp V (Option V)
values cmp = record {
  none = None;
  at = λ v. v;
  under = λ v o. o;
  at_none = refl;
  under_none = λ o. refl;
  of_tree = lookup cmp;
  of_forest = lookup_in cmp;
  in_bare = λ x q. refl;
  skips = λ p v kids rest y x q e. rw e refl;
  takes = λ p v kids rest y x q e n. ap (or_else _) n ∙ or_else-none _;
  tree_is = λ t k. told_values t.value (lookup_in cmp t.children) (behind cmp t.prefix k);
}
