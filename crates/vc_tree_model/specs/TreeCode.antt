-- How a tree is stored as numbers, and why its children are smaller: what a `Model` whose value is a tree asks for.
use Rattle.std.specs.Prelude.{◌≡◌, ℕ, ◌+◌, ◌≤◌, List, [], ◌∷◌, ◌++◌, Option, Some, None, refl}
use Rattle.std.specs.Coded.{Coded, code_by, coded×, coded_list, coded_option}
use Rattle.std.proofs.Common.{ap, sym, ◌∙◌, append_assoc, arith}
use Rattle.std.proofs.lemmas.List.{append-nil}
use denote.Param.Weighed.{most}
use Rattle.vc_tree_model.specs.Tree.{Tree, Forest, bare, grow, forest, node, nodes, forest_nodes}

module _ {K V : Type 0} where
  -- a forest in postorder: each node after its children and its later siblings
  abbrev tokens : Forest K V → List (Option (List K × Option V))
  tokens bare = None ∷ []
  tokens (grow p v kids rest) = tokens kids ++ (tokens rest ++ Some (p, v) ∷ [])

  -- a stack machine reads one token: an end, or a node over the two forests on top
  abbrev step : Option (List K × Option V) → List (Forest K V) → List (Forest K V)
  step None stack = bare ∷ stack
  step (Some n) [] = []
  step (Some n) (rest ∷ []) = []
  step (Some n) (rest ∷ kids ∷ stack) = grow n.0 n.1 kids rest ∷ stack

  -- it reads a list of tokens
  abbrev build : List (Option (List K × Option V)) → List (Forest K V) → List (Forest K V)
  build [] stack = stack
  build (t ∷ ts) stack = build ts (step t stack)

  -- the forest on top of the stack
  abbrev top : List (Forest K V) → Forest K V
  top [] = bare
  top (f ∷ stack) = f

  -- the tokens of a forest put it on the stack
  build-tokens : (f : Forest K V) (ts : List (Option (List K × Option V))) (stack : List (Forest K V))
      → build (tokens f ++ ts) stack ≡ build ts (f ∷ stack)
  build-tokens bare ts stack = refl
  build-tokens (grow p v kids rest) ts stack =
      ap (λ l. build l stack) (append_assoc (tokens kids) (tokens rest ++ Some (p, v) ∷ []) ts)
      ∙ build-tokens kids ((tokens rest ++ Some (p, v) ∷ []) ++ ts) stack
      ∙ ap (λ l. build l (kids ∷ stack)) (append_assoc (tokens rest) (Some (p, v) ∷ []) ts)
      ∙ build-tokens rest (Some (p, v) ∷ ts) (kids ∷ stack)

  -- the machine returns the forest whose tokens it read
  pub top-build : (f : Forest K V) → top (build (tokens f) []) ≡ f
  top-build f = ap (λ l. top (build l [])) (sym (append-nil (tokens f))) ∙ ap top (build-tokens f [] [])

  -- a forest is stored as its tokens
  abbrev pub forest_code : Coded K → Coded V → Coded (Forest K V)
  forest_code k v =
      code_by (List (Option (List K × Option V))) (coded_list (coded_option (coded× (coded_list k) (coded_option v))))
      tokens (λ l. top (build l [])) top-build

  -- a tree is stored as its three parts
  abbrev pub tree_code : Coded K → Coded V → Coded (Tree K V)
  tree_code k v =
      code_by (List K × (Option V × Forest K V)) (coded× (coded_list k) (coded× (coded_option v) (forest_code k v)))
      (λ t. (t.prefix, (t.value, t.children))) (λ p. node p.0 p.1.0 p.1.1) (λ _. refl)

  -- no child has more nodes than there are below
  pub most_le-nodes : (ts : List (Tree K V)) → most (λ t. nodes t + 1) ts ≤ forest_nodes (forest ts) + 1
  most_le-nodes [] = omega arith
  most_le-nodes (t ∷ ts) = omega (arith, most_le-nodes ts)
