-- What is left of the keys of a tree that are prefixes of a path.
use Rattle.std.specs.Prelude.{ℕ, ◌+◌, List, [], ◌∷◌, drop, Option, Some, None}
use Rattle.std.specs.List.{cons_option}
use Rattle.std.specs.Option.{option_map}
use Rattle.std.specs.declared.cmp.Ordering.{Ordering}
use Rattle.vc_tree_model.specs.Map.{lookup_in}
use Rattle.vc_tree_model.specs.Tree.{Tree, nodes}
use Rattle.vc_tree_walks.specs.declared.prefixes.Prefixes.{Prefixes}

-- the value of a key of n components beside that number, before others
abbrev pub own_before : {V : Type 0} → ℕ → Option V → List (ℕ × V) → List (ℕ × V)
own_before n v l = cons_option (option_map (λ v. (n, v)) v) l

module _ {K V : Type 0} where
  -- the keys of f that are prefixes of a path, where n components come before both
  abbrev pub along : ℕ → (List K → Option V) → List K → List (ℕ × V)
  along n f [] = own_before n (f []) []
  along n f (x ∷ path) = own_before n (f []) (along (n + 1) (λ k. f (x ∷ k)) path)

module _ {K V T : Type 0} where
  -- those that are left: the node's own, and those of its children
  abbrev pub prefixes_left : (K → K → Ordering) → (T → Tree K V) → Prefixes K V T → List (ℕ × V)
  prefixes_left cmp tree s =
      elim s.node [
        | None ↦ []
        | Some t ↦ own_before s.used (tree t.now).value
            (along s.used (lookup_in cmp (tree t.now).children) (drop s.used s.path.now))
      ]

  -- how many steps the iterator takes at most
  abbrev pub prefixes_work : (T → Tree K V) → Prefixes K V T → ℕ
  prefixes_work tree s =
      elim s.node [
        | None ↦ 0
        | Some t ↦ nodes (tree t.now)
      ]
