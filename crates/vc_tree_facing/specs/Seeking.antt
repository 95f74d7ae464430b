-- A tree that is sought among others by the component with which it continues. No public clause
-- cites these words.
use Rattle.std.specs.Prelude.{◌≡◌, ℕ, List, [], ◌∷◌, ◌++◌, Option, Some, None, slice_get, ⊤}
use Rattle.std.specs.List.{AllByRecursion, cons_option}
use Rattle.std.specs.declared.cmp.Ordering.{Ordering}
use Rattle.std.specs.declared.cmp.Ordering.TheVariants.{Less, Equal, Greater}
use Rattle.vc_tree_model.specs.Tree.{Tree}
use Rattle.vc_tree_nodes.specs.Places.{first_side}

module _ {K V T : Type 0} (cmp : K → K → Ordering) (tree : T → Tree K V) (n : ℕ) (x : K) where
  -- how a tree compares with x by the component at place n of its prefix
  abbrev pub side_at : T → Ordering
  side_at t = first_side cmp x (slice_get (tree t).prefix n)

  -- some trees were passed, which continue with lesser components, and the others are left
  pub record IsPassed (old rest : List T) : Type 0 where
    pub passed : List T
    pub is : old ≡ passed ++ rest
    pub lower : AllByRecursion (λ t. side_at t ≡ Less) passed

  -- the tree that was found continues with x; where none was, the first that is left continues with
  -- a greater component
  abbrev pub Stops : Option T → List T → Type 0
  Stops (Some t) rest = side_at t ≡ Equal
  Stops None [] = ⊤
  Stops None (t ∷ rest) = side_at t ≡ Greater

  -- the trees that continue with lesser components were passed, and then the one that was found was
  -- taken
  pub record IsSought (old : List T) (found : Option T) (new : List T) : Type 0 where
    pub passes : IsPassed old (cons_option found new)
    pub stops : Stops found new
