-- Two lists of trees, where those that only one list has were passed. No public clause cites these
-- words.
use Rattle.std.specs.Prelude.{◌≡◌, ℕ, ◌≤◌, List, [], ◌∷◌, ◌++◌, drop, length, Option, Some, None, ◌⊎◌}
use Rattle.std.specs.List.{cons_option}
use Rattle.std.specs.declared.cmp.Ordering.{Ordering}
use Rattle.std.specs.declared.cmp.Ordering.TheVariants.{Equal}
use Rattle.vc_merge.specs.Chain.{Run, of_left, of_right, of_both}
use Rattle.vc_merge.specs.Fronts.{LeftBelow, RightBelow, HeadsCompare}
use Rattle.vc_tree_edits.specs.declared.pairs.Trees.{Trees}
use Rattle.vc_tree_edits.specs.declared.pairs.Trees.TheVariants.{One, Many}

-- the trees, as a list
abbrev pub trees_of : {B : Type 0} → Trees B → List B
trees_of (One t) = t.now ∷ []
trees_of (Many ts) = ts.now

module _ {A B : Type 0} (order : A ⊎ B → A ⊎ B → Ordering) where
  -- runs of either list were passed one after another, each below all that was left of the other list
  abbrev pub ArePassed : List (Run A B) → List A → List B → List A → List B → Type 0
  ArePassed [] ls rs ls' rs' = (ls ≡ ls') × (rs ≡ rs')
  ArePassed (of_left xs ∷ runs) ls rs ls' rs' =
      (more : List A) × (ls ≡ xs ++ more) × LeftBelow order xs rs × ArePassed runs more rs ls' rs'
  ArePassed (of_right ys ∷ runs) ls rs ls' rs' =
      (more : List B) × (rs ≡ ys ++ more) × RightBelow order ys ls × ArePassed runs ls more ls' rs'
  ArePassed (of_both x y ∷ runs) ls rs ls' rs' = ⊥

  -- the first left tree and this right one begin alike; where there is none, no tree is left
  abbrev pub StandsAt : Option B → List A → List B → Type 0
  StandsAt None ls rs = (ls ≡ []) × (rs ≡ [])
  StandsAt (Some y) ls rs = HeadsCompare order ls (y ∷ []) Equal

  -- n left trees, and some right ones, were passed, up to the next two that begin alike
  pub record IsNextPair (ls : List A) (rs : List B) (n : ℕ) (found : Option B) (rest : List B) : Type 0 where
    pub within : n ≤ length ls
    pub runs : List (Run A B)
    pub passed : ArePassed runs ls rs (drop n ls) (cons_option found rest)
    pub stands : StandsAt found (drop n ls) rest
