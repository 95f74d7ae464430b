-- What is made of two trees whose nodes are moved. No public clause cites these words.
use Rattle.std.specs.Prelude.{◌≡◌, Bool, cond, ℕ, ◌≤◌, List, length, map, take, drop, Option, Some, None, ⊤}
use Rattle.std.proofs.Common.{inl, inr}
use Rattle.std.specs.declared.cmp.Ordering.{Ordering}
use Rattle.std.specs.declared.cmp.Ordering.TheVariants.{Equal}
use Rattle.vc_tree_model.specs.Look.{values}
use Rattle.vc_tree_model.specs.Tree.{Tree, shortened}
use Rattle.vc_tree_model.specs.Value.{IsKept}
use Rattle.vc_tree_facing.specs.Doing.{IsDoing}
use Rattle.vc_tree_facing.specs.Made.{IsMade}
use Rattle.vc_tree_facing.specs.Sides.{by_component}
use Rattle.vc_tree_edits.specs.Woven.{woven, AreWithin}
use Rattle.vc_tree_edits.specs.declared.engine.Below.{Below}
use Rattle.vc_tree_edits.specs.declared.engine.Below.TheVariants.{Alone, Children}
use Rattle.vc_tree_edits.specs.declared.appending.RightList.{RightList}

-- each key of either side keeps its value, a shared key that of the right side if it wins, and otherwise that of the left
abbrev pub IsAppendedAt : {V : Type 0} → (V → V → Type 0) → Bool → Option V → Option V → Option V → Type 0
IsAppendedAt keeps right_wins None w z = IsKept keeps w z
IsAppendedAt keeps right_wins (Some v) None z = IsKept keeps (Some v) z
IsAppendedAt keeps right_wins (Some v) (Some w) z = IsKept keeps (Some (cond right_wins w v)) z

-- what comes in for a tree y, without the first j components of its prefix: a tree with the same values
abbrev pub ComesWhole : {K V T : Type 0} → (K → K → Ordering) → (V → V → Type 0) → (T → Tree K V) → ℕ → T → T → Type 0
ComesWhole cmp keeps tree j y t = IsMade cmp (IsKept keeps) (shortened j (tree y)) (Some (tree t))

module _ {T : Type 0} where
  -- the trees of a right list that are left
  abbrev pub rest_of : RightList T → List T
  rest_of r = drop r.next r.trees.items

  -- one where the prefix has ended, and none where it continues
  abbrev pub ended_of : Below T → ℕ
  ended_of (Alone x n) = 0
  ended_of (Children xs) = 1

  -- two trees that both continue do not begin alike
  abbrev pub AreApartBelow : {K V : Type 0} → (K → K → Ordering) → (T → Tree K V) → Below T → Below T → Type 0
  AreApartBelow cmp tree (Alone x i) (Alone y j) = by_component tree tree i j cmp (inl x) (inr y) ≡ Equal → ⊥
  AreApartBelow cmp tree (Alone x i) (Children ys) = ⊤
  AreApartBelow cmp tree (Children xs) right = ⊤

-- ls is the list that was xs, as changed so far. Of xs and ys, without the first j components of the prefixes of ys, one list was
-- made up to the place `at` of ls: it has the first `kept` trees of ls, and the comers at their places. The trees of ls from that
-- place on are left, and of ys those that the right list has
pub record IsAppending {K V T : Type 0} (cmp : K → K → Ordering) (tree : T → Tree K V) (keeps : V → V → Type 0)
    (right_wins : Bool) (j : ℕ) (xs ys ls : List T) (kept at : ℕ) (right : RightList T) : Type 0 where
  pub order : kept ≤ at
  pub within : at ≤ length ls
  pub places : AreWithin (length (take kept ls)) right.comers.items
  pub going :
      IsDoing cmp tree tree 0 j (values cmp) (IsAppendedAt keeps right_wins) (λ v w. ⊤) xs ys (drop at ls) (rest_of right)
      (map tree (woven 0 (take kept ls) right.comers.items))
