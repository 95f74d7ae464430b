-- Trees of the right side that come into a list of trees. No public clause cites these words.
use Rattle.std.specs.Prelude.{◌≡◌, ℕ, ◌+◌, ◌-◌, ◌≤◌, List, [], ◌∷◌, ◌++◌, drop, length, take, Option, Some, None, ◌⊎◌}
use Rattle.std.specs.List.{AllByRecursion}
use Rattle.std.specs.declared.cmp.Ordering.{Ordering}
use Rattle.vc_merge.specs.Chain.{Run, of_left, of_right, of_both}
use Rattle.vc_tree_model.specs.Look.{Look}
use Rattle.vc_tree_model.specs.Tree.{Tree, shortened}
use Rattle.vc_tree_facing.specs.Made.{IsMadeBy}
use Rattle.vc_tree_edits.specs.Pairs.{IsNextPair}
use Rattle.vc_tree_edits.specs.declared.comers.Comer.{Comer}

module _ {T : Type 0} where
  -- a tree that comes in behind the first n trees
  abbrev pub comer : ℕ → T → Comer T
  comer n t = record { place = n; tree = t }

  -- no comer is after more than n trees
  abbrev pub AreWithin : ℕ → List (Comer T) → Type 0
  AreWithin n cs = AllByRecursion (λ c. c.place ≤ n) cs

  -- these trees, before which n others are, with each comer put in at its place
  abbrev pub woven : ℕ → List T → List (Comer T) → List T
  woven n ks [] = ks
  woven n ks (c ∷ cs) = take (c.place - n) ks ++ (c.tree ∷ woven (n + (c.place - n)) (drop (c.place - n) ks) cs)

-- what comes in for a tree y of the right side, without the first j components of its prefix
abbrev pub ComesAs : {K V W O T B : Type 0} (cmp : K → K → Ordering) → Look cmp W O → (Option V → O → Option V → Type 0)
    → (T → Tree K V) → (B → Tree K W) → ℕ → B → T → Type 0
ComesAs cmp l R tree tb j y t = IsMadeBy cmp l (λ w z. R None w z) (shortened j (tb y)) (Some (tree t))

module _ {B T : Type 0} (comes : B → T → Type 0) where
  -- for each of these trees one was added that comes in
  abbrev pub AreAdded : {X : Type 0} → (T → X) → List B → List X → List X → Type 0
  AreAdded put [] old new = new ≡ old
  AreAdded put (y ∷ ys) old new = (t : T) × comes y t × AreAdded put ys (old ++ (put t ∷ [])) new

  -- for the right trees of these runs, before which n left ones are, comers were added at their places
  abbrev pub AreNoted : ℕ → List (Run T B) → List (Comer T) → List (Comer T) → Type 0
  AreNoted n [] old new = new ≡ old
  AreNoted n (of_left xs ∷ runs) old new = AreNoted (n + length xs) runs old new
  AreNoted n (of_right ys ∷ runs) old new = (next : List (Comer T)) × AreAdded (comer n) ys old next × AreNoted n runs next new
  AreNoted n (of_both x y ∷ runs) old new = ⊥

  -- trees were passed up to the next two that begin alike, and the right ones among them are noted
  pub record IsNextNoted (order : T ⊎ B → T ⊎ B → Ordering) (n : ℕ) (ls : List T) (rs : List B) (k : ℕ) (found : Option B)
      (rest : List B) (old new : List (Comer T)) : Type 0 where
    pub pair : IsNextPair order ls rs k found rest
    pub noted : AreNoted n pair.runs old new
