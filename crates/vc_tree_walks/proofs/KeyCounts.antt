-- How many keys the trees of a list have, where one more is counted.
use Rattle.std.proofs.Common.{◌≡◌, ℕ, ◌+◌, ◌<◌, List, [], ◌∷◌, ◌++◌, get_or, length, min, take, ap, sym, ◌∙◌, arith}
use Rattle.std.proofs.lemmas.List.{take_more}
use Rattle.vc_tree_model.specs.Tree.{Tree, forest_key_count, key_count}
use Rattle.vc_tree_nodes.specs.Children.{seen}

module _ {K V T : Type 0} (tree : T → Tree K V) where
  -- one more tree behind the others
  counted-push : (ts : List T) (x : T)
      → forest_key_count (seen tree (ts ++ x ∷ [])) ≡ forest_key_count (seen tree ts) + key_count (tree x)
  counted-push (t ∷ ts) x = grind (arith, counted-push ts x)
  counted-push [] x = grind arith

  -- a number that stops at the most
  stopped : (a b most count more : ℕ) → count ≡ min a most → more ≡ min b most
      → min (count + more) most ≡ min (a + b) most
  stopped a b most count more e h = grind arith

  -- one more tree of a list is counted
  pub counted-more : (xs : List T) (i : ℕ) (x : T) (most count more : ℕ) → i < length xs → x ≡ get_or xs i x
      → count ≡ min (forest_key_count (seen tree (take i xs))) most → more ≡ min (key_count (tree x)) most
      → min (count + more) most ≡ min (forest_key_count (seen tree (take (i + 1) xs))) most
  counted-more xs i x most count more h e c m =
      let one_more : take (i + 1) xs ≡ take i xs ++ x ∷ [] = take_more xs i x h ∙ ap (λ l. take i xs ++ l ∷ []) (sym e) in
      let counted = ap (λ l. forest_key_count (seen tree l)) one_more ∙ counted-push (take i xs) x in
      stopped (forest_key_count (seen tree (take i xs))) (key_count (tree x)) most count more c m
      ∙ ap (λ n. min n most) (sym counted)
