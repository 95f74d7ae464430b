-- What is left of the pairs of a tree between two keys.
use Rattle.std.specs.Prelude.{ℕ, List}
use Rattle.std.specs.Cmp.Lexicographic.{slice_cmp}
use Rattle.std.specs.List.{take_while}
use Rattle.std.specs.Ordering.{is_lt}
use Rattle.std.specs.declared.cmp.Ordering.{Ordering}
use Rattle.vc_tree_model.specs.Tree.{Tree}
use Rattle.vc_tree_walks.specs.IterLeft.{pairs_left, work_left}
use Rattle.vc_tree_walks.specs.declared.range.Range.{Range}

module _ {K V T : Type 0} where
  -- the pairs that are left: those of the walk, up to the first whose key is not less than the upper one
  abbrev pub range_left : (K → K → Ordering) → (T → Tree K V) → Range K V T → List (List K × V)
  range_left cmp tree s = take_while (λ b. is_lt (slice_cmp cmp b.0 s.to.now)) (pairs_left tree s.pairs)

  -- how many steps the iterator takes at most
  abbrev pub range_work : (T → Tree K V) → Range K V T → ℕ
  range_work tree s = work_left tree s.pairs
