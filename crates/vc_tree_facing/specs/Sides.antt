-- The events of two lists of trees, by the components at a place of their prefixes. No public clause cites these words.
use Rattle.std.specs.Prelude.{ℕ, ◌⊎◌, Option, Some, None, slice_get}
use Rattle.std.proofs.Common.{inl, inr}
use Rattle.std.proofs.lemmas.Cmp.{on_total}
use Rattle.std.specs.Cmp.{IsTotalOrder}
use Rattle.std.specs.Cmp.Lexicographic.{options_total}
use Rattle.std.specs.Option.{option_cmp}
use Rattle.std.specs.declared.cmp.Ordering.{Ordering}
use Rattle.std.specs.declared.cmp.Ordering.TheVariants.{Less, Equal, Greater}
use Rattle.vc_tree_model.specs.Tree.{Tree}
use Rattle.vc_tree_facing.specs.declared.sides.EventSide.{EventSide}
use Rattle.vc_tree_facing.specs.declared.sides.EventSide.TheVariants.{Left, Right, Both}

module _ {K V W A B : Type 0} (ta : A → Tree K V) (tb : B → Tree K W) (i j : ℕ) where
  -- the component at place i of a left tree's prefix, or at place j of a right one's
  abbrev pub component : A ⊎ B → Option K
  component (inl a) = slice_get (ta a).prefix i
  component (inr b) = slice_get (tb b).prefix j

  -- trees in the order of those components
  abbrev pub by_component : (K → K → Ordering) → A ⊎ B → A ⊎ B → Ordering
  by_component cmp x y = option_cmp cmp (component x) (component y)

  pub by_component_total : {cmp : K → K → Ordering} → IsTotalOrder cmp → IsTotalOrder (by_component cmp)
  by_component_total o = on_total component (options_total o)

-- the side of the lower of two trees, by how the right one compares with the left one
abbrev pub lower_side : Ordering → EventSide
lower_side Less = Right
lower_side Equal = Both
lower_side Greater = Left

-- the side of the next event of two lists, by the first tree of each
abbrev pub side_next : {A B : Type 0} → (A ⊎ B → A ⊎ B → Ordering) → Option A → Option B → Option EventSide
side_next order None None = None
side_next order None (Some y) = Some Right
side_next order (Some x) None = Some Left
side_next order (Some x) (Some y) = Some (lower_side (order (inr y) (inl x)))
