-- The way down to the first or to the last pair of a tree. No public clause cites these words.
use Rattle.std.specs.Prelude.{◌≡◌, ℕ, ◌-◌, ◌^◌, ◌<◌, List, length, min, Option, slice_get}
use Rattle.std.specs.Option.{option_map}
use Rattle.vc_tree_model.specs.Tree.{Tree, nodes}
use Rattle.vc_tree_model.specs.Walk.{prepended, walk}
use Rattle.vc_tree_walks.specs.declared.ends.End.{End}
use Rattle.vc_tree_walks.specs.declared.ends.End.TheVariants.{First, Last}

-- the element at an end of a list, if there is one
abbrev pub end_of : {A : Type 0} → End → List A → Option A
end_of First l = slice_get l 0
end_of Last l = slice_get l (length l - 1)

module _ {K V : Type 0} where
  -- the pair of a prefix and a value, if there is one
  abbrev pub own_end : List K → Option V → Option (List K × V)
  own_end p v = option_map (λ v. (p, v)) v

  -- how many components the key of a pair has, or the greatest number where it has more, and the value
  abbrev pub sized_pair : List K × V → ℕ × V
  sized_pair b = (min (length b.0) (2 ^ 64 - 1), b.1)

  -- the pair at the end of t is that of c, with the prefix of t before its key; and c has fewer nodes
  pub record IsTowards (end : End) (t c : Tree K V) : Type 0 where
    pub pair : end_of end (walk t) ≡ option_map (prepended t.prefix) (end_of end (walk c))
    pub fewer : nodes c < nodes t
