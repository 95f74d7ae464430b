-- When two values match of which neither is known to be the older one.
use Rattle.std.specs.Prelude.{◌⊎◌}
use Rattle.vc_tree_model.specs.Value.{Copies}

module _ {V : Type 0} (is_clone : V → V → Type 0) where
  -- one is the other, or a clone of it over any number of clones
  abbrev pub AreCopies : V → V → Type 0
  AreCopies v w = Copies is_clone v w ⊎ Copies is_clone w v

  -- both are copies of one value
  abbrev pub HaveOneSource : V → V → Type 0
  HaveOneSource v w = (u : V) × Copies is_clone u v × Copies is_clone u w
