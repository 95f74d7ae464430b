-- Maps by a prefix of their keys.
use Rattle.std.specs.Prelude.{List, Option}
use Rattle.std.specs.Option.{option_and, option_and_then}
use Rattle.std.specs.declared.cmp.Ordering.{Ordering}
use Rattle.vc_tree_model.specs.Key.{behind}

module _ {K V : Type 0} (cmp : K → K → Ordering) where
  -- what f binds at a key, if something is left of the key after p
  abbrev pub under : (List K → Option V) → List K → List K → Option V
  under f p k = option_and (behind cmp p k) (f k)

  -- what f binds at what is left of a key after p, if something is left
  abbrev pub prefixed : (List K → Option V) → List K → List K → Option V
  prefixed f p k = option_and_then f (behind cmp p k)
