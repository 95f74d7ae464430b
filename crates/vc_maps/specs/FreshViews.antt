-- What a contract sees of a `FreshState`.
use Rattle.std.specs.Prelude.{List, drop}
use Rattle.std.specs.Borrow.{MutBor}
use base.Fml.{GName}
use Rattle.vc_maps.specs.declared.fresh.FreshState.{FreshState}

module _ {K V W S : Type 0} where
  -- the list that is appended to, as it was borrowed
  abbrev pub lent_list : FreshState K V W S → MutBor S
  lent_list s = s.built

  -- the pairs that are left of the left map
  abbrev pub left_pairs : FreshState K V W S → List (K × V)
  left_pairs s = drop s.left s.a.now

  -- the pairs that are left of the right map
  abbrev pub right_pairs : FreshState K V W S → List (K × W)
  right_pairs s = drop s.right s.b.now

  -- which list is appended to
  abbrev pub list_name : FreshState K V W S → GName
  list_name s = s.built.ghost_name
