-- What a contract sees of a `ChoosingState`.
use Rattle.std.specs.Prelude.{ℕ, List, drop}
use Rattle.std.specs.Borrow.{MutBor}
use Rattle.smallvec.specs.SmallVec.{SmallVec}
use base.Fml.{GName}
use Rattle.vc_merge.specs.declared.choosing.ChoosingState.{ChoosingState}

module _ {X A : Type 0} {n : ℕ} where
  -- the list that is appended to, as it was borrowed
  abbrev pub lent_list : ChoosingState X n A → MutBor (SmallVec X)
  lent_list s = s.built

  -- what the list holds now
  abbrev pub built_items : ChoosingState X n A → List X
  built_items s = s.built.now.items

  -- the elements that are left of the left slice
  abbrev pub left_items : ChoosingState X n A → List X
  left_items s = drop s.left s.a.now

  -- the elements that are left of the right slice
  abbrev pub right_items : ChoosingState X n A → List X
  right_items s = drop s.right s.b.now

  -- which list is appended to
  abbrev pub list_name : ChoosingState X n A → GName
  list_name s = s.built.ghost_name
