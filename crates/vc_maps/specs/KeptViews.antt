-- What a contract sees of a `KeptState`.
use Rattle.std.specs.Prelude.{ℕ, List}
use Rattle.std.specs.Bool.{MatchBool}
use Rattle.std.specs.Borrow.{MutBor}
use base.Fml.{GName}
use Rattle.vc_merge.specs.PartsViews as parts
use Rattle.vc_maps.specs.Keeping.{has_keys, HaveKeys}
use Rattle.vc_maps.specs.declared.in_place.KeptState.{KeptState}

module _ {K V W A : Type 0} {n : ℕ} where
  -- what was built
  abbrev pub built_pairs : KeptState K V W A n → List (K × V)
  built_pairs s = parts.built_at s.spans s.list.now

  -- the pairs that are left of the left map
  abbrev pub left_pairs : KeptState K V W A n → List (K × V)
  left_pairs s = parts.left_at s.spans s.list.now

  -- the pairs that are left of the right map
  abbrev pub right_pairs : KeptState K V W A n → List (K × W)
  right_pairs s = s.right.now

  -- the pairs that have clones of the keys of the right
  abbrev pub key_pairs : KeptState K V W A n → List (K × V)
  key_pairs s = parts.right_at s.spans s.list.now

  -- the list that it builds in, as it was borrowed
  abbrev pub lent_list : KeptState K V W A n → MutBor (List (K × V))
  lent_list s = s.list

  -- which list that is
  abbrev pub list_name : KeptState K V W A n → GName
  list_name s = s.list.ghost_name

-- if keys of the right may be inserted, there is a clone of each that is left, in a pair of the
-- right part
abbrev pub HasKeys : {K V W A : Type 0} {n : ℕ} (keys : ℕ) → (K → K → Type 0) → KeptState K V W A n → Type 0
HasKeys keys is_clone s = MatchBool (has_keys keys) (HaveKeys is_clone (right_pairs s) (key_pairs s)) (Unit {0})
