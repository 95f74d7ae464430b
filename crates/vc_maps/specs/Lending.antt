-- What a map is in the end, where a `&mut` to one of its values is returned.
use Rattle.std.specs.Prelude.{◌≡◌, List, cond, Option, Some, IsSome}
use Rattle.std.specs.BTreeMap.{is_at}
use Rattle.std.specs.BTreeMap.Lent.{OrdMembers}
use Rattle.std.specs.Borrow.{LendsSo, Fml, RattleType, MutBor}
use Rattle.std.specs.Map.{keys_of, set_value}
use Rattle.std.specs.Ordering.{eq_by_cmp}
use Rattle.std.specs.declared.alloc.Allocator as alloc
use Rattle.std.specs.declared.cmp.Ordering.{Ordering}
use Rattle.vc_joins.specs.Entries.{value_at}
use Rattle.vc_maps.specs.contracts.vec_map.VecMap.{the_row}

-- new is old with w instead of the value at the key, where there is one
pub record IsWritten {K V : Type 0} (cmp : K → K → Ordering) (old : List (K × V)) (key : K) (w : V) (new : List (K × V)) : Type 0 where
  pub pairs : new ≡ set_value (is_at (cmp key)) old w
  pub keys : keys_of new ≡ keys_of old
  pub values : IsSome (value_at cmp old key) → (k : K) → value_at cmp new k ≡ cond (eq_by_cmp cmp k key) (Some w) (value_at cmp old k)

module _ (K V N A : RattleType) (order : OrdMembers K.Denot) (heap : alloc.Ghosts A.Denot) (m : MutBor (List (K.Denot × V.Denot))) (key : K.Denot) where
  -- the type of the map, as the logic holds it
  abbrev map_row : RattleType
  map_row = the_row K V N A (record { cmp = order.cmp }) (record { eq = order.eq }) (record { partial_cmp = order.partial_cmp }) heap

  -- once the borrow r ends, the last value written through r is at the key, and at `None` the map
  -- is unchanged
  abbrev pub lends_value : Option (MutBor V.Denot) → Fml
  lends_value r = LendsSo map_row V m r (λ new w. IsWritten order.cmp m.now key w new) (λ new. new ≡ m.now)
