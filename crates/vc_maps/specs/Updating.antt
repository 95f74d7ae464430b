-- One key of a map: its value written to where it is bound, and inserted where it is not.
use Rattle.std.specs.Prelude.{◌≡◌, List, cond, Option, Some, None, Result, IsSome, IsSomeAnd}
use Rattle.std.specs.BTreeMap.Lent.{OrdMembers}
use Rattle.std.specs.Borrow.{LendsSo, LendsSoOk, Fml, RattleType, MutBor}
use Rattle.std.specs.Map.{keys_of}
use Rattle.std.specs.Option.{option_map, unwrap_or}
use Rattle.std.specs.Ordering.{eq_by_cmp, is_eq}
use Rattle.std.specs.declared.alloc.Allocator as alloc
use Rattle.std.specs.declared.cmp.Ordering.{Ordering}
use Rattle.vc_joins.specs.Entries.{entry_at, value_at}
use Rattle.vc_maps.specs.Borrowed.{value_by}
use Rattle.vc_maps.specs.contracts.vec_map.VecMap.{the_row}

-- what was written to the value, or the default where there was none
abbrev pub UpsertsValue : {V : Type 0} → (V → V → Type 0) → V → Option V → Option V → Type 0
UpsertsValue writes default (Some v) found = IsSomeAnd found (writes v)
UpsertsValue writes default None found = found ≡ Some default

-- the same under the key of old, or the new pair where there was none
abbrev pub UpsertsEntry : {K V : Type 0} → (V → V → Type 0) → K × V → Option (K × V) → Option (K × V) → Type 0
UpsertsEntry writes p (Some old) found = IsSomeAnd found (λ new. (new.0 ≡ old.0) × writes old.1 new.1)
UpsertsEntry writes p None found = found ≡ Some p

-- new is old with w instead of the value whose key is equal to a borrowed form, where there is one
pub record IsWrittenBy {K V : Type 0} (cmp : K → K → Ordering) (side : K → Ordering) (old : List (K × V)) (w : V) (new : List (K × V)) : Type 0 where
  pub keys : keys_of new ≡ keys_of old
  pub values : IsSome (value_by side old) → (k : K) → value_at cmp new k ≡ cond (is_eq (side k)) (Some w) (value_at cmp old k)

-- new is old with the key bound to w, under the key of old where it has one
pub record IsBound {K V : Type 0} (cmp : K → K → Ordering) (old : List (K × V)) (key : K) (w : V) (new : List (K × V)) : Type 0 where
  pub values : (k : K) → value_at cmp new k ≡ cond (eq_by_cmp cmp k key) (Some w) (value_at cmp old k)
  pub entries : (k : K) → entry_at cmp new k
      ≡ cond (eq_by_cmp cmp k key) (Some (unwrap_or (option_map (λ p. p.0) (entry_at cmp old key)) key, w)) (entry_at cmp old k)

module _ (K V N A : RattleType) (order : OrdMembers K.Denot) (heap : alloc.Ghosts A.Denot) (m : MutBor (List (K.Denot × V.Denot))) where
  -- the type of the map, as the logic holds it
  abbrev row_of_map : RattleType
  row_of_map = the_row K V N A (record { cmp = order.cmp }) (record { eq = order.eq }) (record { partial_cmp = order.partial_cmp }) heap

  -- once the borrow r ends, the last value written through r is at the key that is equal to a form,
  -- and at `None` the map is unchanged
  abbrev pub lends_value_by : (K.Denot → Ordering) → Option (MutBor V.Denot) → Fml
  lends_value_by side r = LendsSo row_of_map V m r (λ new w. IsWrittenBy order.cmp side m.now w new) (λ new. new ≡ m.now)

  -- once the borrow r ends, the key is bound to the last value written through r, and at `Err` the
  -- map is unchanged
  abbrev pub lends_bound : {E : Type 0} → K.Denot → Result (MutBor V.Denot) E → Fml
  lends_bound key r = LendsSoOk row_of_map V m r (λ new w. IsBound order.cmp m.now key w new) (λ new. new ≡ m.now)
