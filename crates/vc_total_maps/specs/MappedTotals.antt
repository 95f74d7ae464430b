-- The result of a change of each value of a total map, at every key.
use Rattle.std.specs.Prelude.{Bool, IfSome, IsSomeAnd}
use Rattle.std.specs.declared.cmp.Ordering.{Ordering}
use Rattle.vc_joins.specs.Entries.{entry_at, value_at}
use Rattle.vc_total_maps.specs.CombinedTotals.{Stands}
use Rattle.vc_total_maps.specs.TotalMap.{TotalMap, at}

-- P holds of the default, and of each value that is listed
pub record HoldsOfEach {K V : Type 0} (cmp : K → K → Ordering) (P : V → Type 0) (m : TotalMap K V) : Type 0 where
  pub default : P m.default
  pub listed : (k : K) → IfSome (value_at cmp m.mappings k) P

-- c is made of m by answers that `May` allows: one on the default, and one on the value at each
-- key. A listed key is a clone of the one that m lists there
pub record IsMapped {K V X : Type 0} (cmp : K → K → Ordering) (eq : X → X → Bool) (May : V → X → Type 0) (is_clone : K → K → Type 0) (m : TotalMap K V) (c : TotalMap K X) : Type 0 where
  pub default : May m.default c.default
  pub values : (k : K) → (v : X) × May (at cmp m k) v × Stands eq c.default v (value_at cmp c.mappings k)
  pub keys : (k : K) → IfSome (entry_at cmp c.mappings k) (λ p. IsSomeAnd (entry_at cmp m.mappings k) (λ q. is_clone q.0 p.0))

-- ---- an operator on one value, which is used on a clone

module _ {V : Type 0} (is_clone : V → V → Type 0) where
  -- an operator may be used on each clone of x
  abbrev pub CanOnClone : (V → Type 0) → V → Type 0
  CanOnClone can x = (p : V) → is_clone x p → can p

  -- v is what an operator gives of a clone of x
  abbrev pub GivesOnClone : (V → V → Type 0) → V → V → Type 0
  GivesOnClone gives x v = (p : V) × is_clone x p × gives p v
