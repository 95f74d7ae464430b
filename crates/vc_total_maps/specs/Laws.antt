-- The laws of the definitions of this crate, as the functions of `laws` carry them.
use Rattle.std.specs.Prelude.{◌≡◌, Bool, IsTrue}
use Rattle.std.specs.declared.cmp.Ordering.{Ordering}
use Rattle.vc_joins.specs.Entries.{value_at}
use Rattle.vc_total_maps.specs.CombinedTotals.{IsCombined, Stands}
use Rattle.vc_total_maps.specs.MappedTotals.{IsMapped}
use Rattle.vc_total_maps.specs.TotalMap.{TotalMap, at, NoneIsDefault}

module _ (K X : Type 0) (cmp : K → K → Ordering) (eq : X → X → Bool) where
  -- the value at a key equals what is there, and is that itself where no key is mapped to the
  -- default
  pub record StandingIsAt : Type 0 where
    pub equal : (m : TotalMap K X) (k : K) (v : X) → Stands eq m.default v (value_at cmp m.mappings k) → IsTrue (eq (at cmp m k) v)
    pub stands : (m : TotalMap K X) → NoneIsDefault cmp eq m → (k : K) → Stands eq m.default (at cmp m k) (value_at cmp m.mappings k)

module _ {K V X : Type 0} (cmp : K → K → Ordering) (eq : X → X → Bool) (is_clone : K → K → Type 0) where
  -- where each answer is that of the function f, a combination has at every key the result of f on
  -- the two values there
  abbrev pub CombinedIsPointwise : {W : Type 0} → (V → W → X → Type 0) → Type 0
  CombinedIsPointwise {W} May =
      (f : V → W → X) → ((x : V) (y : W) (v : X) → May x y v → v ≡ f x y)
      → (a : TotalMap K V) (b : TotalMap K W) (c : TotalMap K X) → IsCombined cmp eq May is_clone a b c
      → (k : K) → IsTrue (eq (at cmp c k) (f (at cmp a k) (at cmp b k)))

  -- and a changed map the result of f on the value there
  abbrev pub MappedIsPointwise : (V → X → Type 0) → Type 0
  MappedIsPointwise May =
      (f : V → X) → ((x : V) (v : X) → May x v → v ≡ f x)
      → (m : TotalMap K V) (c : TotalMap K X) → IsMapped cmp eq May is_clone m c
      → (k : K) → IsTrue (eq (at cmp c k) (f (at cmp m k)))
