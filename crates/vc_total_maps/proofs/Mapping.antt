-- A combination with a map that lists nothing is a change of each value.
use Rattle.std.proofs.Common.{Bool, [], Option, Some, None, Result, Ok, Err, IfOk, IfSome, IsSomeAnd, refl}
use Rattle.std.proofs.lemmas.Fn.{says_at}
use Rattle.std.specs.Fn.{FnReturnsAt}
use Rattle.std.specs.List.Sorted.{IsStrictlySortedBy}
use Rattle.std.specs.Option.{unwrap_or}
use Rattle.std.specs.declared.cmp.Ordering.{Ordering}
use denote.Ref.{Bor}
use denote.Param.Members.{Shared}
use Rattle.vc_merge.specs.Ascending.{Ascends}
use Rattle.vc_joins.specs.Entries.{entry_at, value_at}
use Rattle.vc_total_maps.specs.CombinedTotals.{HoldsEverywhere, IsCombined, ClonesFirst}
use Rattle.vc_total_maps.specs.MappedTotals.{HoldsOfEach, IsMapped}
use Rattle.vc_total_maps.specs.TotalMap.{NoneIsDefault, TotalMap, total_map}
use Rattle.vc_total_maps.proofs.Combining.{stands-apart}

pub none-ascends : {X : Type 0} (cmp : X → X → Ordering) → Ascends cmp []
unfolding IsStrictlySortedBy
none-ascends cmp = tt

-- what holds of the default and of what is listed holds of the value there
holds-there : {V : Type 0} (P : V → Type 0) (d : V) (o : Option V) → P d → IfSome o P → P (unwrap_or o d)
holds-there P d (Some v) p h = h
holds-there P d None p h = p

-- a key that comes in from the left map alone is a clone of the one there
comes-from-left : {K V X : Type 0} (is_clone : K → K → Type 0) (p : Option (K × V)) (z : Option (K × X))
    → IfSome z (λ r. ClonesFirst {W = V} is_clone p None r.0) → IfSome z (λ r. IsSomeAnd p (λ q. is_clone q.0 r.0))
comes-from-left is_clone p None h = tt
comes-from-left is_clone (Some q) (Some r) h = h
comes-from-left is_clone None (Some r) h = h

module _ {K V : Type 0} (cmp : K → K → Ordering) (m : TotalMap K V) (e : V) where
  pub each-everywhere : (P : V → V → Type 0) → HoldsOfEach cmp (λ v. P v e) m → HoldsEverywhere cmp P m (total_map [] e)
  each-everywhere P h = record {
    defaults = h.default;
    listed =
        λ k either. holds-there (λ v. P v e) m.default (value_at cmp m.mappings k) h.default (h.listed k);
  }

  -- what is made of a map and one that lists nothing is made of the map
  pub combined-maps : {X : Type 0} (eq : X → X → Bool) (May : V → V → X → Type 0) (is_clone : K → K → Type 0) (c : TotalMap K X)
      → IsCombined cmp eq May is_clone m (total_map [] e) c → IsMapped cmp eq (λ v. May v e) is_clone m c
  combined-maps eq May is_clone c h =
      record {
        default = h.default;
        values = h.values;
        keys =
            λ k. comes-from-left is_clone (entry_at cmp m.mappings k) (entry_at cmp c.mappings k) (h.keys k);
      }

-- a changed map lists no value that equals its default
pub mapped-canonical : {K V X : Type 0} (cmp : K → K → Ordering) (eq : X → X → Bool) (May : V → X → Type 0)
    (is_clone : K → K → Type 0) (m : TotalMap K V) (c : TotalMap K X)
    → IsMapped cmp eq May is_clone m c → NoneIsDefault cmp eq c
mapped-canonical cmp eq May is_clone m c made k = let v = made.values k in
    stands-apart eq c.default v.0 (value_at cmp c.mappings k) v.2

-- a closure that answered says so
pub if-says : {F T X E : Type 0} (g : Shared F (Bor T × Unit {0}) (Result X E)) (f : F) (y : Bor T) (r : Result X E)
    → g.post f (y, tt) r → IfOk r (λ v. FnReturnsAt g f y.now (Ok v))
if-says g f y (Ok v) says = says_at g says refl
if-says g f y (Err e) says = tt
