-- The result of a combination of two total maps, at every key.
use Rattle.std.specs.Prelude.{◌≡◌, Bool, List, Option, Some, None, IsSome, IfSome, IsTrue, IsFalse, ◌⊎◌}
use Rattle.std.specs.declared.cmp.Ordering.{Ordering}
use Rattle.vc_joins.specs.Entries.{entry_at, value_at}
use Rattle.vc_total_maps.specs.TotalMap.{TotalMap, at}

-- ---- at which values something holds

module _ {K V W : Type 0} (cmp : K → K → Ordering) where
  -- one of the maps lists the key
  abbrev pub IsListed : List (K × V) → List (K × W) → K → Type 0
  IsListed xs ys k = IsSome (value_at cmp xs k) ⊎ IsSome (value_at cmp ys k)

  -- P holds of the two defaults, and of the two values at each key that one of the maps lists
  pub record HoldsEverywhere (P : V → W → Type 0) (a : TotalMap K V) (b : TotalMap K W) : Type 0 where
    pub defaults : P a.default b.default
    pub listed : (k : K) → IsListed a.mappings b.mappings k → P (at cmp a k) (at cmp b k)

-- ---- what is made

-- the value v is at a key of a map with this default: it is listed there or, where it equals the
-- default, nothing is
abbrev pub Stands : {X : Type 0} → (X → X → Bool) → X → X → Option X → Type 0
Stands eq default v (Some x) = (x ≡ v) × IsFalse (eq v default)
Stands eq default v None = IsTrue (eq v default)

-- a key of the result is a clone of the one of the left map, where that lists it, and otherwise of
-- the one of the right map
abbrev pub ClonesFirst : {K V W : Type 0} → (K → K → Type 0) → Option (K × V) → Option (K × W) → K → Type 0
ClonesFirst is_clone (Some p) right k = is_clone p.0 k
ClonesFirst is_clone None (Some q) k = is_clone q.0 k
ClonesFirst is_clone None None k = ⊥

-- c is made of a and b by answers that `May` allows: one on the two defaults, and one on the two
-- values at each key
pub record IsCombined {K V W X : Type 0} (cmp : K → K → Ordering) (eq : X → X → Bool) (May : V → W → X → Type 0)
    (is_clone : K → K → Type 0) (a : TotalMap K V) (b : TotalMap K W) (c : TotalMap K X) : Type 0 where
  pub default : May a.default b.default c.default
  pub values : (k : K) → (v : X) × May (at cmp a k) (at cmp b k) v × Stands eq c.default v (value_at cmp c.mappings k)
  pub keys : (k : K) → IfSome (entry_at cmp c.mappings k) (λ p. ClonesFirst is_clone (entry_at cmp a.mappings k) (entry_at cmp b.mappings k) p.0)

-- c has at every key the result of h on the two values there
abbrev pub CombinesValues : {K V W X : Type 0} → (K → K → Ordering) → (V → W → X) → TotalMap K V → TotalMap K W → TotalMap K X → Type 0
CombinesValues {K} cmp h a b c = (k : K) → at cmp c k ≡ h (at cmp a k) (at cmp b k)

-- ---- operators, which are used on clones

module _ {V : Type 0} (is_clone : V → V → Type 0) where
  -- an operator may be used on each clone of x and each clone of y
  abbrev pub CanOnClones : (V → V → Type 0) → V → V → Type 0
  CanOnClones can x y = (p q : V) → is_clone x p → is_clone y q → can p q

  -- v is what an operator gives of a clone of x and a clone of y
  abbrev pub GivesOnClones : (V → V → V → Type 0) → V → V → V → Type 0
  GivesOnClones gives x y v = (p : V) × (q : V) × is_clone x p × is_clone y q × gives p q v
