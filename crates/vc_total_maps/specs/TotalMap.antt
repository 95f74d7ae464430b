-- What a contract sees of a `TotalVecMap`: pairs in ascending order of their keys, and the value
-- that is at each other key.
use Rattle.std.specs.Prelude.{Bool, cond, List, Option, Some, None, IfSome, IsFalse, refl}
use Rattle.std.specs.Coded.{Coded, code_by, coded×, coded_list}
use Rattle.std.specs.List.{AllZip}
use Rattle.std.specs.Option.{unwrap_or}
use Rattle.std.specs.declared.cmp.Ordering.{Ordering}
use Rattle.vc_joins.specs.Entries.{value_at}

-- the pairs, and the value at each key that they lack
pub record TotalMap (K V : Type 0) : Type 0 where
  pub mappings : List (K × V)
  pub default : V

module _ {K V : Type 0} where
  -- the total map of a list of pairs and a default
  abbrev pub total_map : List (K × V) → V → TotalMap K V
  total_map mappings default = record { mappings = mappings; default = default }

  -- how a total map is stored in the logic: as its two parts
  abbrev pub total_map_code : Coded K → Coded V → Coded (TotalMap K V)
  total_map_code k v = code_by (List (K × V) × V) (coded× (coded_list (coded× k v)) v) (λ m. (m.mappings, m.default)) (λ p. total_map p.0 p.1) (λ _. refl)

  -- the value at a key: the one that is mapped, and otherwise the default
  abbrev pub at : (K → K → Ordering) → TotalMap K V → K → V
  at cmp m k = unwrap_or (value_at cmp m.mappings k) m.default

  -- the value that is where v is put: v, or the default itself where v equals it
  abbrev pub put_value : (V → V → Bool) → TotalMap K V → V → V
  put_value eq m v = cond (eq v m.default) m.default v

  -- the pair that is listed where p is put: none, where its value equals the default
  abbrev pub put_entry : (V → V → Bool) → TotalMap K V → K × V → Option (K × V)
  put_entry eq m p = cond (eq p.1 m.default) None (Some p)

  -- no key is mapped to a value that equals the default
  abbrev pub NoneIsDefault : (K → K → Ordering) → (V → V → Bool) → TotalMap K V → Type 0
  NoneIsDefault cmp eq m = (k : K) → IfSome (value_at cmp m.mappings k) (λ v. IsFalse (eq v m.default))

  -- the second has clones of the pairs of the first, and of its default
  pub record IsClonedMap (clones_key : K → K → Type 0) (clones_value : V → V → Type 0) (m c : TotalMap K V) : Type 0 where
    pub mappings : AllZip (λ p q. clones_key p.0 q.0 × clones_value p.1 q.1) m.mappings c.mappings
    pub default : clones_value m.default c.default
