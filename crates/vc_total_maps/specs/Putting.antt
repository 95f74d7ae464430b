-- A value that is set at one key of a total map.
use Rattle.std.specs.Prelude.{◌≡◌, Bool, cond}
use Rattle.std.specs.Ordering.{eq_by_cmp}
use Rattle.std.specs.declared.cmp.Ordering.{Ordering}
use Rattle.vc_joins.specs.Entries.{entry_at}
use Rattle.vc_total_maps.specs.TotalMap.{TotalMap, at, put_entry, put_value}

-- new is old with the value put at the key: what is at each key, and the pair that is listed
pub record IsPut {K V : Type 0} (cmp : K → K → Ordering) (eq : V → V → Bool) (old : TotalMap K V) (key : K) (value : V) (new : TotalMap K V) : Type 0 where
  pub values : (k : K) → at cmp new k ≡ cond (eq_by_cmp cmp k key) (put_value eq old value) (at cmp old k)
  pub entries : (k : K) → entry_at cmp new.mappings k ≡ cond (eq_by_cmp cmp k key) (put_entry eq old (key, value)) (entry_at cmp old.mappings k)
