-- A value that is put at one key: the two clauses of `set` together.
use Rattle.std.proofs.Common.{◌≡◌, Bool, Result, Ok, Err, OnOk, cond}
use Rattle.std.specs.Ordering.{eq_by_cmp}
use Rattle.std.specs.declared.cmp.Ordering.{Ordering}
use Rattle.vc_joins.specs.Entries.{entry_at}
use Rattle.vc_total_maps.specs.Putting.{IsPut}
use Rattle.vc_total_maps.specs.TotalMap.{TotalMap, at, put_entry, put_value}

module _ {K V T E : Type 0} (cmp : K → K → Ordering) (eq : V → V → Bool) (old new : TotalMap K V) (key : K) (value : V) where
  -- where a call succeeds that says what stands at each key, and which pair is listed there
  pub put-both : (r : Result T E)
      → OnOk r ((k : K) → at cmp new k ≡ cond (eq_by_cmp cmp k key) (put_value eq old value) (at cmp old k))
      → OnOk r ((k : K) → entry_at cmp new.mappings k
      ≡ cond (eq_by_cmp cmp k key) (put_entry eq old (key, value)) (entry_at cmp old.mappings k))
      → OnOk r (IsPut cmp eq old key value new)
  put-both (Ok x) values entries = record { values = values; entries = entries }
  put-both (Err e) values entries = values
