-- Finite maps, as lists of pairs that ascend by key. A key is found by `cmp`, in which `Equal` means `==`.
use Rattle.std.specs.Prelude.{List, Option}
use Rattle.std.specs.BTreeMap.{is_at}
use Rattle.std.specs.Map.{keys_of, lookup, lookup_entry}
use Rattle.std.specs.declared.cmp.Ordering.{Ordering}
use Rattle.vc_merge.specs.Ascending.{Ascends}

module _ {K V : Type 0} (cmp : K → K → Ordering) where
  -- each key is less than each later one
  abbrev pub AscendsByKey : List (K × V) → Type 0
  AscendsByKey es = Ascends cmp (keys_of es)

  -- the first pair whose key is equal to k: in a list that ascends by key, the only one
  abbrev pub entry_at : List (K × V) → K → Option (K × V)
  entry_at es k = lookup_entry (is_at (cmp k)) es

  -- the value of that pair
  abbrev pub value_at : List (K × V) → K → Option V
  value_at es k = lookup (is_at (cmp k)) es
