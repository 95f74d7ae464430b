-- Look-ups of keys by a borrowed form, where `side` says how a key compares with it: `Less` before
-- it, `Equal` at it, `Greater` after it.
use Rattle.std.specs.Prelude.{List, Option}
use Rattle.std.specs.Map.{lookup}
use Rattle.std.specs.Ordering.{is_eq}
use Rattle.std.specs.declared.cmp.Ordering.{Ordering}

-- the value at the first key that is equal to the form: in a list that ascends by key, the only one
abbrev pub value_by : {K V : Type 0} → (K → Ordering) → List (K × V) → Option V
value_by side es = lookup (λ k. is_eq (side k)) es
