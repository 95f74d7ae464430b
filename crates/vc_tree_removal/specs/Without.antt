-- A map without some of its keys.
use Rattle.std.specs.Prelude.{◌≡◌, Bool, List, Option, None, IsSome, IsTrue, IsFalse}
use Rattle.std.specs.Option.{is_some}
use Rattle.std.specs.declared.cmp.Ordering.{Ordering}
use Rattle.vc_tree_model.specs.Key.{same_key, behind}
use Rattle.vc_tree_model.specs.Value.{IsKept}

-- g binds no key that the test holds of, and keeps what f binds at every other key
pub record IsWithoutAll {K V : Type 0} (keeps : V → V → Type 0) (test : List K → Bool) (f g : List K → Option V) : Type 0 where
  pub at : (k : List K) → IsTrue (test k) → g k ≡ None
  pub others : (k : List K) → IsFalse (test k) → IsKept keeps (f k) (g k)

module _ {K V : Type 0} (cmp : K → K → Ordering) (keeps : V → V → Type 0) where
  -- g binds no key that equals the key, and keeps what f binds at every other key
  abbrev pub IsWithout : List K → (List K → Option V) → (List K → Option V) → Type 0
  IsWithout key f g = IsWithoutAll keeps (same_key cmp key) f g

  -- g binds no key that begins with the prefix, and keeps what f binds at every other key
  abbrev pub IsWithoutBelow : List K → (List K → Option V) → (List K → Option V) → Type 0
  IsWithoutBelow prefix f g = IsWithoutAll keeps (λ k. is_some (behind cmp prefix k)) f g

-- each key that f binds begins with the prefix
abbrev pub AllBegin : {K V : Type 0} → (K → K → Ordering) → List K → (List K → Option V) → Type 0
AllBegin {K} cmp prefix f = (k : List K) → IsSome (f k) → IsSome (behind cmp prefix k)
