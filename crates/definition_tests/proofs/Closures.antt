-- References and closures for worked rows.
use Rattle.std.specs.Prelude.{◌≡◌}
use denote.Ref.{Bor, MutBor}
use denote.Param.Members.{Shared}

-- a reference to a value
abbrev pub ref : {X : Type 0} → X → Bor X
ref x = record { ref_ptr = (0, 0); now = x }

-- a `&mut` to a value
abbrev pub ref_mut : {X : Type 0} → X → MutBor X
ref_mut x = record { ref_ptr = (0, 0); ghost_name = 0; now = x }

-- a closure without a state, by what it takes and what it may answer
abbrev pub closure : {A R : Type 0} → (A → Type 0) → (A → R → Type 0) → Shared (Unit {0}) A R
closure takes answers = record { pre = λ f a. takes a; post = λ f a r. answers a r; steps = λ f a r g. answers a r × (g ≡ f) }
