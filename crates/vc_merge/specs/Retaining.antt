-- What a test leaves of a list.
use Rattle.std.specs.Prelude.{◌≡◌, Bool, cond, Option, Some, None}

-- where there was an element, the test was called with it, and it stays if the answer was true;
-- where there was none, there is none
abbrev pub IsRetained : {F X : Type 0} → (F → X → Bool → F → Type 0) → Option X → Option X → Type 0
IsRetained {F} calls (Some x) kept = (before : F) × (after : F) × (answer : Bool) × calls before x answer after × (kept ≡ cond answer (Some x) None)
IsRetained calls None kept = kept ≡ None

-- each call of the test f answers as `test` does, and leaves f unchanged
abbrev pub AnswersAs : {F X : Type 0} → (F → X → Bool → F → Type 0) → F → (X → Bool) → Type 0
AnswersAs {F} {X} calls f test = (x : X) (answer : Bool) (after : F) → calls f x answer after → (answer ≡ test x) × (after ≡ f)
