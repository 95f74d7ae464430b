-- Values of a map that a closure turned into others.
use Rattle.std.specs.Prelude.{◌≡◌, List, [], ◌∷◌, Option, Some, None}

-- the closure, f at first and `last` in the end, was handed each of vs in turn, and xs are its answers
abbrev pub AnswersInTurn : {F V X : Type 0} → (F → V → X → F → Type 0) → F → List V → List X → F → Type 0
AnswersInTurn calls f [] [] last = f ≡ last
AnswersInTurn calls f [] (x ∷ xs) last = ⊥
AnswersInTurn calls f (v ∷ vs) [] last = ⊥
AnswersInTurn {F} calls f (v ∷ vs) (x ∷ xs) last = (g : F) × calls f v x g × AnswersInTurn calls g vs xs last

-- where a pair was, the closure was handed its value, and the answer is under the same key; where
-- there was none, there is none
abbrev pub MapsEntry : {F K V X : Type 0} → (F → V → X → F → Type 0) → Option (K × V) → Option (K × X) → Type 0
MapsEntry {F} {K} {V} {X} calls (Some p) found = (before : F) × (after : F) × (x : X) × calls before p.1 x after × (found ≡ Some (p.0, x))
MapsEntry calls None found = found ≡ None
