-- Lists whose members are read one by one.
use Rattle.std.proofs.Common.{◌≡◌, ◌∙◌, ap, refl, sym, ℕ, List, [], ◌∷◌, ◌++◌, Option, Some, None}
use Rattle.std.proofs.lemmas.List.{append_assoc}
use Rattle.std.specs.Option.{option_map, option_and_then}
use Rattle.vecbench_lines.specs.Parts.{all_in}

-- what was read stands before what the words that are left say, and together that is what all words say
abbrev pub AreRead : {X : Type 0} → (List ℕ → Option X) → List X → List (List ℕ) → List (List ℕ) → Type 0
AreRead says done left all = option_map (λ xs. done ++ xs) (all_in says left) ≡ all_in says all

-- what is read stands behind what was read
one-behind : {X : Type 0} (done : List X) (x : X) (o : Option (List X))
    → option_map (λ xs. (done ++ x ∷ []) ++ xs) o ≡ option_map (λ xs. done ++ xs) (option_map (λ xs. x ∷ xs) o)
one-behind done x None = refl
one-behind done x (Some xs) = ap Some (append_assoc done (x ∷ []) xs)

-- nothing stands before the first
none-before : {X : Type 0} (o : Option (List X)) → option_map (λ xs. [] ++ xs) o ≡ o
none-before None = refl
none-before (Some xs) = refl

-- where all words are left, nothing was read
pub AreRead-none : {X : Type 0} (says : List ℕ → Option X) (left all : List (List ℕ)) → left ≡ all → AreRead says [] left all
AreRead-none says left all is = none-before (all_in says left) ∙ ap (all_in says) is

-- one more is read
pub AreRead-next : {X : Type 0} (says : List ℕ → Option X) (done : List X) (word : List ℕ) (x : X) (left rest all : List (List ℕ))
    → left ≡ word ∷ rest → says word ≡ Some x → AreRead says done left all → AreRead says (done ++ x ∷ []) rest all
AreRead-next says done word x left rest all cut is read =
    one-behind done x (all_in says rest) ∙
    ap (λ o. option_map (λ xs. done ++ xs) (option_and_then (λ y. option_map (λ xs. y ∷ xs) (all_in says rest)) o)) (sym is) ∙
    ap (λ ws. option_map (λ xs. done ++ xs) (all_in says ws)) (sym cut) ∙ read
