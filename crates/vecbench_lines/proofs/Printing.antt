-- Lists of numbers that are printed one by one.
use Rattle.std.proofs.Common.{arith, ◌≡◌, ◌∙◌, ap, sym, ℕ, ◌-◌, ◌≤◌, List, [], ◌∷◌, ◌++◌, length, take, drop, map, slice_index}
use Rattle.std.specs.Prelude.{decimal}
use Rattle.std.specs.List.{join_with_byte, flat_map}
use Rattle.std.proofs.lemmas.List.{append-nil, append_assoc}
use Rattle.std.proofs.Math.Seq.{take-length}
use Rattle.vecbench_lines.specs.Numbers.{list_text}
use Rattle.vecbench_lines.proofs.Cutting.{take-drop_rest}

-- the numbers, each behind a comma
abbrev pub with_commas : List ℕ → List ℕ
with_commas ns = flat_map (λ n. 44 ∷ decimal n) ns

-- parts that commas join are the first one, and each other one behind a comma
pub join-with_commas : (x : List ℕ) (ns : List ℕ) → join_with_byte 44 (x ∷ map decimal ns) ≡ x ++ with_commas ns
join-with_commas x [] = sym (append-nil x)
join-with_commas x (n ∷ ns) = ap (λ others. x ++ (44 ∷ others)) (join-with_commas (decimal n) ns)

-- the text of a list, once its first number and those behind it are written
pub list_text-written : (old begun done numbers : List ℕ) (i : ℕ) → 1 ≤ length numbers → begun
    ≡ old ++ decimal (slice_index numbers 0)
    → done ≡ begun ++ with_commas (take i (take (length numbers - 1) (drop 1 numbers))) → i
    ≤ length (take (length numbers - 1) (drop 1 numbers))
    → length (take (length numbers - 1) (drop 1 numbers)) ≤ i → done ≡ old ++ list_text numbers
list_text-written old begun done [] i some first written below above = absurd (omega (arith, some))
list_text-written old begun done (n ∷ ns) i some first written below above =
    let others : List ℕ = take (length (n ∷ ns) - 1) (drop 1 (n ∷ ns)) in
    let whole : i ≡ length others = omega (arith, below, above) in
    let all : take i others ≡ ns = ap (λ m. take m others) whole ∙ take-length others ∙ take-drop_rest 1 (n ∷ ns) in
    written ∙ ap (λ bs. bs ++ with_commas (take i others)) first ∙ ap (λ ms. (old ++ decimal n) ++ with_commas ms) all ∙
    append_assoc old (decimal n) (with_commas ns) ∙ ap (λ text. old ++ text) (sym (join-with_commas (decimal n) ns))
