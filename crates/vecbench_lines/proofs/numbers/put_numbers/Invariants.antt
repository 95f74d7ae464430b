use Rattle.std.proofs.Common.{◌≡◌, ◌++◌, ◌∷◌, take}
use Rattle.std.specs.Prelude.{decimal}
use Rattle.std.specs.List.{flat_map}
use Rattle.std.specs.String.{string_bytes}
use Rattle.vecbench_lines.proofs.numbers.put_numbers.Given as goal

-- the numbers up to here are written, each behind a comma
abbrev pub invariant-loop-number : goal.invariant-loop-number
invariant-loop-number l =
    string_bytes l.text ≡ string_bytes l.initial.text ++ flat_map (λ n. 44 ∷ decimal n) (take l.number-index l.others)
