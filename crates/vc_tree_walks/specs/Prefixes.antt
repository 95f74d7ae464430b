-- The keys of a map that are prefixes of a path.
use Rattle.std.specs.Prelude.{ℕ, ◌+◌, List, length, take, Option}
use Rattle.std.specs.List.{filter_map, range_with_len}
use Rattle.std.specs.Option.{option_map}

-- of each number of components of a path, from none up to all: if so many are a key of f, the number and the value of that key
abbrev pub bound_prefixes : {K V : Type 0} → (List K → Option V) → List K → List (ℕ × V)
bound_prefixes f path = filter_map (λ n. option_map (λ v. (n, v)) (f (take n path))) (range_with_len 0 (length path + 1))
