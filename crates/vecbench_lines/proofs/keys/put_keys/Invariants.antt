use Rattle.std.proofs.Common.{◌≡◌, ◌++◌}
use Rattle.std.specs.Map.{keys_of}
use Rattle.std.specs.String.{string_bytes}
use Rattle.vec_collections.specs.IterLeft.{pairs_left}
use Rattle.vec_collections.specs.Walk.{walk}
use Rattle.vecbench_lines.specs.KeyLists.{keys_text, others_text}
use Rattle.vecbench_lines.proofs.keys.put_keys.Given as goal

-- what is written, with the keys that are left behind it, is the whole text
abbrev pub invariant-loop-pair : goal.invariant-loop-pair
invariant-loop-pair l =
    (goal.iterator-loop-pair).can_next l.pair-iterator ×
    (goal.iterator-loop-pair).is_finite l.pair-iterator ×
    (string_bytes l.text ++ others_text (keys_of (pairs_left (λ t. t) l.pair-iterator))
    ≡ string_bytes l.fn.text ++ keys_text (keys_of (walk l.fn.tree)))
