-- What the way down a tree costs: at most one comparison and one search for each component of the key.
--     IsWithin most d count left known        what was counted and what may come stay within the most that may be counted
--     down-behind        one more prefix was compared with the key, which continues after it
--     behind-length, searched-within        how much of the key is left, and what a search of children costs
--     down-searched, down-missed        the children were searched: for the next node, or in vain
use Rattle.std.proofs.Common.{◌≡◌, ℕ, ◌+◌, ◌-◌, ◌*◌, ◌≤◌, ◌∷◌, List, Some}
use Rattle.std.proofs.Common.{length, map, min, ap, ◌∙◌, arith}
use Rattle.std.proofs.Math.Nat.{mul-le-mul_right, add-mul}
use Rattle.std.specs.declared.cmp.Ordering.{Ordering}
use Rattle.vc_merge.specs.Count.{digits}
use Rattle.vc_merge.proofs.Digits.{digits-monotone}
use Rattle.vc_tree_model.specs.Key.{behind}
use Rattle.vc_tree_model.specs.Tree.{Tree, forest, width}
use Rattle.vc_tree_nodes.proofs.Finding.{trees-length}

-- of a key `left` components are to come, each of which may cost one comparison and a search of d, where the search for the
-- first `known` was counted already: with the count so far that is within the most
abbrev pub IsWithin : ℕ → ℕ → ℕ → ℕ → ℕ → Type 0
IsWithin most d count left known = count + left * (1 + d) ≤ most + known * d

-- a key is as long as a prefix and what is left behind it
pub behind-length : {K : Type 0} (cmp : K → K → Ordering) (p k rest : List K) → behind cmp p k ≡ Some rest
    → length k ≡ length p + length rest
behind-length cmp (x ∷ p) (y ∷ k) rest e = grind (arith, behind-length cmp p k rest)
behind-length cmp p k rest e = grind arith

-- a search of the children of a node costs no more than one of as many as the tree has at a node
pub searched-within : {K V T : Type 0} (tree : T → Tree K V) (xs : List T) (node t : Tree K V)
    → forest (map tree xs) ≡ node.children → width node ≤ width t → digits (length xs) ≤ digits (width t)
searched-within tree xs node t e w = grind (arith, trees-length, digits-monotone)

-- the prefix was compared with the key behind the known components, and the key goes on behind it
pub down-behind : {K : Type 0} (cmp : K → K → Ordering) (most d old new known : ℕ) (p q k rest : List K) → p ≡ q
    → behind cmp p k ≡ Some rest → IsWithin most d old (length k) known → known ≤ length q
    → new ≤ old + (min (length p) (length k) - known) → new + length rest * (1 + d) ≤ most
down-behind cmp most d old new known p q k rest i b h s n =
    let long = behind-length cmp p k rest b in
    let parts : length k * d ≡ length p * d + length rest * d = ap (λ m. m * d) long ∙ add-mul (length p) (length rest) d in
    let fewer : known * d ≤ length q * d = mul-le-mul_right d s in
    grind (arith, long, i, parts, fewer, h, n)

-- the children were searched for the first component of what is left
pub down-searched : (most d old new rest : ℕ) → old + rest * (1 + d) ≤ most → new ≤ old + d → IsWithin most d new rest 1
down-searched most d old new rest h n = grind arith

-- and none begins with it
pub down-missed : (most d old new rest : ℕ) → old + rest * (1 + d) ≤ most → 1 ≤ rest → new ≤ old + d → new ≤ most
down-missed most d old new rest h s n = grind arith
