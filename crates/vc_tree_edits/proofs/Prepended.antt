-- A tree with components before its prefix.
--     prepended-is        it binds each key with these components before it
use Rattle.std.proofs.Common.{◌≡◌, ◌++◌, List, Option, arith}
use Rattle.std.specs.declared.cmp.Ordering.{Ordering}
use Rattle.vc_tree_model.specs.Map.{lookup}
use Rattle.vc_tree_model.specs.Tree.{Tree, Forest, node}
use Rattle.vc_tree_model.specs.Under.{prefixed}
use Rattle.vc_tree_model.proofs.UnderLemmas.{lookup-prepended}

-- it binds each key with these components before it
pub prepended-is : {K V : Type 0} (cmp : K → K → Ordering) (p : List K) (t : Tree K V) {whole q : List K} {v : Option V}
    {f : Forest K V} {u : Tree K V}
    → u ≡ node q v f → q ≡ p ++ whole → whole ≡ t.prefix → v ≡ t.value → f ≡ t.children → (k : List K)
    → lookup cmp u k ≡ prefixed cmp (lookup cmp t) p k
prepended-is cmp p t e a b c d k = grind (arith, lookup-prepended)
