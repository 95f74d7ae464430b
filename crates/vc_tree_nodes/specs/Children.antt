-- A node's children as they are stored: what contracts see of them, their list, and how they are
-- borrowed.
use Rattle.std.specs.Prelude.{◌≡◌, List, [], map, Result, Option, None, Some, Vec}
use Rattle.std.specs.Borrow.{LendsSoOk, Fml, RattleType, MutBor}
use Rattle.std.specs.declared.alloc.Allocator.{Ghosts}
use Rattle.std.specs.declared.alloc.Global.{Global}
use Rattle.std.specs.contracts.alloc.Global.{the_row as global_row}
use Rattle.std.specs.contracts.vec.Vec.{the_row as vec_row}
use Rattle.vc_tree_model.specs.Tree.{Tree, Forest, forest}

-- the forest that contracts see of a list, by what they see of each item
abbrev pub seen : {K V T : Type 0} → (T → Tree K V) → List T → Forest K V
seen tree ts = forest (map tree ts)

-- the list of children, which is empty where none are stored
abbrev pub listed : {C T : Type 0} → (C → List T) → Option C → List T
listed items None = []
listed items (Some c) = items c

-- once the borrow r ends, the children are those that r shows last; at `Err` they are what `kept` allows of the old ones
abbrev pub LendsChildren : (C T : RattleType) (heap : Ghosts Global) → (C.Denot → List T.Denot)
    → (List T.Denot → List T.Denot → Type 0) → MutBor C.Denot → {E : Type 0} → Result (MutBor (Vec T.Denot Global)) E → Fml
LendsChildren C T heap items kept c r =
    LendsSoOk C (vec_row T global_row heap) c r (λ n w. items n ≡ w.items) (λ n. kept (items c.now) (items n))
