-- What comes in for the trees that are left, comes in for all.
use Rattle.std.proofs.Common.{◌<◌, List, length}
use Rattle.std.specs.List.{AllByRecursion}
use Rattle.vc_tree_edits.specs.Woven.{ComesAs, AreAdded}
use Rattle.vc_tree_edits.proofs.comers.come.Given as goal

abbrev pub invariant-loop-tree : goal.invariant-loop-tree
invariant-loop-tree g l =
    let comes =
    ComesAs g.K.Ord.cmp (g.O.Change.look g.K.Ord.cmp) (g.O.Change.says l.op) g.T.RadixNode.tree g.B.RadixNode.tree l.from in
    record {
      within : AllByRecursion (λ y. l.from < length (g.B.RadixNode.tree y).prefix) l.rest;
      ends : (new : List g.row.T.Denot) → AreAdded comes (λ t. t) l.rest l.kids.items new
          → AreAdded comes (λ t. t) l.trees l.fn.kids.items new;
    }

abbrev pub decreases-loop-tree : goal.decreases-loop-tree
decreases-loop-tree g l = length l.rest
