-- What comes in for the trees that are left, comes in for all.
use Rattle.std.proofs.Common.{◌<◌, List, length}
use Rattle.std.specs.List.{AllByRecursion}
use Rattle.vc_tree_edits.specs.declared.comers.Comer.{Comer}
use Rattle.vc_tree_edits.specs.Woven.{ComesAs, AreAdded, comer}
use Rattle.vc_tree_edits.proofs.comers.note.Given as goal

abbrev pub invariant-loop-tree : goal.invariant-loop-tree
invariant-loop-tree g l =
    let comes =
    ComesAs g.K.Ord.cmp (g.O.Change.look g.K.Ord.cmp) (g.O.Change.says l.op) g.T.RadixNode.tree g.B.RadixNode.tree l.from in
    record {
      within : AllByRecursion (λ y. l.from < length (g.B.RadixNode.tree y).prefix) l.rest;
      ends : (new : List (Comer g.row.T.Denot)) → AreAdded comes (comer l.place) l.rest l.comers.items new
          → AreAdded comes (comer l.place) l.trees l.fn.comers.items new;
    }

abbrev pub decreases-loop-tree : goal.decreases-loop-tree
decreases-loop-tree g l = length l.rest
